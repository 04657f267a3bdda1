-- For those that walk over a page: a place that was answered is still one after further reads.
use Rattle.std.proofs.Common.{◌≡◌, ℕ, List, [], ◌∷◌, ◌++◌, Option, None, Some, IfSome, sym, ◌∙◌, ap, subst}
use Rattle.std.specs.FinMap.{get}
use Rattle.pg_disk.specs.declared.file_id.FileId.{FileId}
use Rattle.pg_disk.specs.Account.{Account, account}
use Rattle.pg_disk.specs.Calls.{Changes, Reads}
use Rattle.pg_gate.specs.Spans.{AsRead}
use Rattle.pg_page.specs.declared.place.Place.{Place}
use Rattle.pg_page.specs.Pages.{page_file}
use Rattle.pg_page.specs.Places.{IsAt, IsNextPlace, IsPlace}

-- what the file reads as is what it read as before
pub as_read_after : (file : FileId) (old new : Option Account) (n : ℕ) (P : List ℕ → Type 0) → Changes old new (Reads n) → AsRead file old P → AsRead file new P
as_read_after file old new n P change is = λ h s there. is (change.back h) s (sym (ap (λ m. get m file) (change.step (change.back h)).files) ∙ there)

-- a place on this page
abbrev pub IsPlaceOn : ℕ → Place → List ℕ → Type 0
IsPlaceOn page place bytes = (place.position.page ≡ page) × IsPlace place bytes

-- the first place, after it was answered
pub first_stays : (address page : ℕ) (old new : Option Account) (n : ℕ) (next : Option Place) → Changes old new (Reads n) → AsRead (page_file address page) old (λ bytes. IsNextPlace bytes page [] next)
    → IfSome next (λ place. AsRead (page_file address page) new (IsPlaceOn page place))
first_stays address page old new n None change is = tt
first_stays address page old new n (Some place) change is =
    as_read_after (page_file address page) old new n (IsPlaceOn page place) change (λ h s there. let at = is h s there in (at.0, ([], at.1.0, at.1.1)))

-- the next place, where the page was read before it was asked for
pub next_stays : (address page : ℕ) (old mid new : Option Account) (n m : ℕ) (here : Place) (next : Option Place) → Changes old mid (Reads n) → Changes mid new (Reads m) → AsRead (page_file address page) old (IsPlaceOn page here)
    → AsRead (page_file address here.position.page) mid (λ bytes. (before : List (List ℕ)) (payload : List ℕ) → IsAt bytes here before payload → IsNextPlace bytes here.position.page (before ++ payload ∷ []) next)
    → IfSome next (λ place. AsRead (page_file address page) new (IsPlaceOn page place))
next_stays address page old mid new n m here None one two was is = tt
next_stays address page old mid new n m here (Some place) one two was is =
    as_read_after (page_file address page) mid new m (IsPlaceOn page place) two
    (λ h s there.
    let at = as_read_after (page_file address page) old mid n (IsPlaceOn page here) one was h s there in
    let next = is h s (subst (λ (k : ℕ). get (account mid).files (page_file address k) ≡ Some s) (sym at.0) there) at.1.0 at.1.1 at.1.2 in
    (next.0 ∙ at.0, (at.1.0 ++ at.1.1 ∷ [], next.1.0, next.1.1)))
