-- The pages of the address 3, and where a cursor stands in them.
use Rattle.std.proofs.Common.{◌≡◌, ◌≢◌, ◌≤◌, ◌<◌, ℕ, true, false, List, [], Option, Some, None, IfSome, refl, sym, ◌∙◌, ap, subst, inl, inr, arith, ◌+◌, Result, Ok, Err, IfOk}
use Rattle.std.specs.FinMap.{FinMap, get, insert}
use Rattle.std.proofs.lemmas.Bool.{cases_Bool, cases_eq}
use Rattle.pg_disk.proofs.FileOrder.{get_beside, get_inserted}
use Rattle.std.proofs.lemmas.Grind.{common_steps}
use Rattle.std.specs.Prelude.{◌==◌}
use Rattle.pg_disk.specs.declared.file_id.FileId.{FileId}
use Rattle.pg_disk.specs.Account.{Account, FileState, IsHonest, account}
use Rattle.pg_disk.specs.Calls.{Changes, Created, Reads}
use Rattle.pg_disk.specs.Files.{file_cmp}
use Rattle.pg_disk.specs.Image.{IsFileThere}
use Rattle.pg_disk.specs.Views.{as_read, bytes_of}
use Rattle.pg_page.specs.Pages.{Pages, page_file, pages_of}
use Rattle.pg_acks.specs.Acked.{AckSets}
use Rattle.pg_acks.specs.declared.position.Position.{Position}
use Rattle.pg_cursor.specs.Entries.{pages_from}
use Rattle.pg_pagetx.specs.Standings.{Transactions}
use Rattle.pg_page.specs.declared.place.Place.{Place}
use Rattle.pg_cursor.specs.declared.tail.Tail.{Tail}
use Rattle.pg_cursor.specs.declared.tail.Tail.TheVariants.{Begin, Behind}
use Rattle.pg_cursor.specs.Places.{ChangesAt, HasPlace, IsNoEarlier, IsPassed, page_of}
use Rattle.pg_cursor.specs.Tracking.{Cursor, GivesNext, Takes, Tracks}
use Rattle.pg_cursor.specs.Walking.{AreThere, TailStands}
use Rattle.pg_cursor.proofs.Moving.{changed_here, same_itself}
use Rattle.pg_cursor.proofs.Walked.{page_later}

is_seven : (n : ℕ) → (n == 7) ≡ true → n ≡ 7
is_seven n e = grind (arith, common_steps, e)

is_no_seven : (n : ℕ) → (n == 7) ≡ false → n ≡ 7 → ⊥
is_no_seven n e is = grind (arith, common_steps, e, is)

is_eight : (n : ℕ) → 7 ≤ n → n ≤ 8 → (n ≡ 7 → ⊥) → n ≡ 8
is_eight n from to not = omega (arith, from, to, not)

-- pages 7 and 8 are all from 7 to 8
pub both_there : (files : FinMap file_cmp FileState) → IsFileThere (page_file 3 7) files → IsFileThere (page_file 3 8) files → AreThere 3 7 8 files
both_there files seven eight page from to =
    elim (cases_Bool (page == 7)) [
      | inl is ↦ subst (λ (n : ℕ). IsFileThere (page_file 3 n) files) (sym (is_seven page is)) seven
      | inr not ↦ subst (λ (n : ℕ). IsFileThere (page_file 3 n) files) (sym (is_eight page from to (is_no_seven page not))) eight
    ]

-- pages 7 and 8 are two files
pub two_files : page_file 3 8 ≢ page_file 3 7
two_files e = absurd (apart 8 7 refl refl (ap (λ (f : FileId). f.number) e))
  where
    apart : (a b : ℕ) → a ≡ 8 → b ≡ 7 → a ≡ b → ⊥
    apart a b eight seven is = omega (arith, eight, seven, is)

pub two_files_back : page_file 3 7 ≢ page_file 3 8
two_files_back e = two_files (sym e)

-- what holds of a file holds after a change of another one
pub other_stays : (P : Option FileState → Type 0) (old new : Option Account) (file : FileId) → (IsHonest new → IsHonest old) → (IsHonest old → get (account new).files file ≡ get (account old).files file)
    → (IsHonest old → P (get (account old).files file)) → IsHonest new → P (get (account new).files file)
other_stays P old new file back same was h = subst P (sym (same (back h))) (was (back h))

-- a file that was created is there
pub created_there : (was now : Option FileState) → Created true was now → (s : FileState) × (now ≡ Some s)
created_there was now (inl is) = (_, is)
created_there was now (inr other) = absurd (other.0 refl)

-- a new cursor of the address 3 at page 7
module _ (u : Cursor) (queue : ℕ) (is : u ≡ record { queue = queue; address = 3; tail = Begin 7; front = []; taken = [] }) where
  pub start_there : (files : FinMap file_cmp FileState) → IsFileThere (page_file 3 7) files → IsFileThere (page_file 3 8) files → AreThere u.address (page_of u.tail) 8 files
  start_there files seven eight = subst (λ (v : Cursor). AreThere v.address (page_of v.tail) 8 files) (sym is) (both_there files seven eight)

  pub start_stands : (pages : Pages) → TailStands u.tail pages
  start_stands pages = subst (λ (v : Cursor). TailStands v.tail pages) (sym is) tt

-- a place that is given is taken
pub is_taken : (given : Option Place) (old new : List Place) → IfSome given (λ place. ChangesAt place.position (Some place.offset) old new) → IfSome given (HasPlace new)
is_taken None old new changes = tt
is_taken (Some place) old new changes = changed_here place.position place.position (Some place.offset) old new changes (same_itself place.position)

-- the pages are there after reads, and the cursor that moved on stands in them
module _ (old new : Option Account) (n : ℕ) (change : Changes old new (Reads n)) (address other : ℕ) (same : other ≡ address) where
  pub there_then : (last : ℕ) (a b c : Tail) → IsNoEarlier a b → c ≡ b → (IsHonest old → AreThere address (page_of a) last (account old).files) → IsHonest new → AreThere other (page_of c) last (account new).files
  there_then last a b c later is there h =
      subst (λ (x : ℕ). AreThere x (page_of c) last (account new).files) (sym same)
      (subst (λ (t : Tail). AreThere address (page_of t) last (account new).files) (sym is)
      (λ page from to.
      let was = there (change.back h) page (omega (arith, from, page_later a b later)) to in
      (was.0, ap (λ (m : FinMap file_cmp FileState). get m (page_file address page)) (change.step (change.back h)).files ∙ was.1)))

  pub stands_then : (b c : Tail) → c ≡ b → (IsHonest old → TailStands b (pages_of (as_read (account old).files) address)) → IsHonest new → TailStands c (pages_of (as_read (account new).files) other)
  stands_then b c is stands h =
      subst (λ (x : ℕ). TailStands c (pages_of (as_read (account new).files) x)) (sym same)
      (subst (λ (t : Tail). TailStands t (pages_of (as_read (account new).files) address)) (sym is)
      (subst (λ (m : FinMap file_cmp FileState). TailStands b (pages_of (as_read m) address)) (sym (change.step (change.back h)).files) (stands (change.back h))))

-- a page that is put is there, and so are those before it
page_is : (a b : ℕ) → a ≡ b → page_file 3 a ≡ page_file 3 b
page_is a b same = ap (page_file 3) same

other_page : (a b : ℕ) → (a ≡ b → ⊥) → page_file 3 a ≢ page_file 3 b
other_page a b apart e = apart (ap (λ (f : FileId). f.number) e)

pub put_there : (files : FinMap file_cmp FileState) (before last next : ℕ) (s : FileState) → next ≤ last + 1 → ((page : ℕ) → before < page → page ≤ last → IsFileThere (page_file 3 page) files)
    → (page : ℕ) → before < page → page ≤ next → IsFileThere (page_file 3 page) (insert files (page_file 3 next) s)
put_there files before last next s few there page from to = elim (cases_eq page next) [
  | inl same ↦ (s, ap (get (insert files (page_file 3 next) s)) (page_is page next same) ∙ get_inserted files (page_file 3 next) s)
  | inr apart ↦
      let was = there page from (omega (arith, to, few, apart)) in
      (was.0, get_beside files (page_file 3 next) (page_file 3 page) s (other_page page next apart) ∙ was.1)
]

-- a new cursor of the address 3 at a page from which on its pages are there
module _ (u : Cursor) (queue before first last : ℕ) (is : u ≡ record { queue = queue; address = 3; tail = Begin first; front = []; taken = [] }) where
  pub first_there : (files : FinMap file_cmp FileState) → before < first → ((page : ℕ) → before < page → page ≤ last → IsFileThere (page_file 3 page) files) → AreThere u.address (page_of u.tail) last files
  first_there files behind there = subst (λ (v : Cursor). AreThere v.address (page_of v.tail) last files) (sym is) (λ page from to. there page (omega (arith, behind, from)) to)

  pub first_stands : (pages : Pages) → TailStands u.tail pages
  first_stands pages = subst (λ (v : Cursor). TailStands v.tail pages) (sym is) tt

-- what was so of the pages at Ok is so of the ones from the new tail on
pub give_there : {E : Type 0} (last : ℕ) (old new : Option Account) (n : ℕ) (change : Changes old new (Reads n)) (cursor : Cursor) (result : Result (Cursor × Option Place) E) → IfOk result (λ done. Takes done.1 cursor done.0)
    → (IsHonest old → AreThere cursor.address (page_of cursor.tail) last (account old).files) → IfOk result (λ done. IsHonest new → AreThere done.0.address (page_of done.0.tail) last (account new).files)
give_there last old new n change cursor (Ok done) takes there = there_then old new n change cursor.address done.0.address takes.address last cursor.tail done.0.tail done.0.tail takes.tail refl there
give_there last old new n change cursor (Err e) takes there = tt

-- a cursor with the same address and the same tail
pub there_alike : (last : ℕ) (files : FinMap file_cmp FileState) (a b : Cursor) → b.address ≡ a.address → b.tail ≡ a.tail → AreThere a.address (page_of a.tail) last files → AreThere b.address (page_of b.tail) last files
there_alike last files a b address tail there =
    subst (λ (x : ℕ). AreThere x (page_of b.tail) last files) (sym address) (subst (λ (t : Tail). AreThere a.address (page_of t) last files) (sym tail) there)

-- a cursor that rests while another one reads
module _ (old new : Option Account) (n : ℕ) (change : Changes old new (Reads n)) (last : ℕ) (cursor : Cursor) where
  pub rests_there : (IsHonest old → AreThere cursor.address (page_of cursor.tail) last (account old).files) → IsHonest new → AreThere cursor.address (page_of cursor.tail) last (account new).files
  rests_there there = there_then old new n change cursor.address cursor.address refl last cursor.tail cursor.tail cursor.tail (inr (refl, omega arith)) refl there

  pub rests_stands : (IsHonest old → TailStands cursor.tail (pages_of (as_read (account old).files) cursor.address)) → IsHonest new → TailStands cursor.tail (pages_of (as_read (account new).files) cursor.address)
  rests_stands stands = stands_then old new n change cursor.address cursor.address refl cursor.tail cursor.tail refl stands

-- a tail that has passed a place behind page 1 is behind page 1
passed_page : (tail : Tail) (position : Position) → IsPassed tail position → 1 < position.page → 1 < page_of tail
passed_page tail position (inl on) behind = omega (arith, on, behind)
passed_page tail position (inr same) behind = omega (arith, same.0, behind)

-- what holds of the value if there is one holds of the one that is there
pub of_some : {A : Type 0} (P : A → Type 0) (found : Option A) (value : A) → found ≡ Some value → IfSome found P → P value
of_some P found value is holds = subst (λ o. IfSome o P) is holds

-- a new cursor that has given a place behind page 1 is behind page 1
module _ (u : Cursor) (queue : ℕ) (is : u ≡ record { queue = queue; address = 3; tail = Begin 1; front = []; taken = [] }) where
  pub given_behind : (acks : AckSets) (txs : Transactions) (last : ℕ) (pages : Pages) (given : Option Place) (place : Place) (new : Cursor) → GivesNext last acks txs given u new pages → Tracks u acks txs (pages_from 1 pages)
      → Takes given u new → given ≡ Some place → 1 < place.position.page → 1 < page_of new.tail
  given_behind acks txs last pages given place new gives tracks takes some behind =
      let begins = ap (λ (v : Cursor). page_of v.tail) is in
      let taken = of_some (HasPlace new.taken) given place some (is_taken given u.taken new.taken takes.taken) in
      passed_page new.tail place.position (((gives.follows 1 (omega (arith, begins))).tracks tracks).taken place taken).0 behind

-- a tail stands where its page has the same bytes
stands_alike : (tail : Tail) (old new : Pages) → new (page_of tail) ≡ old (page_of tail) → TailStands tail old → TailStands tail new
stands_alike (Begin page) old new same stands = tt
stands_alike (Behind place) old new same stands = record { bytes = stands.bytes; there = same ∙ stands.there; is = stands.is; fit = stands.fit }

-- what page 1 has is nothing to a cursor behind it
module _ (files : FinMap file_cmp FileState) (s : FileState) (tail : Tail) (address : ℕ) (behind : 1 < page_of tail) where
  beside_first : (page : ℕ) → page_of tail ≤ page → get (insert files (page_file 3 1) s) (page_file address page) ≡ get files (page_file address page)
  beside_first page from = get_beside files (page_file 3 1) (page_file address page) s (λ e. apart (ap (λ (f : FileId). f.number) e))
    where
      apart : page ≡ 1 → ⊥
      apart is = omega (arith, behind, from, is)

  pub put_first_there : (last : ℕ) → AreThere address (page_of tail) last files → AreThere address (page_of tail) last (insert files (page_file 3 1) s)
  put_first_there last there page from to = let was = there page from to in (was.0, beside_first page from ∙ was.1)

  pub put_first_stands : TailStands tail (pages_of (as_read files) address) → TailStands tail (pages_of (as_read (insert files (page_file 3 1) s)) address)
  put_first_stands stands = stands_alike tail (pages_of (as_read files) address) (pages_of (as_read (insert files (page_file 3 1) s)) address) (ap bytes_of (beside_first (page_of tail) (omega arith))) stands
