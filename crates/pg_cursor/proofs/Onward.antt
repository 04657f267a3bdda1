-- The next place on a page, and what stands there.
use Rattle.std.proofs.Common.{◌≡◌, ◌<◌, ◌^◌, ℕ, true, false, List, [], ◌∷◌, ◌++◌, length, Option, Some, None, Result, Ok, Err, IfOk, Bool, IsTrue, OnOk, ◌↔◌, sym, ◌∙◌, ap, subst, arith, length-append}
use Rattle.std.specs.FinMap.{FinMap, get}
use Rattle.std.proofs.lemmas.Option.{slice_get_within}
use Rattle.pg_acks.specs.Acked.{AckSets, is_acknowledged}
use Rattle.pg_disk.specs.Account.{Account, FileState, IsHonest, account}
use Rattle.pg_disk.specs.Image.{IsFileThere}
use Rattle.pg_disk.specs.Files.{file_cmp}
use Rattle.pg_disk.specs.Views.{as_read, bytes_of}
use Rattle.pg_gate.specs.Gated.{AllFit, Batches}
use Rattle.pg_gate.specs.Spans.{AsRead}
use Rattle.pg_gate.proofs.Unique.{none_fit}
use Rattle.pg_page.specs.declared.frame.Frame.{Frame}
use Rattle.pg_page.specs.declared.place.Place.{Place}
use Rattle.pg_page.specs.Frames.{SpellsFrame}
use Rattle.pg_page.specs.Pages.{Pages, page_file, pages_of}
use Rattle.pg_page.specs.Places.{IsAt, IsNextPlace}
use Rattle.pg_page.proofs.FrameLaws.{same_frame}
use Rattle.pg_page.proofs.PageLaws.{batch_at, passed_fit}
use Rattle.pg_pagetx.specs.Standings.{Transactions}
use Rattle.pg_cursor.specs.declared.tail.Tail.{Tail}
use Rattle.pg_cursor.specs.declared.tail.Tail.TheVariants.{Begin, Behind}
use Rattle.pg_cursor.specs.Entries.{FrameCounts, HasFrame, IsLive, StandsOn, names}
use Rattle.pg_cursor.specs.Places.{page_of}
use Rattle.pg_cursor.specs.Walking.{IsNext, TailStands}

some_bytes : (a b : List ℕ) → Some a ≡ Some b → a ≡ b
some_bytes a b e = cc

-- what a page that is there reads as
pub page_reads : (files : FinMap file_cmp FileState) (address page : ℕ) (s : FileState) → get files (page_file address page) ≡ Some s → pages_of (as_read files) address page ≡ Some s.bytes
page_reads files address page s there = ap bytes_of there

-- in a page of fewer than 2^64 bytes the lengths up to a place have their spelling
place_fit : (bytes : List ℕ) (place : Place) (before : List (List ℕ)) (payload : List ℕ) → length bytes < 2 ^ 64 → IsAt bytes place before payload → AllFit (before ++ payload ∷ [])
place_fit bytes place before payload short at = passed_fit bytes (before ++ payload ∷ []) short at.stands.passes

-- no place stands behind all batches of a page
none_behind : (pages : Pages) (bytes : List ℕ) (batches : List (List ℕ)) (place : Place) → pages place.position.page ≡ Some bytes → AllFit batches → Batches bytes batches → StandsOn pages place → place.position.index < length batches
none_behind pages bytes batches place there fits are stands =
    let one : stands.bytes ≡ bytes = some_bytes stands.bytes bytes (sym stands.there ∙ there) in
    let at : IsAt bytes place stands.is.0 stands.is.1 = subst (λ (l : List ℕ). IsAt l place stands.is.0 stands.is.1) one stands.is.2 in
    slice_get_within batches place.position.index stands.is.1 (batch_at bytes place stands.is.0 stands.is.1 batches stands.fit fits at are)

pub first_onward : (pages : Pages) (page : ℕ) (bytes : List ℕ) (next : Option Place) → pages page ≡ Some bytes → length bytes < 2 ^ 64 → IsNextPlace bytes page [] next → IsNext (Begin page) next pages
first_onward pages page bytes None there short is = λ place stands on. none_behind pages bytes [] place (ap pages on ∙ there) none_fit is stands
first_onward pages page bytes (Some place) there short is = (
  record { bytes = bytes; there = ap pages is.0 ∙ there; is = ([], is.1.0, is.1.1); fit = place_fit bytes place [] is.1.0 short is.1.1 },
  is.0,
  is.1.1.index,
)

pub later_onward : (pages : Pages) (after : Place) (bytes : List ℕ) (next : Option Place) → pages after.position.page ≡ Some bytes → length bytes < 2 ^ 64
    → ((before : List (List ℕ)) (payload : List ℕ) → IsAt bytes after before payload → IsNextPlace bytes after.position.page (before ++ payload ∷ []) next) → StandsOn pages after → IsNext (Behind after) next pages
later_onward pages after bytes next there short tells stands =
    let one : stands.bytes ≡ bytes = some_bytes stands.bytes bytes (sym stands.there ∙ there) in
    let at : IsAt bytes after stands.is.0 stands.is.1 = subst (λ (l : List ℕ). IsAt l after stands.is.0 stands.is.1) one stands.is.2 in
    go next stands.is.0 stands.is.1 stands.fit at (tells stands.is.0 stands.is.1 at)
  where
    go : (next : Option Place) (before : List (List ℕ)) (payload : List ℕ) → AllFit (before ++ payload ∷ []) → IsAt bytes after before payload → IsNextPlace bytes after.position.page (before ++ payload ∷ []) next → IsNext (Behind after) next pages
    go None before payload fit at is = λ place stands on.
        let within = none_behind pages bytes (before ++ payload ∷ []) place (ap pages on ∙ there) fit is stands in
        omega (arith, within, at.index, length-append before (payload ∷ []))
    go (Some place) before payload fit at is = (
      record { bytes = bytes; there = ap pages is.0 ∙ there; is = (before ++ payload ∷ [], is.1.0, is.1.1); fit = place_fit bytes place (before ++ payload ∷ []) is.1.0 short is.1.1 },
      is.0,
      omega (arith, is.1.1.index, at.index, length-append before (payload ∷ [])),
    )

-- the frame that was read at a place is what stands there
module _ (pages : Pages) (place : Place) (bytes : List ℕ) (frame : Frame) (there : pages place.position.page ≡ Some bytes) (reads : (before : List (List ℕ)) (payload : List ℕ) → IsAt bytes place before payload → SpellsFrame payload frame) where
  pub frame_there : StandsOn pages place → HasFrame pages place frame
  frame_there stands =
      let one : stands.bytes ≡ bytes = some_bytes stands.bytes bytes (sym stands.there ∙ there) in
      let at : IsAt bytes place stands.is.0 stands.is.1 = subst (λ (l : List ℕ). IsAt l place stands.is.0 stands.is.1) one stands.is.2 in
      record { bytes = bytes; there = there; before = stands.is.0; payload = stands.is.1; fit = stands.fit; at = at; spelled = reads stands.is.0 stands.is.1 at }

  pub frame_only : (other : Frame) → HasFrame pages place other → other ≡ frame
  frame_only other has =
      let one : has.bytes ≡ bytes = some_bytes has.bytes bytes (sym has.there ∙ there) in
      same_frame has.payload other frame has.spelled (reads has.before has.payload (subst (λ (l : List ℕ). IsAt l place has.before has.payload) one has.at))

-- the same of the calls that read
module _ (old : Option Account) (address : ℕ) where
  module _ (page : ℕ) (there : IsHonest old → IsFileThere (page_file address page) (account old).files) where
    pub first_answer : {E : Type 0} (result : Result (Option Place) E) → IfOk result (λ next. AsRead (page_file address page) old (λ bytes. IsNextPlace bytes page [] next)) → OnOk result (AsRead (page_file address page) old (λ bytes. length bytes < 2 ^ 64))
        → IfOk result (λ next. IsHonest old → IsNext (Begin page) next (pages_of (as_read (account old).files) address))
    first_answer (Ok next) tells short = λ h.
        let is = there h in
        first_onward (pages_of (as_read (account old).files) address) page is.0.bytes next (page_reads (account old).files address page is.0 is.1) (short h is.0 is.1) (tells h is.0 is.1)
    first_answer (Err e) tells short = tt

  pub later_answer : {E : Type 0} (tail : Tail) (after : Place) (result : Result (Option Place) E) → tail ≡ Behind after → (IsHonest old → IsFileThere (page_file address (page_of tail)) (account old).files) → (IsHonest old → TailStands tail (pages_of (as_read (account old).files) address))
      → IfOk result (λ next. AsRead (page_file address after.position.page) old (λ bytes. (before : List (List ℕ)) (payload : List ℕ) → IsAt bytes after before payload → IsNextPlace bytes after.position.page (before ++ payload ∷ []) next))
      → OnOk result (AsRead (page_file address after.position.page) old (λ bytes. length bytes < 2 ^ 64)) → IfOk result (λ next. IsHonest old → IsNext tail next (pages_of (as_read (account old).files) address))
  later_answer tail after (Ok next) same there stands tells short = λ h.
      let is : IsFileThere (page_file address after.position.page) (account old).files = subst (λ (t : Tail). IsFileThere (page_file address (page_of t)) (account old).files) same (there h) in
      subst (λ (t : Tail). IsNext t next (pages_of (as_read (account old).files) address)) (sym same)
      (later_onward (pages_of (as_read (account old).files) address) after is.0.bytes next (page_reads (account old).files address after.position.page is.0 is.1) (short h is.0 is.1) (tells h is.0 is.1)
      (subst (λ (t : Tail). TailStands t (pages_of (as_read (account old).files) address)) same (stands h)))
  later_answer tail after (Err e) same there stands tells short = tt

  -- whether the frame that was read is an entry
  pub live_answer : (queue : ℕ) (acks : AckSets) (txs : Transactions) (place : Place) (frame : Frame) (result : Bool) → (IsHonest old → IsFileThere (page_file address place.position.page) (account old).files)
      → (IsHonest old → StandsOn (pages_of (as_read (account old).files) address) place) → is_acknowledged acks queue place.position ≡ false
      → AsRead (page_file address place.position.page) old (λ bytes. (before : List (List ℕ)) (payload : List ℕ) → IsAt bytes place before payload → SpellsFrame payload frame)
      → (IsTrue result ↔ ((names queue frame ≡ true) × FrameCounts txs frame.tx)) → IsHonest old → IsTrue result ↔ IsLive queue acks txs (pages_of (as_read (account old).files) address) place
  live_answer queue acks txs place frame result there stands open_ tells entry h =
      let is = there h in
      let pages : Pages = pages_of (as_read (account old).files) address in
      let reads = page_reads (account old).files address place.position.page is.0 is.1 in (
        λ yes. record { entry = record { frame = frame; has = frame_there pages place is.0.bytes frame reads (tells h is.0 is.1) (stands h); named = (entry.0 yes).0; counts = (entry.0 yes).1 }; open_ = open_ },
        λ live.
            let one = frame_only pages place is.0.bytes frame reads (tells h is.0 is.1) live.entry.frame live.entry.has in
            entry.1 (subst (λ (f : Frame). (names queue f ≡ true) × FrameCounts txs f.tx) one (live.entry.named, live.entry.counts)),
      )
