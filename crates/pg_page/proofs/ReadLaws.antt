-- Calls that read a page one after the other, seen from the first.
use Rattle.std.proofs.Common.{◌≡◌, ℕ, ◌+◌, ◌^◌, ◌≤◌, ◌<◌, List, [], ◌∷◌, ◌++◌, length, Option, Some, None, IfSome, Result, Ok, Err, IfOk, OnOk, IfErr, refl, sym, ◌∙◌, ap, subst, arith, length-append, IsSome}
use Rattle.std.specs.FinMap.{get}
use Rattle.pg_disk.specs.declared.fault.Fault.{Fault}
use Rattle.pg_disk.specs.declared.fault.Rule.{Rule}
use Rattle.pg_disk.specs.declared.fault.Rule.TheVariants.{Name}
use Rattle.pg_disk.specs.declared.file_id.FileId.{FileId}
use Rattle.pg_disk.specs.Account.{Account}
use Rattle.pg_disk.specs.Calls.{Changes, Reads}
use Rattle.pg_gate.specs.declared.spans.Span.{Span}
use Rattle.pg_gate.specs.Gated.{opened}
use Rattle.pg_gate.specs.Payloads.{IsCutBehind}
use Rattle.pg_gate.specs.Spans.{AsRead, IsCutFault, IsFailedOrDamaged, IsNext}
use Rattle.pg_gate.proofs.Reading.{as_read_before}
use Rattle.pg_gate.proofs.Sealing.{length-opened_push}
use Rattle.pg_page.specs.declared.place.Place.{Place}
use Rattle.pg_page.specs.Faults.{BreaksAt, IsPageFault}
use Rattle.pg_page.specs.Places.{IsAt, IsNextPlace, IsNextSpan, IsNextTo, IsPlace, StandsAt, StandsSome}
use Rattle.pg_page.proofs.FaultLaws.{Breaks, fault_before, fault_weaker, gate_fault}
use Rattle.pg_page.proofs.PlaceLaws.{cut_is, next_is, nothing_before}

-- two things that are known of what was answered tell a third
pub ok_tells : {T E : Type 0} (r : Result T E) (P Q R : T → Type 0) → ((x : T) → P x → Q x → R x) → IfOk r P → IfOk r Q → IfOk r R
ok_tells (Ok x) P Q R both p q = both x p q
ok_tells (Err e) P Q R both p q = tt

pub err_tells : {T E : Type 0} (r : Result T E) (P Q R : E → Type 0) → ((e : E) → P e → Q e → R e) → IfErr r P → IfErr r Q → IfErr r R
err_tells (Ok x) P Q R both p q = tt
err_tells (Err e) P Q R both p q = both e p q

-- a page whose length was asked for has fewer than 2^64 bytes, also by its name
pub short_read : {T E : Type 0} (result : Result T E) (file : FileId) (old : Option Account) (end : ℕ) → AsRead file old (λ bytes. end ≡ length bytes) → end < 2 ^ 64 → OnOk result (AsRead file old (λ bytes. length bytes < 2 ^ 64))
short_read (Ok x) file old end size small = λ h s there. omega (arith, size h s there, small)
short_read (Err e) file old end size small = tt

pub short_named : {T E : Type 0} (result : Result T E) (file name : FileId) → file ≡ name → (old : Option Account) → AsRead file old (λ bytes. length bytes < 2 ^ 64) → OnOk result (AsRead name old (λ bytes. length bytes < 2 ^ 64))
short_named (Ok x) file name same old short = subst (λ f. AsRead f old (λ bytes. length bytes < 2 ^ 64)) same short
short_named (Err e) file name same old short = tt

-- a place that ends in the file
abbrev pub InFile : ℕ → ℕ → Option Span → Type 0
InFile gate end next = IfSome next (λ span. (span.at ≡ gate + 9) × (span.at + span.length < end))

abbrev pub ReadsNext : ℕ → Option Span → List ℕ → Type 0
ReadsNext gate next bytes = 1 < length bytes → IsNext bytes gate next

module _ (file : FileId) (old mid : Option Account) (n end : ℕ) (change : Changes old mid (Reads n)) (size : AsRead file old (λ bytes. end ≡ length bytes)) (small : end < 2 ^ 64) where
  -- the first gate
  pub first_next : (next : Option Span) → AsRead file mid (ReadsNext 0 next) → InFile 0 end next → AsRead file old (λ bytes. IsNextSpan bytes [] next)
  first_next next reads in_file h s there =
      next_is s.bytes [] 0 refl (nothing_before s.bytes) end next (size h s there) (λ few. refl) (λ long. omega (arith, long)) (as_read_before file old mid n (ReadsNext 0 next) change reads h s there) in_file

  pub first_fault : (e : Fault) → IsFailedOrDamaged e → IsCutFault file (λ at. (at ≡ 0) × AsRead file mid (λ bytes. IsCutBehind bytes 0)) e → IsPageFault file (Breaks file old) e
  first_fault e some is =
      fault_before file old mid n e change
      (gate_fault file mid 0 e (λ h s there cut. cut_is s.bytes [] 0 refl (nothing_before s.bytes) (omega (arith, small, size_at h s there)) cut) some is)
    where
      size_at : AsRead file mid (λ bytes. end ≡ length bytes)
      size_at h s there = size (change.back h) s (sym (ap (λ m. get m file) (change.step (change.back h)).files) ∙ there)

  -- the gate behind a payload
  module _ (offset : ℕ) (span : Span) (is : AsRead file old (λ bytes. (before : List (List ℕ)) (payload : List ℕ) → StandsAt bytes offset before payload → (span.at ≡ offset) × (span.length ≡ length payload))) where
    gate_behind : (bytes : List ℕ) (before : List (List ℕ)) (payload : List ℕ) → StandsAt bytes offset before payload → (span.at ≡ offset) × (span.length ≡ length payload) → span.at + span.length ≡ length (opened (before ++ payload ∷ []))
    gate_behind bytes before payload stands same = omega (arith, stands.at, same.0, same.1, length-opened_push before payload)

    pub later_next : (next : Option Span) → AsRead file mid (ReadsNext (span.at + span.length) next) → InFile (span.at + span.length) end next
        → AsRead file old (λ bytes. (before : List (List ℕ)) (payload : List ℕ) → StandsAt bytes offset before payload → IsNextSpan bytes (before ++ payload ∷ []) next)
    later_next next reads in_file h s there before payload stands =
        let same = is h s there before payload stands in
        let gate = gate_behind s.bytes before payload stands same in
        next_is s.bytes (before ++ payload ∷ []) (span.at + span.length) gate stands.passes.stand end next (size h s there)
        (λ few. absurd (omega (arith, few, stands.passes.gate, length-opened_push before payload))) (λ long. omega (arith, gate, stands.passes.gate))
        (as_read_before file old mid n (ReadsNext (span.at + span.length) next) change reads h s there) in_file

    pub later_fault : AsRead file old (StandsSome offset) → (e : Fault) → IsFailedOrDamaged e
        → IsCutFault file (λ at. (at ≡ span.at + span.length) × AsRead file mid (λ bytes. IsCutBehind bytes (span.at + span.length))) e → IsPageFault file (Breaks file old) e
    later_fault some e failed damage =
        fault_before file old mid n e change
        (gate_fault file mid (span.at + span.length) e (λ h s there cut.
        let before_there = sym (ap (λ m. get m file) (change.step (change.back h)).files) ∙ there in
        let at = some (change.back h) s before_there in
        cut_is s.bytes (at.0 ++ at.1 ∷ []) (span.at + span.length) (gate_behind s.bytes at.0 at.1 at.2 (is (change.back h) s before_there at.0 at.1 at.2)) at.2.passes.stand (omega (arith, small, size (change.back h) s before_there)) cut) failed damage)

one_longer : (before : List (List ℕ)) (payload : List ℕ) → length (before ++ payload ∷ []) ≡ length before + 1
one_longer before payload = omega (arith, length-append before (payload ∷ []))

-- the next payload has the next position
pub next_placed : (bytes : List ℕ) (after : Place) (before : List (List ℕ)) (payload : List ℕ) (span : Option Span) (next : Option Place) → IsAt bytes after before payload → IsNextSpan bytes (before ++ payload ∷ []) span
    → IsNextTo after.position span next → IsNextPlace bytes after.position.page (before ++ payload ∷ []) next
next_placed bytes after before payload None next at is to = subst (IsNextPlace bytes after.position.page (before ++ payload ∷ [])) (sym to) is
next_placed bytes after before payload (Some span) next at is to =
    subst (IsNextPlace bytes after.position.page (before ++ payload ∷ [])) (sym to)
    (refl, (is.0, record { stands = is.1; index = ap (λ (n : ℕ). n + 1) at.index ∙ sym (one_longer before payload) }))

-- one more than there are positions for
pub too_many : (file : FileId) (old : Option Account) (after : Place) (span : Option Span) (e : Fault) → AsRead file old (IsPlace after)
    → AsRead file old (λ bytes. (before : List (List ℕ)) (payload : List ℕ) → StandsAt bytes after.offset before payload → IsNextSpan bytes (before ++ payload ∷ []) span)
    → IsPageFault file (λ damage. (damage.rule ≡ Name) × (damage.at ≡ 0) × (4294967294 ≤ after.position.index) × IsSome span) e → IsPageFault file (Breaks file old) e
too_many file old after None e place next is = fault_weaker file _ (Breaks file old) e (λ damage broken. absurd (not_some broken.3)) is
  where
    not_some : IsSome {T = Span} None → ⊥
    not_some is = cc
too_many file old after (Some span) e place next is =
    fault_weaker file _ (Breaks file old) e
    (λ damage broken h s there.
    let at = place h s there in
    let more = next h s there at.0 at.1 at.2.stands in
    let batches : List (List ℕ) = (at.0 ++ at.1 ∷ []) ++ more.0 ∷ [] in
    let many : 4294967295 < length batches = omega (arith, one_longer (at.0 ++ at.1 ∷ []) more.0, one_longer at.0 at.1, at.2.index, broken.2) in
    subst (λ (r : Rule). BreaksAt s.bytes damage.at r) (sym broken.0) ((batches, more.1.passes, many), broken.1)) is

-- the same by the page's name
module _ (file name : FileId) (same : file ≡ name) (old : Option Account) (after : Place) (span : Option Span) (read : AsRead file old (λ bytes. (before : List (List ℕ)) (payload : List ℕ) → StandsAt bytes after.offset before payload → IsNextSpan bytes (before ++ payload ∷ []) span)) where
  named : AsRead name old (λ bytes. (before : List (List ℕ)) (payload : List ℕ) → StandsAt bytes after.offset before payload → IsNextSpan bytes (before ++ payload ∷ []) span)
  named = subst (λ f. AsRead f old (λ bytes. (before : List (List ℕ)) (payload : List ℕ) → StandsAt bytes after.offset before payload → IsNextSpan bytes (before ++ payload ∷ []) span)) same read

  pub place_answer : (result : Result (Option Place) Fault) → IfOk result (IsNextTo after.position span)
      → IfOk result (λ next. AsRead name old (λ bytes. (before : List (List ℕ)) (payload : List ℕ) → IsAt bytes after before payload → IsNextPlace bytes after.position.page (before ++ payload ∷ []) next))
  place_answer (Ok next) to = λ h s there before payload at. next_placed s.bytes after before payload span next at (named h s there before payload at.stands) to
  place_answer (Err e) to = tt

  pub place_fault : AsRead name old (IsPlace after) → (result : Result (Option Place) Fault) → IfErr result (IsPageFault file (λ damage. (damage.rule ≡ Name) × (damage.at ≡ 0) × (4294967294 ≤ after.position.index) × IsSome span))
      → IfErr result (IsPageFault name (Breaks name old))
  place_fault place (Ok next) is = tt
  place_fault place (Err e) is = too_many name old after span e place named (subst (λ f. IsPageFault f (λ damage. (damage.rule ≡ Name) × (damage.at ≡ 0) × (4294967294 ≤ after.position.index) × IsSome span) e) same is)
