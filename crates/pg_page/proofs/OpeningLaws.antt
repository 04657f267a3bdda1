-- A page is opened.
use Rattle.std.proofs.Common.{◌≡◌, inl, inr, ℕ, ◌+◌, ◌<◌, List, [], ◌∷◌, length, Option, Some, Result, Ok, Err, IfOk, IfErr, refl, sym, ◌∙◌, ap, subst, arith, length-append}
use Rattle.std.specs.FinMap.{get}
use Rattle.pg_disk.specs.declared.fault.Fault.{Fault}
use Rattle.pg_disk.specs.declared.fault.Rule.{Rule}
use Rattle.pg_disk.specs.declared.fault.Rule.TheVariants.{Name}
use Rattle.pg_disk.specs.declared.file_id.FileId.{FileId}
use Rattle.pg_disk.specs.Account.{FileState, Account, account, IsHonest}
use Rattle.pg_gate.specs.declared.at_rest.Rest.{Rest}
use Rattle.pg_gate.specs.declared.spans.Span.{Span}
use Rattle.pg_gate.specs.Gated.{Batches, opened, file_of}
use Rattle.pg_gate.specs.Spans.{IsScanned, spans_of}
use Rattle.pg_gate.proofs.Payloads.{batches_stand}
use Rattle.pg_page.specs.declared.writer.PageWriter.{PageWriter}
use Rattle.pg_page.specs.Faults.{BreaksAt, IsPageFault}
use Rattle.pg_page.specs.Places.{Passes}
use Rattle.pg_page.specs.Writing.{OpensAs}
use Rattle.pg_gate.specs.Gated.{StandsFor}
use Rattle.pg_page.proofs.FaultLaws.{Breaks, fault_weaker}

-- as many places as batches
spans_long : (gate : ℕ) (batches : List (List ℕ)) → length (spans_of gate batches) ≡ length batches
spans_long gate [] = refl
spans_long gate (payload ∷ batches) = omega (arith, spans_long (gate + 9 + length payload) batches)

-- some batches of a file are passed
all_passed : (bytes : List ℕ) (batches : List (List ℕ)) → 0 < length batches → Batches bytes batches → Passes bytes batches
all_passed bytes batches some (inl none) = absurd (omega (arith, some, ap length none.1))
all_passed bytes batches some (inr are) = record {
  stand = batches_stand bytes batches (inr are);
  gate = omega (arith, ap length are.3, length-append (opened batches) (are.0 ∷ are.1));
}

module _ (file name : FileId) (same : file ≡ name) (old new : Option Account) (rest : Rest) (spans shown : List Span) (shows : shown ≡ spans)
    (scanned : IsHonest old → (s : FileState) → get (account old).files file ≡ Some s → IsScanned s.bytes rest spans (get (account new).files file)) where
  named : IsHonest old → (s : FileState) → get (account old).files name ≡ Some s → IsScanned s.bytes rest spans (get (account new).files name)
  named = subst (λ f. IsHonest old → (s : FileState) → get (account old).files f ≡ Some s → IsScanned s.bytes rest spans (get (account new).files f)) same scanned

  count_is : (bytes : List ℕ) (now : Option FileState) → (scan : IsScanned bytes rest spans now) → length shown ≡ length scan.batches
  count_is bytes now scan = ap length shows ∙ ap length scan.places ∙ spans_long 0 scan.batches

  pub opens : (result : Result PageWriter Fault) → IfOk result (λ writer. (writer.rest ≡ rest) × (writer.frames ≡ length shown))
      → IfOk result (λ writer. IsHonest old → (s : FileState) → get (account old).files name ≡ Some s → OpensAs writer s.bytes (get (account new).files name))
  opens (Err e) is = tt
  opens (Ok writer) is = λ h s there.
      let scan = named h s there in (
        scan.batches,
        scan.are,
        record {
          stands = subst (λ (r : Rest). StandsFor r scan.batches (get (account new).files name)) (sym is.0) scan.stands;
          count = is.1 ∙ count_is s.bytes (get (account new).files name) scan;
        },
      )

  pub too_many : file_of rest ≡ file → (result : Result PageWriter Fault) → IfErr result (IsPageFault (file_of rest) (λ damage. (damage.rule ≡ Name) × (damage.at ≡ 0) × (4294967295 < length shown))) → IfErr result (IsPageFault name (Breaks name old))
  too_many rests (Ok writer) fault = tt
  too_many rests (Err e) fault =
      fault_weaker name (λ damage. (damage.rule ≡ Name) × (damage.at ≡ 0) × (4294967295 < length shown)) (Breaks name old) e
      (λ damage broken h s there.
      let scan = named h s there in
      let count = count_is s.bytes (get (account new).files name) scan in
      subst (λ (r : Rule). BreaksAt s.bytes damage.at r) (sym broken.0)
      ((scan.batches, all_passed s.bytes scan.batches (omega (arith, count, broken.2)) scan.are, omega (arith, count, broken.2)), broken.1))
      (subst (λ f. IsPageFault f (λ damage. (damage.rule ≡ Name) × (damage.at ≡ 0) × (4294967295 < length shown)) e) (rests ∙ same) fault)
