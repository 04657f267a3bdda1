-- Where a generation is cut, and whether it has a batch.
use Rattle.std.proofs.Common.{◌≡◌, ◌≢◌, ℕ, true, false, List, [], ◌∷◌, length, Option, refl, sym, ◌∙◌, ap, subst, arith}
use Rattle.std.specs.Prelude.{◌==◌}
use Rattle.std.proofs.lemmas.Bool.Decides.{nat_tests}
use Rattle.pg_disk.specs.declared.fault.Fault.{Fault}
use Rattle.pg_disk.specs.declared.fault.Fault.TheVariants.{Failed, Damaged, Spent, Memory}
use Rattle.pg_disk.specs.declared.file_id.FileId.{FileId}
use Rattle.pg_disk.specs.declared.file_id.Kind.TheVariants.{Journal as OfJournal}
use Rattle.pg_disk.specs.Account.{Account, account, IsHonest}
use Rattle.pg_gate.specs.Spans.{IsCutFault, IsNotSpent, spans_of}
use Rattle.pg_gate.specs.declared.spans.Span.{Span}
use Rattle.pg_journal.specs.Looks.{IsCutAt, IsCutGeneration}

-- a generation that is cut, as it was at first
pub cut_generation : (tells : Option Account) (file : FileId) (P : ℕ → Type 0) (e : Fault) → file.kind ≡ OfJournal → ((at : ℕ) → P at → IsHonest tells → IsCutAt (account tells).files file at) → IsNotSpent e → IsCutFault file P e → IsCutGeneration tells e
cut_generation tells file P Failed kind cut only is = tt
cut_generation tells file P (Damaged damage) kind cut only is = (
  subst (λ (f : FileId). f.kind ≡ OfJournal) (sym is.0) kind,
  is.1,
  λ honest. subst (λ f. IsCutAt (account tells).files f damage.at) (sym is.0) (cut damage.at is.2 honest),
)
cut_generation tells file P Spent kind cut only is = only refl
cut_generation tells file P Memory kind cut only is = tt

-- no places, no batches
pub none_placed : (spans : List Span) (n : ℕ) (batches : List (List ℕ)) → spans ≡ spans_of 0 batches → n ≡ length spans → true ≡ (n == 0) → batches ≡ []
none_placed spans n [] places count none = refl
none_placed spans n (p ∷ ps) places count none = absurd (too_many n (omega (arith, count, ap length places)) none)
  where
    too_many : (n : ℕ) → n ≢ 0 → true ≡ (n == 0) → ⊥
    too_many n ne e = grind (arith, nat_tests)

-- and where there are places there is one
pub some_placed : (spans : List Span) (n : ℕ) (batches : List (List ℕ)) → spans ≡ spans_of 0 batches → n ≡ length spans → false ≡ (n == 0) → batches ≢ []
some_placed spans n batches places count some e = few n (omega (arith, count, ap length (places ∙ ap (spans_of 0) e))) some
  where
    few : (n : ℕ) → n ≡ 0 → false ≡ (n == 0) → ⊥
    few n z e = grind (arith, nat_tests)
