-- The order of the files, and what a map has at each.
use Rattle.std.proofs.Common.{◌≡◌, ◌≢◌, ℕ, true, false, cond, Some, None, refl, ◌∙◌, ap, arith}
use Rattle.std.specs.declared.cmp.Ordering.{Ordering}
use Rattle.std.specs.declared.cmp.Ordering.TheVariants.{Less, Equal, Greater}
use Rattle.std.specs.Ordering.{nat_cmp, ordering_then, eq_by_cmp, is_eq}
use Rattle.std.specs.Cmp.{IsTotalOrder, nat_cmp_total}
use Rattle.std.proofs.lemmas.Cmp.{on_total, then_total, tied_itself}
use Rattle.std.proofs.lemmas.Map.Lookups.{CmpEqualImpliesEq, exact_pairs, exact_unsigned}
use Rattle.std.specs.FinMap.{FinMap, get, insert, remove, get-insert, get-remove}
use Rattle.pg_disk.specs.declared.file_id.Kind.{Kind}
use Rattle.pg_disk.specs.declared.file_id.Kind.TheVariants.{Journal, Page, Large}
use Rattle.pg_disk.specs.declared.file_id.FileId.{FileId}
use Rattle.pg_disk.specs.Files.{rank, file_cmp}

pub files_total : IsTotalOrder file_cmp
files_total = then_total (on_total (λ f. rank f.kind) nat_cmp_total) (then_total (on_total (λ f. f.owner) nat_cmp_total) (on_total (λ f. f.number) nat_cmp_total))

same_kind : (a b : Kind) → rank a ≡ rank b → a ≡ b
same_kind Journal Journal e = refl
same_kind Page Page e = refl
same_kind Large Large e = refl
same_kind Journal Page e = absurd (omega (arith, e))
same_kind Journal Large e = absurd (omega (arith, e))
same_kind Page Journal e = absurd (omega (arith, e))
same_kind Page Large e = absurd (omega (arith, e))
same_kind Large Journal e = absurd (omega (arith, e))
same_kind Large Page e = absurd (omega (arith, e))

-- files that compare alike are one
pub files_exact : CmpEqualImpliesEq file_cmp
files_exact a b h =
    let e = exact_pairs nat_cmp (λ (x y : ℕ × ℕ). ordering_then (nat_cmp x.0 y.0) (nat_cmp x.1 y.1)) exact_unsigned (exact_pairs nat_cmp nat_cmp exact_unsigned exact_unsigned) (rank a.kind, (a.owner, a.number)) (rank b.kind, (b.owner, b.number)) h in
    let kinds = same_kind a.kind b.kind (ap (λ (p : ℕ × (ℕ × ℕ)). p.0) e) in
    λ i. record { kind = kinds i; owner = (e i).1.0; number = (e i).1.1 }

tied_one : (r : Ordering) → r ≡ Equal → is_eq r ≡ true
tied_one r e = ap is_eq e

untied : (r : Ordering) → (r ≡ Equal → ⊥) → is_eq r ≡ false
untied Less ne = refl
untied Equal ne = absurd (ne refl)
untied Greater ne = refl

pub tied_self : (f : FileId) → eq_by_cmp file_cmp f f ≡ true
tied_self f = tied_one _ (tied_itself files_total f)

pub untied_others : (f q : FileId) → q ≢ f → eq_by_cmp file_cmp q f ≡ false
untied_others f q ne = untied _ (λ e. ne (files_exact q f e))

module _ {X : Type 0} where
  pub get_inserted : (m : FinMap file_cmp X) (f : FileId) (v : X) → get (insert m f v) f ≡ Some v
  get_inserted m f v = get-insert files_total m f v f ∙ ap (λ b. cond b (Some v) (get m f)) (tied_self f)

  pub get_beside : (m : FinMap file_cmp X) (f q : FileId) (v : X) → q ≢ f → get (insert m f v) q ≡ get m q
  get_beside m f q v ne = get-insert files_total m f v q ∙ ap (λ b. cond b (Some v) (get m q)) (untied_others f q ne)

  pub get_removed : (m : FinMap file_cmp X) (f : FileId) → get (remove m f) f ≡ None
  get_removed m f = get-remove files_total m f f ∙ ap (λ b. cond b None (get m f)) (tied_self f)

  pub get_kept : (m : FinMap file_cmp X) (f q : FileId) → q ≢ f → get (remove m f) q ≡ get m q
  get_kept m f q ne = get-remove files_total m f q ∙ ap (λ b. cond b None (get m q)) (untied_others f q ne)
