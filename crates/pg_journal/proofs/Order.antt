-- The order of the generations.
use Rattle.std.proofs.Common.{◌≡◌, ◌≢◌, ◌⊎◌, inl, inr, ℕ, ◌<◌, Bool, true, false, refl, sym, ◌∙◌, subst, arith}
use Rattle.std.proofs.lemmas.Map.Views.{tells_apart}
use Rattle.std.specs.Ordering.{eq_by_cmp}
use Rattle.pg_disk.specs.declared.file_id.Kind.TheVariants.{Journal, Page, Large}
use Rattle.pg_disk.specs.declared.file_id.Kind.{Kind}
use Rattle.pg_disk.specs.declared.file_id.FileId.{FileId}
use Rattle.pg_disk.specs.Files.{file_cmp}
use Rattle.pg_disk.proofs.FileOrder.{files_exact, tied_self}
use Rattle.pg_journal.specs.Generations.{IsBefore, is_of_journal}

-- two files are one, or they aren't
pub same_or_not : (a b : FileId) → (a ≡ b) ⊎ (a ≢ b)
same_or_not a b = cases (eq_by_cmp file_cmp a b) refl
  where
    apart : eq_by_cmp file_cmp a a ≡ true → eq_by_cmp file_cmp a a ≡ false → ⊥
    apart t f = cc

    cases : (t : Bool) → eq_by_cmp file_cmp a b ≡ t → (a ≡ b) ⊎ (a ≢ b)
    cases true e = inl (tells_apart files_exact a b e)
    cases false e = inr (λ same. apart (tied_self a) (subst (λ f. eq_by_cmp file_cmp a f ≡ false) (sym same) e))

not_itself : (a : FileId) → IsBefore a a → ⊥
not_itself a (inl less) = absurd (omega arith)
not_itself a (inr same) = absurd (omega arith)

pub not_itself_by : (a b : FileId) → b ≡ a → IsBefore a b → ⊥
not_itself_by a b e before = not_itself a (subst (λ f. IsBefore a f) e before)

compare : (m n : ℕ) → (m < n) ⊎ ((n < m) ⊎ (m ≡ n))
compare m n = grind arith

-- of two generations one comes before the other, or they are one
pub in_order : (a b : FileId) → a.kind ≡ Journal → b.kind ≡ Journal → (IsBefore a b ⊎ IsBefore b a) ⊎ (a ≡ b)
in_order a b ka kb = elim (compare a.number b.number) [
  | inl less ↦ inl (inl (inl less))
  | inr (inl more) ↦ inl (inr (inl more))
  | inr (inr same) ↦ elim (compare a.owner b.owner) [
    | inl less ↦ inl (inl (inr (same, less)))
    | inr (inl more) ↦ inl (inr (inr (sym same, more)))
    | inr (inr one) ↦ inr (λ i. record { kind = (ka ∙ sym kb) i; owner = one i; number = same i })
  ]
]

pub is_kind : (kind : Kind) → is_of_journal kind ≡ true → kind ≡ Journal
is_kind Journal is = refl
is_kind Page is = cc
is_kind Large is = cc

pub kind_is : (kind : Kind) → kind ≡ Journal → is_of_journal kind ≡ true
kind_is Journal is = refl
kind_is Page is = cc
kind_is Large is = cc

-- a file is a generation, or it isn't
pub generation_or_not : (kind : Kind) → (kind ≡ Journal) ⊎ (kind ≢ Journal)
generation_or_not Journal = inl refl
generation_or_not Page = inr (λ e. cc)
generation_or_not Large = inr (λ e. cc)
