-- Entries lead to one state at most, and part behind part as the whole does.
use Rattle.std.proofs.Common.{◌≡◌, inl, inr, List, [], ◌∷◌, ◌++◌, refl, sym, ◌∙◌, subst}
use Rattle.pg_disk.specs.declared.fault.Rule.{Rule}
use Rattle.pg_records.specs.declared.entry.Entry.{Entry}
use Rattle.pg_fold.specs.declared.durable.Durable.{Durable}
use Rattle.pg_fold.specs.Fold.{Breaks, Folds, IsApplied}

pub folds_one : (d a b : Durable) (entries : List Entry) → Folds d entries a → Folds d entries b → a ≡ b
folds_one d a b [] this that = this ∙ sym that
folds_one d a b (e ∷ entries) this that =
    let same : that.0 ≡ this.0 = that.1.effect ∙ sym this.1.effect in
    folds_one this.0 a b entries this.2 (subst (λ s. Folds s entries b) same that.2)

pub folds_parts : (d between after : Durable) (first others : List Entry) → Folds d first between → Folds between others after → Folds d (first ++ others) after
folds_parts d between after [] others front back = subst (λ s. Folds s others after) front back
folds_parts d between after (e ∷ first) others front back = (front.0, front.1, folds_parts front.0 between after first others front.2 back)

pub folds_cut : (d after : Durable) (first others : List Entry) → Folds d (first ++ others) after → (between : Durable) × Folds d first between × Folds between others after
folds_cut d after [] others whole = (d, refl, whole)
folds_cut d after (e ∷ first) others whole =
    let parts = folds_cut whole.0 after first others whole.2 in
    (parts.0, (whole.0, whole.1, parts.1), parts.2)

pub folds_applied : (d before after : Durable) (some : List Entry) (next : Entry) → Folds d some before → IsApplied before next after → Folds d (some ++ next ∷ []) after
folds_applied d before after some next front applied = folds_parts d before after some (next ∷ []) front (after, applied, refl)

pub broken_never : (before after : Durable) (next : Entry) (rule : Rule) → Breaks before next rule → IsApplied before next after → ⊥
broken_never before after next rule (inl is) applied = let none = sym is ∙ applied.condition in cc
broken_never before after next rule (inr unreadable) applied = unreadable.1 applied.readable

pub folds_broken : (d before after : Durable) (some : List Entry) (next : Entry) (rule : Rule) → Folds d some before → Breaks before next rule → Folds d (some ++ next ∷ []) after → ⊥
folds_broken d before after some next rule front broken whole =
    let parts = folds_cut d after some (next ∷ []) whole in
    let same : parts.0 ≡ before = folds_one d parts.0 before some parts.1 front in
    broken_never before parts.2.0 next rule broken (subst (λ s. IsApplied s next parts.2.0) same parts.2.1)
