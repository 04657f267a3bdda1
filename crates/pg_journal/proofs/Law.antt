-- A directory's journal says one thing.
use Rattle.std.proofs.Common.{◌≡◌, inl, inr, ℕ, List, [], ◌∷◌, Option, Some, None, refl, sym, ◌∙◌, subst}
use Rattle.pg_disk.specs.declared.file_id.FileId.{FileId}
use Rattle.pg_gate.specs.Gated.{AllFit, Batches, HasBatches, HasNone}
use Rattle.pg_gate.proofs.Unique.{batches_unique, short_none, head_of}
use Rattle.pg_journal.specs.Generations.{IsGeneration, JournalOf}
use Rattle.pg_disk.specs.Views.{Contents}
use Rattle.pg_journal.proofs.Order.{in_order}

-- bytes that have no batch have no other list of batches
pub none_alone : (bytes : List ℕ) (batches : List (List ℕ)) → Batches bytes [] → Batches bytes batches → batches ≡ []
none_alone bytes batches none (inl few) = few.1
none_alone bytes [] none (inr some) = refl
none_alone bytes (p ∷ ps) (inl few) (inr some) = sym (short_none bytes (p ∷ ps) some.0 some.1 few.0 some.3)
none_alone bytes (p ∷ ps) (inr closed) (inr some) = absurd (closed.2 (head_of closed.0 1 _ _ (sym closed.3 ∙ some.3)))

-- so has a file
pub none_has : (o : Option (List ℕ)) (batches : List (List ℕ)) → HasNone o → HasBatches batches o → batches ≡ []
none_has None batches none has = absurd has
none_has (Some bytes) batches none has = none_alone bytes batches none has

pub has_one : (o : Option (List ℕ)) (a b : List (List ℕ)) → AllFit a → AllFit b → HasBatches a o → HasBatches b o → a ≡ b
has_one None a b fits fit has have = absurd has
has_one (Some bytes) a b fits fit has have = batches_unique bytes a b fits fit has have

-- the last generation that has a batch is one
same_generation : (contents : Contents) (f g : FileId) (a b : List (List ℕ)) → IsGeneration contents f a → IsGeneration contents g b → a ≡ b
same_generation contents f g a b this that = elim (in_order f g this.kind that.kind) [
  | inl (inl before) ↦ absurd (that.some (none_has (contents g) b (this.last g that.kind before) that.has))
  | inl (inr after) ↦ absurd (this.some (none_has (contents f) a (that.last f this.kind after) this.has))
  | inr same ↦ has_one (contents f) a b this.fit that.fit this.has (subst (λ file. HasBatches b (contents file)) (sym same) that.has)
]

-- what the journal says is one list of batches
pub journal_unique : (contents : Contents) (a b : List (List ℕ)) → JournalOf contents a → JournalOf contents b → a ≡ b
journal_unique contents a b (inl this) (inl that) = same_generation contents this.0 that.0 a b this.1 that.1
journal_unique contents a b (inl this) (inr none) = absurd (this.1.some (none_has (contents this.0) a (none.0 this.0 this.1.kind) this.1.has))
journal_unique contents a b (inr none) (inl that) = absurd (that.1.some (none_has (contents that.0) b (none.0 that.0 that.1.kind) that.1.has))
journal_unique contents a b (inr none) (inr nothing) = none.1 ∙ sym nothing.1
