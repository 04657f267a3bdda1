-- A directory gives one state.
use Rattle.std.proofs.Common.{◌≡◌, List, ℕ, subst}
use Rattle.pg_fold.specs.declared.durable.Durable.{Durable}
use Rattle.pg_fold.specs.Fold.{fresh}
use Rattle.pg_journal.specs.Generations.{JournalOf}
use Rattle.pg_disk.specs.Views.{Contents}
use Rattle.pg_journal.proofs.Law.{journal_unique}
use Rattle.pg_recover.specs.Denotation.{FoldsTo}
use Rattle.pg_recover.specs.Folding.{FoldsFrom}
use Rattle.pg_recover.proofs.FoldingLemmas.{one_end}

-- what the journal's batches lead to
pub folds_to : (contents : Contents) (batches : List (List ℕ)) (d : Durable) → JournalOf contents batches → FoldsFrom fresh batches d → FoldsTo contents d
folds_to contents batches d says folds = record { batches = batches; entries = folds.entries; says = says; spelled = folds.spelled; folded = folds.folded }

pub folds_of : (contents : Contents) (batches : List (List ℕ)) (d : Durable) → JournalOf contents batches → FoldsTo contents d → FoldsFrom fresh batches d
folds_of contents batches d says folds =
    subst (λ bs. FoldsFrom fresh bs d) (journal_unique contents folds.batches batches folds.says says) (record { entries = folds.entries; spelled = folds.spelled; folded = folds.folded })

-- is one state
pub state_is : (contents : Contents) (batches : List (List ℕ)) (d e : Durable) → JournalOf contents batches → FoldsFrom fresh batches d → FoldsTo contents e → e ≡ d
state_is contents batches d e says folds other = one_end fresh e d batches (folds_of contents batches e says other) folds

-- two states that are given are one
pub one_folded : (contents : Contents) (d e : Durable) → FoldsTo contents d → FoldsTo contents e → d ≡ e
one_folded contents d e folds other = state_is contents other.batches e d other.says (folds_of contents other.batches e other.says other) folds
