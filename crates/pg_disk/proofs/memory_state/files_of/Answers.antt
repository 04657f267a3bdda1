use Rattle.std.proofs.Common.{subst}
use Rattle.std.specs.BTreeMap as tree
use Rattle.pg_disk.proofs.DerivedOrder.{derived_is}
use Rattle.pg_disk.proofs.memory_state.files_of.Goals as goal

pub returns-clause-ordered : goal.returns-clause-ordered
returns-clause-ordered c = subst (λ R. tree.IsOrdered R c.args.contents.now) derived_is c.keys.ensures.ordered
