use Rattle.pg_store_tests.proofs.Empty.{nothing_yet}
use Rattle.pg_store_tests.proofs.sends.is_spent_without_a_call.Goals as goal

pub is_spent-requires : goal.is_spent-requires
is_spent-requires c = λ honest. nothing_yet 4611686018427387904 _ c.new-site.ensures.empty
