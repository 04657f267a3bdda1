use Rattle.pg_store_tests.proofs.Two.{none_yet}
use Rattle.pg_store_tests.proofs.addresses.is_spent_without_a_call.Goals as goal

pub is_spent-requires : goal.is_spent-requires
is_spent-requires c = λ honest. none_yet 1 4611686018427387905 _ c.new-site.ensures.empty
