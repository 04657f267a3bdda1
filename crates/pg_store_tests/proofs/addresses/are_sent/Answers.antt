use Rattle.pg_store_tests.proofs.Two.{none_yet}
use Rattle.pg_store_tests.proofs.addresses.are_sent.Goals as goal

pub make_first-requires : goal.make_first-requires
make_first-requires c = λ honest. (none_yet 1 1 _ c.new-site.ensures.empty, none_yet 2 4 _ c.new-site.ensures.empty)
