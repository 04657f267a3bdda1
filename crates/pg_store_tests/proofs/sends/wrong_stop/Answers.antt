use Rattle.pg_store_tests.proofs.Empty.{nothing_yet}
use Rattle.pg_store_tests.proofs.sends.wrong_stop.Goals as goal

pub wrong_start-requires : goal.wrong_start-requires
wrong_start-requires c = λ honest. nothing_yet 1 _ c.new-site.ensures.empty
