use Rattle.pg_store_tests.proofs.Empty.{nothing_yet}
use Rattle.pg_store_tests.proofs.opened.is_cut_told.Goals as goal

pub make-requires : goal.make-requires
make-requires c = λ honest. nothing_yet 7 _ c.new-site.ensures.empty
