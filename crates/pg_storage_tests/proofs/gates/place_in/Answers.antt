use Rattle.std.proofs.Common.{ap, ◌∙◌}
use Rattle.std.specs.FinMap.{get, get-empty}
use Rattle.pg_disk.specs.Account.{Account}
use Rattle.pg_disk.specs.Files.{file_cmp}
use Rattle.pg_storage_tests.specs.declared.gates.TheConstants.{PAGE}
use Rattle.pg_storage_tests.proofs.gates.place_in.Goals as goal

pub make-requires : goal.make-requires
make-requires c = λ honest. ap (λ (a : Account). get a.files PAGE) c.new-site.ensures.empty ∙ get-empty file_cmp PAGE
