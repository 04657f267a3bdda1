use Rattle.std.proofs.Common.{ap, ◌∙◌}
use Rattle.std.specs.FinMap.{get, get-empty}
use Rattle.pg_disk.specs.Account.{Account}
use Rattle.pg_disk.specs.Files.{file_cmp}
use Rattle.pg_disk_tests.specs.declared.sites.TheConstants.{PAGE}
use Rattle.pg_disk_tests.proofs.sites.is_answered.Goals as goal

pub exercise-requires : goal.exercise-requires
exercise-requires c = λ honest. ap (λ (a : Account). get a.files PAGE) c.new-site.ensures.empty ∙ get-empty file_cmp PAGE
