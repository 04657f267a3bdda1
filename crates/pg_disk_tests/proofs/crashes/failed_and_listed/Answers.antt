use Rattle.std.proofs.Common.{ap, ◌∙◌}
use Rattle.std.specs.FinMap.{get, get-empty}
use Rattle.pg_disk.specs.Account.{Account}
use Rattle.pg_disk.specs.Files.{file_cmp}
use Rattle.pg_disk_tests.specs.declared.crashes.TheConstants.{PAGE}
use Rattle.pg_disk_tests.proofs.crashes.failed_and_listed.Goals as goal

pub rewrite-requires : goal.rewrite-requires
rewrite-requires c = λ honest. ap (λ (a : Account). get a.files PAGE) (c.in_ok-fail.ensures.untouched.account ∙ c.new-site.ensures.empty) ∙ get-empty file_cmp PAGE
