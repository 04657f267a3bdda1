use Rattle.std.proofs.Common.{ap, ◌∙◌}
use Rattle.std.specs.FinMap.{get, get-empty}
use Rattle.pg_disk.specs.Account.{Account}
use Rattle.pg_disk.specs.Files.{file_cmp}
use Rattle.pg_page.specs.Pages.{page_file}
use Rattle.pg_page_tests.proofs.pages.walked.Goals as goal

pub make-requires : goal.make-requires
make-requires c = λ honest. ap (λ (a : Account). get a.files (page_file 3 7)) c.new-site.ensures.empty ∙ get-empty file_cmp (page_file 3 7)
