use Rattle.std.proofs.Common.{ap, ◌∙◌}
use Rattle.std.specs.FinMap.{get, get-empty}
use Rattle.pg_disk.specs.Account.{Account}
use Rattle.pg_disk.specs.Files.{file_cmp}
use Rattle.pg_page.specs.Pages.{page_file}
use Rattle.pg_cursor_tests.proofs.Standing.{start_stands, start_there}
use Rattle.pg_cursor_tests.proofs.cursors.is_given.Goals as goal

pub make-requires : goal.make-requires
make-requires c = λ honest page. ap (λ (a : Account). get a.files (page_file 3 page)) c.new-site.ensures.empty ∙ get-empty file_cmp (page_file 3 page)

pub wrong_step-requires-clause-there : goal.wrong_step-requires-clause-there
wrong_step-requires-clause-there c = λ honest. start_there c.new-cursor.result c.args.queue c.new-cursor.ensures.new _ (c.in_ok-make.ensures.full honest) (c.in_ok-make.ensures.empty honest)

pub wrong_step-requires-clause-stands : goal.wrong_step-requires-clause-stands
wrong_step-requires-clause-stands c = λ honest. start_stands c.new-cursor.result c.args.queue c.new-cursor.ensures.new _
