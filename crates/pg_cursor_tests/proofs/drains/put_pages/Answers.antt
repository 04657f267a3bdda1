use Rattle.std.proofs.Common.{arith, sym, subst}
use Rattle.pg_disk.specs.Account.{Account}
use Rattle.pg_disk.specs.MemSite.{account_of}
use Rattle.pg_disk.specs.Image.{IsFileThere}
use Rattle.pg_page.specs.Pages.{page_file}
use Rattle.pg_cursor_tests.proofs.Standing.{put_there}
use Rattle.pg_cursor_tests.proofs.drains.put_pages.Goals as goal

pub pages-preserved : goal.pages-preserved
pages-preserved c = record {
  there = λ page from to. subst (λ (a : Account). IsFileThere (page_file 3 page) a.files) (sym c.in_ok-put.ensures.ok) (put_there (account_of c.pages.site).files c.args.before c.pages.last c.saturating_add-last.result _ (omega (arith, c.saturating_add-last.ensures)) c.pages.invariant.there page from to);
  honest = λ _. c.put.ensures.honest;
}
