use Rattle.std.proofs.Common.{◌<◌, ◌≤◌, ℕ, Some}
use Rattle.pg_disk.specs.Account.{IsHonest}
use Rattle.pg_disk.specs.Image.{IsFileThere}
use Rattle.pg_disk.specs.MemSite.{account_of}
use Rattle.pg_page.specs.Pages.{page_file}
use Rattle.pg_cursor_tests.proofs.drains.put_pages.Given as goal

abbrev pub invariant-pages : goal.invariant-pages
invariant-pages l = record {
  there : (page : ℕ) → l.before < page → page ≤ l.last → IsFileThere (page_file 3 page) (account_of l.site).files;
  honest : IsHonest (Some (account_of l.initial.site)) → IsHonest (Some (account_of l.site));
}
