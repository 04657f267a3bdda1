use Rattle.std.proofs.Common.{◌≡◌, IfSome}
use Rattle.pg_disk.specs.Image.{IsFileThere}
use Rattle.pg_disk.specs.Sites.{OnBytes, OnFiles}
use Rattle.pg_page.specs.Pages.{page_file}
use Rattle.pg_page.specs.Places.{IsPlace}
use Rattle.pg_page_tests.proofs.pages.walk.Given as goal

abbrev pub invariant-frames : goal.invariant-frames
invariant-frames g l = record {
  there : OnFiles g.D.Disk l.disk (IsFileThere (page_file 3 7));
  next : IfSome l.next (λ here. OnBytes g.D.Disk l.disk (page_file 3 7) (λ bytes. (here.position.page ≡ 7) × IsPlace here bytes));
}
