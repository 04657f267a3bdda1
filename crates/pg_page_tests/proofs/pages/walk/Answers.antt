use Rattle.pg_gate.proofs.Reading.{still_there}
use Rattle.pg_page.specs.Pages.{page_file}
use Rattle.pg_page.proofs.Stepping.{next_stays}
use Rattle.pg_page_tests.proofs.pages.walk.Goals as goal

pub frames-preserved : goal.frames-preserved
frames-preserved g c =
    let old = g.D.Disk.tells c.frames.disk in
    let mid = g.D.Disk.tells c.read_frame.new.disk in
    let now = g.D.Disk.tells c.next_place.new.disk in
    let one = c.read_frame.ensures.same in
    let two = c.next_place.ensures.same in
    record {
      there = still_there (page_file 3 7) mid now two.0 two.1 (still_there (page_file 3 7) old mid one.0 one.1 c.frames.invariant.there);
      next = next_stays 3 7 old mid now one.0 two.0 c.in-Some.here c.in_ok-next-2.next one.1 two.1 (rw c.in-Some.is at c.frames.invariant.next) c.in_ok-next-2.ensures.next;
    }
