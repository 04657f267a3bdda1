use Rattle.pg_disk.specs.Sites.{OnFiles}
use Rattle.pg_cursor.specs.Places.{page_of}
use Rattle.pg_cursor.specs.Walking.{AreThere, OnPages, TailStands}
use Rattle.pg_cursor_tests.proofs.drains.take_all.Given as goal

abbrev pub invariant-places : goal.invariant-places
invariant-places g l = record {
  there : OnFiles g.D.Disk l.disk (AreThere l.cursor.address (page_of l.cursor.tail) l.last);
  stands : OnPages g.D.Disk l.disk l.cursor.address (TailStands l.cursor.tail);
}
