use Rattle.pg_disk.specs.Sites.{OnFiles}
use Rattle.pg_cursor.specs.Places.{page_of}
use Rattle.pg_cursor.specs.Walking.{AreThere, OnPages, TailStands}
use Rattle.pg_cursor_tests.proofs.beside.are_given.Given as goal

abbrev pub invariant-steps : goal.invariant-steps
invariant-steps g l = record {
  first_there : OnFiles g.D.Disk l.disk (AreThere l.first.address (page_of l.first.tail) l.last);
  first_stands : OnPages g.D.Disk l.disk l.first.address (TailStands l.first.tail);
  second_there : OnFiles g.D.Disk l.disk (AreThere l.second.address (page_of l.second.tail) l.last);
  second_stands : OnPages g.D.Disk l.disk l.second.address (TailStands l.second.tail);
}
