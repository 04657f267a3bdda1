use Rattle.std.proofs.Common.{◌∙◌}
use Rattle.pg_cursor_tests.proofs.Standing.{is_taken, stands_then, there_then}
use Rattle.pg_cursor_tests.proofs.cursors.make_step.Goals as goal

pub settle-requires : goal.settle-requires
settle-requires g c = is_taken c.in_ok-next.given c.args.cursor.taken c.in_ok-next.next.taken c.in_ok-next.ensures.takes.taken

pub returns-clause-there : goal.returns-clause-there
returns-clause-there g c =
    there_then (g.D.Disk.tells c.args.disk.now) (g.D.Disk.tells c.next_ready.new.disk) c.next_ready.ensures.same.0 c.next_ready.ensures.same.1 c.args.cursor.address c.settle.new.cursor.address (c.settle.ensures.address ∙ c.in_ok-next.ensures.takes.address)
    8 c.args.cursor.tail c.in_ok-next.next.tail c.settle.new.cursor.tail c.in_ok-next.ensures.takes.tail c.settle.ensures.tail c.requires.there

pub returns-clause-stands : goal.returns-clause-stands
returns-clause-stands g c =
    stands_then (g.D.Disk.tells c.args.disk.now) (g.D.Disk.tells c.next_ready.new.disk) c.next_ready.ensures.same.0 c.next_ready.ensures.same.1 c.args.cursor.address c.settle.new.cursor.address (c.settle.ensures.address ∙ c.in_ok-next.ensures.takes.address)
    c.in_ok-next.next.tail c.settle.new.cursor.tail c.settle.ensures.tail (λ h. (c.in_ok-next.ensures.next h).stands)
