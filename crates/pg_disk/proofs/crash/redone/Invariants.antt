use Rattle.std.proofs.Common.{take}
use Rattle.pg_disk.specs.Crash.{Follows}
use Rattle.pg_disk.specs.Left.{left_replay}
use Rattle.pg_disk.specs.Replay.{start, replay}
use Rattle.pg_disk.proofs.crash.redone.Given as goal

abbrev pub invariant-loop-event : goal.invariant-loop-event
invariant-loop-event l = Follows l.remains (replay start (take l.event-index l.events)) (left_replay l.pick start start (take l.event-index l.events))
