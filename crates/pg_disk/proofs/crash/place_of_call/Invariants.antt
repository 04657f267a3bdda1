use Rattle.std.proofs.Common.{◌≡◌, ◌<◌, length, take, filter_map}
use Rattle.pg_disk.specs.Events.{call_of}
use Rattle.pg_disk.proofs.crash.place_of_call.Given as goal

abbrev pub invariant-loop-place : goal.invariant-loop-place
invariant-loop-place l = (l.calls ≡ length (filter_map call_of (take l.place l.events))) × (l.calls < l.number)
