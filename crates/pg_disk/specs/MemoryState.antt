-- What files and output in memory come to.
use Rattle.std.specs.Prelude.{List}
use Rattle.pg_disk.specs.declared.call_record.Event.{Event}
use Rattle.pg_disk.specs.declared.memory_state.MemoryState.{MemoryState}
use Rattle.pg_disk.specs.Account.{Account}
use Rattle.pg_disk.specs.Replay.{start, replay}

-- all that was done
abbrev pub events_of : MemoryState → List Event
events_of s = s.history.events.items

-- what that comes to
abbrev pub account_of : MemoryState → Account
account_of s = replay start (events_of s)
