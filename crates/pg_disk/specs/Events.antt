-- What kind of thing an event is.
use Rattle.std.specs.Prelude.{Bool, true, false, Option, Some, None}
use Rattle.pg_disk.specs.declared.call_record.CallKind.{CallKind}
use Rattle.pg_disk.specs.declared.call_record.CallKind.TheVariants as kind
use Rattle.pg_disk.specs.declared.call_record.Event.{Event}
use Rattle.pg_disk.specs.declared.call_record.Event.TheVariants.{List, Length, Read, Write, Sync, Create, Remove, Emit, Put, Told}

-- the call of the disk that it is
abbrev pub call_of : Event → Option CallKind
call_of List = Some kind.List
call_of (Length f) = Some (kind.Length f)
call_of (Read f n) = Some (kind.Read f)
call_of (Write f at bytes done) = Some (kind.Write f)
call_of (Sync f done) = Some (kind.Sync f)
call_of (Create f done) = Some (kind.Create f)
call_of (Remove f done) = Some (kind.Remove f)
call_of (Emit bytes done) = None
call_of (Put f bytes) = None
call_of (Told bytes) = None

abbrev pub is_emit : Event → Bool
is_emit (Emit bytes done) = true
is_emit _ = false
