use Rattle.std.proofs.Common.{take}
use Rattle.pg_engine.specs.Kept.{AreNamed}
use Rattle.pg_engine.proofs.naming.name_queues.Given as goal

abbrev pub invariant-loop-row : goal.invariant-loop-row
invariant-loop-row l = AreNamed l.fn.routes.addresses (take l.row-index l.queues) l.routes
