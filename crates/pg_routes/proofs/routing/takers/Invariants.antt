use Rattle.std.proofs.Common.{◌≡◌, ◌++◌, drop, filter}
use Rattle.pg_routes.specs.Kept.{takes}
use Rattle.pg_routes.proofs.routing.takers.Given as goal

-- the takers so far, and those among the ids that are left, are all takers
abbrev pub invariant-loop-id : goal.invariant-loop-id
invariant-loop-id l =
    l.takers.items ++ filter (takes l.queues l.properties) (drop l.id-index l.ids) ≡ filter (takes l.queues l.properties) l.ids
