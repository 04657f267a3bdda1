use Rattle.std.proofs.Common.{◌≡◌, take}
use Rattle.pg_engine.proofs.NamingLemmas.{addresses_alone}
use Rattle.pg_engine.proofs.naming.named_routes.Given as goal

abbrev pub invariant-loop-row : goal.invariant-loop-row
invariant-loop-row l = l.routes ≡ addresses_alone (take l.row-index l.addresses)
