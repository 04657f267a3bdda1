use Rattle.std.proofs.Common.{◌≡◌, ◌++◌, map, take, drop}
use Rattle.pg_model.specs.Changes.{without_id}
use Rattle.pg_plain.specs.Kept.{with_flight}
use Rattle.pg_plain.proofs.consumers.let_go_in.Given as goal

abbrev pub invariant-loop-consumer : goal.invariant-loop-consumer
invariant-loop-consumer l =
    l.consumers ≡ map (with_flight l.name (without_id l.id)) (take l.consumer-index l.fn.consumers) ++ drop l.consumer-index l.fn.consumers
