use Rattle.std.proofs.Common.{◌∙◌, ap, ◌==◌}
use Rattle.std.specs.List.{list_any}
use Rattle.pg_dispatch.specs.Dispatch.{Dispatch}
use Rattle.pg_dispatch.proofs.Seen.{consumed_seen}
use Rattle.pg_dispatch.proofs.dispatcher.Dispatcher.is_consumed.Goals as goal

pub returns : goal.returns
returns c =
    c.is_consumed.ensures
    ∙ consumed_seen c.args.queue c.self.inside.consumers
    ∙ ap (λ (d : Dispatch). list_any (λ consumer. consumer.queue == c.args.queue) d.consumers) c.self.view_is
