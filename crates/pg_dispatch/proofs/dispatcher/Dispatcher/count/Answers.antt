use Rattle.std.proofs.Common.{◌∙◌, ap, sym, length, ◌-◌, ◌^◌}
use Rattle.std.specs.Prelude.{option_map, min}
use Rattle.pg_dispatch.specs.Dispatch.{Dispatch, Line, line_of}
use Rattle.pg_dispatch.proofs.Seen.{count_seen}
use Rattle.pg_dispatch.proofs.dispatcher.Dispatcher.count.Goals as goal

pub returns : goal.returns
returns c =
    c.count.ensures.count
    ∙ sym (count_seen c.args.queue c.self.inside.queues)
    ∙ ap (λ (d : Dispatch). option_map (λ (line : Line). min (length line.ids) (2 ^ 64 - 1)) (line_of c.args.queue d.lines)) c.self.view_is
