use Rattle.std.proofs.Common.{◌∙◌, ap}
use Rattle.pg_acks.specs.Acked.{AckSets, is_single}
use Rattle.pg_acks.proofs.Seeing.{single_is}
use Rattle.pg_acks.proofs.acks.Acks.has_single.Goals as goal

pub returns : goal.returns
returns c =
    single_is c.self.inside.runs c.self.inside.pages c.args.queue c.args.position c.has_index.result c.self.invariant.singles.ordered c.has_index.ensures
    ∙ ap (λ (acks : AckSets). is_single acks c.args.queue c.args.position) c.self.view_is
