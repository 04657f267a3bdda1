use Rattle.std.proofs.Common.{◌∙◌, ap}
use Rattle.pg_acks.specs.Acked.{AckSets, is_whole}
use Rattle.pg_acks.proofs.Seeing.{whole_seen}
use Rattle.pg_acks.proofs.acks.Acks.has_page.Goals as goal

pub returns : goal.returns
returns c =
    c.contains.ensures ∙ whole_seen c.self.inside.runs c.self.inside.pages c.args.queue c.args.page
    ∙ ap (λ (acks : AckSets). is_whole acks c.args.queue c.args.page) c.self.view_is
