use Rattle.std.proofs.Common.{◌∙◌, ap, ap₂}
use Rattle.std.specs.FinSet as set
use Rattle.pg_acks.specs.Acked.{without_queue}
use Rattle.pg_acks.specs.Kept.{positions_of}
use Rattle.pg_acks.proofs.Changing.{kept_dropped, positions_dropped, wholes_dropped}
use Rattle.pg_acks.proofs.Sets.{sets_of}
use Rattle.pg_acks.proofs.acks.Acks.drop_queue.Goals as goal

pub invariant_of-self : goal.invariant_of-self
invariant_of-self c = record {
  singles = kept_dropped c.self.inside.runs c.drop_runs.new.runs c.args.queue c.self.invariant.singles c.drop_runs.ensures.ordered c.drop_runs.ensures.left;
  wholes = c.drop_pages.ensures.ordered;
}

pub returns : goal.returns
returns c =
    ap₂ sets_of
    (ap positions_of c.drop_runs.ensures.left ∙ positions_dropped c.args.queue c.self.inside.runs.entries)
    (ap set.from_list c.drop_pages.ensures.left ∙ wholes_dropped c.args.queue c.self.inside.pages.keys)
    ∙ ap (without_queue c.args.queue) c.self.view_is
