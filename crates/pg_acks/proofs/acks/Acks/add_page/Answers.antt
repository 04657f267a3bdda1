use Rattle.std.proofs.Common.{◌∙◌, ap, ap₂}
use Rattle.pg_acks.specs.Acked.{with_page}
use Rattle.pg_acks.proofs.Changing.{kept_taken, positions_taken, wholes_added}
use Rattle.pg_acks.proofs.Sets.{sets_of}
use Rattle.pg_acks.proofs.acks.Acks.add_page.Goals as goal

pub invariant_of-self-2 : goal.invariant_of-self-2
invariant_of-self-2 c = record {
  singles = kept_taken c.self.inside.runs c.take_page.new.runs (c.args.queue, c.args.page) c.self.invariant.singles c.take_page.ensures.ordered c.take_page.ensures.taken;
  wholes = c.in_ok-insert.ensures.ordered;
}

pub returns-clause-ok : goal.returns-clause-ok
returns-clause-ok c =
    ap₂ sets_of
    (positions_taken c.self.inside.runs c.take_page.new.runs (c.args.queue, c.args.page) c.self.invariant.singles c.take_page.ensures.ordered c.take_page.ensures.taken)
    (wholes_added c.self.inside.pages c.insert.new.self (c.args.queue, c.args.page) c.in_ok-insert.ensures.updates)
    ∙ ap (with_page c.args.queue c.args.page) c.self.view_is
