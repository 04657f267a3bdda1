use Rattle.std.proofs.Common.{◌∙◌, ap, sym, arith}
use Rattle.std.proofs.lemmas.Bool.{both_ways}
use Rattle.pg_acks.specs.Acked.{AckSets, any_acknowledged}
use Rattle.pg_acks.proofs.Changing.{any_covered, any_whole, none_acknowledged}
use Rattle.pg_acks.proofs.Seeing.{whole_seen}
use Rattle.pg_acks.proofs.acks.Acks.has_any.Goals as goal

pub returns-then-to-from : goal.returns-then-to-from
returns-then-to-from c = sym (none_acknowledged c.args.self.now c.args.queue c.args.page c.args.from c.args.to c.if-to-from.true)

pub returns-then-has_between : goal.returns-then-has_between
returns-then-has_between c =
    let inside = c.self.inside in
    c.if-has_between.true
    ∙ sym (any_covered inside.runs inside.pages c.args.queue c.args.page c.args.from c.args.to (c.has_between.ensures.0 c.if-has_between.true))
    ∙ ap (λ (acks : AckSets). any_acknowledged acks c.args.queue c.args.page c.args.from c.args.to) c.self.view_is

pub returns-else-has_between : goal.returns-else-has_between
returns-else-has_between c =
    let inside = c.self.inside in
    c.contains.ensures ∙ whole_seen inside.runs inside.pages c.args.queue c.args.page
    ∙ any_whole inside.runs inside.pages c.args.queue c.args.page c.args.from c.args.to c.self.invariant.singles.ordered (omega (arith, c.if-to-from.false))
    (λ any. both_ways c.has_between.result c.if-has_between.false (c.has_between.ensures.1 any))
    ∙ ap (λ (acks : AckSets). any_acknowledged acks c.args.queue c.args.page c.args.from c.args.to) c.self.view_is
