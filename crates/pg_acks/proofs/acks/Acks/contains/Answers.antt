use Rattle.std.proofs.Common.{◌≡◌, ◌∙◌, ap, arith}
use Rattle.std.proofs.lemmas.Grind.{common_steps}
use Rattle.pg_acks.specs.Acked.{AckSets, is_acknowledged, is_whole}
use Rattle.pg_acks.specs.Kept.{seen}
use Rattle.pg_acks.proofs.Seeing.{single_is, whole_seen}
use Rattle.pg_acks.proofs.acks.Acks.contains.Goals as goal

pub returns-then-has_index : goal.returns-then-has_index
returns-then-has_index c =
    let inside = c.self.inside in
    let single = single_is inside.runs inside.pages c.args.queue c.args.position c.has_index.result c.self.invariant.singles.ordered c.has_index.ensures in
    let all : c.has_index.result ≡ is_acknowledged (seen inside.runs inside.pages) c.args.queue c.args.position = grind (arith, common_steps, single, c.if-has_index.true) in
    all ∙ ap (λ (acks : AckSets). is_acknowledged acks c.args.queue c.args.position) c.self.view_is

pub returns-else-has_index : goal.returns-else-has_index
returns-else-has_index c =
    let inside = c.self.inside in
    let single = single_is inside.runs inside.pages c.args.queue c.args.position c.has_index.result c.self.invariant.singles.ordered c.has_index.ensures in
    let whole : c.contains.result ≡ is_whole (seen inside.runs inside.pages) c.args.queue c.args.position.page = c.contains.ensures ∙ whole_seen inside.runs inside.pages c.args.queue c.args.position.page in
    let all : c.contains.result ≡ is_acknowledged (seen inside.runs inside.pages) c.args.queue c.args.position = grind (arith, common_steps, single, whole, c.if-has_index.false) in
    all ∙ ap (λ (acks : AckSets). is_acknowledged acks c.args.queue c.args.position) c.self.view_is
