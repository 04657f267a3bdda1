use Rattle.std.proofs.Common.{Bool, cond, ap, sym, ◌∙◌}
use Rattle.pg_msg.specs.Messages.{weight_of}
use Rattle.pg_engine.proofs.LineLemmas.{held_beside}
use Rattle.pg_engine.proofs.lines.bytes_without.Goals as goal

pub returns-then-is_held_beside : goal.returns-then-is_held_beside
returns-then-is_held_beside c =
    sym (ap (λ (b : Bool). cond b 0 (weight_of c.args.row.now.message)) (sym (held_beside c.args.queue c.args.row.now.holders) ∙ sym c.is_held_beside.ensures ∙ c.if-is_held_beside.true))

pub returns-else-is_held_beside : goal.returns-else-is_held_beside
returns-else-is_held_beside c =
    c.weight.ensures ∙ sym (ap (λ (b : Bool). cond b 0 (weight_of c.args.row.now.message)) (sym (held_beside c.args.queue c.args.row.now.holders) ∙ sym c.is_held_beside.ensures ∙ c.if-is_held_beside.false))
