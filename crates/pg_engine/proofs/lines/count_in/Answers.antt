use Rattle.std.proofs.Common.{ℕ, min, length, Some, ap, sym, ◌∙◌, arith}
use Rattle.pg_engine.proofs.LineLemmas.{counted_in}
use Rattle.pg_engine.proofs.lines.count_in.Goals as goal

pub returns : goal.returns
returns c =
    ap (λ (n : ℕ). Some n) (c.min.ensures ∙ ap (λ (n : ℕ). min c.in_ok-count.count n) c.len.ensures)
    ∙ counted_in c.args.queue (length c.args.rows.now) c.in_ok-count.count c.args.dispatcher.now.lines (let few = c.len.type_inv in omega (arith, few, c.len.ensures)) (sym c.count.ensures ∙ c.in_ok-count.was)
