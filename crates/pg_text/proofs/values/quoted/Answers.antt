use Rattle.std.proofs.Common.{sym}
use Rattle.pg_text.proofs.LoopLaws.{quoted_step, quoted_ends, quoted_open, less_left}
use Rattle.pg_text.proofs.values.quoted.Goals as goal

pub returns-in_default-behind_byte : goal.returns-in_default-behind_byte
returns-in_default-behind_byte c =
    quoted_ends c.loop-first.text c.loop-first.rest.now c.in-Some.behind.now c.args.line.now c.in-Some.first.now c.in-Some.ensures.cases.0 (sym c.in_default-behind_byte.ensures) c.loop-first.invariant

pub loop-first-smaller : goal.loop-first-smaller
loop-first-smaller c = less_left c.loop-first.rest.now c.in-Some.behind.now c.in-Some-behind_byte.more.now c.in-Some.first.now c.in-Some.ensures.cases.0 (sym c.in-Some-behind_byte.ensures)

pub loop-first-preserved : goal.loop-first-preserved
loop-first-preserved c =
    rw c.in_ok-put_u8.ensures.ok (quoted_step c.loop-first.text c.loop-first.rest.now c.in-Some.behind.now c.in-Some-behind_byte.more.now c.args.line.now c.in-Some.first.now c.in-Some.ensures.cases.0 (sym c.in-Some-behind_byte.ensures) c.loop-first.invariant)

pub returns : goal.returns
returns c = quoted_open c.loop-first.text c.loop-first.rest.now c.args.line.now c.in_default.ensures.cases c.loop-first.invariant
