use Rattle.std.proofs.Common.{◌+◌, sym, ◌∙◌, arith}
use Rattle.std.specs.Char.{is_ascii_digit}
use Rattle.pg_lex.proofs.Runs.{Each-more}
use Rattle.pg_lex.proofs.WholeLemmas.{value_of-more, too_great, no_digit}
use Rattle.pg_lex.proofs.wholes.number_of.Goals as goal

pub returns-then-not-is_ascii_digit : goal.returns-then-not-is_ascii_digit
returns-then-not-is_ascii_digit c = no_digit c.args.digits.now c.loop-digit.digit-index c.loop-digit-test.true (sym c.is_ascii_digit.ensures.value ∙ c.if-not-is_ascii_digit.true)

pub returns-then-next-gt-GREATEST : goal.returns-then-next-gt-GREATEST
returns-then-next-gt-GREATEST c =
    let more = value_of-more c.args.digits.now c.loop-digit.digit-index c.loop-digit-test.true in
    too_great c.args.digits.now (c.loop-digit.digit-index + 1) (omega (arith, more, c.loop-digit.invariant.value))

pub loop-digit-preserved : goal.loop-digit-preserved
loop-digit-preserved c =
    let more = value_of-more c.args.digits.now c.loop-digit.digit-index c.loop-digit-test.true in
    record {
      digits = Each-more is_ascii_digit c.args.digits.now c.loop-digit.digit-index c.loop-digit-test.true c.loop-digit.invariant.digits (sym c.is_ascii_digit.ensures.value ∙ c.if-not-is_ascii_digit.false);
      value = omega (arith, more, c.loop-digit.invariant.value);
      small = omega arith;
    }
