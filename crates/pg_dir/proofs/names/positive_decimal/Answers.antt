use Rattle.std.proofs.Common.{lit<, false, true, refl, arith}
use Rattle.std.proofs.lemmas.Bool.{false≢true}
use Rattle.std.proofs.lemmas.Str.Pattern.{starts_char}
use Rattle.pg_dir.proofs.Decimals.{read_as_written}
use Rattle.pg_dir.proofs.NoNames.{none_of, begins_low, unread, no_value, out_of_range}
use Rattle.pg_dir.proofs.names.positive_decimal.Goals.{then-starts_with-via-then-starts_with, then-starts_with-via-else-starts_with+then-starts_with-2}
use Rattle.pg_dir.proofs.names.positive_decimal.Goals as goal

pub returns-clause-sound : goal.returns-clause-sound
returns-clause-sound c =
    let zero = starts_char 48 c.args.digits.now false c.if-starts_with.ensures.cases (lit< tt) (lit< tt) in
    let plus = starts_char 43 c.args.digits.now false c.if-starts_with-2.ensures.cases (lit< tt) (lit< tt) in
    read_as_written c.args.digits.now c.parse.result c.in_ok-number.number c.parse.ensures.value.0
    (λ e. false≢true (zero.1 e)) (λ e. false≢true (plus.1 e)) c.in_ok-number.ensures.value

pub returns-then-starts_with-clause-none : goal.returns-then-starts_with-clause-none
returns-then-starts_with-clause-none c = begins_low c.args.digits.now c.args.greatest (omega (arith, c.ranges.greatest.fits)) (elim c.then-starts_with.branch [
  | then-starts_with-via-then-starts_with w ↦ omega (arith, (starts_char 48 c.args.digits.now true w.if-starts_with.ensures.cases (lit< tt) (lit< tt)).0 refl)
  | then-starts_with-via-else-starts_with+then-starts_with-2 w ↦ omega (arith, (starts_char 43 c.args.digits.now true w.if-starts_with-2.ensures.cases (lit< tt) (lit< tt)).0 refl)
])

pub returns-in_err-number-clause-none : goal.returns-in_err-number-clause-none
returns-in_err-number-clause-none c = none_of c.from_residual.result (unread c.args.digits.now c.args.greatest c.parse.result (omega (arith, c.ranges.greatest.fits)) c.parse.ensures.value.0 (λ n some most. no_value c.parse.result c.in_err-number.ensures.value n))

pub returns-then-number-eq0-clause-none : goal.returns-then-number-eq0-clause-none
returns-then-number-eq0-clause-none c = unread c.args.digits.now c.args.greatest c.parse.result (omega (arith, c.ranges.greatest.fits)) c.parse.ensures.value.0 (out_of_range c.parse.result c.in_ok-number.number c.args.greatest c.in_ok-number.ensures.value c.then-number-eq0.either)
