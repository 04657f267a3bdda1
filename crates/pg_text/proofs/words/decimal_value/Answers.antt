use Rattle.std.proofs.Common.{◌≡◌, sym, ◌∙◌, subst, refl}
use Rattle.std.specs.Str.{IsUtf8}
use Rattle.pg_text.specs.Reading.{BeginsAsNumber}
use Rattle.pg_text.proofs.NumeralLemmas.{BeginsAsNumber-decimal, parse_decimal, IsUtf8-decimal, not_utf8, utf8_bytes}
use Rattle.pg_text.proofs.words.decimal_value.Goals as goal

pub returns-then-not-begins_as_number : goal.returns-then-not-begins_as_number
returns-then-not-begins_as_number c = λ number fits same.
    let tested = c.if-not-begins_as_number.ensures.1 (subst BeginsAsNumber (sym same) (BeginsAsNumber-decimal number fits)) in cc

pub returns-in_err-ok : goal.returns-in_err-ok
returns-in_err-ok c =
    rw c.from_residual.ensures
    (λ number fits same.
    not_utf8 c.args.digits.now _ _ c.from_utf8.result (sym c.ok.ensures.value ∙ c.in_err-ok.was) c.from_utf8.ensures.cases
    (subst IsUtf8 (sym same) (IsUtf8-decimal number fits)))

pub returns : goal.returns
returns c =
    let same : c.in_ok-ok.field-0.now ≡ c.args.digits.now =
    utf8_bytes c.args.digits.now _ c.from_utf8.result c.in_ok-ok.field-0 c.in_ok-ok.ensures.value c.from_utf8.ensures.cases in
    rw c.ok-2.ensures.value
    (parse_decimal c.args.digits.now c.parse.result (c.if-not-begins_as_number.ensures.0 refl) (rw same at c.parse.ensures.value.0))
