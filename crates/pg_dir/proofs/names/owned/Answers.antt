use Rattle.std.proofs.Common.{◌≡◌, ◌∙◌, lit<, Some, sym}
use Rattle.std.proofs.lemmas.Bool.{not-false, not-true, false≢true}
use Rattle.std.proofs.lemmas.Slice.Eq.{bytes_eq-Decides}
use Rattle.std.proofs.lemmas.Str.Pattern.{split_parts}
use Rattle.pg_dir.proofs.Decimals.{number_given}
use Rattle.pg_dir.proofs.NoNames.{none_of, no_sign, no_dot, other_ending, no_owner, no_number}
use Rattle.pg_dir.proofs.names.owned.Goals as goal

pub returns-clause-sound : goal.returns-clause-sound
returns-clause-sound c =
    let first = split_parts 45 c.args.text.now (Some (c.in_ok-owner.owner, c.in_ok-owner.rest)) c.in_ok-owner.ensures.cases (lit< tt) in
    let second = split_parts 46 c.in_ok-owner.rest.now (Some (c.in_ok-number.number, c.in_ok-number.found)) c.in_ok-number.ensures.cases (lit< tt) in
    let ends : c.in_ok-number.found.now ≡ c.args.ending.now = (bytes_eq-Decides c.in_ok-number.found.now c.args.ending.now).0 (not-false _ (sym c.if-ne.ensures)) in
    let kept : c.in_ok-ok.field-0 ≡ c.in_ok-positive_decimal.field-0 = number_given c.try_from.result _ c.in_ok-ok.field-0 c.in_ok-positive_decimal.field-0 c.try_from.ensures c.in_ok-ok.ensures.value in
    cc (first.0, second.0, ends, kept, c.in_ok-positive_decimal.ensures.sound, c.in_ok-positive_decimal-2.ensures.sound)

pub returns-in_err-owner-clause-none : goal.returns-in_err-owner-clause-none
returns-in_err-owner-clause-none c = none_of c.from_residual.result (no_sign c.args.ending.now c.args.text.now c.in_err-owner.ensures.cases)

pub returns-in_err-number-clause-none : goal.returns-in_err-number-clause-none
returns-in_err-number-clause-none c = none_of c.from_residual-in_err-number.result
    (no_dot c.args.ending.now c.args.text.now c.in_ok-owner.owner c.in_ok-owner.rest c.in_ok-owner.ensures.cases c.in_err-number.ensures.cases)

pub returns-then-ne-clause-none : goal.returns-then-ne-clause-none
returns-then-ne-clause-none c = other_ending c.args.ending.now c.args.text.now c.in_ok-owner.owner c.in_ok-owner.rest c.in_ok-number.number c.in_ok-number.found c.in_ok-owner.ensures.cases c.in_ok-number.ensures.cases
    (λ e. false≢true (sym (not-true _ (sym c.if-ne.ensures)) ∙ (bytes_eq-Decides c.in_ok-number.found.now c.args.ending.now).1 e))

pub returns-in_err-positive_decimal-clause-none : goal.returns-in_err-positive_decimal-clause-none
returns-in_err-positive_decimal-clause-none c = none_of c.from_residual-in_err-positive_decimal.result
    (no_owner c.args.ending.now c.args.text.now c.in_ok-owner.owner c.in_ok-owner.rest c.in_ok-owner.ensures.cases c.in_err-positive_decimal.ensures.none)

pub returns-in_err-positive_decimal-2-clause-none : goal.returns-in_err-positive_decimal-2-clause-none
returns-in_err-positive_decimal-2-clause-none c = none_of c.from_residual-in_err-positive_decimal-2.result
    (no_number c.args.ending.now c.args.text.now c.in_ok-owner.owner c.in_ok-owner.rest c.in_ok-number.number c.in_ok-number.found c.in_ok-owner.ensures.cases c.in_ok-number.ensures.cases c.in_err-positive_decimal-2.ensures.none)
