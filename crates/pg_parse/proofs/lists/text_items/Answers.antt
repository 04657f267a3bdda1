use Rattle.std.proofs.Common.{◌≡◌, ◌∷◌, ◌++◌, [], ◌∙◌, ap, subst}
use Rattle.std.proofs.lemmas.Result.{err_from_is_err_and}
use Rattle.pg_parse.specs.declared.word.Mark.TheVariants as marks
use Rattle.pg_parse.proofs.Chains.{SoFar, so_far_start, so_far_step, so_far_end, so_far_fault, so_far_fault_next}
use Rattle.pg_parse.proofs.Leaves.{item_chain, no_mark}
use Rattle.pg_parse.proofs.lists.text_items.Goals as goal

pub returns-in_err-first : goal.returns-in_err-first
returns-in_err-first c = let p = err_from_is_err_and c.from_residual.result c.from_residual.ensures.1 in rw (p.1, p.2) (so_far_fault item_chain c.args.words.now c.in_err-first.field-0.0 c.in_err-first.ensures)

pub loop-inner-init : goal.loop-inner-init
loop-inner-init c =
    let e : c.push.new.self ≡ c.in_ok-first.first ∷ [] = c.in_ok-push.ensures.ok ∙ ap (λ texts. texts ++ (c.in_ok-first.first ∷ [])) c.new-texts.ensures in
    rw e (so_far_start item_chain c.args.words.now c.in_ok-first.first c.in_ok-first.rest.now c.in_ok-first.ensures)

pub returns-in_err-text : goal.returns-in_err-text
returns-in_err-text c =
    let so_far = subst (λ rest. SoFar item_chain c.args.words.now c.loop-inner.texts rest) c.in-Some.ensures c.loop-inner.invariant in
    let p = err_from_is_err_and c.from_residual-in_err-text.result c.from_residual-in_err-text.ensures.1 in
    rw (p.1, p.2) (so_far_fault_next item_chain c.args.words.now c.in-Some.inner.now c.loop-inner.texts tt c.in_err-text.field-0.0 so_far c.in_err-text.ensures)

pub loop-inner-preserved : goal.loop-inner-preserved
loop-inner-preserved c =
    let so_far = subst (λ rest. SoFar item_chain c.args.words.now c.loop-inner.texts rest) c.in-Some.ensures c.loop-inner.invariant in
    rw c.in_ok-push-2.ensures.ok (so_far_step item_chain c.args.words.now c.in-Some.inner.now c.in_ok-text.left.now c.loop-inner.texts tt c.in_ok-text.text so_far c.in_ok-text.ensures)

pub returns : goal.returns
returns c = so_far_end item_chain c.args.words.now c.loop-inner.rest.now c.loop-inner.texts c.loop-inner.invariant (λ o more agree. no_mark marks.Comma c.loop-inner.rest.now more c.in_default.ensures agree)
