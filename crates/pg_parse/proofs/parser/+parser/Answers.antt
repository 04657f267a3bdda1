use Rattle.std.proofs.Common.{◌-◌, refl, subst, arith}
use Rattle.std.proofs.lemmas.Result.{err_from_is_err_and}
use Rattle.std.specs.Option.{option_copied}
use Rattle.pg_parse.specs.declared.word.Mark.TheVariants as marks
use Rattle.pg_parse.specs.Grammar.{OrRule, SumRule, spelled, tree_of}
use Rattle.pg_parse.specs.Parsing.{Gives, phrases}
use Rattle.pg_parse.proofs.Chains.{SoFar, so_far_start, so_far_step, so_far_end, so_far_fault, so_far_fault_next}
use Rattle.pg_parse.proofs.Phrases.{or_chain, and_chain, sum_chain, term_chain, none_next, no_sign_next, not_gives, not_fault, not_too_deep, test_answers, sign_gives, sign_fault, sign_too_deep, prim_answers, atom_answers, group_gives, group_fault, group_unclosed, group_too_deep}
use Rattle.pg_parse.proofs.Tails as tails
use Rattle.pg_parse.proofs.parser.+parser.Goals as goal

pub or_phrase-returns-in_err-tree : goal.or_phrase-returns-in_err-tree
or_phrase-returns-in_err-tree t c = let p = err_from_is_err_and c.from_residual.result c.from_residual.ensures.1 in
    rw (p.1, p.2) (so_far_fault (or_chain c.args.levels) c.args.words.now c.in_err-tree.field-0.0 c.in_err-tree.ensures)

pub or_phrase-loop-inner-init : goal.or_phrase-loop-inner-init
or_phrase-loop-inner-init t c = so_far_start (or_chain c.args.levels) c.args.words.now c.in_ok-tree.tree c.in_ok-tree.rest.now c.in_ok-tree.ensures

pub or_phrase-returns-in_err-next : goal.or_phrase-returns-in_err-next
or_phrase-returns-in_err-next t c =
    let so_far = subst (λ rest. SoFar (or_chain c.args.levels) c.args.words.now c.loop-inner.tree rest) c.in-Some.ensures c.loop-inner.invariant in
    let p = err_from_is_err_and c.from_residual-in_err-next.result c.from_residual-in_err-next.ensures.1 in
    rw (p.1, p.2) (so_far_fault_next (or_chain c.args.levels) c.args.words.now c.in-Some.inner.now c.loop-inner.tree tt c.in_err-next.field-0.0 so_far c.in_err-next.ensures)

pub or_phrase-loop-inner-preserved : goal.or_phrase-loop-inner-preserved
or_phrase-loop-inner-preserved t c =
    let so_far = subst (λ rest. SoFar (or_chain c.args.levels) c.args.words.now c.loop-inner.tree rest) c.in-Some.ensures c.loop-inner.invariant in
    rw (c.in_ok-first.ensures.0, c.in_ok-first.ensures.1) (so_far_step (or_chain c.args.levels) c.args.words.now c.in-Some.inner.now c.in_ok-next.left.now c.loop-inner.tree tt c.in_ok-next.next so_far c.in_ok-next.ensures)

pub or_phrase-returns : goal.or_phrase-returns
or_phrase-returns t c = so_far_end (or_chain c.args.levels) c.args.words.now c.loop-inner.rest.now c.loop-inner.tree c.loop-inner.invariant (none_next marks.Or c.loop-inner.rest.now c.in_default.ensures)

pub and_phrase-returns-in_err-tree : goal.and_phrase-returns-in_err-tree
and_phrase-returns-in_err-tree t c = let p = err_from_is_err_and c.from_residual.result c.from_residual.ensures.1 in
    rw (p.1, p.2) (so_far_fault (and_chain c.args.levels) c.args.words.now c.in_err-tree.field-0.0 c.in_err-tree.ensures)

pub and_phrase-loop-inner-init : goal.and_phrase-loop-inner-init
and_phrase-loop-inner-init t c = so_far_start (and_chain c.args.levels) c.args.words.now c.in_ok-tree.tree c.in_ok-tree.rest.now c.in_ok-tree.ensures

pub and_phrase-returns-in_err-next : goal.and_phrase-returns-in_err-next
and_phrase-returns-in_err-next t c =
    let so_far = subst (λ rest. SoFar (and_chain c.args.levels) c.args.words.now c.loop-inner.tree rest) c.in-Some.ensures c.loop-inner.invariant in
    let p = err_from_is_err_and c.from_residual-in_err-next.result c.from_residual-in_err-next.ensures.1 in
    rw (p.1, p.2) (so_far_fault_next (and_chain c.args.levels) c.args.words.now c.in-Some.inner.now c.loop-inner.tree tt c.in_err-next.field-0.0 so_far c.in_err-next.ensures)

pub and_phrase-loop-inner-preserved : goal.and_phrase-loop-inner-preserved
and_phrase-loop-inner-preserved t c =
    let so_far = subst (λ rest. SoFar (and_chain c.args.levels) c.args.words.now c.loop-inner.tree rest) c.in-Some.ensures c.loop-inner.invariant in
    rw (c.in_ok-first.ensures.0, c.in_ok-first.ensures.1) (so_far_step (and_chain c.args.levels) c.args.words.now c.in-Some.inner.now c.in_ok-next.left.now c.loop-inner.tree tt c.in_ok-next.next so_far c.in_ok-next.ensures)

pub and_phrase-returns : goal.and_phrase-returns
and_phrase-returns t c = so_far_end (and_chain c.args.levels) c.args.words.now c.loop-inner.rest.now c.loop-inner.tree c.loop-inner.invariant (none_next marks.And c.loop-inner.rest.now c.in_default.ensures)

pub term_phrase-returns-in_err-tree : goal.term_phrase-returns-in_err-tree
term_phrase-returns-in_err-tree t c = let p = err_from_is_err_and c.from_residual.result c.from_residual.ensures.1 in
    rw (p.1, p.2) (so_far_fault (term_chain c.args.levels) c.args.words.now c.in_err-tree.field-0.0 c.in_err-tree.ensures)

pub term_phrase-loop-inner-init : goal.term_phrase-loop-inner-init
term_phrase-loop-inner-init t c = so_far_start (term_chain c.args.levels) c.args.words.now c.in_ok-tree.tree c.in_ok-tree.rest.now c.in_ok-tree.ensures

pub term_phrase-returns-in_err-next : goal.term_phrase-returns-in_err-next
term_phrase-returns-in_err-next t c =
    let so_far = subst (λ rest. SoFar (term_chain c.args.levels) c.args.words.now c.loop-inner.tree rest) c.in-Some.ensures c.loop-inner.invariant in
    let p = err_from_is_err_and c.from_residual-in_err-next.result c.from_residual-in_err-next.ensures.1 in
    rw (p.1, p.2) (so_far_fault_next (term_chain c.args.levels) c.args.words.now c.in-Some.inner.now c.loop-inner.tree tt c.in_err-next.field-0.0 so_far c.in_err-next.ensures)

pub term_phrase-loop-inner-preserved : goal.term_phrase-loop-inner-preserved
term_phrase-loop-inner-preserved t c =
    let so_far = subst (λ rest. SoFar (term_chain c.args.levels) c.args.words.now c.loop-inner.tree rest) c.in-Some.ensures c.loop-inner.invariant in
    rw (c.in_ok-first.ensures.0, c.in_ok-first.ensures.1) (so_far_step (term_chain c.args.levels) c.args.words.now c.in-Some.inner.now c.in_ok-next.left.now c.loop-inner.tree tt c.in_ok-next.next so_far c.in_ok-next.ensures)

pub term_phrase-returns : goal.term_phrase-returns
term_phrase-returns t c = so_far_end (term_chain c.args.levels) c.args.words.now c.loop-inner.rest.now c.loop-inner.tree c.loop-inner.invariant (none_next marks.Star c.loop-inner.rest.now c.in_default.ensures)

pub sum_phrase-returns-in_err-tree : goal.sum_phrase-returns-in_err-tree
sum_phrase-returns-in_err-tree t c = let p = err_from_is_err_and c.from_residual.result c.from_residual.ensures.1 in
    rw (p.1, p.2) (so_far_fault (sum_chain c.args.levels) c.args.words.now c.in_err-tree.field-0.0 c.in_err-tree.ensures)

pub sum_phrase-loop-sign-init : goal.sum_phrase-loop-sign-init
sum_phrase-loop-sign-init t c = so_far_start (sum_chain c.args.levels) c.args.words.now c.in_ok-tree.tree c.in_ok-tree.rest.now c.in_ok-tree.ensures

pub sum_phrase-returns-in_err-next : goal.sum_phrase-returns-in_err-next
sum_phrase-returns-in_err-next t c =
    let so_far = subst (λ rest. SoFar (sum_chain c.args.levels) c.args.words.now c.loop-sign.tree rest) c.in-Some.ensures c.loop-sign.invariant in
    let p = err_from_is_err_and c.from_residual-in_err-next.result c.from_residual-in_err-next.ensures.1 in
    rw (p.1, p.2) (so_far_fault_next (sum_chain c.args.levels) c.args.words.now c.in-Some.inner.now c.loop-sign.tree c.in-Some.sign c.in_err-next.field-0.0 so_far c.in_err-next.ensures)

pub sum_phrase-loop-sign-preserved : goal.sum_phrase-loop-sign-preserved
sum_phrase-loop-sign-preserved t c =
    let so_far = subst (λ rest. SoFar (sum_chain c.args.levels) c.args.words.now c.loop-sign.tree rest) c.in-Some.ensures c.loop-sign.invariant in
    rw c.in_ok-tree-2.ensures (so_far_step (sum_chain c.args.levels) c.args.words.now c.in-Some.inner.now c.in_ok-next.left.now c.loop-sign.tree c.in-Some.sign c.in_ok-next.next so_far c.in_ok-next.ensures)

pub sum_phrase-returns : goal.sum_phrase-returns
sum_phrase-returns t c = so_far_end (sum_chain c.args.levels) c.args.words.now c.loop-sign.rest.now c.loop-sign.tree c.loop-sign.invariant (no_sign_next c.loop-sign.rest.now c.in_default.ensures)

pub not_phrase-returns-in_default : goal.not_phrase-returns-in_default
not_phrase-returns-in_default t c = test_answers c.args.levels c.args.words.now c.in_default.ensures (λ x. x.0) (λ x. x.1.now) c.test_phrase.result c.test_phrase.ensures

pub not_phrase-returns-then-levels-eq0 : goal.not_phrase-returns-then-levels-eq0
not_phrase-returns-then-levels-eq0 t c = rw c.in-Some.ensures (not_too_deep c.args.levels c.in-Some.inner.now c.if-levels-eq0.true)

pub not_phrase-returns-in_err-tree : goal.not_phrase-returns-in_err-tree
not_phrase-returns-in_err-tree t c = let p = err_from_is_err_and c.from_residual.result c.from_residual.ensures.1 in
    rw (p.1, p.2) (rw c.in-Some.ensures (not_fault c.args.levels c.in-Some.inner.now c.in_err-tree.field-0.0 (omega arith) c.in_err-tree.ensures))

pub not_phrase-returns : goal.not_phrase-returns
not_phrase-returns t c = rw (c.in_ok-inverted.ensures, c.in-Some.ensures) (not_gives c.args.levels c.in-Some.inner.now c.in_ok-tree.tree c.in_ok-tree.rest.now (omega arith) c.in_ok-tree.ensures)

pub unary_phrase-returns-in_default : goal.unary_phrase-returns-in_default
unary_phrase-returns-in_default t c = prim_answers c.args.levels c.args.words.now c.in_default.ensures (λ x. x.0) (λ x. x.1.now) c.prim_phrase.result c.prim_phrase.ensures

pub unary_phrase-returns-then-levels-eq0 : goal.unary_phrase-returns-then-levels-eq0
unary_phrase-returns-then-levels-eq0 t c = rw c.in-Some.ensures (sign_too_deep c.args.levels c.in-Some.sign c.in-Some.inner.now c.if-levels-eq0.true)

pub unary_phrase-returns-in_err-tree : goal.unary_phrase-returns-in_err-tree
unary_phrase-returns-in_err-tree t c = let p = err_from_is_err_and c.from_residual.result c.from_residual.ensures.1 in
    rw (p.1, p.2) (rw c.in-Some.ensures (sign_fault c.args.levels c.in-Some.sign c.in-Some.inner.now c.in_err-tree.field-0.0 (omega arith) c.in_err-tree.ensures))

pub unary_phrase-returns : goal.unary_phrase-returns
unary_phrase-returns t c = rw (c.in_ok-signed.ensures, c.in-Some.ensures) (sign_gives c.args.levels c.in-Some.sign c.in-Some.inner.now c.in_ok-tree.tree c.in_ok-tree.rest.now (omega arith) c.in_ok-tree.ensures)

pub prim_phrase-returns-in_default : goal.prim_phrase-returns-in_default
prim_phrase-returns-in_default t c = atom_answers c.args.levels c.args.words.now c.in_default.ensures (λ x. x.0) (λ x. x.1.now) c.atom.result c.atom.ensures

pub prim_phrase-returns-then-levels-eq0 : goal.prim_phrase-returns-then-levels-eq0
prim_phrase-returns-then-levels-eq0 t c = rw c.in-Some.ensures (group_too_deep c.args.levels c.in-Some.inner.now c.if-levels-eq0.true)

pub prim_phrase-returns-in_err-tree : goal.prim_phrase-returns-in_err-tree
prim_phrase-returns-in_err-tree t c = let p = err_from_is_err_and c.from_residual.result c.from_residual.ensures.1 in
    rw (p.1, p.2) (rw c.in-Some.ensures (group_fault c.args.levels c.in-Some.inner.now c.in_err-tree.field-0.0 (omega arith) c.in_err-tree.ensures))

pub prim_phrase-returns-in-Some-behind : goal.prim_phrase-returns-in-Some-behind
prim_phrase-returns-in-Some-behind t c =
    let inside = subst (λ rest. Gives (phrases OrRule (c.args.levels - 1)) (λ p. tree_of p) c.in-Some.inner.now c.in_ok-tree.tree rest) c.in-Some-behind.ensures c.in_ok-tree.ensures in
    rw c.in-Some.ensures (group_gives c.args.levels c.in-Some.inner.now c.in_ok-tree.tree c.in-Some-behind.left.now (omega arith) inside)

pub prim_phrase-returns-in-None : goal.prim_phrase-returns-in-None
prim_phrase-returns-in-None t c = rw c.in-Some.ensures (group_unclosed c.args.levels c.in-Some.inner.now c.in_ok-tree.tree c.in_ok-tree.rest.now (omega arith) c.in-None.ensures c.in_ok-tree.ensures)

pub test_phrase-returns-in_err-head : goal.test_phrase-returns-in_err-head
test_phrase-returns-in_err-head t c = let p = err_from_is_err_and c.from_residual.result c.from_residual.ensures.1 in
    rw (p.1, p.2) (tails.head_fault c.args.levels c.args.words.now c.in_err-head.field-0.0 c.in_err-head.ensures)

pub test_phrase-lone_name-name-requires : goal.test_phrase-lone_name-name-requires
test_phrase-lone_name-name-requires t c = (spelled c.in_ok-head.ensures.part, c.in_ok-head.ensures.read.split)

pub test_phrase-returns : goal.test_phrase-returns
test_phrase-returns t c = tails.test_head c.args.levels (option_copied c.lone_name-name.result) c.args.words.now c.in_ok-head.rest.now c.in_ok-head.head c.in_ok-head.ensures c.lone_name-name.ensures (λ x. x.0) (λ x. x.1.now) c.tail.result c.tail.ensures

pub range-returns-in_err-low : goal.range-returns-in_err-low
range-returns-in_err-low t c = let p = err_from_is_err_and c.from_residual.result c.from_residual.ensures.1 in
    rw (p.1, p.2) (tails.range_fault c.args.levels c.args.words.now c.in_err-low.field-0.0 c.in_err-low.ensures)

pub range-returns-in_default : goal.range-returns-in_default
range-returns-in_default t c = tails.range_without c.args.levels c.args.words.now c.in_ok-low.low c.in_ok-low.rest.now c.in_ok-low.ensures c.in_default.ensures

pub range-returns-in_err-high : goal.range-returns-in_err-high
range-returns-in_err-high t c =
    let before = subst (λ rest. Gives (phrases SumRule c.args.levels) (λ p. tree_of p) c.args.words.now c.in_ok-low.low rest) c.in-Some.ensures c.in_ok-low.ensures in
    let p = err_from_is_err_and c.from_residual-in_err-high.result c.from_residual-in_err-high.ensures.1 in
    rw (p.1, p.2) (tails.range_fault_next c.args.levels c.args.words.now c.in_ok-low.low c.in-Some.inner.now c.in_err-high.field-0.0 before c.in_err-high.ensures)

pub range-returns : goal.range-returns
range-returns t c =
    let before = subst (λ rest. Gives (phrases SumRule c.args.levels) (λ p. tree_of p) c.args.words.now c.in_ok-low.low rest) c.in-Some.ensures c.in_ok-low.ensures in
    tails.range_gives c.args.levels c.args.words.now c.in_ok-low.low c.in_ok-high.high c.in-Some.inner.now c.in_ok-high.left.now before c.in_ok-high.ensures

pub form-returns-in_err-low : goal.form-returns-in_err-low
form-returns-in_err-low t c = let p = err_from_is_err_and c.from_residual.result c.from_residual.ensures.1 in
    rw (p.1, p.2) (rw c.in-Some.ensures (tails.between_fault (option_copied c.args.name) c.args.levels c.in-Some.inner.now c.in_err-low.field-0.0 c.in_err-low.ensures))

pub form-returns-in-Some : goal.form-returns-in-Some
form-returns-in-Some t c = rw (c.in_ok-new.ensures, c.in_ok-first.ensures.0, c.in_ok-first.ensures.1, c.in-Some.ensures)
    (tails.between_gives (option_copied c.args.name) c.args.levels c.args.head c.in-Some.inner.now (c.in_ok-low.low, c.in_ok-low.high) c.in_ok-low.rest.now c.in_ok-low.ensures)

pub form-returns : goal.form-returns
form-returns t c = c.named_form.ensures c.args.levels c.args.head

pub tail-returns-in_err-tree : goal.tail-returns-in_err-tree
tail-returns-in_err-tree t c = let p = err_from_is_err_and c.from_residual.result c.from_residual.ensures.1 in
    rw (p.1, p.2) (rw c.in-Some.ensures (tails.not_fault (option_copied c.args.name) c.args.levels c.in-Some.inner.now c.in_err-tree.field-0.0 c.in_err-tree.ensures))

pub tail-returns-in-Some : goal.tail-returns-in-Some
tail-returns-in-Some t c = rw (c.in_ok-inverted.ensures, c.in-Some.ensures) (tails.not_gives (option_copied c.args.name) c.args.levels c.args.head c.in-Some.inner.now c.in_ok-tree.tree c.in_ok-tree.rest.now c.in_ok-tree.ensures)

pub tail-returns-in_err-right : goal.tail-returns-in_err-right
tail-returns-in_err-right t c = let p = err_from_is_err_and c.from_residual-in_err-right.result c.from_residual-in_err-right.ensures.1 in
    rw (p.1, p.2) (rw c.in-Some-comparison_next.ensures (tails.compared_fault (option_copied c.args.name) c.args.levels c.in-Some-comparison_next.op c.in-Some-comparison_next.inner.now c.in_err-right.field-0.0 c.in_err-right.ensures))

pub tail-returns-in-Some-comparison_next : goal.tail-returns-in-Some-comparison_next
tail-returns-in-Some-comparison_next t c = rw (c.in_ok-first.ensures.0, c.in_ok-first.ensures.1, c.in-Some-comparison_next.ensures)
    (tails.compared_gives (option_copied c.args.name) c.args.levels c.args.head c.in-Some-comparison_next.op c.in-Some-comparison_next.inner.now c.in_ok-right.right c.in_ok-right.rest.now c.in_ok-right.ensures)

pub tail-returns-then-begins_form : goal.tail-returns-then-begins_form
tail-returns-then-begins_form t c = tails.form_answers (option_copied c.args.name) c.args.levels c.args.head c.args.words.now (c.if-begins_form.ensures.0 refl)
    (λ x. x.0) (λ x. x.1.now) c.form-then-begins_form.result c.form-then-begins_form.ensures

pub tail-returns : goal.tail-returns
tail-returns t c = c.null_tail.ensures c.args.levels
