use Rattle.std.proofs.Common.{subst}
use Rattle.pg_parse.proofs.Words.{SaidSoFar, said_none, said_more}
use Rattle.pg_parse.proofs.wording.words_of.Goals as goal

pub loop-token-init : goal.loop-token-init
loop-token-init c = rw c.new-words.ensures.items (said_none c.args.filter.now c.args.tokens.now c.requires)

pub loop-token-preserved : goal.loop-token-preserved
loop-token-preserved c =
    let so_far = subst (λ rest. SaidSoFar c.args.filter.now c.args.tokens.now rest c.loop-token.words.items) c.in-Some.ensures.cases.0 c.loop-token.invariant in
    rw c.in_ok-push.ensures.items (said_more c.args.filter.now c.args.tokens.now c.in-Some.token.now c.in-Some.behind.now c.loop-token.words.items c.in_ok-word_of.field-0 so_far c.in_ok-word_of.ensures)
