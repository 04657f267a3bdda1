use Rattle.pg_lex.proofs.QuoteLemmas.{open_start, open_other, open_quote, open_none}
use Rattle.pg_lex.proofs.quotes.quoted_len.Goals as goal

pub loop-at-init : goal.loop-at-init
loop-at-init c = open_start c.args.rest.now c.requires.some c.requires.quote

pub loop-at-preserved-then-rest-at-ne39 : goal.loop-at-preserved-then-rest-at-ne39
loop-at-preserved-then-rest-at-ne39 c = open_other c.args.rest.now c.loop-at.at c.loop-at.invariant c.loop-at-test.true c.if-rest-at-ne39.true

pub loop-at-preserved : goal.loop-at-preserved
loop-at-preserved c = open_quote c.args.rest.now c.loop-at.at c.loop-at.invariant c.if-at-rest.true c.if-rest-at-ne39.false c.if-rest-at-eq39.true

pub returns : goal.returns
returns c = open_none c.args.rest.now c.loop-at.at c.loop-at.invariant c.loop-at-test.false
