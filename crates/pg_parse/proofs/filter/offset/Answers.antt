use Rattle.pg_parse.proofs.Words.{offset_some, offset_none}
use Rattle.pg_parse.proofs.filter.offset.Goals as goal

pub returns-in-Some : goal.returns-in-Some
returns-in-Some c = let h = c.in-Some.ensures.lookup in offset_some c.args.filter.now c.args.tokens.now c.args.place c.in-Some.token.now h.3.0 h.1

pub returns-in-None : goal.returns-in-None
returns-in-None c = let h = c.in-None.ensures.lookup in offset_none c.args.filter.now c.args.tokens.now c.args.place h.3
