use Rattle.pg_lex.proofs.FirstToken.{digits_read, no_whole}
use Rattle.pg_lex.proofs.first_token.read_whole.Goals as goal

pub returns-in-Some : goal.returns-in-Some
returns-in-Some c =
    let run = digits_read c.args.rest.now c.digits_len-length.result c.requires.some c.requires.digit c.digits_len-length.ensures in
    (run.0, (c.in-Some.ensures.0, run.2))

pub returns-in-None : goal.returns-in-None
returns-in-None c = no_whole c.args.rest.now c.digits_len-length.result c.requires.some c.requires.digit c.digits_len-length.ensures c.in-None.ensures
