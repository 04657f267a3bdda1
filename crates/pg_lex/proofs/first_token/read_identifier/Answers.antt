use Rattle.pg_lex.proofs.FirstToken.{identifier_read}
use Rattle.pg_lex.proofs.first_token.read_identifier.Goals as goal

pub returns-in-Some : goal.returns-in-Some
returns-in-Some c =
    let run = identifier_read c.args.rest.now c.identifier_len-length.result c.requires.some c.requires.begins c.identifier_len-length.ensures in
    (run.0, (run.1, (c.in-Some.field-0, c.in-Some.ensures), run.2))

pub returns-in-None : goal.returns-in-None
returns-in-None c =
    let run = identifier_read c.args.rest.now c.identifier_len-length.result c.requires.some c.requires.begins c.identifier_len-length.ensures in
    (run.0, (run.1, λ (word, is). c.in-None.ensures word is, run.2))
