use Rattle.pg_text.proofs.PieceLaws.{number_found, number_missed}
use Rattle.pg_text.proofs.words.number.Goals as goal

pub returns-in-Some : goal.returns-in-Some
returns-in-Some c = number_found c.args.digits.now c.in-Some.number c.in-Some.ensures.0 c.in-Some.ensures.1

pub returns-in-None : goal.returns-in-None
returns-in-None c = number_missed c.args.digits.now c.in-None.ensures
