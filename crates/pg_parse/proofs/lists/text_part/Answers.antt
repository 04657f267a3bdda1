use Rattle.pg_parse.proofs.Leaves.{no_text_part}
use Rattle.pg_parse.proofs.lists.text_part.Goals as goal

pub returns-in_default : goal.returns-in_default
returns-in_default c = no_text_part c.args.words.now c.in_default.ensures
