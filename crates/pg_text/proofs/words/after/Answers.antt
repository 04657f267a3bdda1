use Rattle.pg_text.proofs.PieceLaws.{behind_found}
use Rattle.pg_text.proofs.words.after.Goals as goal

pub returns : goal.returns
returns c = behind_found c.args.keyword.now c.args.line.now c.strip_prefix.result c.strip_prefix.ensures.cases
