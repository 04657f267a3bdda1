use Rattle.pg_text.proofs.CommandLaws.{one_command}
use Rattle.pg_text.proofs.parsing.one_command.Goals as goal

pub returns : goal.returns
returns c = one_command
