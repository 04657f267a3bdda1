use Rattle.std.proofs.Common.{arith}
use Rattle.pg_text.proofs.CommandLaws.{reads_some, reads_none}
use Rattle.pg_text.proofs.parsing.parse_line.Goals as goal

pub returns-in-Ok : goal.returns-in-Ok
returns-in-Ok c = reads_some c.args.line.now c.in-Ok.command (omega arith) c.in-Ok.ensures

pub returns-in-Err-Malformed : goal.returns-in-Err-Malformed
returns-in-Err-Malformed c = reads_none c.args.line.now (rw c.in-Err-Malformed.field-0-is at c.in-Err-Malformed.ensures)
