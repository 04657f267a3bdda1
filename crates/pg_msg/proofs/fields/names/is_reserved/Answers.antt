use Rattle.pg_msg.proofs.TestLaws.{reserved_decides}
use Rattle.pg_msg.proofs.fields.names.is_reserved.Goals as goal

pub returns : goal.returns
returns c = rw c.is_one_of.ensures (reserved_decides c.args.name.now)
