use Rattle.pg_msg.proofs.MessageLaws.{message_once}
use Rattle.pg_msg.proofs.decoding.prefix_free.Goals as goal

pub returns : goal.returns
returns c = message_once
