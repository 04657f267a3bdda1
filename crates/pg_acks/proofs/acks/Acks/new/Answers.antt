use Rattle.pg_acks.proofs.Seeing.{nothing_seen}
use Rattle.pg_acks.proofs.acks.Acks.new.Goals as goal

pub returns : goal.returns
returns c = nothing_seen c.new.result c.new-2.result c.new.ensures.empty c.new-2.ensures.empty
