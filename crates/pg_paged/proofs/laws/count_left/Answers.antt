use Rattle.pg_paged.proofs.Counting.{count_is}
use Rattle.pg_paged.proofs.laws.count_left.Goals as goal

pub returns : goal.returns
returns c = λ first last count frames pages cursor acks txs has within counted. count_is first last frames pages has cursor acks txs within count counted
