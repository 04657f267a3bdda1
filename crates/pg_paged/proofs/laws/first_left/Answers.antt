use Rattle.pg_paged.proofs.Giving.{first_is, none_is_free}
use Rattle.pg_paged.proofs.laws.first_left.Goals as goal

pub returns-clause-given : goal.returns-clause-given
returns-clause-given c = λ first frames pages cursor acks txs place frame has is stands. first_is first frames pages has acks txs cursor place frame stands is

pub returns-clause-none_left : goal.returns-clause-none_left
returns-clause-none_left c = λ first last frames pages cursor acks txs has given within. none_is_free first frames pages has acks txs cursor last given within
