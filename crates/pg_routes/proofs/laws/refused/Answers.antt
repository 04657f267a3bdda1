use Rattle.pg_msg.specs.declared.reply.Reply.TheVariants as answer
use Rattle.pg_model.specs.Steps.{asked}
use Rattle.pg_routes.proofs.Refusing.{quiet_acts, quiet_takes, quiet_no, quiet_unrouted, quiet_empty, quiet_count}
use Rattle.pg_routes.proofs.laws.refused.Goals as goal

pub returns-clause-no : goal.returns-clause-no
returns-clause-no c = λ view s t item refusal step. quiet_takes view s t (asked item) (answer.No refusal) (quiet_no refusal) step

pub returns-clause-unrouted : goal.returns-clause-unrouted
returns-clause-unrouted c = λ view s t item step. quiet_takes view s t (asked item) answer.Unrouted quiet_unrouted step

pub returns-clause-empty : goal.returns-clause-empty
returns-clause-empty c = λ view s t item step. quiet_takes view s t (asked item) answer.Empty quiet_empty step

pub returns-clause-count : goal.returns-clause-count
returns-clause-count c = λ view s t item n step. quiet_takes view s t (asked item) (answer.Count n) (quiet_count n) step

pub returns-clause-acts : goal.returns-clause-acts
returns-clause-acts c = λ view s t action refusal acts. quiet_acts view s t action (answer.No refusal) (quiet_no refusal) acts
