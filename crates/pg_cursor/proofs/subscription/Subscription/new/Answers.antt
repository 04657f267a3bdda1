use Rattle.pg_cursor.proofs.FirstPage.{begins}
use Rattle.pg_cursor.proofs.subscription.Subscription.new.Goals as goal

pub returns-clause-tracks : goal.returns-clause-tracks
returns-clause-tracks c = λ acks txs pages. begins c.args.first pages c.args.queue c.args.address acks txs c.new.result c.new-2.result c.new.ensures c.new-2.ensures
