use Rattle.pg_joined.proofs.Delivering as delivering
use Rattle.pg_joined.proofs.Lifting as lifting
use Rattle.pg_joined.proofs.Sending as sending
use Rattle.pg_joined.proofs.laws.lifts.Goals as goal

pub returns-clause-refused : goal.returns-clause-refused
returns-clause-refused c = λ view s t paged flights action refusal asks acts. lifting.refused view s t paged flights action refusal asks acts

pub returns-clause-make_address : goal.returns-clause-make_address
returns-clause-make_address c = λ view s t paged flights reply name settings acts. lifting.make_address view s t paged flights reply name settings acts

pub returns-clause-make_queue : goal.returns-clause-make_queue
returns-clause-make_queue c = λ view s t paged flights reply name address filter none acts. lifting.make_queue view s t paged flights reply name address filter none acts

pub returns-clause-drop_queue : goal.returns-clause-drop_queue
returns-clause-drop_queue c = λ view s t paged flights reply name acts. lifting.drop_queue view s t paged flights reply name acts

pub returns-clause-drop_queue_and_pages : goal.returns-clause-drop_queue_and_pages
returns-clause-drop_queue_and_pages c = λ view s t paged flights name q found acts. lifting.drop_queue_and_pages view s t paged flights name q found acts

pub returns-clause-send : goal.returns-clause-send
returns-clause-send c = λ view s t paged flights reply address properties body past acts. sending.send view s t paged flights reply address properties body past acts

pub returns-clause-unrouted : goal.returns-clause-unrouted
returns-clause-unrouted c = λ view s t paged flights address properties body acts. sending.unrouted view s t paged flights address properties body acts

pub returns-clause-open_consumer : goal.returns-clause-open_consumer
returns-clause-open_consumer c = λ view s t paged flights reply name queue none acts. delivering.open_consumer view s t paged flights reply name queue none acts

pub returns-clause-receive : goal.returns-clause-receive
returns-clause-receive c = λ view s t paged flights reply consumer split some acts. delivering.receive view s t paged flights reply consumer split some acts

pub returns-clause-acknowledge : goal.returns-clause-acknowledge
returns-clause-acknowledge c = λ view s t paged flights reply consumer id split aside acts. delivering.acknowledge view s t paged flights reply consumer id split aside acts

pub returns-clause-cancel : goal.returns-clause-cancel
returns-clause-cancel c = λ view s t paged flights reply consumer id split aside acts. delivering.cancel view s t paged flights reply consumer id split aside acts

pub returns-clause-close : goal.returns-clause-close
returns-clause-close c = λ view s t paged flights reply consumer acts. delivering.close view s t paged flights reply consumer acts

pub returns-clause-count : goal.returns-clause-count
returns-clause-count c = λ view s t paged flights name q n found acts. lifting.count view s t paged flights name q n found acts
