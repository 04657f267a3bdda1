use Rattle.pg_joined.proofs.Paging as paging
use Rattle.pg_joined.proofs.Sending.{send_behind}
use Rattle.pg_joined.proofs.laws.steps_in_pages.Goals as goal

pub returns-clause-receive : goal.returns-clause-receive
returns-clause-receive c = λ view s paged flights name consumer q m split found of none first. paging.receive view s paged flights name consumer q m split found of none first

pub returns-clause-nothing_left : goal.returns-clause-nothing_left
returns-clause-nothing_left c = λ view s paged flights name consumer q split found of none first. paging.nothing_left view s paged flights name consumer q split found of none first

pub returns-clause-acknowledge : goal.returns-clause-acknowledge
returns-clause-acknowledge c = λ view s paged flights name id consumer split found its. paging.acknowledge view s paged flights name id consumer split found its

pub returns-clause-cancel : goal.returns-clause-cancel
returns-clause-cancel c = λ view s paged flights name id consumer split found its. paging.cancel view s paged flights name id consumer split found its

pub returns-clause-send : goal.returns-clause-send
returns-clause-send c = λ view s paged flights address properties body id numbers first named routed some. send_behind view s paged flights address properties body id numbers first named routed some
