use Rattle.std.proofs.Common.{List, ap}
use Rattle.pg_routes.specs.Names.{AddressName, QueueName}
use Rattle.pg_routes.proofs.RowLaws.{goes_last}
use Rattle.pg_routes.proofs.laws.the_greatest_goes_last.Goals as goal

pub returns-clause-address : goal.returns-clause-address
returns-clause-address c = λ routes address below.
    ap (λ (addresses : List AddressName). record routes { addresses = addresses }) (goes_last (λ row. row.id) address routes.addresses below)

pub returns-clause-queue : goal.returns-clause-queue
returns-clause-queue c = λ routes queue below.
    ap (λ (queues : List QueueName). record routes { queues = queues }) (goes_last (λ row. row.id) queue routes.queues below)
