use Rattle.std.proofs.Common.{nat_lt}
use Rattle.std.specs.Prelude.{filter}
use Rattle.std.specs.Str.{bytes_eq}
use Rattle.pg_routes.proofs.RowLaws.{first_behind, itself}
use Rattle.pg_routes.proofs.laws.found_by_name.Goals as goal

pub returns-clause-address : goal.returns-clause-address
returns-clause-address c = λ routes address none.
    first_behind (λ row. bytes_eq address.name row.name) (λ row. nat_lt row.id address.id) (λ row. row.id) address routes.addresses (filter (λ row. nat_lt address.id row.id) routes.addresses) none (itself address.name)

pub returns-clause-queue : goal.returns-clause-queue
returns-clause-queue c = λ routes queue none.
    first_behind (λ row. bytes_eq queue.name row.name) (λ row. nat_lt row.id queue.id) (λ row. row.id) queue routes.queues (filter (λ row. nat_lt queue.id row.id) routes.queues) none (itself queue.name)
