use Rattle.pg_disk.proofs.Effects.{honest}
use Rattle.pg_disk.proofs.memory_site.MemSite.new.Goals as goal

pub returns-clause-honest : goal.returns-clause-honest
returns-clause-honest c = honest c.new.result.history.events.items
