use Rattle.pg_disk.specs.MemSite.{events_of}
use Rattle.pg_disk.specs.Replay.{after_put}
use Rattle.pg_disk.proofs.Effects.{honest}
use Rattle.pg_disk.proofs.SiteLemmas.{put_account, put_calls}
use Rattle.pg_disk.proofs.memory_site.MemSite.put.Goals as goal

pub returns-clause-honest : goal.returns-clause-honest
returns-clause-honest c = honest c.put.new.self.history.events.items

pub returns-clause-ok : goal.returns-clause-ok
returns-clause-ok c = put_account (events_of c.args.self.now) c.put.new.self.history.events.items (after_put c.args.file c.args.bytes.now) c.put.result c.put.ensures

pub returns-clause-calls : goal.returns-clause-calls
returns-clause-calls c = put_calls (events_of c.args.self.now) c.put.new.self.history.events.items (after_put c.args.file c.args.bytes.now) c.put.result c.put.ensures
