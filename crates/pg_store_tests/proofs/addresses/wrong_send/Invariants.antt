use Rattle.std.proofs.Common.{◌≡◌, length}
use Rattle.pg_disk.specs.Sites.{OnFiles}
use Rattle.pg_store.specs.Every.{AreReady}
use Rattle.pg_store_tests.proofs.addresses.wrong_send.Given as goal

abbrev pub invariant-sends : goal.invariant-sends
invariant-sends g l = (length l.stores ≡ 2) × OnFiles g.D.Disk l.disk (AreReady l.stores)
