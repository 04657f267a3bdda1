use Rattle.pg_disk.specs.Sites.{OnFiles}
use Rattle.pg_store.specs.Pages.{states_of}
use Rattle.pg_store.specs.Stores.{IsPaging, address_of_paging}
use Rattle.pg_store_tests.proofs.sends.wrong_send.Given as goal

abbrev pub invariant-sends : goal.invariant-sends
invariant-sends g l = OnFiles g.D.Disk l.disk (λ files. IsPaging l.store (states_of files (address_of_paging l.store)))
