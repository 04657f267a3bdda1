use Rattle.std.proofs.Common.{subst, sym}
use Rattle.std.specs.FinMap.{get}
use Rattle.pg_disk.specs.Account.{account}
use Rattle.pg_gate.specs.Gated.{StandsFor}
use Rattle.pg_storage_tests.proofs.gates.scan_and_append.Goals as goal

pub append-requires : goal.append-requires
append-requires g c honest =
    let before = c.scan.ensures.stays.back honest in
    let there = c.requires before in
    let scanned = c.in_ok-rest.ensures.scanned before there.0 there.1 in
    (scanned.batches, subst (λ file. StandsFor c.in_ok-rest.rest scanned.batches (get (account (g.D.Disk.tells c.scan.new.disk)).files file)) (sym c.in_ok-rest.ensures.file) scanned.stands)
