use Rattle.std.specs.Prelude.{is_ok}
use Rattle.std.proofs.lemmas.Result.{err_from_is_err_and}
use Rattle.std.specs.FinMap.{get}
use Rattle.pg_disk.specs.Account.{account}
use Rattle.pg_gate.specs.Spans.{IsScanned}
use Rattle.pg_gate.proofs.Reading.{failed_unspent}
use Rattle.pg_gate.proofs.IsScanned.{ok_synced, within_synced, none_synced, cut_synced, gates_synced}
use Rattle.pg_gate.proofs.KeepsAsRead.{in_sync, in_scan, since_sync}
use Rattle.pg_gate.proofs.StaysOrMends.{stays_synced, sync_stays}
use Rattle.pg_gate.proofs.scanning.scan.Goals as goal

pub returns-in_err-sync-clause-any_moment : goal.returns-in_err-sync-clause-any_moment
returns-in_err-sync-clause-any_moment g c =
    in_sync g.D.Disk c.args.file c.args.disk.now c.requires (g.met.D.Disk.only_now c.args.disk.now) c.sync.new.self c.sync.ensures.time

pub returns-clause-any_moment : goal.returns-clause-any_moment
returns-clause-any_moment g c =
    in_scan g.D.Disk c.args.file c.args.disk.now c.requires (g.met.D.Disk.only_now c.args.disk.now) c.sync.new.self c.sync.ensures.time c.in_ok-sync.ensures.step c.scan_synced.new.disk c.scan_synced.ensures.any_moment

pub returns-clause-once_synced : goal.returns-clause-once_synced
returns-clause-once_synced g c =
    since_sync g.D.Disk c.args.file c.args.disk.now c.requires (g.met.D.Disk.only_now c.args.disk.now) c.sync.new.self c.sync.ensures.time c.in_ok-sync.ensures.step
    c.scan_synced.result c.scan_synced.new.disk c.scan_synced.ensures.any_moment

pub returns-in_err-sync-clause-stays : goal.returns-in_err-sync-clause-stays
returns-in_err-sync-clause-stays g c = sync_stays c.args.file (g.D.Disk.tells c.args.disk.now) (g.D.Disk.tells c.sync.new.self) (is_ok c.sync.result) c.sync.ensures.step

pub returns-in_err-sync-clause-taken_err : goal.returns-in_err-sync-clause-taken_err
returns-in_err-sync-clause-taken_err g c = none_synced c.args.file (g.D.Disk.tells c.args.disk.now) (g.D.Disk.tells c.sync.new.self) (is_ok c.sync.result) c.sync.ensures.step c.from_residual.result

pub returns-in_err-sync-clause-damaged : goal.returns-in_err-sync-clause-damaged
returns-in_err-sync-clause-damaged g c =
    let is = err_from_is_err_and c.from_residual.result c.from_residual.ensures.1 in
    rw (is.1, is.2) tt

pub returns-in_err-sync-clause-only : goal.returns-in_err-sync-clause-only
returns-in_err-sync-clause-only g c =
    let is = err_from_is_err_and c.from_residual.result c.from_residual.ensures.1 in
    rw (is.1, is.2) failed_unspent

pub returns-in_err-sync-clause-cause : goal.returns-in_err-sync-clause-cause
returns-in_err-sync-clause-cause g c =
    let is = err_from_is_err_and c.from_residual.result c.from_residual.ensures.1 in
    rw (is.1, is.2) c.in_err-sync.ensures.cause

pub returns-clause-scanned : goal.returns-clause-scanned
returns-clause-scanned g c =
    ok_synced c.args.file (g.D.Disk.tells c.args.disk.now) (g.D.Disk.tells c.sync.new.self) (is_ok c.sync.result) c.sync.ensures.step c.scan_synced.result
    (λ found bytes. IsScanned bytes found.0 found.1.items (get (account (g.D.Disk.tells c.scan_synced.new.disk)).files c.args.file)) (λ found bytes. IsScanned bytes found.0 found.1.items (get (account (g.D.Disk.tells c.scan_synced.new.disk)).files c.args.file)) (λ h found bytes is. is) c.scan_synced.ensures.scanned

pub returns-clause-stays : goal.returns-clause-stays
returns-clause-stays g c = stays_synced c.args.file (g.D.Disk.tells c.args.disk.now) (g.D.Disk.tells c.sync.new.self) (is_ok c.sync.result) c.sync.ensures.step (g.D.Disk.tells c.scan_synced.new.disk) c.scan_synced.ensures.stays

pub returns-clause-taken : goal.returns-clause-taken
returns-clause-taken g c = gates_synced c.args.file (g.D.Disk.tells c.args.disk.now) (g.D.Disk.tells c.sync.new.self) (is_ok c.sync.result) c.sync.ensures.step c.scan_synced.result (g.D.Disk.tells c.scan_synced.new.disk) c.scan_synced.ensures.taken

pub returns-clause-taken_err : goal.returns-clause-taken_err
returns-clause-taken_err g c = within_synced c.args.file (g.D.Disk.tells c.args.disk.now) (g.D.Disk.tells c.sync.new.self) (is_ok c.sync.result) c.sync.ensures.step c.scan_synced.result (g.D.Disk.tells c.scan_synced.new.disk) c.scan_synced.ensures.taken_err

pub returns-clause-damaged : goal.returns-clause-damaged
returns-clause-damaged g c = cut_synced c.args.file (g.D.Disk.tells c.args.disk.now) (g.D.Disk.tells c.sync.new.self) (is_ok c.sync.result) c.sync.ensures.step c.scan_synced.result c.scan_synced.ensures.damaged
