use Rattle.std.proofs.Common.{◌∙◌, sym, subst}
use Rattle.std.specs.FinMap.{get}
use Rattle.std.specs.List.{All}
use Rattle.pg_disk.specs.declared.file_id.FileId.{FileId}
use Rattle.pg_disk.specs.Account.{account, IsQuietAt}
use Rattle.pg_disk.specs.Image.{IsFileThere}
use Rattle.pg_gate.proofs.Reading.{one_read}
use Rattle.pg_disk.specs.Views.{as_read}
use Rattle.pg_recover.specs.Viewing.{ArePaged}
use Rattle.pg_recover.specs.WellFormed.{IsGapless, IsNamed, IsThere, WellFormed}
use Rattle.pg_recover.proofs.DamagingLemmas.{all_ill}
use Rattle.pg_recover.proofs.OpenedLemmas.{opens_then}
use Rattle.pg_recover.proofs.RecoveredLemmas.{all_broken, all_denoted, all_kept, all_moments, all_next, all_recovered, all_seen, all_spent, can_sync, listed_now, listing_moments, moments_once_synced, on_ok, quiet_now, sync_moments, sync_opens}
use Rattle.pg_recover.proofs.recovering.recover.Goals as goal

pub open_synced-requires : goal.open_synced-requires
open_synced-requires g c = record {
  listed = λ honest. c.deref-2.ensures.value
      ∙ listed_now (g.D.Disk.tells c.args.disk.now) (g.D.Disk.tells c.list.new.self) (g.D.Disk.tells c.sync_all.new.disk) c.list.ensures.same c.sync_all.ensures.stays c.in_ok-files.files.items c.in_ok-files.ensures.files honest;
  quiet = quiet_now (g.D.Disk.tells c.args.disk.now) (g.D.Disk.tells c.list.new.self) (g.D.Disk.tells c.sync_all.new.disk) c.list.ensures.same c.sync_all.ensures.stays c.in_ok-files.files.items c.in_ok-files.ensures.files
      (λ honest. subst (λ (ids : _). All (λ (file : FileId). IsQuietAt (get (account (g.D.Disk.tells c.sync_all.new.disk)).files file)) ids) c.deref.ensures.value (c.in_ok-sync_all.ensures.quiet honest));
}

pub sync_all-requires : goal.sync_all-requires
sync_all-requires g c = λ honest.
    subst (λ (ids : _). All (λ (file : FileId). IsFileThere file (account (g.D.Disk.tells c.list.new.self)).files) ids) (sym c.deref.ensures.value)
    (can_sync (g.D.Disk.tells c.args.disk.now) (g.D.Disk.tells c.list.new.self) c.list.ensures.same c.in_ok-files.files.items c.in_ok-files.ensures.files honest)

pub returns-in_err-files-clause-any_moment : goal.returns-in_err-files-clause-any_moment
returns-in_err-files-clause-any_moment g c =
    listing_moments g.D.Disk c.args.disk.now c.list.new.self
    (one_read g.D.Disk c.args.disk.now c.list.new.self (g.met.D.Disk.only_now c.args.disk.now) c.list.ensures.time)

pub returns-in_err-sync_all-clause-any_moment : goal.returns-in_err-sync_all-clause-any_moment
returns-in_err-sync_all-clause-any_moment g c =
    sync_moments g.D.Disk c.args.disk.now c.list.new.self
    (one_read g.D.Disk c.args.disk.now c.list.new.self (g.met.D.Disk.only_now c.args.disk.now) c.list.ensures.time)
    c.list.ensures.same c.sync_all.new.disk c.sync_all.ensures.any_moment

pub returns-clause-recovered : goal.returns-clause-recovered
returns-clause-recovered g c =
    all_recovered (g.D.Disk.tells c.args.disk.now) (g.D.Disk.tells c.list.new.self) (g.D.Disk.tells c.sync_all.new.disk) c.list.ensures.same c.sync_all.ensures.stays c.open_synced.result (g.D.Disk.tells c.open_synced.new.disk) c.open_synced.ensures.recovered

pub returns-clause-denotes : goal.returns-clause-denotes
returns-clause-denotes g c =
    all_denoted (g.D.Disk.tells c.args.disk.now) (g.D.Disk.tells c.open_synced.new.disk) c.open_synced.result
    (all_recovered (g.D.Disk.tells c.args.disk.now) (g.D.Disk.tells c.list.new.self) (g.D.Disk.tells c.sync_all.new.disk) c.list.ensures.same c.sync_all.ensures.stays c.open_synced.result (g.D.Disk.tells c.open_synced.new.disk) c.open_synced.ensures.recovered)

pub returns-clause-stays : goal.returns-clause-stays
returns-clause-stays g c =
    opens_then (g.D.Disk.tells c.args.disk.now) (g.D.Disk.tells c.sync_all.new.disk) (g.D.Disk.tells c.open_synced.new.disk)
    (sync_opens (g.D.Disk.tells c.args.disk.now) (g.D.Disk.tells c.list.new.self) (g.D.Disk.tells c.sync_all.new.disk) c.list.ensures.same c.sync_all.ensures.stays) c.open_synced.ensures.stays

pub returns-clause-any_moment : goal.returns-clause-any_moment
returns-clause-any_moment g c =
    all_moments g.D.Disk c.args.disk.now c.list.new.self
    (one_read g.D.Disk c.args.disk.now c.list.new.self (g.met.D.Disk.only_now c.args.disk.now) c.list.ensures.time)
    c.list.ensures.same c.sync_all.new.disk c.sync_all.ensures.any_moment c.sync_all.ensures.stays c.open_synced.new.disk c.open_synced.ensures.any_moment

pub returns-clause-once_quiet : goal.returns-clause-once_quiet
returns-clause-once_quiet g c =
    on_ok c.open_synced.result _ (moments_once_synced g.D.Disk c.args.disk.now c.list.new.self
    (one_read g.D.Disk c.args.disk.now c.list.new.self (g.met.D.Disk.only_now c.args.disk.now) c.list.ensures.time)
    c.list.ensures.same c.sync_all.new.disk c.sync_all.ensures.any_moment c.sync_all.ensures.stays c.open_synced.new.disk c.open_synced.ensures.any_moment
    (quiet_now (g.D.Disk.tells c.args.disk.now) (g.D.Disk.tells c.list.new.self) (g.D.Disk.tells c.sync_all.new.disk) c.list.ensures.same c.sync_all.ensures.stays c.in_ok-files.files.items c.in_ok-files.ensures.files
    (λ honest. subst (λ (ids : _). All (λ (file : FileId). IsQuietAt (get (account (g.D.Disk.tells c.sync_all.new.disk)).files file)) ids) c.deref.ensures.value (c.in_ok-sync_all.ensures.quiet honest))))

pub returns-clause-broken : goal.returns-clause-broken
returns-clause-broken g c =
    all_broken (g.D.Disk.tells c.args.disk.now) (g.D.Disk.tells c.list.new.self) (g.D.Disk.tells c.sync_all.new.disk) c.list.ensures.same c.sync_all.ensures.stays c.open_synced.result c.open_synced.ensures.broken

pub returns-clause-damaged : goal.returns-clause-damaged
returns-clause-damaged g c = all_ill (g.D.Disk.tells c.args.disk.now) c.open_synced.result (returns-clause-broken g c)

pub returns-clause-spent : goal.returns-clause-spent
returns-clause-spent g c =
    all_spent (g.D.Disk.tells c.args.disk.now) (g.D.Disk.tells c.list.new.self) (g.D.Disk.tells c.sync_all.new.disk) c.list.ensures.same c.sync_all.ensures.stays c.open_synced.result c.args.limits.now.epochs c.open_synced.ensures.spent

pub returns-clause-next : goal.returns-clause-next
returns-clause-next g c =
    all_next (g.D.Disk.tells c.args.disk.now) (g.D.Disk.tells c.list.new.self) (g.D.Disk.tells c.sync_all.new.disk) c.list.ensures.same c.sync_all.ensures.stays c.open_synced.result c.args.limits.now.epochs c.open_synced.ensures.next

pub returns-clause-named : goal.returns-clause-named
returns-clause-named g c =
    all_seen (g.D.Disk.tells c.args.disk.now) (g.D.Disk.tells c.list.new.self) (g.D.Disk.tells c.sync_all.new.disk) c.list.ensures.same c.sync_all.ensures.stays c.open_synced.result
    (λ contents parts. (file : FileId) → IsThere contents file → IsNamed parts.durable.addresses file) c.open_synced.ensures.named

pub returns-clause-gapless : goal.returns-clause-gapless
returns-clause-gapless g c =
    all_seen (g.D.Disk.tells c.args.disk.now) (g.D.Disk.tells c.list.new.self) (g.D.Disk.tells c.sync_all.new.disk) c.list.ensures.same c.sync_all.ensures.stays c.open_synced.result
    (λ contents parts. All (IsGapless contents) parts.durable.addresses) c.open_synced.ensures.gapless

pub returns-clause-kept : goal.returns-clause-kept
returns-clause-kept g c =
    all_kept (g.D.Disk.tells c.args.disk.now) (g.D.Disk.tells c.list.new.self) (g.D.Disk.tells c.sync_all.new.disk) c.list.ensures.same c.sync_all.ensures.stays c.open_synced.result (g.D.Disk.tells c.open_synced.new.disk)
    c.open_synced.ensures.kept

pub returns-clause-well : goal.returns-clause-well
returns-clause-well g c =
    all_seen (g.D.Disk.tells c.args.disk.now) (g.D.Disk.tells c.list.new.self) (g.D.Disk.tells c.sync_all.new.disk) c.list.ensures.same c.sync_all.ensures.stays c.open_synced.result
    (λ contents parts. WellFormed contents → WellFormed (as_read (account (g.D.Disk.tells c.open_synced.new.disk)).files)) c.open_synced.ensures.well

pub returns-clause-paged : goal.returns-clause-paged
returns-clause-paged g c =
    all_seen (g.D.Disk.tells c.args.disk.now) (g.D.Disk.tells c.list.new.self) (g.D.Disk.tells c.sync_all.new.disk) c.list.ensures.same c.sync_all.ensures.stays c.open_synced.result
    (λ contents parts. ArePaged contents parts.durable.addresses parts.paged.items) c.open_synced.ensures.paged
