use Rattle.std.proofs.lemmas.Result.{err_from_is_err_and}
use Rattle.pg_disk.proofs.Composing.{then_run, weaker}
use Rattle.pg_recover.proofs.KeptLemmas.{kept_at}
use Rattle.pg_recover.proofs.OpenedLemmas.{all_begun, all_gapless, all_named, all_recovered, check_broken, check_spent, has_epoch, kept_otherwise, opens_then, raised_leaves, reads_open, ready, said_leaves}
use Rattle.pg_recover.proofs.PagingLemmas.{all_counted, all_paged}
use Rattle.pg_recover.proofs.RecoveredLemmas.{on_ok}
use Rattle.pg_recover.proofs.WellLemmas.{well_at_ok}
use Rattle.pg_recover.proofs.recovering.open_synced.Goals as goal

pub begin_epoch-requires : goal.begin_epoch-requires
begin_epoch-requires g c = record {
  ready = ready (g.D.Disk.tells c.args.disk.now) (g.D.Disk.tells c.read_journal.new.disk) c.read_journal.ensures.stays c.in_ok-journal.journal c.in_ok-journal.durable c.in_ok-journal.ensures.found c.args.files.now c.requires.listed;
  next = c.in_ok-paged.ensures.fits;
  room = c.in_ok-paged.ensures.room;
}

pub returns-in_err-journal-clause-any_moment : goal.returns-in_err-journal-clause-any_moment
returns-in_err-journal-clause-any_moment g c = weaker g.D.Disk c.args.disk.now c.read_journal.new.disk _ _ c.read_journal.ensures.any_moment (said_leaves (g.D.Disk.tells c.args.disk.now))

pub returns-in_err-paged-clause-any_moment : goal.returns-in_err-paged-clause-any_moment
returns-in_err-paged-clause-any_moment g c = weaker g.D.Disk c.args.disk.now c.read_journal.new.disk _ _ c.read_journal.ensures.any_moment (said_leaves (g.D.Disk.tells c.args.disk.now))

pub returns-in_err-paged-clause-broken : goal.returns-in_err-paged-clause-broken
returns-in_err-paged-clause-broken g c =
    let is = err_from_is_err_and c.from_residual-in_err-paged.result c.from_residual-in_err-paged.ensures.1 in
    rw (is.1, is.2) (check_broken (g.D.Disk.tells c.args.disk.now) (g.D.Disk.tells c.read_journal.new.disk) c.read_journal.ensures.stays c.in_ok-journal.journal c.in_ok-journal.durable c.in_ok-journal.ensures.found c.args.files.now c.requires.listed
    c.args.limits.now.epochs c.in_err-paged.field-0.0 c.in_err-paged.ensures.unfit)

pub returns-in_err-paged-clause-spent : goal.returns-in_err-paged-clause-spent
returns-in_err-paged-clause-spent g c =
    let is = err_from_is_err_and c.from_residual-in_err-paged.result c.from_residual-in_err-paged.ensures.1 in
    rw (is.1, is.2) (check_spent (g.D.Disk.tells c.args.disk.now) (g.D.Disk.tells c.read_journal.new.disk) c.read_journal.ensures.stays c.in_ok-journal.journal c.in_ok-journal.durable c.in_ok-journal.ensures.found c.args.files.now c.requires.listed
    c.args.limits.now.epochs c.in_err-paged.field-0.0 c.in_err-paged.ensures.unfit)

pub returns-clause-recovered : goal.returns-clause-recovered
returns-clause-recovered g c =
    all_recovered (g.D.Disk.tells c.args.disk.now) (g.D.Disk.tells c.read_journal.new.disk) c.read_journal.ensures.stays c.in_ok-journal.journal c.in_ok-journal.durable c.in_ok-journal.ensures.found
    (g.D.Disk.tells c.begin_epoch.new.disk) c.begin_epoch.result c.begin_epoch.ensures.raised c.begin_epoch.ensures.owned

pub returns-clause-any_moment : goal.returns-clause-any_moment
returns-clause-any_moment g c =
    then_run g.D.Disk c.args.disk.now c.read_journal.new.disk c.begin_epoch.new.disk _ _
    (weaker g.D.Disk c.args.disk.now c.read_journal.new.disk _ _ c.read_journal.ensures.any_moment (said_leaves (g.D.Disk.tells c.args.disk.now)))
    c.begin_epoch.ensures.any_moment
    (raised_leaves (g.D.Disk.tells c.args.disk.now) (g.D.Disk.tells c.read_journal.new.disk) c.read_journal.ensures.stays c.in_ok-journal.journal c.in_ok-journal.durable c.in_ok-journal.ensures.found)

pub returns-clause-begun : goal.returns-clause-begun
returns-clause-begun g c =
    all_begun (g.D.Disk.tells c.args.disk.now) (g.D.Disk.tells c.read_journal.new.disk) c.read_journal.ensures.stays c.in_ok-journal.journal c.in_ok-journal.durable c.in_ok-journal.ensures.found c.in_ok-journal.ensures.sound
    c.begin_epoch.result c.begin_epoch.ensures.raised

pub returns-clause-next : goal.returns-clause-next
returns-clause-next g c =
    on_ok c.begin_epoch.result _ (has_epoch (g.D.Disk.tells c.args.disk.now) (g.D.Disk.tells c.read_journal.new.disk) c.read_journal.ensures.stays c.in_ok-journal.journal c.in_ok-journal.durable c.in_ok-journal.ensures.found
    c.args.files.now c.requires.listed c.args.limits.now.epochs c.in_ok-paged.ensures.next c.in_ok-paged.ensures.room)

pub returns-clause-named : goal.returns-clause-named
returns-clause-named g c =
    all_named (g.D.Disk.tells c.args.disk.now) (g.D.Disk.tells c.read_journal.new.disk) c.read_journal.ensures.stays c.in_ok-journal.journal c.in_ok-journal.durable c.in_ok-journal.ensures.found
    c.args.files.now c.requires.listed c.in_ok-paged.ensures.listed c.begin_epoch.result c.begin_epoch.ensures.raised

pub returns-clause-gapless : goal.returns-clause-gapless
returns-clause-gapless g c =
    all_gapless (g.D.Disk.tells c.args.disk.now) (g.D.Disk.tells c.read_journal.new.disk) c.read_journal.ensures.stays c.in_ok-journal.journal c.in_ok-journal.durable c.in_ok-journal.ensures.found
    c.args.files.now c.requires.listed c.in_ok-paged.ensures.listed c.begin_epoch.result c.begin_epoch.ensures.raised

pub returns-in_err-paged-clause-kept : goal.returns-in_err-paged-clause-kept
returns-in_err-paged-clause-kept g c =
    let is = err_from_is_err_and c.from_residual-in_err-paged.result c.from_residual-in_err-paged.ensures.1 in
    rw (is.1, is.2) (kept_at (g.D.Disk.tells c.args.disk.now) (g.D.Disk.tells c.read_journal.new.disk) c.in_ok-journal.ensures.keeps c.in_err-paged.field-0.0)

pub returns-clause-kept : goal.returns-clause-kept
returns-clause-kept g c = kept_otherwise (g.D.Disk.tells c.args.disk.now) (g.D.Disk.tells c.begin_epoch.new.disk) c.begin_epoch.result c.begin_epoch.ensures.only

pub returns-clause-well : goal.returns-clause-well
returns-clause-well g c =
    well_at_ok (g.D.Disk.tells c.args.disk.now) (g.D.Disk.tells c.read_journal.new.disk) (g.D.Disk.tells c.begin_epoch.new.disk) c.read_journal.ensures.stays.kept (λ honest. (c.in_ok-journal.ensures.found honest).keeps)
    c.begin_epoch.result c.begin_epoch.ensures.keeps
    (all_recovered (g.D.Disk.tells c.args.disk.now) (g.D.Disk.tells c.read_journal.new.disk) c.read_journal.ensures.stays c.in_ok-journal.journal c.in_ok-journal.durable c.in_ok-journal.ensures.found
    (g.D.Disk.tells c.begin_epoch.new.disk) c.begin_epoch.result c.begin_epoch.ensures.raised c.begin_epoch.ensures.owned)

pub returns-in_err-paged-clause-stays : goal.returns-in_err-paged-clause-stays
returns-in_err-paged-clause-stays g c = reads_open (g.D.Disk.tells c.args.disk.now) (g.D.Disk.tells c.read_journal.new.disk) c.read_journal.ensures.stays

pub returns-clause-stays : goal.returns-clause-stays
returns-clause-stays g c =
    opens_then (g.D.Disk.tells c.args.disk.now) (g.D.Disk.tells c.read_journal.new.disk) (g.D.Disk.tells c.begin_epoch.new.disk)
    (reads_open (g.D.Disk.tells c.args.disk.now) (g.D.Disk.tells c.read_journal.new.disk) c.read_journal.ensures.stays) c.begin_epoch.ensures.stays

pub returns-clause-paged : goal.returns-clause-paged
returns-clause-paged g c =
    all_paged (g.D.Disk.tells c.args.disk.now) c.args.files.now c.requires.listed c.in_ok-journal.durable c.in_ok-journal.ensures.sound.addresses.numbered c.in_ok-paged.paged c.in_ok-paged.ensures.paged
    c.begin_epoch.result c.begin_epoch.ensures.raised c.begin_epoch.ensures.paged

pub returns-clause-counted : goal.returns-clause-counted
returns-clause-counted g c =
    all_counted c.args.files.now c.in_ok-journal.durable c.in_ok-paged.paged c.in_ok-paged.ensures.paged c.begin_epoch.result c.begin_epoch.ensures.raised c.begin_epoch.ensures.paged
