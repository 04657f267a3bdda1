use Rattle.std.proofs.Common.{refl, sym, subst}
use Rattle.pg_disk.specs.Account.{account, IsHonest}
use Rattle.pg_disk.specs.Calls.{Changes}
use Rattle.pg_disk.specs.Moments.{Within}
use Rattle.pg_disk.proofs.Composing.{started, then_run, weaker}
use Rattle.pg_journal.specs.Stands.{name_of}
use Rattle.pg_recover.specs.Removing.{HasNoOther, LeavesOthersGone, ListsOthers, RemovesOthers}
use Rattle.pg_recover.proofs.EpochLemmas.{added_whole, adding_leaves, gone_leaves, nothing_leaves, owned, stands_still}
use Rattle.pg_recover.proofs.OpenedLemmas.{added_opens, removed_opens}
use Rattle.pg_recover.proofs.epochs.begin_epoch.Goals as goal

pub encode_batch-requires : goal.encode_batch-requires
encode_batch-requires g c = (c.requires.next, tt)

pub remove_others-requires : goal.remove_others-requires
remove_others-requires g c = λ honest. subst (λ f. ListsOthers c.args.files.now f (account (g.D.Disk.tells c.args.disk.now)).files) (sym c.file.ensures) (c.requires.ready honest).listed

pub append-requires : goal.append-requires
append-requires g c = λ honest.
    let before = c.remove_others.ensures.stays.back honest in
    let ready = c.requires.ready before in (
      ready.batches,
      stands_still c.args.durable c.in_ok-batch.batch c.in_ok-batch.ensures c.requires.next c.args.journal (g.D.Disk.tells c.args.disk.now) c.args.files.now c.requires.ready (g.D.Disk.tells c.remove_others.new.disk)
          (subst (λ f. Changes (g.D.Disk.tells c.args.disk.now) (g.D.Disk.tells c.remove_others.new.disk) (RemovesOthers f)) c.file.ensures c.remove_others.ensures.stays) before ready.batches ready.stands,
    )

pub returns-in_err-batch-clause-any_moment : goal.returns-in_err-batch-clause-any_moment
returns-in_err-batch-clause-any_moment g c =
    started g.D.Disk c.args.disk.now _ (λ d b left. nothing_leaves c.args.durable _ refl c.requires.next c.args.journal (g.D.Disk.tells c.args.disk.now) c.args.files.now c.requires.ready d b (g.met.D.Disk.only_now c.args.disk.now d b left))

pub returns-in_err-remove_others-clause-any_moment : goal.returns-in_err-remove_others-clause-any_moment
returns-in_err-remove_others-clause-any_moment g c =
    weaker g.D.Disk c.args.disk.now c.remove_others.new.disk _ _
    (subst (λ f. Within g.D.Disk c.args.disk.now c.remove_others.new.disk (LeavesOthersGone f)) c.file.ensures c.remove_others.ensures.any_moment)
    (gone_leaves c.args.durable c.in_ok-batch.batch c.in_ok-batch.ensures c.requires.next c.args.journal (g.D.Disk.tells c.args.disk.now) c.args.files.now c.requires.ready)

pub returns-in_err-journal-clause-any_moment : goal.returns-in_err-journal-clause-any_moment
returns-in_err-journal-clause-any_moment g c =
    then_run g.D.Disk c.args.disk.now c.remove_others.new.disk c.append.new.disk _ _
    (weaker g.D.Disk c.args.disk.now c.remove_others.new.disk _ _
    (subst (λ f. Within g.D.Disk c.args.disk.now c.remove_others.new.disk (LeavesOthersGone f)) c.file.ensures c.remove_others.ensures.any_moment)
    (gone_leaves c.args.durable c.in_ok-batch.batch c.in_ok-batch.ensures c.requires.next c.args.journal (g.D.Disk.tells c.args.disk.now) c.args.files.now c.requires.ready))
    c.append.ensures.any_moment
    (adding_leaves c.args.durable c.in_ok-batch.batch c.in_ok-batch.ensures c.requires.next c.args.journal (g.D.Disk.tells c.args.disk.now) c.args.files.now c.requires.ready (g.D.Disk.tells c.remove_others.new.disk)
    (subst (λ f. Changes (g.D.Disk.tells c.args.disk.now) (g.D.Disk.tells c.remove_others.new.disk) (RemovesOthers f)) c.file.ensures c.remove_others.ensures.stays)
    (subst (λ f. IsHonest (g.D.Disk.tells c.args.disk.now) → HasNoOther f (account (g.D.Disk.tells c.remove_others.new.disk)).files) c.file.ensures c.in_ok-remove_others.ensures.alone))

pub returns-clause-any_moment : goal.returns-clause-any_moment
returns-clause-any_moment g c =
    then_run g.D.Disk c.args.disk.now c.remove_others.new.disk c.append.new.disk _ _
    (weaker g.D.Disk c.args.disk.now c.remove_others.new.disk _ _
    (subst (λ f. Within g.D.Disk c.args.disk.now c.remove_others.new.disk (LeavesOthersGone f)) c.file.ensures c.remove_others.ensures.any_moment)
    (gone_leaves c.args.durable c.in_ok-batch.batch c.in_ok-batch.ensures c.requires.next c.args.journal (g.D.Disk.tells c.args.disk.now) c.args.files.now c.requires.ready))
    c.append.ensures.any_moment
    (adding_leaves c.args.durable c.in_ok-batch.batch c.in_ok-batch.ensures c.requires.next c.args.journal (g.D.Disk.tells c.args.disk.now) c.args.files.now c.requires.ready (g.D.Disk.tells c.remove_others.new.disk)
    (subst (λ f. Changes (g.D.Disk.tells c.args.disk.now) (g.D.Disk.tells c.remove_others.new.disk) (RemovesOthers f)) c.file.ensures c.remove_others.ensures.stays)
    (subst (λ f. IsHonest (g.D.Disk.tells c.args.disk.now) → HasNoOther f (account (g.D.Disk.tells c.remove_others.new.disk)).files) c.file.ensures c.in_ok-remove_others.ensures.alone))

pub returns-clause-owned : goal.returns-clause-owned
returns-clause-owned g c = λ honest.
    owned c.args.durable c.in_ok-batch.batch c.in_ok-batch.ensures c.requires.next c.args.journal (g.D.Disk.tells c.args.disk.now) c.args.files.now c.requires.ready (g.D.Disk.tells c.remove_others.new.disk)
    (subst (λ f. Changes (g.D.Disk.tells c.args.disk.now) (g.D.Disk.tells c.remove_others.new.disk) (RemovesOthers f)) c.file.ensures c.remove_others.ensures.stays)
    (subst (λ f. IsHonest (g.D.Disk.tells c.args.disk.now) → HasNoOther f (account (g.D.Disk.tells c.remove_others.new.disk)).files) c.file.ensures c.in_ok-remove_others.ensures.alone)
    (g.D.Disk.tells c.append.new.disk) c.in_ok-journal.journal c.in_ok-journal.ensures.file c.in_ok-journal.ensures.stands c.in_ok-journal.ensures.other_files honest

pub returns-clause-keeps : goal.returns-clause-keeps
returns-clause-keeps g c = λ honest.
    added_whole c.args.durable c.in_ok-batch.batch c.in_ok-batch.ensures c.requires.next c.args.journal (g.D.Disk.tells c.args.disk.now) c.args.files.now c.requires.ready (g.D.Disk.tells c.remove_others.new.disk)
    (subst (λ f. Changes (g.D.Disk.tells c.args.disk.now) (g.D.Disk.tells c.remove_others.new.disk) (RemovesOthers f)) c.file.ensures c.remove_others.ensures.stays)
    (subst (λ f. IsHonest (g.D.Disk.tells c.args.disk.now) → HasNoOther f (account (g.D.Disk.tells c.remove_others.new.disk)).files) c.file.ensures c.in_ok-remove_others.ensures.alone)
    (g.D.Disk.tells c.append.new.disk) c.in_ok-journal.journal c.in_ok-journal.ensures.file c.in_ok-journal.ensures.stands c.in_ok-journal.ensures.other_files honest

pub returns-in_err-remove_others-clause-stays : goal.returns-in_err-remove_others-clause-stays
returns-in_err-remove_others-clause-stays g c = removed_opens c.file.result (g.D.Disk.tells c.args.disk.now) (g.D.Disk.tells c.remove_others.new.disk) c.remove_others.ensures.stays

pub returns-in_err-journal-clause-stays : goal.returns-in_err-journal-clause-stays
returns-in_err-journal-clause-stays g c =
    added_opens (name_of c.args.journal) (g.D.Disk.tells c.args.disk.now) (g.D.Disk.tells c.remove_others.new.disk) (g.D.Disk.tells c.append.new.disk)
    (removed_opens c.file.result (g.D.Disk.tells c.args.disk.now) (g.D.Disk.tells c.remove_others.new.disk) c.remove_others.ensures.stays) (λ honest. (c.requires.ready honest).stands.kind) c.append.ensures.other_files

pub returns-clause-stays : goal.returns-clause-stays
returns-clause-stays g c =
    added_opens (name_of c.args.journal) (g.D.Disk.tells c.args.disk.now) (g.D.Disk.tells c.remove_others.new.disk) (g.D.Disk.tells c.append.new.disk)
    (removed_opens c.file.result (g.D.Disk.tells c.args.disk.now) (g.D.Disk.tells c.remove_others.new.disk) c.remove_others.ensures.stays) (λ honest. (c.requires.ready honest).stands.kind) c.append.ensures.other_files
