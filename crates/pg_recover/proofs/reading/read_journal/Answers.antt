use Rattle.std.proofs.Common.{sym, subst}
use Rattle.std.proofs.lemmas.Result.{err_from_is_err_and}
use Rattle.pg_disk.specs.declared.file_id.FileId.{FileId}
use Rattle.pg_disk.specs.Account.{account, IsHonest}
use Rattle.pg_disk.specs.Image.{IsFileThere}
use Rattle.pg_disk.proofs.Composing.{then_run, weaker}
use Rattle.pg_fold.specs.Sound.{IsSound}
use Rattle.pg_fold.proofs.SoundLaws.{sound_fresh}
use Rattle.pg_journal.specs.Stands.{name_of}
use Rattle.pg_recover.proofs.DamagingLemmas.{cut_named}
use Rattle.pg_recover.proofs.SaidLemmas.{breaks_named, finding_leaves, found_leaves, found_names, found_there, folds_named, read_from, then_reads}
use Rattle.pg_recover.proofs.KeptLemmas.{find_kept, kept_at, read_keeps}
use Rattle.pg_recover.proofs.PieceLemmas.{damage_only_weaker}
use Rattle.pg_recover.proofs.reading.read_journal.Goals as goal

pub read_payloads-requires : goal.read_payloads-requires
read_payloads-requires g c = record {
  there = subst (λ (f : FileId). IsHonest (g.D.Disk.tells c.find.new.disk) → IsFileThere f (account (g.D.Disk.tells c.find.new.disk)).files) (sym c.file.ensures)
      (found_there (g.D.Disk.tells c.args.disk.now) (g.D.Disk.tells c.find.new.disk) c.find.ensures.stays c.in_ok-journal.journal c.in_ok-journal.spans.items c.in_ok-journal.ensures.found);
  sound = subst IsSound (sym c.fresh.ensures) sound_fresh;
}

pub returns-in_err-journal-clause-any_moment : goal.returns-in_err-journal-clause-any_moment
returns-in_err-journal-clause-any_moment g c =
    weaker g.D.Disk c.args.disk.now c.find.new.disk _ _ c.find.ensures.any_moment (finding_leaves (g.D.Disk.tells c.args.disk.now) c.requires)

pub returns-in_err-journal-clause-damaged : goal.returns-in_err-journal-clause-damaged
returns-in_err-journal-clause-damaged g c =
    let is = err_from_is_err_and c.from_residual.result c.from_residual.ensures.1 in
    rw (is.1, is.2) (cut_named (g.D.Disk.tells c.args.disk.now) c.in_err-journal.field-0.0 c.in_err-journal.ensures.damaged)

pub returns-in_err-journal-clause-kept : goal.returns-in_err-journal-clause-kept
returns-in_err-journal-clause-kept g c =
    let is = err_from_is_err_and c.from_residual.result c.from_residual.ensures.1 in
    rw (is.1, is.2) (find_kept (g.D.Disk.tells c.args.disk.now) (g.D.Disk.tells c.find.new.disk) c.find.ensures.stays c.in_err-journal.field-0.0 c.in_err-journal.ensures.kept)

pub returns-in_err-durable-clause-kept : goal.returns-in_err-durable-clause-kept
returns-in_err-durable-clause-kept g c =
    let is = err_from_is_err_and c.from_residual-in_err-durable.result c.from_residual-in_err-durable.ensures.1 in
    rw (is.1, is.2) (kept_at (g.D.Disk.tells c.args.disk.now) (g.D.Disk.tells c.read_payloads.new.disk)
    (read_keeps (g.D.Disk.tells c.args.disk.now) (g.D.Disk.tells c.find.new.disk) c.find.ensures.stays c.in_ok-journal.journal
    (λ honest. let found = c.in_ok-journal.ensures.found honest in (found.0, found.1, found.2)) c.in_ok-journal.ensures.goes_on c.in_ok-journal.ensures.others
    (g.D.Disk.tells c.read_payloads.new.disk) c.read_payloads.ensures.same.0 c.read_payloads.ensures.same.1)
    c.in_err-durable.field-0.0)

pub returns-clause-keeps : goal.returns-clause-keeps
returns-clause-keeps g c =
    read_keeps (g.D.Disk.tells c.args.disk.now) (g.D.Disk.tells c.find.new.disk) c.find.ensures.stays c.in_ok-journal.journal
    (λ honest. let found = c.in_ok-journal.ensures.found honest in (found.0, found.1, found.2)) c.in_ok-journal.ensures.goes_on c.in_ok-journal.ensures.others
    (g.D.Disk.tells c.read_payloads.new.disk) c.read_payloads.ensures.same.0 c.read_payloads.ensures.same.1

pub returns-in_err-durable-clause-stays : goal.returns-in_err-durable-clause-stays
returns-in_err-durable-clause-stays g c =
    then_reads (g.D.Disk.tells c.args.disk.now) (g.D.Disk.tells c.find.new.disk) (g.D.Disk.tells c.read_payloads.new.disk) c.read_payloads.ensures.same.0 c.find.ensures.stays c.read_payloads.ensures.same.1

pub returns-in_err-durable-clause-any_moment : goal.returns-in_err-durable-clause-any_moment
returns-in_err-durable-clause-any_moment g c =
    then_run g.D.Disk c.args.disk.now c.find.new.disk c.read_payloads.new.disk _ _
    (weaker g.D.Disk c.args.disk.now c.find.new.disk _ _ c.find.ensures.any_moment (finding_leaves (g.D.Disk.tells c.args.disk.now) c.requires))
    c.read_payloads.ensures.any_moment
    (found_leaves (g.D.Disk.tells c.args.disk.now) (g.D.Disk.tells c.find.new.disk) c.find.ensures.stays c.in_ok-journal.journal c.in_ok-journal.spans.items c.in_ok-journal.ensures.found c.in_ok-journal.ensures.others c.requires)

pub returns-in_err-durable-clause-damaged : goal.returns-in_err-durable-clause-damaged
returns-in_err-durable-clause-damaged g c =
    let is = err_from_is_err_and c.from_residual-in_err-durable.result c.from_residual-in_err-durable.ensures.1 in
    rw (is.1, is.2) (damage_only_weaker _ _ c.in_err-durable.field-0.0
    (λ damage breaks. found_names (g.D.Disk.tells c.args.disk.now) (g.D.Disk.tells c.find.new.disk) c.find.ensures.stays c.in_ok-journal.journal c.in_ok-journal.spans.items c.in_ok-journal.ensures.found c.in_ok-journal.ensures.goes_on damage
    (breaks_named c.file.result (name_of c.in_ok-journal.journal) (g.D.Disk.tells c.find.new.disk) c.deref.result.now c.in_ok-journal.spans.items c.fresh.result c.file.ensures c.deref.ensures.value c.fresh.ensures damage breaks))
    c.in_err-durable.ensures.damaged)

pub returns-clause-found : goal.returns-clause-found
returns-clause-found g c =
    read_from (g.D.Disk.tells c.args.disk.now) (g.D.Disk.tells c.find.new.disk) c.find.ensures.stays c.in_ok-journal.journal c.in_ok-journal.spans.items c.in_ok-journal.ensures.found c.in_ok-journal.ensures.others c.requires
    c.in_ok-journal.ensures.goes_on (g.D.Disk.tells c.read_payloads.new.disk) c.read_payloads.ensures.same.0 c.read_payloads.ensures.same.1 c.in_ok-durable.durable
    (folds_named c.file.result (name_of c.in_ok-journal.journal) (g.D.Disk.tells c.find.new.disk) c.deref.result.now c.in_ok-journal.spans.items c.fresh.result c.file.ensures c.deref.ensures.value c.fresh.ensures c.in_ok-durable.durable c.in_ok-durable.ensures.folded)

pub returns-clause-stays : goal.returns-clause-stays
returns-clause-stays g c =
    then_reads (g.D.Disk.tells c.args.disk.now) (g.D.Disk.tells c.find.new.disk) (g.D.Disk.tells c.read_payloads.new.disk) c.read_payloads.ensures.same.0 c.find.ensures.stays c.read_payloads.ensures.same.1

pub returns-clause-any_moment : goal.returns-clause-any_moment
returns-clause-any_moment g c =
    then_run g.D.Disk c.args.disk.now c.find.new.disk c.read_payloads.new.disk _ _
    (weaker g.D.Disk c.args.disk.now c.find.new.disk _ _ c.find.ensures.any_moment (finding_leaves (g.D.Disk.tells c.args.disk.now) c.requires))
    c.read_payloads.ensures.any_moment
    (found_leaves (g.D.Disk.tells c.args.disk.now) (g.D.Disk.tells c.find.new.disk) c.find.ensures.stays c.in_ok-journal.journal c.in_ok-journal.spans.items c.in_ok-journal.ensures.found c.in_ok-journal.ensures.others c.requires)
