use Rattle.std.proofs.Common.{sym, subst, arith}
use Rattle.std.specs.FinMap.{get}
use Rattle.pg_disk.specs.Account.{account}
use Rattle.pg_disk.specs.Calls.{Changes, ChangesFile, Reads}
use Rattle.pg_gate.specs.Gated.{Anyhow, IsLaid}
use Rattle.pg_gate.specs.Spans.{StaysOrMends}
use Rattle.pg_gate.proofs.Reading.{no_reads}
use Rattle.pg_gate.proofs.StaysOrMends.{closes_after_reads, kept_shut, changes_after_reads, either_change, mended, not_both, opens_long}
use Rattle.pg_gate.proofs.scanning.mend.Goals.{else-end-eq1-via-then-end-eq1+in_ok-begins_open+else-not-branch, else-end-eq1-via-else-end-eq1}
use Rattle.pg_gate.proofs.scanning.mend.Goals as goal

pub returns-then-not-branch-clause-rests : goal.returns-then-not-branch-clause-rests
returns-then-not-branch-clause-rests g c =
    kept_shut c.args.file (g.D.Disk.tells c.args.disk.now) (g.D.Disk.tells c.begins_open.new.disk) c.begins_open.ensures.same.0 c.args.end c.in_ok-begins_open.field-0 c.begins_open.ensures.same.1 c.requires (omega arith) c.in_ok-begins_open.ensures.first
    (not_both c.in_ok-begins_open.field-0 c.if-not-branch.true)

pub returns-clause-stays : goal.returns-clause-stays
returns-clause-stays g c =
    let change : Changes (g.D.Disk.tells c.else-end-eq1.disk) (g.D.Disk.tells c.close.new.disk) (ChangesFile c.args.file Anyhow) =
    either_change c.args.file (g.D.Disk.tells c.else-end-eq1.disk) (g.D.Disk.tells c.close.new.disk) (λ _ s. IsLaid s) c.close.result c.close.ensures.closed c.close.ensures.other_files in
    elim c.else-end-eq1.branch [
      | else-end-eq1-via-then-end-eq1+in_ok-begins_open+else-not-branch w ↦
          changes_after_reads c.args.file (g.D.Disk.tells c.args.disk.now) (g.D.Disk.tells c.else-end-eq1.disk) (g.D.Disk.tells c.close.new.disk) w.begins_open.ensures.same.0 Anyhow StaysOrMends
          (subst (λ d. Changes (g.D.Disk.tells c.args.disk.now) (g.D.Disk.tells d) (Reads w.begins_open.ensures.same.0)) (sym w.disk-is) w.begins_open.ensures.same.1) change
          (λ h t _. mended c.args.end (get (account (g.D.Disk.tells c.args.disk.now)).files c.args.file) t (c.requires h)
          (λ u there one. (w.in_ok-begins_open.ensures.first h u there (opens_long c.args.end (get (account (g.D.Disk.tells c.args.disk.now)).files c.args.file) u (c.requires h) there one)).0 w.if-not-branch.false))
      | else-end-eq1-via-else-end-eq1 w ↦
          changes_after_reads c.args.file (g.D.Disk.tells c.args.disk.now) (g.D.Disk.tells c.else-end-eq1.disk) (g.D.Disk.tells c.close.new.disk) 0 Anyhow StaysOrMends
          (subst (λ d. Changes (g.D.Disk.tells c.args.disk.now) (g.D.Disk.tells d) (Reads 0)) (sym w.disk-is) (no_reads (g.D.Disk.tells c.args.disk.now))) change
          (λ h t _. mended c.args.end (get (account (g.D.Disk.tells c.args.disk.now)).files c.args.file) t (c.requires h) (λ u there one. absurd (omega arith)))
    ]

pub returns-clause-rests : goal.returns-clause-rests
returns-clause-rests g c = elim c.else-end-eq1.branch [
  | else-end-eq1-via-then-end-eq1+in_ok-begins_open+else-not-branch w ↦
      closes_after_reads c.args.file (g.D.Disk.tells c.args.disk.now) (g.D.Disk.tells c.else-end-eq1.disk) (g.D.Disk.tells c.close.new.disk) w.begins_open.ensures.same.0 c.close.result
      (subst (λ d. Changes (g.D.Disk.tells c.args.disk.now) (g.D.Disk.tells d) (Reads w.begins_open.ensures.same.0)) (sym w.disk-is) w.begins_open.ensures.same.1) c.close.ensures.closed
  | else-end-eq1-via-else-end-eq1 w ↦
      closes_after_reads c.args.file (g.D.Disk.tells c.args.disk.now) (g.D.Disk.tells c.else-end-eq1.disk) (g.D.Disk.tells c.close.new.disk) 0 c.close.result
      (subst (λ d. Changes (g.D.Disk.tells c.args.disk.now) (g.D.Disk.tells d) (Reads 0)) (sym w.disk-is) (no_reads (g.D.Disk.tells c.args.disk.now))) c.close.ensures.closed
]
