use Rattle.std.proofs.Common.{◌≡◌, ◌+◌, inl, [], length, refl, ap, ◌∙◌, subst, arith}
use Rattle.std.proofs.lemmas.Result.{err_from_is_err_and}
use Rattle.std.specs.FinMap.{get}
use Rattle.pg_disk.specs.Account.{account}
use Rattle.pg_disk.specs.Counts.{DiskFailed}
use Rattle.pg_gate.specs.Spans.{IsWalked}
use Rattle.pg_gate.proofs.Reading.{as_read_before, cut_after, failed_unspent, none_within, reads_then, within_after, within_later}
use Rattle.pg_gate.proofs.IsScanned.{walk_scanned, walk_there, quiet_there}
use Rattle.pg_gate.proofs.KeepsAsRead.{in_length, in_walk, in_mend}
use Rattle.pg_gate.proofs.StaysOrMends.{reads_stay, short_after, stays_then}
use Rattle.pg_gate.proofs.Taking.{gates_after, mended_taken}
use Rattle.pg_gate.proofs.scanning.scan_synced.Goals as goal

pub returns-in_err-end-clause-any_moment : goal.returns-in_err-end-clause-any_moment
returns-in_err-end-clause-any_moment g c =
    in_length g.D.Disk c.args.file c.args.disk.now c.requires (g.met.D.Disk.only_now c.args.disk.now) c.length.new.self c.length.ensures.time

pub returns-in_err-mend-clause-any_moment : goal.returns-in_err-mend-clause-any_moment
returns-in_err-mend-clause-any_moment g c =
    in_mend g.D.Disk c.args.file c.args.disk.now c.requires (g.met.D.Disk.only_now c.args.disk.now) c.length.new.self c.length.ensures.time c.length.ensures.same
    c.in_ok-end.end (omega arith) c.in_ok-end.ensures.length c.mend.new.disk c.mend.ensures.any_moment

pub returns-then-end-le1-clause-any_moment : goal.returns-then-end-le1-clause-any_moment
returns-then-end-le1-clause-any_moment g c =
    in_mend g.D.Disk c.args.file c.args.disk.now c.requires (g.met.D.Disk.only_now c.args.disk.now) c.length.new.self c.length.ensures.time c.length.ensures.same
    c.in_ok-end.end (omega arith) c.in_ok-end.ensures.length c.mend.new.disk c.mend.ensures.any_moment

pub returns-in_err-spans-clause-any_moment : goal.returns-in_err-spans-clause-any_moment
returns-in_err-spans-clause-any_moment g c =
    in_walk g.D.Disk c.args.file c.args.disk.now c.requires (g.met.D.Disk.only_now c.args.disk.now) c.length.new.self c.length.ensures.time c.length.ensures.same c.walk.new.disk c.walk.ensures.any_moment

pub returns-clause-any_moment : goal.returns-clause-any_moment
returns-clause-any_moment g c =
    in_walk g.D.Disk c.args.file c.args.disk.now c.requires (g.met.D.Disk.only_now c.args.disk.now) c.length.new.self c.length.ensures.time c.length.ensures.same c.walk.new.disk c.walk.ensures.any_moment

pub returns-clause-scanned : goal.returns-clause-scanned
returns-clause-scanned g c = λ honest s there.
    let end_is = c.in_ok-end.ensures.length honest s there in
    let kept = c.length.ensures.same.kept honest in
    walk_scanned _ s.bytes c.in_ok-spans.gate c.in_ok-spans.spans.items s (get (account (g.D.Disk.tells c.walk.new.disk)).files c.args.file) refl refl (omega (arith, end_is, c.in_ok-spans.ensures.in_file))
    (quiet_there (get (account (g.D.Disk.tells c.args.disk.now)).files c.args.file) s (c.requires honest) there)
    (ap (λ m. get m c.args.file) (c.walk.ensures.same.1.step kept).files ∙ ap (λ m. get m c.args.file) (c.length.ensures.same.step honest).files ∙ there)
    (as_read_before c.args.file (g.D.Disk.tells c.args.disk.now) (g.D.Disk.tells c.length.new.self) 0 (λ bytes. c.in_ok-end.end ≡ length bytes → IsWalked bytes c.in_ok-spans.gate c.in_ok-spans.spans.items)
    c.length.ensures.same c.in_ok-spans.ensures.walked honest s there end_is)

pub returns-in_err-end-clause-stays : goal.returns-in_err-end-clause-stays
returns-in_err-end-clause-stays g c = reads_stay c.args.file (g.D.Disk.tells c.args.disk.now) (g.D.Disk.tells c.length.new.self) 0 c.length.ensures.same

pub returns-in_err-end-clause-taken_err : goal.returns-in_err-end-clause-taken_err
returns-in_err-end-clause-taken_err g c = none_within c.from_residual.result c.args.file (g.D.Disk.tells c.args.disk.now) (g.D.Disk.tells c.length.new.self) c.length.ensures.same

pub returns-in_err-end-clause-damaged : goal.returns-in_err-end-clause-damaged
returns-in_err-end-clause-damaged g c =
    let is = err_from_is_err_and c.from_residual.result c.from_residual.ensures.1 in
    rw (is.1, is.2) tt

pub returns-in_err-end-clause-only : goal.returns-in_err-end-clause-only
returns-in_err-end-clause-only g c =
    let is = err_from_is_err_and c.from_residual.result c.from_residual.ensures.1 in
    rw (is.1, is.2) failed_unspent

pub returns-in_err-end-clause-cause : goal.returns-in_err-end-clause-cause
returns-in_err-end-clause-cause g c =
    let is = err_from_is_err_and c.from_residual.result c.from_residual.ensures.1 in
    rw (is.1, is.2) c.in_err-end.ensures.cause

pub mend-requires : goal.mend-requires
mend-requires g c = short_after c.args.file (g.D.Disk.tells c.args.disk.now) (g.D.Disk.tells c.length.new.self) c.in_ok-end.end c.length.ensures.same c.requires (omega arith) c.in_ok-end.ensures.length

pub returns-in_err-mend-clause-stays : goal.returns-in_err-mend-clause-stays
returns-in_err-mend-clause-stays g c = stays_then c.args.file (g.D.Disk.tells c.args.disk.now) (g.D.Disk.tells c.length.new.self) (g.D.Disk.tells c.mend.new.disk) 0 c.length.ensures.same c.mend.ensures.stays

pub returns-in_err-mend-clause-taken_err : goal.returns-in_err-mend-clause-taken_err
returns-in_err-mend-clause-taken_err g c = within_later c.from_residual-in_err-mend.result c.args.file (g.D.Disk.tells c.args.disk.now) (g.D.Disk.tells c.length.new.self) (g.D.Disk.tells c.mend.new.disk) c.length.ensures.same c.mend.ensures.taken

pub returns-in_err-mend-clause-damaged : goal.returns-in_err-mend-clause-damaged
returns-in_err-mend-clause-damaged g c =
    let is = err_from_is_err_and c.from_residual-in_err-mend.result c.from_residual-in_err-mend.ensures.1 in
    rw (is.1, is.2) tt

pub returns-in_err-mend-clause-only : goal.returns-in_err-mend-clause-only
returns-in_err-mend-clause-only g c =
    let is = err_from_is_err_and c.from_residual-in_err-mend.result c.from_residual-in_err-mend.ensures.1 in
    rw (is.1, is.2) failed_unspent

pub returns-in_err-mend-clause-cause : goal.returns-in_err-mend-clause-cause
returns-in_err-mend-clause-cause g c =
    let is = err_from_is_err_and c.from_residual-in_err-mend.result c.from_residual-in_err-mend.ensures.1 in
    rw (is.1, is.2) (subst (λ f. DiskFailed f (g.D.Disk.faults c.mend.new.disk)) c.in_ok-end.ensures.cause c.in_err-mend.ensures.cause)

pub returns-then-end-le1-clause-scanned : goal.returns-then-end-le1-clause-scanned
returns-then-end-le1-clause-scanned g c = λ h s there. record {
  batches = [];
  are = inl (omega (arith, c.in_ok-end.ensures.length h s there), refl);
  places = c.new.ensures.items;
  stands = (c.in_ok-mend.ensures.rests.step (c.length.ensures.same.kept h)).change;
  counted = refl;
}

pub returns-then-end-le1-clause-stays : goal.returns-then-end-le1-clause-stays
returns-then-end-le1-clause-stays g c = stays_then c.args.file (g.D.Disk.tells c.args.disk.now) (g.D.Disk.tells c.length.new.self) (g.D.Disk.tells c.mend.new.disk) 0 c.length.ensures.same c.mend.ensures.stays

pub returns-then-end-le1-clause-taken : goal.returns-then-end-le1-clause-taken
returns-then-end-le1-clause-taken g c = mended_taken c.args.file (g.D.Disk.tells c.args.disk.now) (g.D.Disk.tells c.length.new.self) (g.D.Disk.tells c.mend.new.disk) c.in_ok-end.end c.new.result.items c.new.ensures.items c.length.ensures.same c.in_ok-end.ensures.length (omega arith) c.mend.ensures.taken

pub walk-requires-clause-there : goal.walk-requires-clause-there
walk-requires-clause-there g c = walk_there c.args.file (g.D.Disk.tells c.args.disk.now) (g.D.Disk.tells c.length.new.self) 0 c.length.ensures.same c.requires

pub returns-in_err-spans-clause-stays : goal.returns-in_err-spans-clause-stays
returns-in_err-spans-clause-stays g c = reads_stay c.args.file (g.D.Disk.tells c.args.disk.now) (g.D.Disk.tells c.walk.new.disk) (0 + c.walk.ensures.same.0) (reads_then (g.D.Disk.tells c.args.disk.now) (g.D.Disk.tells c.length.new.self) (g.D.Disk.tells c.walk.new.disk) 0 c.walk.ensures.same.0 c.length.ensures.same c.walk.ensures.same.1)

pub returns-in_err-spans-clause-taken_err : goal.returns-in_err-spans-clause-taken_err
returns-in_err-spans-clause-taken_err g c = within_after c.args.file (g.D.Disk.tells c.args.disk.now) (g.D.Disk.tells c.length.new.self) c.in_ok-end.end c.length.ensures.same c.in_ok-end.ensures.length c.from_residual-in_err-spans.result (g.D.Disk.tells c.walk.new.disk) c.in_err-spans.ensures.taken_err

pub returns-in_err-spans-clause-damaged : goal.returns-in_err-spans-clause-damaged
returns-in_err-spans-clause-damaged g c =
    let is = err_from_is_err_and c.from_residual-in_err-spans.result c.from_residual-in_err-spans.ensures.1 in
    rw (is.1, is.2) (cut_after c.args.file (g.D.Disk.tells c.args.disk.now) (g.D.Disk.tells c.length.new.self) c.in_ok-end.end c.length.ensures.same c.in_ok-end.ensures.length c.in_err-spans.field-0.0 c.in_err-spans.ensures.damaged)

pub returns-in_err-spans-clause-only : goal.returns-in_err-spans-clause-only
returns-in_err-spans-clause-only g c =
    let is = err_from_is_err_and c.from_residual-in_err-spans.result c.from_residual-in_err-spans.ensures.1 in
    rw (is.1, is.2) c.in_err-spans.ensures.only

pub returns-clause-stays : goal.returns-clause-stays
returns-clause-stays g c = reads_stay c.args.file (g.D.Disk.tells c.args.disk.now) (g.D.Disk.tells c.walk.new.disk) (0 + c.walk.ensures.same.0) (reads_then (g.D.Disk.tells c.args.disk.now) (g.D.Disk.tells c.length.new.self) (g.D.Disk.tells c.walk.new.disk) 0 c.walk.ensures.same.0 c.length.ensures.same c.walk.ensures.same.1)

pub returns-clause-taken : goal.returns-clause-taken
returns-clause-taken g c = gates_after c.args.file (g.D.Disk.tells c.args.disk.now) (g.D.Disk.tells c.length.new.self) (g.D.Disk.tells c.walk.new.disk) c.in_ok-end.end c.in_ok-spans.spans.items c.length.ensures.same c.in_ok-end.ensures.length c.in_ok-spans.ensures.taken
