use Rattle.std.proofs.Common.{arith, refl}
use Rattle.std.proofs.lemmas.Result.{err_from_is_err_and}
use Rattle.pg_page.proofs.FaultLaws.{gate_fault}
use Rattle.pg_page.proofs.PlaceLaws.{not_cut, not_shut, span_is}
use Rattle.pg_page.proofs.places.span_at.Goals as goal

pub returns-in_err-span-clause-damaged : goal.returns-in_err-span-clause-damaged
returns-in_err-span-clause-damaged g c =
    let is = err_from_is_err_and c.from_residual.result c.from_residual.ensures.1 in
    rw (is.1, is.2) (gate_fault c.args.file (g.D.Disk.tells c.args.disk.now) c.saturating_sub.result c.in_err-span.field-0.0
    (λ h s there cut.
    let size = c.requires.size h s there in
    let some = c.requires.stands h s there in
    absurd (not_cut s.bytes c.args.offset c.saturating_sub.result c.args.end some.0 some.1 some.2 (omega (arith, size)) c.saturating_sub.ensures cut))
    c.in_err-span.ensures.only c.in_err-span.ensures.damaged)

pub returns-in-Some-clause-span : goal.returns-in-Some-clause-span
returns-in-Some-clause-span g c = λ h s there before payload stands.
    let size = c.requires.size h s there in
    let next = rw c.in-Some.is at c.in_ok-span.ensures.next in
    let in_file = rw c.in-Some.is at c.in_ok-span.ensures.in_file in
    span_is s.bytes c.args.offset c.saturating_sub.result c.args.end before payload stands (omega (arith, size)) c.saturating_sub.ensures c.in-Some.span size (next h s there) in_file

pub returns-in-None-clause-damaged : goal.returns-in-None-clause-damaged
returns-in-None-clause-damaged g c = (
  refl,
  λ h s there.
      let size = c.requires.size h s there in
      let some = c.requires.stands h s there in
      let next = rw c.in-None.is at c.in_ok-span.ensures.next in
      absurd (not_shut s.bytes c.args.offset c.saturating_sub.result c.args.end some.0 some.1 some.2 (omega (arith, size)) c.saturating_sub.ensures (next h s there)),
)
