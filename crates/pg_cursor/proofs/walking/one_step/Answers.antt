use Rattle.std.proofs.Common.{◌≡◌, ◌+◌, Option, sym, subst, arith, true, false}
use Rattle.std.specs.FinMap.{FinMap}
use Rattle.pg_disk.specs.Account.{FileState}
use Rattle.pg_disk.specs.Files.{file_cmp}
use Rattle.pg_disk.specs.Views.{as_read}
use Rattle.pg_disk.specs.Account.{account}
use Rattle.pg_gate.proofs.Reading.{reads_then, still_there}
use Rattle.pg_page.specs.declared.place.Place.{Place}
use Rattle.pg_page.specs.Pages.{page_file, pages_of}
use Rattle.pg_cursor.specs.Entries.{IsLive}
use Rattle.pg_cursor.specs.Walking.{IsNext}
use Rattle.pg_cursor.specs.Ways.{ReadsAt}
use Rattle.pg_cursor.proofs.Along.{reads_place, reads_turn}
use Rattle.pg_cursor.proofs.Stepping.{step_finds, step_passes, step_turns}
use Rattle.pg_cursor.proofs.walking.one_step.Goals as goal

pub returns-in-None-clause-walks : goal.returns-in-None-clause-walks
returns-in-None-clause-walks g c = λ h.
    step_turns c.args.queue c.args.acks.now c.args.txs.now (pages_of (as_read (account (g.D.Disk.tells c.args.disk.now)).files) c.args.address) c.args.tail c.args.last c.page_of-page.result c.in_ok-next.next c.if_onward.result c.turn.result
    c.page_of-page.ensures (c.in_ok-next.ensures.next h) c.if_onward.ensures.same c.in-None.is c.turn.ensures

pub is_live-requires-clause-there : goal.is_live-requires-clause-there
is_live-requires-clause-there g c =
    still_there (page_file c.args.address c.in-Some.place.position.page) (g.D.Disk.tells c.args.disk.now) (g.D.Disk.tells c.next_on_page.new.disk) c.next_on_page.ensures.same.0 c.next_on_page.ensures.same.1
    (λ h. c.requires.there h c.in-Some.place.position.page (omega (arith, c.in-Some.ensures.onward.0)) (omega (arith, c.in-Some.ensures.onward.0)))

pub returns-in_err-is_live-in-Some-clause-same : goal.returns-in_err-is_live-in-Some-clause-same
returns-in_err-is_live-in-Some-clause-same g c = (
  c.next_on_page.ensures.same.0 + c.is_live.ensures.same.0,
  reads_then (g.D.Disk.tells c.args.disk.now) (g.D.Disk.tells c.next_on_page.new.disk) (g.D.Disk.tells c.is_live.new.disk) c.next_on_page.ensures.same.0 c.is_live.ensures.same.0 c.next_on_page.ensures.same.1 c.is_live.ensures.same.1,
)

pub returns-then-branch-clause-same : goal.returns-then-branch-clause-same
returns-then-branch-clause-same g c = (
  c.next_on_page.ensures.same.0 + c.is_live.ensures.same.0,
  reads_then (g.D.Disk.tells c.args.disk.now) (g.D.Disk.tells c.next_on_page.new.disk) (g.D.Disk.tells c.is_live.new.disk) c.next_on_page.ensures.same.0 c.is_live.ensures.same.0 c.next_on_page.ensures.same.1 c.is_live.ensures.same.1,
)

pub returns-else-branch-clause-same : goal.returns-else-branch-clause-same
returns-else-branch-clause-same g c = (
  c.next_on_page.ensures.same.0 + c.is_live.ensures.same.0,
  reads_then (g.D.Disk.tells c.args.disk.now) (g.D.Disk.tells c.next_on_page.new.disk) (g.D.Disk.tells c.is_live.new.disk) c.next_on_page.ensures.same.0 c.is_live.ensures.same.0 c.next_on_page.ensures.same.1 c.is_live.ensures.same.1,
)

pub returns-then-branch-clause-walks : goal.returns-then-branch-clause-walks
returns-then-branch-clause-walks g c = λ h.
    let change = c.next_on_page.ensures.same.1 in
    step_finds c.args.queue c.args.acks.now c.args.txs.now (pages_of (as_read (account (g.D.Disk.tells c.args.disk.now)).files) c.args.address) c.args.tail c.in-Some.place
    (subst (λ (o : Option Place). IsNext c.args.tail o (pages_of (as_read (account (g.D.Disk.tells c.args.disk.now)).files) c.args.address)) c.in-Some.ensures.given (c.in_ok-next.ensures.next h))
    (subst (λ (files : FinMap file_cmp FileState). IsLive c.args.queue c.args.acks.now c.args.txs.now (pages_of (as_read files) c.args.address) c.in-Some.place) (change.step h).files
    ((c.in_ok-is_live-in-Some.ensures.live (change.kept h)).0 c.if-branch.true))

pub returns-else-branch-clause-walks : goal.returns-else-branch-clause-walks
returns-else-branch-clause-walks g c = λ h.
    let change = c.next_on_page.ensures.same.1 in
    step_passes c.args.queue c.args.acks.now c.args.txs.now (pages_of (as_read (account (g.D.Disk.tells c.args.disk.now)).files) c.args.address) c.args.tail c.in-Some.place
    (subst (λ (o : Option Place). IsNext c.args.tail o (pages_of (as_read (account (g.D.Disk.tells c.args.disk.now)).files) c.args.address)) c.in-Some.ensures.given (c.in_ok-next.ensures.next h))
    (λ live. let yes : c.in_ok-is_live-in-Some.field-0 ≡ true = (c.in_ok-is_live-in-Some.ensures.live (change.kept h)).1 (subst (λ (files : FinMap file_cmp FileState). IsLive c.args.queue c.args.acks.now c.args.txs.now (pages_of (as_read files) c.args.address) c.in-Some.place) (sym (change.step h).files) live) in
    let no : c.in_ok-is_live-in-Some.field-0 ≡ false = c.if-branch.false in
    (cc (yes, no)))

pub returns-in-None-clause-taken : goal.returns-in-None-clause-taken
returns-in-None-clause-taken g c = λ h.
    reads_turn (pages_of (as_read (account (g.D.Disk.tells c.args.disk.now)).files) c.args.address) c.args.tail c.args.last c.page_of-page.result c.in_ok-next.next c.if_onward.result c.turn.result _ _ c.page_of-page.ensures (c.in_ok-next.ensures.next h) c.if_onward.ensures.same c.in-None.is c.turn.ensures (c.next_on_page.ensures.taken h)

pub returns-then-branch-clause-taken : goal.returns-then-branch-clause-taken
returns-then-branch-clause-taken g c = λ h.
    let change = c.next_on_page.ensures.same.1 in
    reads_place (pages_of (as_read (account (g.D.Disk.tells c.args.disk.now)).files) c.args.address) c.args.tail c.in-Some.place _ (account (g.D.Disk.tells c.next_on_page.new.disk)).taken _
    (subst (λ (o : Option Place). IsNext c.args.tail o (pages_of (as_read (account (g.D.Disk.tells c.args.disk.now)).files) c.args.address)) c.in-Some.ensures.given (c.in_ok-next.ensures.next h)) (c.next_on_page.ensures.taken h)
    (subst (λ (files : FinMap file_cmp FileState). ReadsAt c.in-Some.place (pages_of (as_read files) c.args.address) (account (g.D.Disk.tells c.next_on_page.new.disk)).taken (account (g.D.Disk.tells c.is_live.new.disk)).taken) (change.step h).files
    (c.in_ok-is_live-in-Some.ensures.taken (change.kept h)))

pub returns-else-branch-clause-taken : goal.returns-else-branch-clause-taken
returns-else-branch-clause-taken g c = λ h.
    let change = c.next_on_page.ensures.same.1 in
    reads_place (pages_of (as_read (account (g.D.Disk.tells c.args.disk.now)).files) c.args.address) c.args.tail c.in-Some.place _ (account (g.D.Disk.tells c.next_on_page.new.disk)).taken _
    (subst (λ (o : Option Place). IsNext c.args.tail o (pages_of (as_read (account (g.D.Disk.tells c.args.disk.now)).files) c.args.address)) c.in-Some.ensures.given (c.in_ok-next.ensures.next h)) (c.next_on_page.ensures.taken h)
    (subst (λ (files : FinMap file_cmp FileState). ReadsAt c.in-Some.place (pages_of (as_read files) c.args.address) (account (g.D.Disk.tells c.next_on_page.new.disk)).taken (account (g.D.Disk.tells c.is_live.new.disk)).taken) (change.step h).files
    (c.in_ok-is_live-in-Some.ensures.taken (change.kept h)))
