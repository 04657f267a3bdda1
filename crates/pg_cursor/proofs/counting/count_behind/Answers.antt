use Rattle.std.proofs.Common.{◌+◌, refl, sym, subst, arith, ◌∙◌}
use Rattle.std.specs.FinMap.{FinMap}
use Rattle.pg_disk.specs.Account.{FileState, account}
use Rattle.pg_disk.specs.Files.{file_cmp}
use Rattle.pg_disk.specs.Image.{Leaves}
use Rattle.pg_disk.specs.Views.{as_read}
use Rattle.pg_disk.proofs.Composing.{started}
use Rattle.pg_gate.proofs.Reading.{no_reads, reads_then, run_reads, still_there}
use Rattle.pg_page.specs.Pages.{page_file, pages_of}
use Rattle.pg_cursor.specs.declared.tail.Tail.TheVariants.{Behind}
use Rattle.pg_cursor.specs.declared.walking.Step.{Step}
use Rattle.pg_cursor.specs.declared.walking.Step.TheVariants.{Finds, Passes, Stays}
use Rattle.pg_cursor.specs.Counting.{HasCount}
use Rattle.pg_cursor.specs.Walking.{IsStep, OnPages, StepsOn, TailStands}
use Rattle.pg_cursor.proofs.CountedBehind.{IsFound, all_found, more_passed, none_found, one_more, within_passed}
use Rattle.pg_cursor.proofs.Walked.{later_then, page_later, still}
use Rattle.pg_cursor.proofs.counting.count_behind.Goals as goal

pub frames-init : goal.frames-init
frames-init g c = record {
  reads = 0;
  same = no_reads (g.D.Disk.tells c.args.disk.now);
  run = started g.D.Disk c.args.disk.now Leaves (g.met.D.Disk.only_now c.args.disk.now);
  faults = refl;
  later = still c.args.from;
  near = λ position passed behind. absurd (behind passed);
  stands = c.requires.stands;
  counted = λ h. none_found c.args.queue c.args.acks.now c.args.txs.now (pages_of (as_read (account (g.D.Disk.tells c.args.disk.now)).files) c.args.address) c.args.from;
}

pub one_step-requires-clause-there : goal.one_step-requires-clause-there
one_step-requires-clause-there g c = λ h page from to.
    still_there (page_file c.args.address page) (g.D.Disk.tells c.args.disk.now) (g.D.Disk.tells c.frames.disk) c.frames.invariant.reads c.frames.invariant.same
    (λ h0. c.requires.there h0 page (omega (arith, page_later c.args.from c.frames.tail c.frames.invariant.later, from)) to) h

pub one_step-requires-clause-stands : goal.one_step-requires-clause-stands
one_step-requires-clause-stands g c = λ h.
    let same = c.frames.invariant.same in
    subst (λ (files : FinMap file_cmp FileState). TailStands c.frames.tail (pages_of (as_read files) c.args.address)) (sym (same.step (same.back h)).files) (c.frames.invariant.stands (same.back h))

pub returns-in_err-one_step-clause-same : goal.returns-in_err-one_step-clause-same
returns-in_err-one_step-clause-same g c = (
  c.frames.invariant.reads + c.one_step.ensures.same.0,
  reads_then (g.D.Disk.tells c.args.disk.now) (g.D.Disk.tells c.frames.disk) (g.D.Disk.tells c.one_step.new.disk) c.frames.invariant.reads c.one_step.ensures.same.0 c.frames.invariant.same c.one_step.ensures.same.1,
)

pub returns-in-Stays-clause-same : goal.returns-in-Stays-clause-same
returns-in-Stays-clause-same g c = (
  c.frames.invariant.reads + c.one_step.ensures.same.0,
  reads_then (g.D.Disk.tells c.args.disk.now) (g.D.Disk.tells c.frames.disk) (g.D.Disk.tells c.one_step.new.disk) c.frames.invariant.reads c.one_step.ensures.same.0 c.frames.invariant.same c.one_step.ensures.same.1,
)

pub returns-in-Stays-clause-count : goal.returns-in-Stays-clause-count
returns-in-Stays-clause-count g c = λ h.
    all_found c.args.queue c.args.acks.now c.args.txs.now (pages_of (as_read (account (g.D.Disk.tells c.args.disk.now)).files) c.args.address) c.args.from c.args.last c.frames.tail c.frames.count c.frames.invariant.near
    (subst (λ (files : FinMap file_cmp FileState). IsStep c.args.queue c.args.acks.now c.args.txs.now c.args.last c.frames.tail Stays (pages_of (as_read files) c.args.address)) (c.frames.invariant.same.step h).files
    (subst (λ (s : Step). IsStep c.args.queue c.args.acks.now c.args.txs.now c.args.last c.frames.tail s (pages_of (as_read (account (g.D.Disk.tells c.frames.disk)).files) c.args.address)) c.in-Stays.is (c.in_ok-one_step.ensures.walks (c.frames.invariant.same.kept h))))
    (c.frames.invariant.counted h)

pub frames-preserved-in-Passes : goal.frames-preserved-in-Passes
frames-preserved-in-Passes g c =
    let on = subst (λ (s : Step). StepsOn c.args.last c.frames.tail s) c.in-Passes.is c.in_ok-one_step.ensures.onward in
    let walks : OnPages g.D.Disk c.args.disk.now c.args.address (IsStep c.args.queue c.args.acks.now c.args.txs.now c.args.last c.frames.tail (Passes c.in-Passes.next)) = λ h.
    subst (λ (files : FinMap file_cmp FileState). IsStep c.args.queue c.args.acks.now c.args.txs.now c.args.last c.frames.tail (Passes c.in-Passes.next) (pages_of (as_read files) c.args.address)) (c.frames.invariant.same.step h).files
    (subst (λ (s : Step). IsStep c.args.queue c.args.acks.now c.args.txs.now c.args.last c.frames.tail s (pages_of (as_read (account (g.D.Disk.tells c.frames.disk)).files) c.args.address)) c.in-Passes.is (c.in_ok-one_step.ensures.walks (c.frames.invariant.same.kept h))) in
    record {
      reads = c.frames.invariant.reads + c.one_step.ensures.same.0;
      same = reads_then (g.D.Disk.tells c.args.disk.now) (g.D.Disk.tells c.frames.disk) (g.D.Disk.tells c.one_step.new.disk) c.frames.invariant.reads c.one_step.ensures.same.0 c.frames.invariant.same c.one_step.ensures.same.1;
      run = run_reads g.D.Disk c.args.disk.now c.frames.disk c.one_step.new.disk c.frames.invariant.reads c.frames.invariant.same c.frames.invariant.run c.one_step.ensures.any_moment;
      faults = c.in_ok-one_step.ensures.cause ∙ c.frames.invariant.faults;
      later = later_then c.args.from c.frames.tail c.in-Passes.next c.frames.invariant.later on.farther;
      near = λ position passed behind. within_passed c.args.last c.in-Passes.next position on.within passed;
      stands = λ h. (walks h).stands;
      counted = λ h.
          more_passed c.args.queue c.args.acks.now c.args.txs.now (pages_of (as_read (account (g.D.Disk.tells c.args.disk.now)).files) c.args.address) c.args.from c.frames.tail c.in-Passes.next c.frames.count
          (later_then c.frames.tail c.frames.tail c.in-Passes.next (still c.frames.tail) on.farther) (walks h) (c.frames.invariant.counted h);
    }

pub frames-preserved : goal.frames-preserved
frames-preserved g c =
    let on = subst (λ (s : Step). StepsOn c.args.last c.frames.tail s) c.in-Finds.is c.in_ok-one_step.ensures.onward in
    let walks : OnPages g.D.Disk c.args.disk.now c.args.address (IsStep c.args.queue c.args.acks.now c.args.txs.now c.args.last c.frames.tail (Finds c.in-Finds.place)) = λ h.
    subst (λ (files : FinMap file_cmp FileState). IsStep c.args.queue c.args.acks.now c.args.txs.now c.args.last c.frames.tail (Finds c.in-Finds.place) (pages_of (as_read files) c.args.address)) (c.frames.invariant.same.step h).files
    (subst (λ (s : Step). IsStep c.args.queue c.args.acks.now c.args.txs.now c.args.last c.frames.tail s (pages_of (as_read (account (g.D.Disk.tells c.frames.disk)).files) c.args.address)) c.in-Finds.is (c.in_ok-one_step.ensures.walks (c.frames.invariant.same.kept h))) in
    let next = Behind c.in-Finds.place in
    record {
      reads = c.frames.invariant.reads + c.one_step.ensures.same.0;
      same = reads_then (g.D.Disk.tells c.args.disk.now) (g.D.Disk.tells c.frames.disk) (g.D.Disk.tells c.one_step.new.disk) c.frames.invariant.reads c.one_step.ensures.same.0 c.frames.invariant.same c.one_step.ensures.same.1;
      run = run_reads g.D.Disk c.args.disk.now c.frames.disk c.one_step.new.disk c.frames.invariant.reads c.frames.invariant.same c.frames.invariant.run c.one_step.ensures.any_moment;
      faults = c.in_ok-one_step.ensures.cause ∙ c.frames.invariant.faults;
      later = later_then c.args.from c.frames.tail next c.frames.invariant.later on.farther;
      near = λ position passed behind. within_passed c.args.last next position on.within passed;
      stands = λ h. (walks h).stands;
      counted = λ h.
          let pages = pages_of (as_read (account (g.D.Disk.tells c.args.disk.now)).files) c.args.address in
          subst (HasCount (IsFound c.args.queue c.args.acks.now c.args.txs.now pages c.args.from next)) (sym c.saturating_add-count.ensures)
          (one_more c.args.queue c.args.acks.now c.args.txs.now pages c.args.from c.frames.tail c.in-Finds.place c.frames.count
          c.frames.invariant.later (later_then c.frames.tail c.frames.tail next (still c.frames.tail) on.farther) (walks h) (c.frames.invariant.counted h));
    }
