use Rattle.std.proofs.Common.{◌+◌, None, refl, sym, subst, arith, ◌∙◌}
use Rattle.std.specs.FinMap.{FinMap}
use Rattle.pg_disk.specs.Account.{FileState, account}
use Rattle.pg_disk.specs.Files.{file_cmp}
use Rattle.pg_disk.specs.Image.{Leaves}
use Rattle.pg_disk.specs.Views.{as_read}
use Rattle.pg_disk.proofs.Composing.{started}
use Rattle.pg_gate.proofs.Reading.{no_reads, reads_then, run_reads, still_there}
use Rattle.pg_page.specs.Pages.{page_file, pages_of}
use Rattle.pg_cursor.specs.declared.walking.Step.{Step}
use Rattle.pg_cursor.specs.declared.walking.Step.TheVariants.{Passes}
use Rattle.pg_cursor.specs.Walking.{IsStep, StepsOn, TailStands}
use Rattle.pg_cursor.specs.Ways.{ReadsAlong, StepReads}
use Rattle.pg_cursor.specs.declared.tail.Tail.TheVariants.{Behind}
use Rattle.pg_cursor.proofs.Along.{reads_join, reads_more, reads_nothing}
use Rattle.pg_cursor.proofs.Walked.{begins, later_then, page_later, still, walks_then}
use Rattle.pg_cursor.proofs.walking.walk.Goals as goal

pub frames-init : goal.frames-init
frames-init g c = record {
  count = 0;
  same = no_reads (g.D.Disk.tells c.args.disk.now);
  run = started g.D.Disk c.args.disk.now Leaves (g.met.D.Disk.only_now c.args.disk.now);
  faults = refl;
  later = still c.args.from;
  read = λ h. reads_nothing (pages_of (as_read (account (g.D.Disk.tells c.args.disk.now)).files) c.args.address) c.args.from 0 _ _ (omega arith);
  walked = λ h. begins c.args.queue c.args.acks.now c.args.txs.now (pages_of (as_read (account (g.D.Disk.tells c.args.disk.now)).files) c.args.address) c.args.from (c.requires.stands h);
}

pub one_step-requires-clause-there : goal.one_step-requires-clause-there
one_step-requires-clause-there g c = λ h page from to.
    still_there (page_file c.args.address page) (g.D.Disk.tells c.args.disk.now) (g.D.Disk.tells c.frames.disk) c.frames.invariant.count c.frames.invariant.same
    (λ h0. c.requires.there h0 page (omega (arith, page_later c.args.from c.frames.tail c.frames.invariant.later, from)) to) h

pub one_step-requires-clause-stands : goal.one_step-requires-clause-stands
one_step-requires-clause-stands g c = λ h.
    let same = c.frames.invariant.same in
    subst (λ (files : FinMap file_cmp FileState). TailStands c.frames.tail (pages_of (as_read files) c.args.address)) (sym (same.step (same.back h)).files) (c.frames.invariant.walked (same.back h)).stands

pub returns-in_err-one_step-clause-same : goal.returns-in_err-one_step-clause-same
returns-in_err-one_step-clause-same g c = (
  c.frames.invariant.count + c.one_step.ensures.same.0,
  reads_then (g.D.Disk.tells c.args.disk.now) (g.D.Disk.tells c.frames.disk) (g.D.Disk.tells c.one_step.new.disk) c.frames.invariant.count c.one_step.ensures.same.0 c.frames.invariant.same c.one_step.ensures.same.1,
)

pub returns-in-Stays-clause-same : goal.returns-in-Stays-clause-same
returns-in-Stays-clause-same g c = (
  c.frames.invariant.count + c.one_step.ensures.same.0,
  reads_then (g.D.Disk.tells c.args.disk.now) (g.D.Disk.tells c.frames.disk) (g.D.Disk.tells c.one_step.new.disk) c.frames.invariant.count c.one_step.ensures.same.0 c.frames.invariant.same c.one_step.ensures.same.1,
)

pub returns-in-Finds-clause-same : goal.returns-in-Finds-clause-same
returns-in-Finds-clause-same g c = (
  c.frames.invariant.count + c.one_step.ensures.same.0,
  reads_then (g.D.Disk.tells c.args.disk.now) (g.D.Disk.tells c.frames.disk) (g.D.Disk.tells c.one_step.new.disk) c.frames.invariant.count c.one_step.ensures.same.0 c.frames.invariant.same c.one_step.ensures.same.1,
)

pub frames-preserved : goal.frames-preserved
frames-preserved g c =
    let on = subst (λ (s : Step). StepsOn c.args.last c.frames.tail s) c.in-Passes.is c.in_ok-one_step.ensures.onward in
    record {
      count = c.frames.invariant.count + c.one_step.ensures.same.0;
      same = reads_then (g.D.Disk.tells c.args.disk.now) (g.D.Disk.tells c.frames.disk) (g.D.Disk.tells c.one_step.new.disk) c.frames.invariant.count c.one_step.ensures.same.0 c.frames.invariant.same c.one_step.ensures.same.1;
      run = run_reads g.D.Disk c.args.disk.now c.frames.disk c.one_step.new.disk c.frames.invariant.count c.frames.invariant.same c.frames.invariant.run c.one_step.ensures.any_moment;
      faults = c.in_ok-one_step.ensures.cause ∙ c.frames.invariant.faults;
      later = later_then c.args.from c.frames.tail c.in-Passes.next c.frames.invariant.later on.farther;
      read = λ h.
          reads_join (pages_of (as_read (account (g.D.Disk.tells c.args.disk.now)).files) c.args.address) 0 0 c.args.from c.frames.tail c.in-Passes.next _ (account (g.D.Disk.tells c.frames.disk)).taken _ c.frames.invariant.later
          (later_then c.frames.tail c.frames.tail c.in-Passes.next (still c.frames.tail) on.farther) (c.frames.invariant.read h)
          (subst (λ (files : FinMap file_cmp FileState). ReadsAlong 0 c.frames.tail c.in-Passes.next (pages_of (as_read files) c.args.address) (account (g.D.Disk.tells c.frames.disk)).taken (account (g.D.Disk.tells c.one_step.new.disk)).taken) (c.frames.invariant.same.step h).files
          (subst (λ (s : Step). StepReads c.frames.tail s (pages_of (as_read (account (g.D.Disk.tells c.frames.disk)).files) c.args.address) (account (g.D.Disk.tells c.frames.disk)).taken (account (g.D.Disk.tells c.one_step.new.disk)).taken) c.in-Passes.is (c.in_ok-one_step.ensures.taken (c.frames.invariant.same.kept h))));
      walked = λ h.
          walks_then c.args.queue c.args.acks.now c.args.txs.now (pages_of (as_read (account (g.D.Disk.tells c.args.disk.now)).files) c.args.address) c.args.from c.frames.tail c.in-Passes.next None c.frames.invariant.later (c.frames.invariant.walked h)
          (subst (λ (files : FinMap file_cmp FileState). IsStep c.args.queue c.args.acks.now c.args.txs.now c.args.last c.frames.tail (Passes c.in-Passes.next) (pages_of (as_read files) c.args.address)) (c.frames.invariant.same.step h).files
          (subst (λ (s : Step). IsStep c.args.queue c.args.acks.now c.args.txs.now c.args.last c.frames.tail s (pages_of (as_read (account (g.D.Disk.tells c.frames.disk)).files) c.args.address)) c.in-Passes.is (c.in_ok-one_step.ensures.walks (c.frames.invariant.same.kept h))));
    }

pub returns-in-Stays-clause-taken : goal.returns-in-Stays-clause-taken
returns-in-Stays-clause-taken g c = λ h.
    reads_join (pages_of (as_read (account (g.D.Disk.tells c.args.disk.now)).files) c.args.address) 0 18 c.args.from c.frames.tail c.frames.tail _ (account (g.D.Disk.tells c.frames.disk)).taken _ c.frames.invariant.later (still c.frames.tail) (c.frames.invariant.read h)
    (subst (λ (files : FinMap file_cmp FileState). ReadsAlong 18 c.frames.tail c.frames.tail (pages_of (as_read files) c.args.address) (account (g.D.Disk.tells c.frames.disk)).taken (account (g.D.Disk.tells c.one_step.new.disk)).taken) (c.frames.invariant.same.step h).files
    (subst (λ (s : Step). StepReads c.frames.tail s (pages_of (as_read (account (g.D.Disk.tells c.frames.disk)).files) c.args.address) (account (g.D.Disk.tells c.frames.disk)).taken (account (g.D.Disk.tells c.one_step.new.disk)).taken) c.in-Stays.is (c.in_ok-one_step.ensures.taken (c.frames.invariant.same.kept h))))

pub returns-in-Finds-clause-taken : goal.returns-in-Finds-clause-taken
returns-in-Finds-clause-taken g c = λ h.
    let on = subst (λ (s : Step). StepsOn c.args.last c.frames.tail s) c.in-Finds.is c.in_ok-one_step.ensures.onward in
    let next = Behind c.in-Finds.place in
    reads_more (pages_of (as_read (account (g.D.Disk.tells c.args.disk.now)).files) c.args.address) 0 18 c.args.from next _ _ (omega arith)
    (reads_join (pages_of (as_read (account (g.D.Disk.tells c.args.disk.now)).files) c.args.address) 0 0 c.args.from c.frames.tail next _ (account (g.D.Disk.tells c.frames.disk)).taken _ c.frames.invariant.later
    (later_then c.frames.tail c.frames.tail next (still c.frames.tail) on.farther) (c.frames.invariant.read h)
    (subst (λ (files : FinMap file_cmp FileState). ReadsAlong 0 c.frames.tail next (pages_of (as_read files) c.args.address) (account (g.D.Disk.tells c.frames.disk)).taken (account (g.D.Disk.tells c.one_step.new.disk)).taken) (c.frames.invariant.same.step h).files
    (subst (λ (s : Step). StepReads c.frames.tail s (pages_of (as_read (account (g.D.Disk.tells c.frames.disk)).files) c.args.address) (account (g.D.Disk.tells c.frames.disk)).taken (account (g.D.Disk.tells c.one_step.new.disk)).taken) c.in-Finds.is (c.in_ok-one_step.ensures.taken (c.frames.invariant.same.kept h)))))
