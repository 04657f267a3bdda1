use Rattle.std.proofs.Common.{◌∙◌, ◌+◌, List, length, refl, sym, subst}
use Rattle.std.proofs.lemmas.Result.{err_from_is_err_and}
use Rattle.std.proofs.lemmas.List.Elements.{All-drop}
use Rattle.pg_disk.proofs.Composing.{started}
use Rattle.pg_gate.proofs.Reading.{no_reads, reads_then, run_reads, still_there}
use Rattle.pg_gate.specs.declared.spans.Span.{Span}
use Rattle.pg_gate.specs.Spans.{AsRead}
use Rattle.pg_recover.specs.Folding.{FoldsFrom, IsBrokenAmong, IsDamageOnly}
use Rattle.pg_recover.specs.Places.{Covers}
use Rattle.pg_gate.specs.Payloads.{IsInside, payload_at, payloads_at}
use Rattle.pg_recover.proofs.PieceLemmas.{LeadsTo, group_leads, group_broken, none_done, none_left, damage_only_weaker, empty_of}
use Rattle.pg_recover.proofs.reading.read_payloads.Goals as goal

pub groups-init : goal.groups-init
groups-init g c = record {
  count = 0;
  same = no_reads (g.D.Disk.tells c.args.disk.now);
  run = started g.D.Disk c.args.disk.now _ (g.met.D.Disk.only_now c.args.disk.now);
  faults = refl;
  sound = c.requires.sound;
  so_far = λ honest s there are. none_done s.bytes c.args.spans.now c.args.durable are;
}

pub read_group-requires : goal.read_group-requires
read_group-requires g c = record {
  there = still_there c.args.file (g.D.Disk.tells c.args.disk.now) (g.D.Disk.tells c.groups.disk) c.groups.invariant.count c.groups.invariant.same c.requires.there;
  covers = subst (λ (l : List Span). Covers c.first_group-count.result.1 l) (sym c.split_at.ensures.front) c.first_group-count.ensures.covers;
  sound = c.groups.invariant.sound;
}

pub returns-in_err-durable-clause-same : goal.returns-in_err-durable-clause-same
returns-in_err-durable-clause-same g c = (
  c.groups.invariant.count + c.read_group.ensures.same.0,
  reads_then (g.D.Disk.tells c.args.disk.now) (g.D.Disk.tells c.groups.disk) (g.D.Disk.tells c.read_group.new.disk) c.groups.invariant.count c.read_group.ensures.same.0 c.groups.invariant.same c.read_group.ensures.same.1,
)

pub returns-in_err-durable-clause-any_moment : goal.returns-in_err-durable-clause-any_moment
returns-in_err-durable-clause-any_moment g c =
    run_reads g.D.Disk c.args.disk.now c.groups.disk c.read_group.new.disk c.groups.invariant.count c.groups.invariant.same c.groups.invariant.run c.read_group.ensures.any_moment

pub returns-in_err-durable-clause-damaged : goal.returns-in_err-durable-clause-damaged
returns-in_err-durable-clause-damaged g c =
    let is = err_from_is_err_and c.from_residual.result c.from_residual.ensures.1 in
    rw (is.1, is.2) (damage_only_weaker _ _ c.in_err-durable.field-0.0
    (λ damage. group_broken c.args.file (g.D.Disk.tells c.args.disk.now) (g.D.Disk.tells c.groups.disk) c.groups.invariant.count c.groups.invariant.same c.args.spans.now c.groups.rest.now c.args.durable c.groups.durable
    c.groups.invariant.so_far c.first_group-count.result.0 c.first_group-count.result.1 c.first_group-count.ensures.inside damage)
    (subst (λ (l : List Span). IsDamageOnly (λ damage. AsRead c.args.file (g.D.Disk.tells c.groups.disk) (λ bytes. IsInside (length bytes) c.first_group-count.result.1 → IsBrokenAmong (payload_at bytes) c.args.file c.groups.durable l damage)) c.in_err-durable.field-0.0)
    c.split_at.ensures.front c.in_err-durable.ensures.damaged))

pub groups-preserved : goal.groups-preserved
groups-preserved g c = record {
  count = c.groups.invariant.count + c.read_group.ensures.same.0;
  same = reads_then (g.D.Disk.tells c.args.disk.now) (g.D.Disk.tells c.groups.disk) (g.D.Disk.tells c.read_group.new.disk) c.groups.invariant.count c.read_group.ensures.same.0 c.groups.invariant.same c.read_group.ensures.same.1;
  run = run_reads g.D.Disk c.args.disk.now c.groups.disk c.read_group.new.disk c.groups.invariant.count c.groups.invariant.same c.groups.invariant.run c.read_group.ensures.any_moment;
  faults = c.in_ok-durable.ensures.cause ∙ c.groups.invariant.faults;
  sound = c.in_ok-durable.ensures.sound;
  so_far = subst (λ (l : List Span). LeadsTo c.args.file (g.D.Disk.tells c.args.disk.now) c.args.spans.now c.args.durable c.in_ok-durable.durable l) (sym c.split_at.ensures.back)
      (group_leads c.args.file (g.D.Disk.tells c.args.disk.now) (g.D.Disk.tells c.groups.disk) c.groups.invariant.count c.groups.invariant.same c.args.spans.now c.groups.rest.now c.args.durable c.groups.durable
      c.groups.invariant.so_far c.first_group-count.result.0 c.first_group-count.result.1 c.first_group-count.ensures.inside c.in_ok-durable.durable
      (subst (λ (l : List Span). AsRead c.args.file (g.D.Disk.tells c.groups.disk) (λ bytes. IsInside (length bytes) c.first_group-count.result.1 → FoldsFrom c.groups.durable (payloads_at bytes l) c.in_ok-durable.durable)) c.split_at.ensures.front c.in_ok-durable.ensures.folded)
      (λ size. All-drop (IsInside size) c.first_group-count.result.0 c.groups.rest.now));
}

pub returns-clause-folded : goal.returns-clause-folded
returns-clause-folded g c =
    none_left c.args.file (g.D.Disk.tells c.args.disk.now) c.args.spans.now c.groups.rest.now c.args.durable c.groups.durable (empty_of c.groups.rest.now c.groups-test.ensures) c.groups.invariant.so_far
