use Rattle.std.proofs.Common.{◌≡◌, ◌∙◌, ℕ, false, ap, sym, subst, arith}
use Rattle.std.specs.FinSet as set
use Rattle.pg_acks.specs.Acked.{AckSets, with_run}
use Rattle.pg_acks.specs.Kept.{any_single, seen}
use Rattle.pg_acks.specs.Keys.{key_cmp}
use Rattle.pg_acks.specs.Runs.{starts}
use Rattle.pg_acks.proofs.Changing.{free_between, kept_added, no_run, positions_added, run_facts}
use Rattle.pg_acks.proofs.Joining.{first_le}
use Rattle.pg_acks.proofs.Seeing.{kept_same}
use Rattle.pg_acks.proofs.Sets.{sets_of}
use Rattle.pg_acks.proofs.acks.Acks.put_run.Goals as goal

-- what is seen inside has no single one either
none_inside : (acks inside : AckSets) (queue page from to : ℕ) → inside ≡ acks → any_single acks queue page from to ≡ false → any_single inside queue page from to ≡ false
none_inside acks inside queue page from to is none = subst (λ (seen : AckSets). any_single seen queue page from to ≡ false) (sym is) none

pub returns-then-to-from-clause-ok : goal.returns-then-to-from-clause-ok
returns-then-to-from-clause-ok c = no_run c.args.self.now c.args.queue c.args.page c.args.from c.args.to c.if-to-from.true

pub first_with-first-requires-clause-new : goal.first_with-first-requires-clause-new
first_with-first-requires-clause-new c = λ covers.
    let inside = c.self.inside in
    let none = none_inside c.args.self.now (seen inside.runs inside.pages) c.args.queue c.args.page c.args.from c.args.to c.self.view_is c.requires in
    free_between inside.runs inside.pages c.args.queue c.args.page c.args.from c.args.to none (record { index = c.args.from; low = omega arith; high = omega (arith, c.if-to-from.false); covers = covers })

pub join-requires-clause-order : goal.join-requires-clause-order
join-requires-clause-order c =
    let inside = c.self.inside in
    let none = none_inside c.args.self.now (seen inside.runs inside.pages) c.args.queue c.args.page c.args.from c.args.to c.self.view_is c.requires in
    let facts = run_facts inside.runs inside.pages c.args.queue c.args.page c.args.from c.args.to c.first_with-first.result c.last_with-last.result c.self.invariant.singles (omega (arith, c.if-to-from.false)) none c.first_with-first.ensures c.last_with-last.ensures.ends c.last_with-last.ensures.fits in
    omega (arith, first_le (starts inside.runs (c.args.queue, c.args.page)) c.args.from c.args.to c.first_with-first.result c.last_with-last.result facts, c.if-to-from.false)

pub invariant_of-self : goal.invariant_of-self
invariant_of-self c = record { singles = kept_same c.self.inside.runs c.join.new.runs c.in_err-join.ensures.err c.self.invariant.singles; wholes = c.self.invariant.wholes }

pub invariant_of-self-2 : goal.invariant_of-self-2
invariant_of-self-2 c =
    let inside = c.self.inside in
    let none = none_inside c.args.self.now (seen inside.runs inside.pages) c.args.queue c.args.page c.args.from c.args.to c.self.view_is c.requires in
    let facts = run_facts inside.runs inside.pages c.args.queue c.args.page c.args.from c.args.to c.first_with-first.result c.last_with-last.result c.self.invariant.singles (omega (arith, c.if-to-from.false)) none c.first_with-first.ensures c.last_with-last.ensures.ends c.last_with-last.ensures.fits in
    record {
      singles = kept_added inside.runs c.join.new.runs (c.args.queue, c.args.page) c.args.from c.args.to c.first_with-first.result c.last_with-last.result c.self.invariant.singles facts c.in_ok-join.ensures.ordered c.in_ok-join.ensures.ok;
      wholes = c.self.invariant.wholes;
    }

pub returns-clause-ok : goal.returns-clause-ok
returns-clause-ok c =
    let inside = c.self.inside in
    let none = none_inside c.args.self.now (seen inside.runs inside.pages) c.args.queue c.args.page c.args.from c.args.to c.self.view_is c.requires in
    let facts = run_facts inside.runs inside.pages c.args.queue c.args.page c.args.from c.args.to c.first_with-first.result c.last_with-last.result c.self.invariant.singles (omega (arith, c.if-to-from.false)) none c.first_with-first.ensures c.last_with-last.ensures.ends c.last_with-last.ensures.fits in
    ap (λ (singles : set.FinSet key_cmp). sets_of singles (set.from_list inside.pages.keys))
    (positions_added inside.runs c.join.new.runs (c.args.queue, c.args.page) c.args.from c.args.to c.first_with-first.result c.last_with-last.result c.self.invariant.singles facts c.in_ok-join.ensures.ordered c.in_ok-join.ensures.ok)
    ∙ ap (with_run c.args.queue c.args.page c.args.from c.args.to) c.self.view_is
