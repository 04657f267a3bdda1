use Rattle.std.proofs.Common.{◌≡◌, ◌∙◌, ap, sym, subst, true, false}
use Rattle.std.specs.Prelude.{None}
use Rattle.std.specs.Option.{option_copied_mut}
use Rattle.std.specs.Map.{values_of}
use Rattle.std.proofs.lemmas.Result.{on_err_weaker, on_ok_weaker}
use Rattle.pg_queue.specs.Entries.{entry_at, is_taken, marked}
use Rattle.pg_queue.proofs.KeptQueues.{as_before, changes, either_id, entries_of, stays, still_stands}
use Rattle.pg_queue.proofs.queues.Queues.put_back.Goals as goal

pub returns-in_default-clause-ok : goal.returns-in_default-clause-ok
returns-in_default-clause-ok c =
    let none = sym c.get_mut.ensures.value ∙ ap option_copied_mut c.in_default.is in
    ap values_of (ap (λ kept. kept.entries) c.get_mut.follows.holds-at-none) ∙ c.self.view_is
    ∙ sym (stays c.self.inside.by_id c.args.self.now c.args.id (marked false (entry_at c.args.message None)) c.self.invariant c.self.view_is none)

pub put_back-requires : goal.put_back-requires
put_back-requires c =
    let its = sym c.get_mut.ensures.value ∙ ap option_copied_mut c.in-Some.is in
    subst (λ entries. is_taken entries (entry_at c.args.message None) ≡ true) (entries_of c.self.inside.by_id c.args.self.now c.args.id _ c.self.invariant c.self.view_is its) c.requires

pub invariant_of-self-2 : goal.invariant_of-self-2
invariant_of-self-2 c =
    let its = sym c.get_mut.ensures.value ∙ ap option_copied_mut c.in-Some.is in
    let follows = c.get_mut.follows.holds c.put_back.new.self in
    still_stands c.self.inside.by_id (c.get_mut.follows.lender c.put_back.new.self) c.args.id c.in-Some.queue.now c.put_back.new.self c.self.invariant its follows.0 follows.4
    (either_id c.put_back.result c.in-Some.queue.now c.put_back.new.self (marked false (entry_at c.args.message None) c.in-Some.queue.now.entries) c.put_back.ensures.ok c.put_back.ensures.err)

pub returns-clause-ok : goal.returns-clause-ok
returns-clause-ok c =
    let its = sym c.get_mut.ensures.value ∙ ap option_copied_mut c.in-Some.is in
    let follows = c.get_mut.follows.holds c.put_back.new.self in
    on_ok_weaker c.put_back.result
    (changes c.self.inside.by_id (c.get_mut.follows.lender c.put_back.new.self) c.args.self.now c.args.id (marked false (entry_at c.args.message None)) c.in-Some.queue.now c.put_back.new.self c.self.invariant c.self.view_is its follows.0)
    c.put_back.ensures.ok

pub returns-clause-err : goal.returns-clause-err
returns-clause-err c =
    let its = sym c.get_mut.ensures.value ∙ ap option_copied_mut c.in-Some.is in
    let follows = c.get_mut.follows.holds c.put_back.new.self in
    on_err_weaker c.put_back.result
    (as_before c.self.inside.by_id (c.get_mut.follows.lender c.put_back.new.self) c.args.self.now c.args.id c.in-Some.queue.now c.put_back.new.self c.self.view_is its follows.0)
    c.put_back.ensures.err
