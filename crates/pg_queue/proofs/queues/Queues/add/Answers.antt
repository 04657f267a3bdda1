use Rattle.std.proofs.Common.{◌≡◌, ◌∙◌, ap, sym, subst, false}
use Rattle.std.specs.Prelude.{None}
use Rattle.std.specs.Option.{option_copied_mut}
use Rattle.std.specs.Map.{values_of}
use Rattle.std.proofs.lemmas.Result.{on_err_weaker, on_ok_weaker}
use Rattle.pg_queue.specs.Entries.{added, entry_at, has_entry}
use Rattle.pg_queue.proofs.KeptQueues.{as_before, changes, either_id, entries_of, stays, still_stands}
use Rattle.pg_queue.proofs.queues.Queues.add.Goals as goal

pub returns-in_default-clause-ok : goal.returns-in_default-clause-ok
returns-in_default-clause-ok c =
    let none = sym c.get_mut.ensures.value ∙ ap option_copied_mut c.in_default.is in
    ap values_of (ap (λ kept. kept.entries) c.get_mut.follows.holds-at-none) ∙ c.self.view_is
    ∙ sym (stays c.self.inside.by_id c.args.self.now c.args.id (added (entry_at c.args.message None)) c.self.invariant c.self.view_is none)

pub add-requires : goal.add-requires
add-requires c =
    let its = sym c.get_mut.ensures.value ∙ ap option_copied_mut c.in-Some.is in
    subst (λ entries. has_entry entries (entry_at c.args.message None) ≡ false) (entries_of c.self.inside.by_id c.args.self.now c.args.id _ c.self.invariant c.self.view_is its) c.requires

pub invariant_of-self-2 : goal.invariant_of-self-2
invariant_of-self-2 c =
    let its = sym c.get_mut.ensures.value ∙ ap option_copied_mut c.in-Some.is in
    let follows = c.get_mut.follows.holds c.add.new.self in
    still_stands c.self.inside.by_id (c.get_mut.follows.lender c.add.new.self) c.args.id c.in-Some.queue.now c.add.new.self c.self.invariant its follows.0 follows.4
    (either_id c.add.result c.in-Some.queue.now c.add.new.self (added (entry_at c.args.message None) c.in-Some.queue.now.entries) c.add.ensures.ok c.add.ensures.err)

pub returns-clause-ok : goal.returns-clause-ok
returns-clause-ok c =
    let its = sym c.get_mut.ensures.value ∙ ap option_copied_mut c.in-Some.is in
    let follows = c.get_mut.follows.holds c.add.new.self in
    on_ok_weaker c.add.result
    (changes c.self.inside.by_id (c.get_mut.follows.lender c.add.new.self) c.args.self.now c.args.id (added (entry_at c.args.message None)) c.in-Some.queue.now c.add.new.self c.self.invariant c.self.view_is its follows.0)
    c.add.ensures.ok

pub returns-clause-err : goal.returns-clause-err
returns-clause-err c =
    let its = sym c.get_mut.ensures.value ∙ ap option_copied_mut c.in-Some.is in
    let follows = c.get_mut.follows.holds c.add.new.self in
    on_err_weaker c.add.result
    (as_before c.self.inside.by_id (c.get_mut.follows.lender c.add.new.self) c.args.self.now c.args.id c.in-Some.queue.now c.add.new.self c.self.view_is its follows.0)
    c.add.ensures.err
