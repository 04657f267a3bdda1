use Rattle.std.proofs.Common.{◌≡◌, ◌∙◌, ap, sym, subst, true}
use Rattle.std.specs.Prelude.{None}
use Rattle.std.specs.Option.{option_copied_mut}
use Rattle.std.specs.Map.{values_of}
use Rattle.pg_queue.specs.Entries.{Contents, entry_at, is_taken, without_entry}
use Rattle.pg_queue.proofs.KeptQueues.{changes, entries_of, stays, still_stands}
use Rattle.pg_queue.proofs.queues.Queues.remove.Goals as goal

pub returns-in_default : goal.returns-in_default
returns-in_default c =
    let none = sym c.get_mut.ensures.value ∙ ap option_copied_mut c.in_default.is in
    ap values_of (ap (λ kept. kept.entries) c.get_mut.follows.holds-at-none) ∙ c.self.view_is
    ∙ sym (stays c.self.inside.by_id c.args.self.now c.args.id (without_entry (entry_at c.args.message None)) c.self.invariant c.self.view_is none)

pub remove-requires : goal.remove-requires
remove-requires c =
    let its = sym c.get_mut.ensures.value ∙ ap option_copied_mut c.in-Some.is in
    subst (λ entries. is_taken entries (entry_at c.args.message None) ≡ true) (entries_of c.self.inside.by_id c.args.self.now c.args.id _ c.self.invariant c.self.view_is its) c.requires

pub invariant_of-self-2 : goal.invariant_of-self-2
invariant_of-self-2 c =
    let its = sym c.get_mut.ensures.value ∙ ap option_copied_mut c.in-Some.is in
    let follows = c.get_mut.follows.holds c.remove.new.self in
    still_stands c.self.inside.by_id (c.get_mut.follows.lender c.remove.new.self) c.args.id c.in-Some.queue.now c.remove.new.self c.self.invariant its follows.0 follows.4
    (ap (λ (queue : Contents). queue.id) c.remove.ensures)

pub returns : goal.returns
returns c =
    let its = sym c.get_mut.ensures.value ∙ ap option_copied_mut c.in-Some.is in
    let follows = c.get_mut.follows.holds c.remove.new.self in
    changes c.self.inside.by_id (c.get_mut.follows.lender c.remove.new.self) c.args.self.now c.args.id (without_entry (entry_at c.args.message None)) c.in-Some.queue.now c.remove.new.self c.self.invariant c.self.view_is its follows.0 c.remove.ensures
