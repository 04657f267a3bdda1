-- Entry after entry leads from a sound state to a sound state.
use Rattle.std.proofs.Common.{◌≡◌, ℕ, ◌+◌, Bool, true, false, not, cond, ◌==◌, List, [], ◌∷◌, length, Option, Some, None, refl, sym, subst, arith, eqb-true, leb-true, ltb-true, ne_eqb}
use Rattle.std.proofs.lemmas.Bool.{and_parts, not-true, not_from_false}
use Rattle.std.proofs.lemmas.List.Elements.{All-nil, All-push}
use Rattle.pg_disk.specs.declared.fault.Rule.{Rule}
use Rattle.pg_msg.specs.declared.limits.TheConstants.{LONGEST_FILTER, MOST_ADDRESSES, MOST_QUEUES}
use Rattle.pg_msg.specs.Lists.{AreQueues}
use Rattle.pg_records.specs.declared.entry.Entry.{Entry}
use Rattle.pg_records.specs.declared.entry.Entry.TheVariants as entry
use Rattle.pg_records.specs.Entries.{HasFields, HaveFields}
use Rattle.pg_fold.specs.declared.durable.Durable.{Durable}
use Rattle.pg_fold.specs.declared.rows.AddressRow.{AddressRow}
use Rattle.pg_fold.specs.declared.rows.JournaledRow.{JournaledRow}
use Rattle.pg_fold.specs.declared.rows.QueueRow.{QueueRow}
use Rattle.pg_fold.specs.Fold.{changed, fresh, rule_of, Folds, IsApplied, IsReadableEntry}
use Rattle.pg_fold.specs.Rows.{has_message}
use Rattle.pg_fold.specs.Sound.{IsHeldRow, IsSound}
use Rattle.pg_fold.proofs.SoundAddresses.{addresses_push}
use Rattle.pg_fold.proofs.SoundMessages.{held_acknowledged, held_beside, held_dropped, held_with, messages_acknowledged, messages_dropped, messages_later, messages_push}
use Rattle.pg_fold.proofs.SoundQueues.{queues_beside, queues_later, queues_push, queues_without}

-- a condition that didn't fail
holds : (b : Bool) (rule : Rule) (others : Option Rule) → cond b others (Some rule) ≡ None → b ≡ true
holds true rule others none = refl
holds false rule others none = cc

others_hold : (b : Bool) (rule : Rule) (others : Option Rule) → cond b others (Some rule) ≡ None → others ≡ None
others_hold true rule others none = none
others_hold false rule others none = cc

some_hold : (queues : List ℕ) → AreQueues queues → not (length queues == 0) ≡ true
some_hold queues are = not_from_false _ (ne_eqb (length queues) 0 (λ is. omega (arith, is, are.count.0)))

sound_changed : (d : Durable) (e : Entry) → IsSound d → HasFields e → rule_of d e ≡ None → IsReadableEntry e → IsSound (changed d e)
sound_changed d (entry.Epoch epoch) sound fields none readable = record {
  addresses = sound.addresses;
  queues = sound.queues;
  messages = messages_later d.epoch epoch d.journaled (let more = ltb-true d.epoch epoch (holds _ _ _ none) in omega (arith, more)) sound.messages;
  held = sound.held;
}
sound_changed d (entry.Address address name max page ahead dup) sound fields none readable =
    let row : AddressRow = record { id = address; name = name; max = max; page = page; ahead = ahead; dup = dup; first = 1 } in
    let fresh = and_parts _ _ (holds _ _ _ none) in
    let new = and_parts _ _ fresh.1 in
    let settings = holds _ _ _ (others_hold _ _ _ none) in
    record {
      addresses = addresses_push d.addresses row sound.addresses (eqb-true address (length d.addresses + 1) fresh.0) (not-true _ new.0) (ltb-true (length d.addresses) MOST_ADDRESSES new.1) settings;
      queues = queues_beside d.addresses row d.next d.queues sound.queues;
      messages = sound.messages;
      held = held_beside d.addresses row d.queues d.journaled sound.held;
    }
sound_changed d (entry.Queue queue address name filter) sound fields none readable =
    let row : QueueRow = record { id = queue; address = address; name = name; filter = filter } in
    let fresh = and_parts _ _ (holds _ _ _ none) in
    let new = and_parts _ _ fresh.1 in
    let known = and_parts _ _ (holds _ _ _ (others_hold _ _ _ none)) in
    let room = and_parts _ _ known.1 in
    record {
      addresses = sound.addresses;
      queues = queues_push d.addresses d.next d.queues row sound.queues (eqb-true queue d.next fresh.0) (not-true _ new.1) known.0 (ltb-true _ MOST_QUEUES room.0) readable (leb-true (length filter) LONGEST_FILTER room.1);
      messages = sound.messages;
      held = held_with d.addresses d.queues row d.journaled sound.held;
    }
sound_changed d (entry.DropQueue queue) sound fields none readable = record {
  addresses = sound.addresses;
  queues = queues_without d.addresses d.next d.queues queue sound.queues;
  messages = messages_dropped d.epoch queue d.journaled sound.messages;
  held = held_dropped d.addresses d.queues queue d.journaled sound.held;
}
sound_changed d (entry.Add address queues message) sound fields none readable =
    let row : JournaledRow = record { address = address; message = message; holders = queues } in
    let known = and_parts _ _ (holds _ _ _ none) in
    let all = and_parts _ _ known.1 in
    let new : has_message d.journaled message.id ≡ false = not-true _ (holds _ _ _ (others_hold _ _ _ none)) in
    record {
      addresses = sound.addresses;
      queues = sound.queues;
      messages = messages_push d.epoch d.journaled row sound.messages new (leb-true message.id.epoch d.epoch all.1) fields.2;
      held = All-push (IsHeldRow d.addresses d.queues) d.journaled row sound.held
          (record { placed = known.0; held = some_hold queues fields.1; holders = all.0 });
    }
sound_changed d (entry.Ack queue message) sound fields none readable = record {
  addresses = sound.addresses;
  queues = sound.queues;
  messages = messages_acknowledged d.epoch queue message d.journaled sound.messages;
  held = held_acknowledged d.addresses d.queues queue message d.journaled sound.held;
}
sound_changed d (entry.NextQueue queue) sound fields none readable = record {
  addresses = sound.addresses;
  queues = queues_later d.addresses d.next queue d.queues (leb-true d.next queue (holds _ _ _ none)) sound.queues;
  messages = sound.messages;
  held = sound.held;
}
sound_changed d _ sound fields none readable = sound

pub sound_kept : (before after : Durable) (next : Entry) → IsSound before → HasFields next → IsApplied before next after → IsSound after
sound_kept before after next sound fields applied = subst IsSound (sym applied.effect) (sound_changed before next sound fields applied.condition applied.readable)

pub sound_fresh : IsSound fresh
sound_fresh = record {
  addresses = record { numbered = λ k other lt. absurd (omega (arith, lt)); names = λ i j d less lt. absurd (omega (arith, lt)); few = omega arith; settings = All-nil _ };
  queues = record { ascending = λ i j d less lt. absurd (omega (arith, lt)); below = All-nil _; names = λ i j d less lt. absurd (omega (arith, lt)); placed = All-nil _; few = λ address. omega arith; readable = All-nil _; short = All-nil _ };
  messages = record { ids = λ i j d less lt. absurd (omega (arith, lt)); begun = All-nil _; messages = All-nil _ };
  held = All-nil _;
}

sound_from : (d e : Durable) (entries : List Entry) → IsSound d → HaveFields entries → Folds d entries e → IsSound e
sound_from d e [] sound fields is = subst IsSound (sym is) sound
sound_from d e (next ∷ entries) sound fields folds = sound_from folds.0 e entries (sound_kept d folds.0 next sound fields.0 folds.1) fields.1 folds.2

pub sound_folded : (d : Durable) (entries : List Entry) → HaveFields entries → Folds fresh entries d → IsSound d
sound_folded d entries = sound_from fresh d entries sound_fresh
