-- What is true of the parts of a state in memory stays true of them after each command.
use Rattle.std.proofs.Common.{leb, map, option_map, ◌≡◌, refl, sym, ◌∙◌, ap, ap₂, subst, ℕ, ◌+◌, ◌-◌, ◌<◌, ◌≤◌, ◌^◌, min, Bool, true, false, List, [], ◌∷◌, ◌++◌, length, get_or, set, Some, inl, inr, ⊎_elim, arith, slice_get, leb-true, sum_by, find, None, Option}
use Rattle.std.proofs.lemmas.Bool.{cases_eq, and_parts, both_ways, le-leb}
use Rattle.std.proofs.lemmas.List.{map-append, get_or-map, get_or_default, length-append}
use Rattle.std.proofs.lemmas.List.Elements.{All-push, All-weaker}
use Rattle.std.proofs.lemmas.Option.{same_Some, slice_get-get_or, slice_get-map}
use Rattle.pg_msg.specs.declared.message.Message.{Message}
use Rattle.pg_msg.specs.declared.message.MessageId.{MessageId}
use Rattle.pg_msg.specs.Messages.{weight_of}
use Rattle.pg_records.specs.declared.entry.Entry.TheVariants as entry
use Rattle.pg_records.specs.Entries.{HasFields}
use Rattle.pg_fold.specs.declared.durable.Durable.{Durable}
use Rattle.pg_fold.specs.declared.rows.AddressRow.{AddressRow}
use Rattle.pg_fold.specs.declared.rows.JournaledRow.{JournaledRow}
use Rattle.pg_fold.specs.declared.rows.QueueRow.{QueueRow}
use Rattle.pg_fold.specs.Fold.{rule_of, changed, are_settings}
use Rattle.pg_fold.specs.Rows.{same_id}
use Rattle.pg_recover.specs.Denotation.{address_of, weight_at}
use Rattle.pg_recover.specs.WellFormed.{AreRoomy}
use Rattle.pg_parse.specs.declared.tree.Tree.{Tree}
use Rattle.pg_parse.specs.FilterTexts.{ReadsAs}
use Rattle.pg_model.specs.Broker.{Address, Consumer, IsDrawn}
use Rattle.pg_model.specs.Refusals.{WouldPage}
use Rattle.pg_dispatch.specs.Dispatch.{Line}
use Rattle.pg_routes.specs.Names.{RouteNames, with_address, with_queue, without_queue}
use Rattle.pg_engine.specs.Kept.{Kept, IsFit, IsId, HasRoom, broker_of, view_of, lines_in, weights_in}
use Rattle.pg_engine.proofs.AcknowledgingLemmas.{all_acknowledged, lightened, relief_of, weights_lightened}
use Rattle.pg_engine.proofs.DroppingLemmas.{all_left, lighter}
use Rattle.pg_engine.proofs.NamingLemmas.{names_address, names_queue, names_left}
use Rattle.pg_engine.proofs.PartLemmas.{nothing_at, weight_here, weight_elsewhere, weights_with_message}
use Rattle.pg_fold.proofs.SoundLaws.{sound_kept}

-- a row that stands for none
abbrev no_row : AddressRow
no_row = record { id = 0; name = []; max = 0; page = 0; ahead = 0; dup = 0; first = 0 }

-- a limit is one that settings may have
limited : (row : AddressRow) → are_settings row.max row.page row.ahead row.dup ≡ true → row.max ≤ 1000000000000
limited row fits = leb-true row.max 1000000000000 (and_parts _ _ fits).0

-- the address at a place, with its limit
module _ (d : Durable) (names : RouteNames) (weights : List ℕ) (lines : List Line) (paged : List Bool) (drawn address : ℕ) (fit : IsFit d names weights lines paged drawn) (there : IsId (length d.addresses) address) where
  abbrev pub row : AddressRow
  row = get_or d.addresses (address - 1) no_row

  within : address - 1 < length d.addresses
  within = omega (arith, there.0, there.1)

  pub row_there : slice_get d.addresses (address - 1) ≡ Some row
  row_there = slice_get-get_or d.addresses (address - 1) no_row within

  pub row_id : row.id ≡ address
  row_id = let at = fit.sound.addresses.numbered (address - 1) no_row within in omega (arith, at, there.0)

  row_limit : row.max ≤ 1000000000000
  row_limit = limited row (fit.sound.addresses.settings (address - 1) no_row within)

  -- the weight that is kept for it is the weight of its messages
  pub kept_weight : (weight : ℕ) → weight ≡ get_or weights (address - 1) weight → weight ≡ weight_at address d.journaled
  kept_weight weight read =
      read ∙ ap (λ (l : List ℕ). get_or l (address - 1) weight) fit.weighed ∙ get_or-map (λ (r : AddressRow). weight_at r.id d.journaled) d.addresses (address - 1) no_row weight within
      ∙ ap (λ (id : ℕ). weight_at id d.journaled) row_id

  -- whether a message would be paged, by the mark, the limit and the weight that are kept
  module _ (ids : ℕ) (consumers : List Consumer) (mark : Bool) (marked : mark ≡ get_or paged (address - 1) mark) (not : mark ≡ false) (other : AddressRow) (weight : ℕ) (read : weight ≡ get_or weights (address - 1) weight) where
    abbrev kept : Kept
    kept = record { durable = d; drawn = drawn; ids = ids; paged = paged; consumers = consumers }

    limit_read : (get_or d.addresses (address - 1) other).max ≡ row.max
    limit_read = ap (λ (r : AddressRow). r.max) (get_or_default d.addresses (address - 1) other no_row within)

    unmarked : get_or paged (address - 1) false ≡ false
    unmarked = get_or_default paged (address - 1) false mark (omega (arith, within, fit.counted)) ∙ sym marked ∙ not

    at_row : slice_get (map address_of d.addresses) (address - 1) ≡ Some (address_of row)
    at_row = slice_get-map address_of d.addresses (address - 1) ∙ ap (option_map address_of) row_there

    pub full_pages : leb (get_or d.addresses (address - 1) other).max weight ≡ true → WouldPage (view_of kept) (broker_of kept) address
    full_pages full = inr (address_of row, at_row, let less = leb-true _ _ full in omega (arith, less, limit_read, kept_weight weight read))

    pub pages_full : WouldPage (view_of kept) (broker_of kept) address → leb (get_or d.addresses (address - 1) other).max weight ≡ true
    pages_full (inl marked_so) = absurd (both_ways (get_or paged (address - 1) false) unmarked marked_so)
    pages_full (inr by_weight) =
        le-leb _ _ (let less = by_weight.2 in let same = ap (λ (a : Address). a.settings.max) (same_Some (address_of row) by_weight.0 (sym at_row ∙ by_weight.1)) in omega (arith, less, same, limit_read, kept_weight weight read))

  -- a message more
  module _ (numbers : List ℕ) (m : Message) (room : HasRoom d address) (light : weight_of m ≤ 102399) (id : m.id ≡ record { epoch = d.epoch; number = drawn + 1 }) where
    abbrev after : Durable
    after = changed d (entry.Add address numbers m)

    pub new_weight : (weight : ℕ) → weight ≡ get_or weights (address - 1) weight → min (weight + weight_of m) (2 ^ 64 - 1) ≡ weight_at address d.journaled + weight_of m
    new_weight weight read =
        let less = room row row_there in
        let is = kept_weight weight read in
        let limit = row_limit in
        omega arith

    still_room : (k : ℕ) (default : AddressRow) → k < length d.addresses → weight_at (get_or d.addresses k default).id after.journaled < (get_or d.addresses k default).max + 102400
    still_room k default inside =
        let this = get_or d.addresses k default in
        let number = fit.sound.addresses.numbered k default inside in
        elim (cases_eq address this.id) [
          | inl same ↦
              let at : slice_get d.addresses (address - 1) ≡ Some this = ap (λ (n : ℕ). slice_get d.addresses n) (omega (arith, same, number)) ∙ slice_get-get_or d.addresses k default inside in
              let less = room this at in
              let heavier = weight_here d.journaled address numbers m this.id same in
              let before : weight_at this.id d.journaled ≡ weight_at address d.journaled = ap (λ (n : ℕ). weight_at n d.journaled) (sym same) in
              omega (arith, less, heavier, before, light)
          | inr differ ↦
              let as_before = weight_elsewhere d.journaled address numbers m this.id differ in
              let less = fit.roomy k default inside in
              omega (arith, as_before, less)
        ]

    drawn_still : (row : JournaledRow) → IsDrawn d.epoch drawn row.message.id → IsDrawn d.epoch (drawn + 1) row.message.id
    drawn_still r is = ⊎_elim (λ earlier. inl earlier) (λ same. inr (same.0, omega (arith, same.1))) is

    pub with_message_fit : (now : Durable) (weight : ℕ) (more : List Line) → rule_of d (entry.Add address numbers m) ≡ None → HasFields (entry.Add address numbers m) → now ≡ after → weight ≡ weight_at address d.journaled + weight_of m
        → more ≡ lines_in after → IsFit now names (set weights (address - 1) weight) more paged (drawn + 1)
    with_message_fit now weight more condition fields is heavier lined =
        subst (λ (x : Durable). IsFit x names (set weights (address - 1) weight) more paged (drawn + 1)) (sym is) (record {
          sound = sound_kept d after (entry.Add address numbers m) fit.sound fields (record { condition = condition; readable = tt; effect = refl });
          begun = fit.begun;
          roomy = still_room;
          drawn_all = All-push (λ r. IsDrawn d.epoch (drawn + 1) r.message.id) d.journaled (record { address = address; message = m; holders = numbers })
              (All-weaker (λ r. IsDrawn d.epoch drawn r.message.id) (λ r. IsDrawn d.epoch (drawn + 1) r.message.id) drawn_still d.journaled fit.drawn_all)
              (subst (λ (x : MessageId). IsDrawn d.epoch (drawn + 1) x) (sym id) (inr (refl, omega arith)));
          named = fit.named;
          weighed = ap₂ (λ (l : List ℕ) (w : ℕ). set l (address - 1) w) fit.weighed heavier ∙ sym (weights_with_message d address (address - 1) numbers m fit.sound (omega (arith, there.0)));
          lined = lined;
          counted = fit.counted;
        })

-- an address more
pub with_address_fit : (d now : Durable) (old names : RouteNames) (weights more_weights : List ℕ) (lines : List Line) (paged more_paged : List Bool) (drawn : ℕ) (name : List ℕ) (max page ahead dup : ℕ) → IsFit d old weights lines paged drawn
    → rule_of d (entry.Address (length d.addresses + 1) name max page ahead dup) ≡ None → HasFields (entry.Address (length d.addresses + 1) name max page ahead dup) → now ≡ changed d (entry.Address (length d.addresses + 1) name max page ahead dup)
    → names ≡ with_address (record { id = length d.addresses + 1; name = name }) old → more_weights ≡ weights ++ (0 ∷ []) → more_paged ≡ paged ++ (false ∷ []) → IsFit now names more_weights lines more_paged drawn
with_address_fit d now old names weights more_weights lines paged more_paged drawn name max page ahead dup fit condition fields is named weighed marked =
    let new : AddressRow = record { id = length d.addresses + 1; name = name; max = max; page = page; ahead = ahead; dup = dup; first = 1 } in
    let after = changed d (entry.Address (length d.addresses + 1) name max page ahead dup) in
    let nothing : weight_at (length d.addresses + 1) d.journaled ≡ 0 = ap (λ (held : List Message). sum_by weight_of held) (nothing_at d fit.sound) in
    subst (λ (x : Durable). IsFit x names more_weights lines more_paged drawn) (sym is) (record {
      sound = sound_kept d after (entry.Address (length d.addresses + 1) name max page ahead dup) fit.sound fields (record { condition = condition; readable = tt; effect = refl });
      begun = fit.begun;
      roomy = All-push (λ r. weight_at r.id d.journaled < r.max + 102400) d.addresses new fit.roomy (omega (arith, nothing));
      drawn_all = fit.drawn_all;
      named = names_address d new old names fit.sound refl fit.named named;
      weighed = weighed ∙ ap₂ (λ (l : List ℕ) (w : ℕ). l ++ (w ∷ [])) fit.weighed (sym nothing) ∙ sym (map-append (λ (r : AddressRow). weight_at r.id d.journaled) d.addresses (new ∷ []));
      lined = fit.lined;
      counted = omega (arith, ap length marked, length-append paged (false ∷ []), length-append d.addresses (new ∷ []), fit.counted);
    })

-- a queue more
pub with_queue_fit : (d now : Durable) (old names : RouteNames) (weights : List ℕ) (lines more : List Line) (paged : List Bool) (drawn address : ℕ) (name filter : List ℕ) (tree : Option Tree) → IsFit d old weights lines paged drawn
    → rule_of d (entry.Queue d.next address name filter) ≡ None → HasFields (entry.Queue d.next address name filter) → ReadsAs filter tree → now ≡ changed d (entry.Queue d.next address name filter)
    → names ≡ with_queue (record { id = d.next; address = address; name = name; filter = tree }) old → more ≡ lines_in (changed d (entry.Queue d.next address name filter)) → IsFit now names weights more paged drawn
with_queue_fit d now old names weights lines more paged drawn address name filter tree fit condition fields reads is named lined =
    let new : QueueRow = record { id = d.next; address = address; name = name; filter = filter } in
    let after = changed d (entry.Queue d.next address name filter) in
    subst (λ (x : Durable). IsFit x names weights more paged drawn) (sym is) (record {
      sound = sound_kept d after (entry.Queue d.next address name filter) fit.sound fields (record { condition = condition; readable = (tree, reads); effect = refl });
      begun = fit.begun;
      roomy = fit.roomy;
      drawn_all = fit.drawn_all;
      named = names_queue d new tree old names fit.sound refl fit.named reads named;
      weighed = fit.weighed;
      lined = lined;
      counted = fit.counted;
    })

-- where there was room there is room without a queue
pub roomy_left : (d : Durable) (queue : ℕ) → AreRoomy d → AreRoomy (changed d (entry.DropQueue queue))
roomy_left d queue roomy =
    All-weaker (λ (row : AddressRow). weight_at row.id d.journaled < row.max + 102400) (λ (row : AddressRow). weight_at row.id (changed d (entry.DropQueue queue)).journaled < row.max + 102400)
    (λ row room. let less = lighter queue row.id d.journaled in omega (arith, room)) d.addresses roomy

-- a queue less
pub without_queue_fit : (d now : Durable) (old names : RouteNames) (weights fewer : List ℕ) (lines left : List Line) (paged : List Bool) (drawn queue : ℕ) → IsFit d old weights lines paged drawn
    → rule_of d (entry.DropQueue queue) ≡ None → HasFields (entry.DropQueue queue) → now ≡ changed d (entry.DropQueue queue) → names ≡ without_queue queue old → fewer ≡ weights_in now → left ≡ lines_in (changed d (entry.DropQueue queue)) → IsFit now names fewer left paged drawn
without_queue_fit d now old names weights fewer lines left paged drawn queue fit condition fields is named weighed lined =
    let after = changed d (entry.DropQueue queue) in
    subst (λ (x : Durable). IsFit x names fewer left paged drawn) (sym is) (record {
      sound = sound_kept d after (entry.DropQueue queue) fit.sound fields (record { condition = condition; readable = tt; effect = refl });
      begun = fit.begun;
      roomy = roomy_left d queue fit.roomy;
      drawn_all = all_left queue (λ m. IsDrawn d.epoch drawn m.id) d.journaled fit.drawn_all;
      named = names_left d queue old names fit.named named;
      weighed = weighed ∙ ap weights_in is;
      lined = lined;
      counted = fit.counted;
    })

-- where there was room there is room without a message
pub roomy_acknowledged : (d : Durable) (queue : ℕ) (id : MessageId) (row : JournaledRow) → find (λ (r : JournaledRow). same_id r.message.id id) d.journaled ≡ Some row → AreRoomy d → AreRoomy (changed d (entry.Ack queue id))
roomy_acknowledged d queue id row found roomy =
    All-weaker (λ (r : AddressRow). weight_at r.id d.journaled < r.max + 102400) (λ (r : AddressRow). weight_at r.id (changed d (entry.Ack queue id)).journaled < r.max + 102400)
    (λ r room. let less = lightened queue id r.id d.journaled row found in omega (arith, room, less)) d.addresses roomy

-- a message less for a queue, where the address of the row had this many bytes for it
pub without_message_fit : (d now : Durable) (names : RouteNames) (weights : List ℕ) (lines left : List Line) (paged : List Bool) (drawn queue address weight bytes : ℕ) (id : MessageId) (row : JournaledRow) → IsFit d names weights lines paged drawn
    → IsId (length d.addresses) address → find (λ (r : JournaledRow). same_id r.message.id id) d.journaled ≡ Some row → row.address ≡ address → bytes ≡ relief_of queue id row → weight ≡ get_or weights (address - 1) weight
    → rule_of d (entry.Ack queue id) ≡ None → HasFields (entry.Ack queue id) → now ≡ changed d (entry.Ack queue id) → left ≡ lines_in (changed d (entry.Ack queue id)) → IsFit now names (set weights (address - 1) (weight - bytes)) left paged drawn
without_message_fit d now names weights lines left paged drawn queue address weight bytes id row fit known found at relief read condition fields is lined =
    let after = changed d (entry.Ack queue id) in
    let fewer = set weights (address - 1) (weight - bytes) in
    let here : weight ≡ weight_at address d.journaled = kept_weight d names weights lines paged drawn address fit known weight read in
    subst (λ (x : Durable). IsFit x names fewer left paged drawn) (sym is) (record {
      sound = sound_kept d after (entry.Ack queue id) fit.sound fields (record { condition = condition; readable = tt; effect = refl });
      begun = fit.begun;
      roomy = roomy_acknowledged d queue id row found fit.roomy;
      drawn_all = all_acknowledged queue id (λ m. IsDrawn d.epoch drawn m.id) d.journaled fit.drawn_all;
      named = fit.named;
      weighed = ap₂ (λ (l : List ℕ) (w : ℕ). set l (address - 1) (w - bytes)) fit.weighed here ∙ sym (weights_lightened d queue id row found address (address - 1) bytes at relief fit.sound (omega (arith, known.0)));
      lined = lined;
      counted = fit.counted;
    })
