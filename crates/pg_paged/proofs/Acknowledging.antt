-- What one more acknowledgement, and one queue fewer, changes of what is left.
use Rattle.std.proofs.Common.{◌≡◌, ◌≢◌, ◌==◌, ℕ, Bool, true, false, not, ◌&&◌, ◌||◌, [], ◌∷◌, map, refl, sym, ap, ◌∙◌, inl, inr, arith}
use Rattle.std.proofs.lemmas.Grind.{common_steps}
use Rattle.std.proofs.lemmas.Bool.{cases_Bool}
use Rattle.std.proofs.lemmas.List.Elements.{All-cons, All-head, All-nil, All-tail}
use Rattle.std.specs.Prelude.{All}
use Rattle.std.specs.FinSet as set
use Rattle.std.specs.Ordering.{eq_by_cmp}
use Rattle.pg_acks.specs.declared.position.Position.{Position}
use Rattle.pg_acks.specs.Acked.{AckSets, is_acknowledged, is_single, with_position, without_queue}
use Rattle.pg_acks.specs.Keys.{At, Key, key_cmp}
use Rattle.pg_acks.proofs.Keys.{key_total}
use Rattle.pg_acks.proofs.Sets.{at_same, key_same}
use Rattle.pg_msg.specs.declared.message.MessageId.{MessageId}
use Rattle.pg_pagetx.specs.Standings.{Transactions}
use Rattle.pg_cursor.specs.Entries.{names}
use Rattle.pg_model.specs.Broker.{same_id}
use Rattle.pg_model.specs.Changes.{without_message}
use Rattle.pg_paged.specs.Paged.{Framed, Frames, counts, is_left, message_in, paged_for, same_position}
use Rattle.pg_paged.proofs.Filters.{kept_alike, kept_twice, none_kept}

key_is : (queue other : ℕ) (a b : Position) → eq_by_cmp key_cmp ((queue, a.page), a.index) ((other, b.page), b.index) ≡ ((queue == other) && same_position a b)
key_is queue other a b = grind (arith, common_steps)

single_more : (acks : AckSets) (queue other : ℕ) (at position : Position) → is_single (with_position other position acks) queue at ≡ (((queue == other) && same_position at position) || is_single acks queue at)
single_more acks queue other at position =
    set.contains-insert key_total acks.singles ((other, position.page), position.index) ((queue, at.page), at.index)
    ∙ ap (λ (b : Bool). b || is_single acks queue at) (key_is queue other at position)

number_itself : (n : ℕ) → (n == n) ≡ true
number_itself n = grind (arith, common_steps)

numbers_apart : (a b : ℕ) → b ≢ a → (a == b) ≡ false
numbers_apart a b apart = grind (arith, common_steps, apart)

acknowledged_here : (acks : AckSets) (queue : ℕ) (at position : Position) → is_acknowledged (with_position queue position acks) queue at ≡ (same_position at position || is_acknowledged acks queue at)
acknowledged_here acks queue at position = elim (cases_Bool (same_position at position)) [
  | inl same ↦ grind (arith, common_steps, same, number_itself queue, single_more acks queue queue at position)
  | inr apart ↦ grind (arith, common_steps, apart, single_more acks queue queue at position)
]

acknowledged_elsewhere : (acks : AckSets) (queue other : ℕ) (at position : Position) → other ≢ queue → is_acknowledged (with_position other position acks) queue at ≡ is_acknowledged acks queue at
acknowledged_elsewhere acks queue other at position apart = grind (arith, common_steps, numbers_apart queue other apart, single_more acks queue other at position)

acknowledged_without : (acks : AckSets) (queue gone : ℕ) (at : Position) → gone ≢ queue → is_acknowledged (without_queue gone acks) queue at ≡ is_acknowledged acks queue at
acknowledged_without acks queue gone at apart =
    let key : Key = ((queue, at.page), at.index) in
    let page : At = (queue, at.page) in
    grind (
      arith,
      common_steps,
      numbers_apart queue gone apart,
      set.contains-retain acks.singles (λ (k : Key). not (k.0.0 == gone)) key (λ x tied. ap (λ (k : Key). not (k.0.0 == gone)) (sym (key_same key x tied))),
      set.contains-retain acks.wholes (λ (a : At). not (a.0 == gone)) page (λ x tied. ap (λ (a : At). not (a.0 == gone)) (sym (at_same page x tied))),
    )

-- ---- what is left
pub none_named : (acks : AckSets) (txs : Transactions) (queue : ℕ) (frames : Frames) → All (λ framed. names queue framed.1 ≡ false) frames → All (λ framed. is_left acks txs queue framed ≡ false) frames
none_named acks txs queue [] none = All-nil (λ framed. is_left acks txs queue framed ≡ false)
none_named acks txs queue (framed ∷ frames) none =
    All-cons (λ other. is_left acks txs queue other ≡ false) framed frames
    (ap (λ (b : Bool). b && (counts txs framed.1.tx && not (is_acknowledged acks queue framed.0))) (All-head (λ (other : Framed). names queue other.1 ≡ false) framed frames none))
    (none_named acks txs queue frames (All-tail (λ (other : Framed). names queue other.1 ≡ false) framed frames none))

left_by : (names counts shut same : Bool) → (names && (counts && not (same || shut))) ≡ ((names && (counts && not shut)) && not same)
left_by true true true true = refl
left_by true true true false = refl
left_by true true false true = refl
left_by true true false false = refl
left_by true false shut true = refl
left_by true false shut false = refl
left_by false counts shut true = refl
left_by false counts shut false = refl

left_here : (acks : AckSets) (txs : Transactions) (queue : ℕ) (position : Position) (framed : Framed) → is_left (with_position queue position acks) txs queue framed ≡ (is_left acks txs queue framed && not (same_position framed.0 position))
left_here acks txs queue position framed =
    ap (λ (b : Bool). names queue framed.1 && (counts txs framed.1.tx && not b)) (acknowledged_here acks queue framed.0 position)
    ∙ left_by (names queue framed.1) (counts txs framed.1.tx) (is_acknowledged acks queue framed.0) (same_position framed.0 position)

all_left : (acks : AckSets) (txs : Transactions) (queue : ℕ) (position : Position) (id : MessageId) (frames : Frames)
    → All (λ other. same_position other.0 position ≡ same_id other.1.message.id id) frames
    → All (λ framed. is_left (with_position queue position acks) txs queue framed ≡ (is_left acks txs queue framed && not (same_id (message_in framed).id id))) frames
all_left acks txs queue position id [] told = All-nil (λ framed. is_left (with_position queue position acks) txs queue framed ≡ (is_left acks txs queue framed && not (same_id (message_in framed).id id)))
all_left acks txs queue position id (framed ∷ frames) told =
    All-cons (λ (other : Framed). is_left (with_position queue position acks) txs queue other ≡ (is_left acks txs queue other && not (same_id (message_in other).id id))) framed frames
    (left_here acks txs queue position framed ∙ ap (λ (b : Bool). is_left acks txs queue framed && not b) (All-head (λ (other : Framed). same_position other.0 position ≡ same_id other.1.message.id id) framed frames told))
    (all_left acks txs queue position id frames (All-tail (λ (other : Framed). same_position other.0 position ≡ same_id other.1.message.id id) framed frames told))

pub unnamed : (acks : AckSets) (txs : Transactions) (queue : ℕ) (frames : Frames) → All (λ framed. names queue framed.1 ≡ false) frames → paged_for acks txs queue frames ≡ []
unnamed acks txs queue frames none = grind (arith, common_steps, none_kept (is_left acks txs queue) frames (none_named acks txs queue frames none))

pub acknowledged : (acks : AckSets) (txs : Transactions) (queue : ℕ) (frames : Frames) (position : Position) (id : MessageId) → All (λ other. same_position other.0 position ≡ same_id other.1.message.id id) frames
    → paged_for (with_position queue position acks) txs queue frames ≡ without_message id (paged_for acks txs queue frames)
acknowledged acks txs queue frames position id told =
    kept_twice message_in (is_left (with_position queue position acks) txs queue) (is_left acks txs queue) (λ message. same_id message.id id) frames (all_left acks txs queue position id frames told)

-- what says the same of all positions leaves the same
left_alike : (old new : AckSets) (txs : Transactions) (queue : ℕ) (frames : Frames) → ((at : Position) → is_acknowledged new queue at ≡ is_acknowledged old queue at) → paged_for new txs queue frames ≡ paged_for old txs queue frames
left_alike old new txs queue frames same =
    ap (λ (kept : Frames). map message_in kept)
    (kept_alike (is_left new txs queue) (is_left old txs queue) frames (λ framed. ap (λ (b : Bool). names queue framed.1 && (counts txs framed.1.tx && not b)) (same framed.0)))

pub elsewhere : (acks : AckSets) (txs : Transactions) (queue other : ℕ) (frames : Frames) (position : Position) → other ≢ queue → paged_for (with_position other position acks) txs queue frames ≡ paged_for acks txs queue frames
elsewhere acks txs queue other frames position apart = left_alike acks (with_position other position acks) txs queue frames (λ at. acknowledged_elsewhere acks queue other at position apart)

pub dropped : (acks : AckSets) (txs : Transactions) (queue gone : ℕ) (frames : Frames) → gone ≢ queue → paged_for (without_queue gone acks) txs queue frames ≡ paged_for acks txs queue frames
dropped acks txs queue gone frames apart = left_alike acks (without_queue gone acks) txs queue frames (λ at. acknowledged_without acks queue gone at apart)
