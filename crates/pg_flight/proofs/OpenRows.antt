-- The open consumers as the rows and what is in flight tell.
use Rattle.std.proofs.Common.{◌≡◌, ◌≢◌, ℕ, suc, true, false, List, [], ◌∷◌, ◌++◌, refl, sym, ap, ap₂, ◌∙◌, subst, inl, inr, ◌⊎◌, arith}
use Rattle.std.proofs.lemmas.Grind.{common_steps}
use Rattle.std.specs.Prelude.{All, None, is_some, option_map, cond, ◌==◌, Result, Ok, Err, OnOk, OnErr}
use Rattle.std.specs.List.{list_any}
use Rattle.std.specs.Str.{bytes_eq}
use Rattle.std.proofs.lemmas.Bool.{cases_Bool}
use Rattle.std.proofs.lemmas.List.{map-append}
use Rattle.std.proofs.lemmas.List.Elements.{All-map}
use Rattle.std.proofs.lemmas.List.Kept.{AllPairs-cons}
use Rattle.pg_msg.specs.declared.message.MessageId.{MessageId}
use Rattle.pg_flight.specs.declared.delivery.Delivery.{Delivery}
use Rattle.pg_flight.specs.declared.names.Row.{Row}
use Rattle.pg_flight.specs.Consumers.{AreNamedApart, IsForOpenOnly, OpenConsumer, changed_for, deliveries_to, delivery_to, is_consumed, open_named, consumers_of, consumer_of, without_open}
use Rattle.pg_flight.specs.Deliveries.{delivery_with}
use Rattle.pg_flight.specs.Flights.{ChangesAt, Holder, cleared, deliveries_of}
use Rattle.pg_flight.specs.Names.{AreApart, named, without_name}
use Rattle.pg_flight.proofs.NamedRows.{name_itself, same_name}

-- what follows from the answer of a call either way holds
pub either_way : {T E A B C : Type 0} (result : Result T E) → OnOk result A → OnErr result B → (A → C) → (B → C) → C
either_way (Ok value) ok err of_ok of_err = of_ok ok
either_way (Err error) ok err of_ok of_err = of_err err

-- ---- what is seen of one name
pub open_as_named : (flights : List Holder) (name : List ℕ) (rows : List Row) → open_named name (consumers_of flights rows) ≡ option_map (consumer_of flights) (named name rows)
open_as_named flights name [] = refl
open_as_named flights name (row ∷ rows) = grind (arith, common_steps, open_as_named flights name rows)

pub queue_as_named : (flights : List Holder) (name : List ℕ) (rows : List Row)
    → option_map (λ consumer. consumer.queue) (open_named name (consumers_of flights rows)) ≡ option_map (λ row. row.queue) (named name rows)
queue_as_named flights name [] = refl
queue_as_named flights name (row ∷ rows) = grind (arith, common_steps, queue_as_named flights name rows)

pub consumed_as_named : (flights : List Holder) (queue : ℕ) (rows : List Row) → is_consumed queue (consumers_of flights rows) ≡ list_any (λ row. row.queue == queue) rows
consumed_as_named flights queue [] = refl
consumed_as_named flights queue (row ∷ rows) = grind (arith, common_steps, consumed_as_named flights queue rows)

-- a name is open exactly where a row has it
pub not_named : (flights : List Holder) (name : List ℕ) (rows : List Row) → open_named name (consumers_of flights rows) ≡ None → named name rows ≡ None
not_named flights name [] none = refl
not_named flights name (row ∷ rows) none =
    elim (cases_Bool (bytes_eq name row.name)) [
      | inl same ↦ absurd (grind (arith, common_steps, none, same))
      | inr other ↦
          let rest : named name rows ≡ None = not_named flights name rows (grind (arith, common_steps, none, other)) in
          grind (arith, common_steps, other, rest)
    ]

pub is_named : (flights : List Holder) (name : List ℕ) (rows : List Row) → is_some (open_named name (consumers_of flights rows)) ≡ true → named name rows ≢ None
is_named flights name rows among none = grind (arith, common_steps, open_as_named flights name rows, among, none)

-- what is in flight for a name is what its consumer has
pub its_deliveries : (flights : List Holder) (name : List ℕ) (rows : List Row) → (named name rows ≡ None → deliveries_of flights name ≡ [])
    → deliveries_to name (consumers_of flights rows) ≡ deliveries_of flights name
its_deliveries flights name [] alone = sym (alone refl)
its_deliveries flights name (row ∷ rows) alone =
    elim (cases_Bool (bytes_eq name row.name)) [
      | inl same ↦
          let equal : deliveries_of flights row.name ≡ deliveries_of flights name = ap (deliveries_of flights) (sym (same_name name row.name same)) in
          grind (arith, common_steps, same, equal)
      | inr other ↦
          let rest : deliveries_to name (consumers_of flights rows) ≡ deliveries_of flights name =
          its_deliveries flights name rows (λ none. alone (grind (arith, common_steps, other, none)))
          in
          grind (arith, common_steps, other, rest)
    ]

pub found_among : (name : List ℕ) (id : MessageId) (consumers : List OpenConsumer) → delivery_to name id consumers ≡ delivery_with id (deliveries_to name consumers)
found_among name id [] = refl
found_among name id (consumer ∷ consumers) =
    elim (cases_Bool (bytes_eq name consumer.name)) [
      | inl same ↦ grind (arith, common_steps, same)
      | inr other ↦ grind (arith, common_steps, other, found_among name id consumers)
    ]

pub its_delivery : (flights : List Holder) (name : List ℕ) (id : MessageId) (rows : List Row) → IsForOpenOnly flights rows
    → delivery_to name id (consumers_of flights rows) ≡ delivery_with id (deliveries_of flights name)
its_delivery flights name id rows alone =
    found_among name id (consumers_of flights rows) ∙ ap (delivery_with id) (its_deliveries flights name rows (alone name))

-- ---- the names differ
pairs_head : (row : Row) (rows : List Row) → AreApart (row ∷ rows) → All (λ (other : Row). row.name ≢ other.name) rows
pairs_head row rows pairs k d lt = pairs 0 (suc k) d (omega arith) (omega (arith, lt))

pairs_tail : (row : Row) (rows : List Row) → AreApart (row ∷ rows) → AreApart rows
pairs_tail row rows pairs i j d less lt = pairs (suc i) (suc j) d (omega (arith, less)) (omega (arith, lt))

pub named_apart : (flights : List Holder) (rows : List Row) → AreApart rows → AreNamedApart (consumers_of flights rows)
named_apart flights [] pairs = λ i j d less lt. absurd (omega (arith, lt))
named_apart flights (row ∷ rows) pairs =
    AllPairs-cons (λ (consumer other : OpenConsumer). consumer.name ≢ other.name) (consumer_of flights row) (consumers_of flights rows)
    (All-map (λ (other : OpenConsumer). row.name ≢ other.name) (consumer_of flights) rows (pairs_head row rows pairs)) (named_apart flights rows (pairs_tail row rows pairs))

-- ---- one more
pub still_named : (name : List ℕ) (row : Row) (rows : List Row) → named name (rows ++ row ∷ []) ≡ None → named name rows ≡ None
still_named name row [] none = refl
still_named name row (first ∷ rows) none =
    elim (cases_Bool (bytes_eq name first.name)) [
      | inl same ↦ absurd (grind (arith, common_steps, none, same))
      | inr other ↦
          let rest : named name rows ≡ None = still_named name row rows (grind (arith, common_steps, none, other)) in
          grind (arith, common_steps, other, rest)
    ]

pub alone_with : (flights : List Holder) (row : Row) (rows more : List Row) → IsForOpenOnly flights rows → more ≡ rows ++ row ∷ [] → IsForOpenOnly flights more
alone_with flights row rows more alone is name none = alone name (still_named name row rows (ap (named name) (sym is) ∙ none))

pub one_opened : (flights : List Holder) (row : Row) (rows more : List Row) → IsForOpenOnly flights rows → named row.name rows ≡ None → more ≡ rows ++ row ∷ []
    → consumers_of flights more ≡ consumers_of flights rows ++ record { name = row.name; queue = row.queue; deliveries = [] } ∷ []
one_opened flights row rows more alone new is =
    ap (consumers_of flights) is ∙ map-append (consumer_of flights) rows (row ∷ [])
    ∙ ap (λ deliveries. consumers_of flights rows ++ record { name = row.name; queue = row.queue; deliveries = deliveries } ∷ []) (alone row.name new)

-- ---- what is in flight for one name changes
pub changed_rows : (name : List ℕ) (change : List Delivery → List Delivery) (old new : List Holder) (rows : List Row) → ChangesAt name change old new
    → consumers_of new rows ≡ changed_for name change (consumers_of old rows)
changed_rows name change old new [] changes = refl
changed_rows name change old new (row ∷ rows) changes =
    ap₂ (λ (consumer : OpenConsumer) consumers. consumer ∷ consumers) (here (cases_Bool (bytes_eq name row.name))) (changed_rows name change old new rows changes)
  where
    here : (bytes_eq name row.name ≡ true) ⊎ (bytes_eq name row.name ≡ false)
        → consumer_of new row ≡ cond (bytes_eq name row.name) (record { name = row.name; queue = row.queue; deliveries = change (deliveries_of old row.name) }) (consumer_of old row)
    here (inl same) = grind (arith, common_steps, same, changes row.name)
    here (inr other) = grind (arith, common_steps, other, changes row.name)

-- nothing comes into flight for a name that isn't open
pub alone_changed : (name : List ℕ) (change : List Delivery → List Delivery) (old new : List Holder) (rows : List Row) → IsForOpenOnly old rows → ChangesAt name change old new
    → (named name rows ≡ None → change [] ≡ []) → IsForOpenOnly new rows
alone_changed name change old new rows alone changes empty other none = at_other (cases_Bool (bytes_eq name other))
  where
    at_other : (bytes_eq name other ≡ true) ⊎ (bytes_eq name other ≡ false) → deliveries_of new other ≡ []
    at_other (inl same) =
        let stays : change [] ≡ [] = empty (ap (λ n. named n rows) (same_name name other same) ∙ none) in
        let was : change (deliveries_of old other) ≡ [] = ap change (alone other none) ∙ stays in
        grind (arith, common_steps, same, changes other, was)
    at_other (inr apart) = grind (arith, common_steps, apart, changes other, alone other none)

-- ---- one less
pub unlike : (name other third : List ℕ) → bytes_eq name other ≡ false → bytes_eq name third ≡ true → bytes_eq other third ≡ false
unlike name other third apart same =
    elim (cases_Bool (bytes_eq other third)) [
      | inl its ↦
          let equal : name ≡ other = same_name name third same ∙ sym (same_name other third its) in
          let itself : bytes_eq name other ≡ true = subst (λ n. bytes_eq name n ≡ true) equal (name_itself name) in
          absurd (grind (arith, common_steps, apart, itself))
      | inr differs ↦ differs
    ]

pub named_without : (name other : List ℕ) (rows : List Row) → bytes_eq name other ≡ false → named other (without_name name rows) ≡ named other rows
named_without name other [] apart = refl
named_without name other (row ∷ rows) apart =
    elim (cases_Bool (bytes_eq name row.name)) [
      | inl same ↦ grind (arith, common_steps, same, unlike name other row.name apart same, named_without name other rows apart)
      | inr differs ↦ elim (cases_Bool (bytes_eq other row.name)) [
        | inl its ↦ grind (arith, common_steps, differs, its)
        | inr other_one ↦ grind (arith, common_steps, differs, other_one, named_without name other rows apart)
      ]
    ]

pub alone_without : (name : List ℕ) (old new : List Holder) (rows fewer : List Row) → IsForOpenOnly old rows → ChangesAt name cleared old new → fewer ≡ without_name name rows
    → IsForOpenOnly new fewer
alone_without name old new rows fewer alone changes is other none = at_other (cases_Bool (bytes_eq name other))
  where
    at_other : (bytes_eq name other ≡ true) ⊎ (bytes_eq name other ≡ false) → deliveries_of new other ≡ []
    at_other (inl same) = grind (arith, common_steps, same, changes other)
    at_other (inr apart) =
        let was : named other rows ≡ None = sym (named_without name other rows apart) ∙ ap (named other) (sym is) ∙ none in
        grind (arith, common_steps, apart, changes other, alone other was)

pub one_closed : (name : List ℕ) (change : List Delivery → List Delivery) (old new : List Holder) (rows : List Row) → ChangesAt name change old new
    → consumers_of new (without_name name rows) ≡ without_open name (consumers_of old rows)
one_closed name change old new [] changes = refl
one_closed name change old new (row ∷ rows) changes =
    elim (cases_Bool (bytes_eq name row.name)) [
      | inl same ↦ grind (arith, common_steps, same, one_closed name change old new rows changes)
      | inr apart ↦
          let stays : deliveries_of new row.name ≡ deliveries_of old row.name = grind (arith, common_steps, apart, changes row.name) in
          grind (arith, common_steps, apart, stays, one_closed name change old new rows changes)
    ]
