-- The bytes of the messages of each address, where the settings are in their ranges.
use Rattle.std.proofs.Common.{◌≡◌, inl, inr, ℕ, ◌+◌, ◌-◌, ◌^◌, ◌<◌, ◌≤◌, min, Bool, true, take, ◌&&◌, nat_le, List, length, get_or, filter, count_by, slice_get, option_map, Some, sym, subst, ◌∙◌, ap, arith}
use Rattle.std.specs.Int.{from_bool}
use Rattle.std.proofs.lemmas.Bool.{cases_Bool, cases_lt, leb-true, and_parts}
use Rattle.std.proofs.lemmas.List.{length-append, length-map, get_or-map, get_or_default, same_lists}
use Rattle.std.proofs.lemmas.List.Sums.{count_by_more_no, count_by_more_yes, length-filter}
use Rattle.std.proofs.lemmas.Option.{slice_get_cases, slice_get-map, slice_get_within, get_or_from_slice_get}
use Rattle.pg_fold.specs.declared.durable.Durable.{Durable}
use Rattle.pg_fold.specs.declared.rows.AddressRow.{AddressRow}
use Rattle.pg_fold.specs.declared.rows.JournaledRow.{JournaledRow}
use Rattle.pg_fold.specs.Fold.{are_settings}
use Rattle.pg_fold.specs.Rows.{has_number}
use Rattle.pg_fold.specs.Sound.{AreAddresses}
use Rattle.pg_recover.specs.Denotation.{address_of, held_by, weight_at}
use Rattle.pg_recover.specs.WellFormed.{AreRoomy}
use Rattle.pg_msg.specs.declared.message.MessageId.{MessageId}
use Rattle.pg_msg.specs.declared.properties.Property.{Property}
use Rattle.pg_msg.specs.Messages.{weight_of}
use Rattle.pg_model.specs.Changes.{message_of}
use Rattle.pg_model.specs.Refusals.{WouldPage}
use Rattle.pg_engine.specs.Kept.{Kept, HasRoom, broker_of, view_of, weights_in}

-- an address has no greater limit than that
limit_of : (max page ahead dup : ℕ) → are_settings max page ahead dup ≡ true → max ≤ 1000000000000
limit_of max page ahead dup are = leb-true max 1000000000000 (and_parts (nat_le max 1000000000000) (nat_le 1 page && (nat_le page 1000000000 && (nat_le ahead 1000000000 && nat_le dup 65535))) are).0

-- so a sum that has room is below the end of its type
not_cut : (weight max : ℕ) → max ≤ 1000000000000 → weight < max + 102400 → min weight (2 ^ 64 - 1) ≡ weight
not_cut weight max most room = omega arith

-- the weight at a place is that of the address there
pub weight_at_place : (d : Durable) (place : ℕ) (row : AddressRow) → AreAddresses d.addresses → slice_get d.addresses place ≡ Some row → (e : ℕ) → get_or (weights_in d) place e ≡ weight_at (place + 1) d.journaled
weight_at_place d place row are at e =
    let within = slice_get_within d.addresses place row at in
    let read = get_or_from_slice_get d.addresses place row row at in
    get_or-map (λ (x : AddressRow). weight_at x.id d.journaled) d.addresses place row e within
    ∙ ap (λ (id : ℕ). weight_at id d.journaled) (are.numbered place row within)

pub weights_are : (d : Durable) (sums : List ℕ) → AreAddresses d.addresses → AreRoomy d → length sums ≡ length d.addresses
    → ((k : ℕ) → k < length sums → get_or sums k 0 ≡ min (weight_at (k + 1) d.journaled) (2 ^ 64 - 1)) → sums ≡ weights_in d
weights_are d sums are roomy count each =
    let as_many = length-map d.addresses (λ (x : AddressRow). weight_at x.id d.journaled) in
    same_lists sums (weights_in d) (omega arith) (λ k e within. elim (slice_get_cases d.addresses k).1 [
      | inl found ↦
          let at : k < length d.addresses = omega arith in
          get_or_default sums k e 0 within ∙ each k within ∙ uncut k (get_or d.addresses k found.0) (are.numbered k found.0 at) (are.settings k found.0 at) (roomy k found.0 at)
          ∙ sym (weight_at_place d k found.0 are found.2 e)
      | inr past ↦ let most = past.0 in absurd (omega arith)
    ])
  where
    uncut : (k : ℕ) (row : AddressRow) → row.id ≡ k + 1 → are_settings row.max row.page row.ahead row.dup ≡ true → weight_at row.id d.journaled < row.max + 102400
        → min (weight_at (k + 1) d.journaled) (2 ^ 64 - 1) ≡ weight_at (k + 1) d.journaled
    uncut k row id settings room =
        not_cut (weight_at (k + 1) d.journaled) row.max (limit_of row.max row.page row.ahead row.dup settings) (subst (λ (n : ℕ). weight_at n d.journaled < row.max + 102400) id room)

-- one row more among those that were counted
pub counted_next : (queue : ℕ) (rows : List JournaledRow) (place : ℕ) (row : JournaledRow) (count : ℕ) (held : Bool) → place < length rows → row ≡ get_or rows place row → held ≡ has_number row.holders queue
    → count ≡ count_by (λ row. has_number row.holders queue) (take place rows) → count + from_bool held ≡ count_by (λ row. has_number row.holders queue) (take (place + 1) rows)
counted_next queue rows place row count held within at is so_far =
    let holds : JournaledRow → Bool = λ r. has_number r.holders queue in
    let here : held ≡ holds (get_or rows place row) = is ∙ ap holds at in
    elim (cases_Bool held) [
      | inl here_too ↦ let next = count_by_more_yes holds rows place row within (sym here ∙ here_too) in let one = ap from_bool here_too in omega (arith, next, so_far, one)
      | inr elsewhere ↦ let next = count_by_more_no holds rows place row within (sym here ∙ elsewhere) in let none = ap from_bool elsewhere in omega (arith, next, so_far, none)
    ]

-- the messages of a queue are counted row by row
pub counted_held : (queue : ℕ) (rows : List JournaledRow) (count : ℕ) → count ≡ count_by (λ row. has_number row.holders queue) rows → count ≡ length (held_by queue rows)
counted_held queue rows count is =
    is ∙ sym (length-map (filter (λ row. has_number row.holders queue) rows) (λ row. row.message) ∙ length-filter (λ row. has_number row.holders queue) rows)

-- a message weighs what it does with any id, and no less than its body
pub weight_any : (a b : MessageId) (properties : List Property) (body : List ℕ) → weight_of (message_of a properties body) ≡ weight_of (message_of b properties body)
weight_any a b properties body = grind (arith, length-append)

pub body_within : (id : MessageId) (properties : List Property) (body : List ℕ) → length body ≤ weight_of (message_of id properties body)
body_within id properties body = grind (arith, length-append)

-- where a message wouldn't be paged the address has room for it
pub room_left : (s : Kept) (address : ℕ) → (WouldPage (view_of s) (broker_of s) address → ⊥) → HasRoom s.durable address
room_left s address not row at = elim (cases_lt (weight_at address s.durable.journaled) row.max) [
  | inl less ↦ less
  | inr full ↦ absurd (not (inr (address_of row, slice_get-map address_of s.durable.addresses (address - 1) ∙ ap (option_map address_of) at, full)))
]
