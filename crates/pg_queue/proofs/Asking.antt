-- Whether a message has an entry, and whether that is taken, as the numbers tell.
use Rattle.std.proofs.Common.{◌≡◌, ℕ, true, false, not, List, [], ◌∷◌, refl, sym, ap, ◌∙◌, subst, inl, inr, arith}
use Rattle.std.proofs.lemmas.Grind.{common_steps}
use Rattle.std.specs.Prelude.{All, Option, Some, None, is_some, IfSome, IfNone, map}
use Rattle.std.specs.Ordering.{nat_cmp}
use Rattle.std.specs.Map.{lookup}
use Rattle.std.specs.BTreeMap.{get, is_at}
use Rattle.std.proofs.lemmas.Bool.{cases_Bool, cases_eq}
use Rattle.std.proofs.lemmas.List.Elements.{All-head, All-tail}
use Rattle.pg_msg.specs.declared.message.MessageId.{MessageId}
use Rattle.pg_queue.specs.Entries.{entry_at, has_entry, is_same, is_taken}
use Rattle.pg_queue.specs.Numbers.{AreNumbered, IsNumberOf, Numbered, Numbers, seen_at, seen_entries}
use Rattle.pg_queue.proofs.Adding.{none_of, same_id_itself}
use Rattle.pg_queue.proofs.Found.{IsFound, all_found, its_row, same_entry, same_ids}

-- an entry of the message has a number
pub its_number : (rows waiting : Numbered) (numbers : Numbers) (id : MessageId) (entries : List (ℕ × MessageId)) → All (IsFound rows numbers) entries
    → has_entry (map (seen_at waiting) entries) (entry_at id None) ≡ true → (number : ℕ) × IsNumberOf rows numbers id number
its_number rows waiting numbers id [] found has = absurd (grind (arith, common_steps, has))
its_number rows waiting numbers id (row ∷ entries) found has =
    elim (cases_Bool (is_same (seen_at waiting row) (entry_at id None))) [
      | inl here ↦
          let same : row.1 ≡ id = same_ids row.1 id (sym (same_entry waiting row id) ∙ here) in
          (row.0, subst (λ other. IsNumberOf rows numbers other row.0) same (All-head (IsFound rows numbers) row entries found))
      | inr not_here ↦ its_number rows waiting numbers id entries (All-tail (IsFound rows numbers) row entries found) (grind (arith, common_steps, not_here, has))
    ]

pub has_by_number : (next : ℕ) (rows waiting : Numbered) (numbers : Numbers) (id : MessageId) (number : ℕ) → AreNumbered next rows waiting numbers
    → IsNumberOf rows numbers id number → has_entry (seen_entries waiting rows) (entry_at id None) ≡ true
has_by_number next rows waiting numbers id number kept is =
    elim (cases_Bool (has_entry (seen_entries waiting rows) (entry_at id None))) [
      | inl has ↦ has
      | inr none ↦ absurd (none_of waiting number id rows.entries none is.0)
    ]

pub none_by_number : (next : ℕ) (rows waiting : Numbered) (numbers : Numbers) (id : MessageId) → AreNumbered next rows waiting numbers
    → ((number : ℕ) → ¬ IsNumberOf rows numbers id number) → has_entry (seen_entries waiting rows) (entry_at id None) ≡ false
none_by_number next rows waiting numbers id kept none =
    elim (cases_Bool (has_entry (seen_entries waiting rows) (entry_at id None))) [
      | inl has ↦ let its = its_number rows waiting numbers id rows.entries (all_found next rows waiting numbers kept) has in absurd (none its.0 its.1)
      | inr absent ↦ absent
    ]

-- both ways
pub has_as_numbered : (next : ℕ) (rows waiting : Numbered) (numbers : Numbers) (id : MessageId) (number : Option ℕ) → AreNumbered next rows waiting numbers
    → IfSome number (IsNumberOf rows numbers id) → IfNone number ((k : ℕ) → ¬ IsNumberOf rows numbers id k) → is_some number ≡ has_entry (seen_entries waiting rows) (entry_at id None)
has_as_numbered next rows waiting numbers id None kept found none = sym (none_by_number next rows waiting numbers id kept none)
has_as_numbered next rows waiting numbers id (Some number) kept found none = sym (has_by_number next rows waiting numbers id number kept found)

-- where no entry is the message's, none is a taken one of it
pub none_taken : (waiting : Numbered) (id : MessageId) (entries : List (ℕ × MessageId)) → has_entry (map (seen_at waiting) entries) (entry_at id None) ≡ false
    → is_taken (map (seen_at waiting) entries) (entry_at id None) ≡ false
none_taken waiting id [] none = refl
none_taken waiting id (row ∷ entries) none =
    let rest : is_taken (map (seen_at waiting) entries) (entry_at id None) ≡ false = none_taken waiting id entries (grind (arith, common_steps, none)) in
    grind (arith, common_steps, none, rest)

-- an entry is taken where its number doesn't wait
pub taken_at : (waiting : Numbered) (number : ℕ) (id : MessageId) (entries : List (ℕ × MessageId)) → lookup (is_at (nat_cmp number)) entries ≡ Some id → get nat_cmp waiting number ≡ None
    → is_taken (map (seen_at waiting) entries) (entry_at id None) ≡ true
taken_at waiting number id [] is idle = absurd (grind (arith, common_steps, is))
taken_at waiting number id (row ∷ entries) is idle =
    elim (cases_eq number row.0) [
      | inl same ↦ grind (arith, common_steps, same, is, idle, same_id_itself id)
      | inr apart ↦
          let later : is_taken (map (seen_at waiting) entries) (entry_at id None) ≡ true = taken_at waiting number id entries (grind (arith, common_steps, apart, is)) idle in
          grind (arith, common_steps, later)
    ]

pub taken_by_number : (next : ℕ) (rows waiting : Numbered) (numbers : Numbers) (id : MessageId) (number : ℕ) → AreNumbered next rows waiting numbers
    → IsNumberOf rows numbers id number → is_taken (seen_entries waiting rows) (entry_at id None) ≡ not (is_some (get nat_cmp waiting number))
taken_by_number next rows waiting numbers id number kept is = by_waiting (get nat_cmp waiting number) refl
  where
    by_waiting : (waits : Option MessageId) → get nat_cmp waiting number ≡ waits → is_taken (seen_entries waiting rows) (entry_at id None) ≡ not (is_some (get nat_cmp waiting number))
    by_waiting None idle = taken_at waiting number id rows.entries is.0 idle ∙ sym (ap (λ waits. not (is_some waits)) idle)
    by_waiting (Some other) waits =
        elim (cases_Bool (is_taken (seen_entries waiting rows) (entry_at id None))) [
          | inl taken ↦ let row = its_row next rows waiting numbers id number kept taken is.1 in grind (arith, common_steps, row.taken, waits)
          | inr idle ↦ idle ∙ sym (ap (λ waits. not (is_some waits)) waits)
        ]
