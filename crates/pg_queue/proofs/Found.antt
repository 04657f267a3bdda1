-- Rows are found by their numbers, and the numbers by the messages.
use Rattle.std.proofs.Common.{◌≡◌, ◌≢◌, ℕ, true, not, ◌&&◌, List, [], ◌∷◌, sym, ◌∙◌, subst, inl, inr, arith}
use Rattle.std.proofs.lemmas.Grind.{common_steps}
use Rattle.std.specs.Prelude.{All, Some, None, is_some, map}
use Rattle.std.specs.Ordering.{nat_cmp}
use Rattle.std.specs.BTreeMap.{get, is_at}
use Rattle.std.proofs.lemmas.Bool.{cases_Bool, and_parts}
use Rattle.std.proofs.lemmas.Cmp.{nat_cmp_total}
use Rattle.std.proofs.lemmas.List.Elements.{All-head, All-tail, All-weaker}
use Rattle.std.proofs.lemmas.Map.Views.{All-found}
use Rattle.pg_msg.specs.declared.message.MessageId.{MessageId}
use Rattle.pg_flight.specs.Ids.{key_cmp, key_of, same_id}
use Rattle.pg_queue.specs.Entries.{entry_at, is_same, is_taken}
use Rattle.pg_queue.specs.Numbers.{AreNumbered, Numbered, Numbers, seen_at, seen_entries}

-- the row is found by its number, and the number by the message
abbrev pub IsFound : Numbered → Numbers → ℕ × MessageId → Type 0
IsFound rows numbers row = (get nat_cmp rows row.0 ≡ Some row.1) × (get key_cmp numbers (key_of row.1) ≡ Some row.0)

pub all_found : (next : ℕ) (rows waiting : Numbered) (numbers : Numbers) → AreNumbered next rows waiting numbers → All (IsFound rows numbers) rows.entries
all_found next rows waiting numbers kept =
    All-weaker (λ row. get nat_cmp rows row.0 ≡ Some row.1) (IsFound rows numbers) (λ row is. (is, kept.found row.0 row.1 is)) rows.entries
    (All-found nat_cmp_total rows kept.ordered)

pub same_ids : (a b : MessageId) → same_id a b ≡ true → a ≡ b
same_ids a b e = grind (arith, common_steps, e)

-- a message is told from every other by its key
pub same_key : (a b : MessageId) → is_at (key_cmp (key_of a)) (key_of b) ≡ true → a ≡ b
same_key a b e = grind (arith, common_steps, e)

-- journaled entries are the same where their messages are
pub same_entry : (waiting : Numbered) (row : ℕ × MessageId) (id : MessageId) → is_same (seen_at waiting row) (entry_at id None) ≡ same_id row.1 id
same_entry waiting row id = grind (arith, common_steps)

-- ---- an entry that is taken
pub record IsTakenRow (rows waiting : Numbered) (numbers : Numbers) (id : MessageId) (number : ℕ) : Type 0 where
  pub row : get nat_cmp rows number ≡ Some id
  pub its : get key_cmp numbers (key_of id) ≡ Some number
  pub taken : get nat_cmp waiting number ≡ None

pub taken_row : (rows waiting : Numbered) (numbers : Numbers) (id : MessageId) (entries : List (ℕ × MessageId)) → All (IsFound rows numbers) entries
    → is_taken (map (seen_at waiting) entries) (entry_at id None) ≡ true → (number : ℕ) × IsTakenRow rows waiting numbers id number
taken_row rows waiting numbers id [] found taken = absurd (grind (arith, common_steps, taken))
taken_row rows waiting numbers id (row ∷ entries) found taken =
    elim (cases_Bool (is_same (seen_at waiting row) (entry_at id None) && not (is_some (get nat_cmp waiting row.0)))) [
      | inl here ↦
          let is = All-head (IsFound rows numbers) row entries found in
          let parts = and_parts _ _ here in
          let same : row.1 ≡ id = same_ids row.1 id (sym (same_entry waiting row id) ∙ parts.0) in (
            row.0,
            record {
              row = subst (λ other. get nat_cmp rows row.0 ≡ Some other) same is.0;
              its = subst (λ other. get key_cmp numbers (key_of other) ≡ Some row.0) same is.1;
              taken = grind (arith, common_steps, parts.1);
            },
          )
      | inr not_here ↦ taken_row rows waiting numbers id entries (All-tail (IsFound rows numbers) row entries found) (grind (arith, common_steps, not_here, taken))
    ]

-- a number that the message leads to is that of its taken entry
pub its_row : (next : ℕ) (rows waiting : Numbered) (numbers : Numbers) (id : MessageId) (number : ℕ) → AreNumbered next rows waiting numbers
    → is_taken (seen_entries waiting rows) (entry_at id None) ≡ true → get key_cmp numbers (key_of id) ≡ Some number → IsTakenRow rows waiting numbers id number
its_row next rows waiting numbers id number kept taken its =
    let here = taken_row rows waiting numbers id rows.entries (all_found next rows waiting numbers kept) taken in
    let same : here.0 ≡ number = grind (arith, common_steps, here.1.its, its) in
    subst (IsTakenRow rows waiting numbers id) same here.1

-- and it leads to one
pub leads : (next : ℕ) (rows waiting : Numbered) (numbers : Numbers) (id : MessageId) → AreNumbered next rows waiting numbers
    → is_taken (seen_entries waiting rows) (entry_at id None) ≡ true → get key_cmp numbers (key_of id) ≢ None
leads next rows waiting numbers id kept taken none =
    let here = taken_row rows waiting numbers id rows.entries (all_found next rows waiting numbers kept) taken in
    grind (arith, common_steps, here.1.its, none)
