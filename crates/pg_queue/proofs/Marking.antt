-- An entry that is taken, or taken no longer, and the first one that waits.
use Rattle.std.proofs.Common.{◌≡◌, ℕ, ◌<◌, true, false, not, List, [], ◌∷◌, refl, ap₂, inl, inr, arith}
use Rattle.std.proofs.lemmas.Grind.{common_steps}
use Rattle.std.specs.Prelude.{All, Option, Some, None, is_some, IsSome, map}
use Rattle.std.specs.List.{AllByRecursion}
use Rattle.std.specs.List.Sorted.{IsStrictlySortedBy}
use Rattle.std.specs.declared.cmp.Ordering.TheVariants.{Less}
use Rattle.std.specs.Ordering.{nat_cmp, is_gt}
use Rattle.std.specs.Map.{lookup, keys_of}
use Rattle.std.specs.BTreeMap.{get, Updates, is_at}
use Rattle.std.proofs.lemmas.Bool.{cases_Bool, cases_eq}
use Rattle.std.proofs.lemmas.List.Elements.{All-head, All-tail}
use Rattle.std.proofs.lemmas.Map.Keys.{sorted_head, sorted_tail}
use Rattle.pg_msg.specs.declared.message.MessageId.{MessageId}
use Rattle.pg_flight.specs.Ids.{key_cmp, key_of, same_id}
use Rattle.pg_queue.specs.Entries.{entry_at, first_waiting, is_taken, mark, marked}
use Rattle.pg_queue.specs.Numbers.{AreNumbered, Numbered, Numbers, seen_at, seen_entries}
use Rattle.pg_queue.proofs.Found.{IsFound, all_found, its_row, same_ids}

-- ---- its number comes to wait, or waits no longer
pub record Turns (rows waiting after : Numbered) (numbers : Numbers) (number : ℕ) (id : MessageId) (waits : Option MessageId) : Type 0 where
  pub row : get nat_cmp rows number ≡ Some id
  pub its : get key_cmp numbers (key_of id) ≡ Some number
  pub updates : Updates nat_cmp waiting after number waits

pub marks_row : (rows waiting after : Numbered) (numbers : Numbers) (number : ℕ) (id : MessageId) (waits : Option MessageId) (row : ℕ × MessageId)
    → IsFound rows numbers row → Turns rows waiting after numbers number id waits → seen_at after row ≡ mark (not (is_some waits)) (entry_at id None) (seen_at waiting row)
marks_row rows waiting after numbers number id waits row is turns =
    elim (cases_Bool (same_id row.1 id)) [
      | inl same ↦ grind (arith, common_steps, same, is.1, turns.its, turns.updates.0 row.0, same_ids row.1 id same)
      | inr other ↦ grind (arith, common_steps, other, is.0, turns.row, turns.updates.0 row.0)
    ]

pub marks : (rows waiting after : Numbered) (numbers : Numbers) (number : ℕ) (id : MessageId) (waits : Option MessageId) (entries : List (ℕ × MessageId))
    → All (IsFound rows numbers) entries → Turns rows waiting after numbers number id waits
    → map (seen_at after) entries ≡ marked (not (is_some waits)) (entry_at id None) (map (seen_at waiting) entries)
marks rows waiting after numbers number id waits [] found turns = refl
marks rows waiting after numbers number id waits (row ∷ entries) found turns =
    ap₂ (λ entry others. entry ∷ others)
    (marks_row rows waiting after numbers number id waits row (All-head (IsFound rows numbers) row entries found) turns)
    (marks rows waiting after numbers number id waits entries (All-tail (IsFound rows numbers) row entries found) turns)

-- what waits is still an entry
pub waits_still : (rows waiting after : Numbered) (numbers : Numbers) (number : ℕ) (id : MessageId)
    → ((k : ℕ) (other : MessageId) → get nat_cmp waiting k ≡ Some other → get nat_cmp rows k ≡ Some other) → Turns rows waiting after numbers number id (Some id)
    → (k : ℕ) (other : MessageId) → get nat_cmp after k ≡ Some other → get nat_cmp rows k ≡ Some other
waits_still rows waiting after numbers number id waits turns k other is =
    elim (cases_eq number k) [
      | inl same ↦ grind (arith, common_steps, same, turns.row, is, turns.updates.0 k)
      | inr apart ↦ grind (arith, common_steps, apart, is, waits k other, turns.updates.0 k)
    ]

-- ---- the first that waits
pub none_waits : (waiting : Numbered) (entries : List (ℕ × MessageId)) → waiting.entries ≡ [] → first_waiting (map (seen_at waiting) entries) ≡ None
none_waits waiting [] none = refl
none_waits waiting (row ∷ entries) none = grind (arith, common_steps, none, none_waits waiting entries none)

-- what stands behind a number has a greater one
pub behind : (first number : ℕ) (id : MessageId) (entries : List (ℕ × MessageId)) → AllByRecursion (λ other. nat_cmp first other ≡ Less) (keys_of entries)
    → lookup (is_at (nat_cmp number)) entries ≡ Some id → first < number
behind first number id [] above is = absurd (grind (arith, common_steps, is))
behind first number id (row ∷ entries) above is =
    elim (cases_eq number row.0) [
      | inl same ↦ grind (arith, common_steps, above.0, same)
      | inr apart ↦ behind first number id entries above.1 (grind (arith, common_steps, apart, is))
    ]

pub least_is_first : (waiting : Numbered) (number : ℕ) (id : MessageId) (entries : List (ℕ × MessageId)) → IsStrictlySortedBy nat_cmp (keys_of entries)
    → lookup (is_at (nat_cmp number)) entries ≡ Some id → get nat_cmp waiting number ≡ Some id
    → ((other : ℕ) → IsSome (get nat_cmp waiting other) → is_gt (nat_cmp number other) ≡ false)
    → first_waiting (map (seen_at waiting) entries) ≡ Some (entry_at id None)
least_is_first waiting number id [] sorted is waits least = absurd (grind (arith, common_steps, is))
least_is_first waiting number id (row ∷ entries) sorted is waits least =
    elim (cases_eq number row.0) [
      | inl same ↦ grind (arith, common_steps, is, waits, same)
      | inr apart ↦
          let later : lookup (is_at (nat_cmp number)) entries ≡ Some id = grind (arith, common_steps, apart, is) in
          grind (
            arith,
            common_steps,
            least row.0,
            behind row.0 number id entries (sorted_head nat_cmp row.0 (keys_of entries) sorted) later,
            least_is_first waiting number id entries (sorted_tail nat_cmp row.0 (keys_of entries) sorted) later waits least,
          )
    ]

-- ---- a taken entry that is put back
pub put_back : (next : ℕ) (rows waiting after : Numbered) (numbers : Numbers) (id : MessageId) (number : ℕ) → AreNumbered next rows waiting numbers
    → is_taken (seen_entries waiting rows) (entry_at id None) ≡ true → get key_cmp numbers (key_of id) ≡ Some number → Updates nat_cmp waiting after number (Some id)
    → seen_entries after rows ≡ marked false (entry_at id None) (seen_entries waiting rows)
put_back next rows waiting after numbers id number kept taken its updates =
    let row = its_row next rows waiting numbers id number kept taken its in
    marks rows waiting after numbers number id (Some id) rows.entries (all_found next rows waiting numbers kept) (record { row = row.row; its = its; updates = updates })

pub numbered_put_back : (next : ℕ) (rows waiting after : Numbered) (numbers : Numbers) (id : MessageId) (number : ℕ) → AreNumbered next rows waiting numbers
    → is_taken (seen_entries waiting rows) (entry_at id None) ≡ true → get key_cmp numbers (key_of id) ≡ Some number → Updates nat_cmp waiting after number (Some id)
    → AreNumbered next rows after numbers
numbered_put_back next rows waiting after numbers id number kept taken its updates =
    let row = its_row next rows waiting numbers id number kept taken its in
    record {
      ordered = kept.ordered;
      below = kept.below;
      found = kept.found;
      waits = waits_still rows waiting after numbers number id kept.waits (record { row = row.row; its = its; updates = updates });
    }
