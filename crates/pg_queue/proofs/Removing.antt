-- One entry less.
use Rattle.std.proofs.Common.{◌≡◌, ℕ, true, false, List, [], ◌∷◌, refl, sym, subst, inl, inr, ◌⊎◌, arith}
use Rattle.std.proofs.lemmas.Grind.{common_steps}
use Rattle.std.specs.Prelude.{All, Some, None, map}
use Rattle.std.specs.List.{AllByRecursion}
use Rattle.std.specs.List.Sorted.{IsStrictlySortedBy}
use Rattle.std.specs.declared.cmp.Ordering.TheVariants.{Less}
use Rattle.std.specs.Ordering.{nat_cmp}
use Rattle.std.specs.Map.{remove_entry, keys_of}
use Rattle.std.specs.BTreeMap.{get, Updates, IsOrdered, is_at}
use Rattle.std.proofs.lemmas.Bool.{cases_Bool, cases_eq}
use Rattle.std.proofs.lemmas.List.Elements.{All-head, All-tail}
use Rattle.std.proofs.lemmas.Map.Keys.{sorted_head, sorted_tail}
use Rattle.pg_msg.specs.declared.message.MessageId.{MessageId}
use Rattle.pg_flight.specs.Ids.{key_cmp, key_of}
use Rattle.pg_queue.specs.Entries.{entry_at, is_taken, without_entry}
use Rattle.pg_queue.specs.Numbers.{AreNumbered, Numbered, Numbers, seen_at, seen_entries}
use Rattle.pg_queue.proofs.Found.{IsFound, its_row, same_ids, same_key}

-- behind its number no entry is the message's
pub none_behind : (waiting rows : Numbered) (numbers : Numbers) (number : ℕ) (id : MessageId) (entries : List (ℕ × MessageId)) → All (IsFound rows numbers) entries
    → AllByRecursion (λ other. nat_cmp number other ≡ Less) (keys_of entries) → get key_cmp numbers (key_of id) ≡ Some number
    → without_entry (entry_at id None) (map (seen_at waiting) entries) ≡ map (seen_at waiting) entries
none_behind waiting rows numbers number id [] found above its = refl
none_behind waiting rows numbers number id (row ∷ entries) found above its =
    grind (
      arith,
      common_steps,
      same_ids row.1 id,
      All-head (IsFound rows numbers) row entries found,
      above.0,
      its,
      none_behind waiting rows numbers number id entries (All-tail (IsFound rows numbers) row entries found) above.1 its,
    )

pub one_less : (waiting rows : Numbered) (numbers : Numbers) (number : ℕ) (id : MessageId) (entries : List (ℕ × MessageId)) → All (IsFound rows numbers) entries
    → IsStrictlySortedBy nat_cmp (keys_of entries) → get nat_cmp rows number ≡ Some id → get key_cmp numbers (key_of id) ≡ Some number
    → map (seen_at waiting) (remove_entry (is_at (nat_cmp number)) entries) ≡ without_entry (entry_at id None) (map (seen_at waiting) entries)
one_less waiting rows numbers number id [] found sorted row its = refl
one_less waiting rows numbers number id (first ∷ entries) found sorted row its =
    elim (cases_eq number first.0) [
      | inl same ↦
          let above = subst (λ key. AllByRecursion (λ other. nat_cmp key other ≡ Less) (keys_of entries)) (sym same) (sorted_head nat_cmp first.0 (keys_of entries) sorted) in
          grind (
            arith,
            common_steps,
            same,
            row,
            All-head (IsFound rows numbers) first entries found,
            none_behind waiting rows numbers number id entries (All-tail (IsFound rows numbers) first entries found) above its,
          )
      | inr apart ↦
          grind (
            arith,
            common_steps,
            apart,
            its,
            All-head (IsFound rows numbers) first entries found,
            same_ids first.1 id,
            one_less waiting rows numbers number id entries (All-tail (IsFound rows numbers) first entries found) (sorted_tail nat_cmp first.0 (keys_of entries) sorted) row its,
          )
    ]

-- the others are numbered as before
pub numbered_less : (next : ℕ) (rows fewer waiting : Numbered) (numbers less : Numbers) (id : MessageId) (number : ℕ) → AreNumbered next rows waiting numbers
    → is_taken (seen_entries waiting rows) (entry_at id None) ≡ true → get key_cmp numbers (key_of id) ≡ Some number
    → Updates nat_cmp rows fewer number None → IsOrdered nat_cmp fewer → Updates key_cmp numbers less (key_of id) None → AreNumbered next fewer waiting less
numbered_less next rows fewer waiting numbers less id number kept taken its gone ordered lost =
    let row = its_row next rows waiting numbers id number kept taken its in
    record {
      ordered = ordered;
      below = λ k is. grind (arith, common_steps, gone.0 k, is, kept.below k);
      found = λ k other is. found_still k other is (cases_Bool (is_at (key_cmp (key_of id)) (key_of other)));
      waits = λ k other is. grind (arith, common_steps, gone.0 k, is, kept.waits k other, row.taken);
    }
  where
    found_still : (k : ℕ) (other : MessageId) → get nat_cmp fewer k ≡ Some other
        → (is_at (key_cmp (key_of id)) (key_of other) ≡ true) ⊎ (is_at (key_cmp (key_of id)) (key_of other) ≡ false) → get key_cmp less (key_of other) ≡ Some k
    found_still k other is (inl same) = grind (arith, common_steps, same_key id other same, its, gone.0 k, is, kept.found k other)
    found_still k other is (inr apart) = grind (arith, common_steps, apart, gone.0 k, is, kept.found k other, lost.0 (key_of other))
