-- One entry more: its number is told to the map of numbers, then it waits, then it stands among the rows.
use Rattle.std.proofs.Common.{◌≡◌, ◌≢◌, ℕ, ◌+◌, ◌<◌, true, false, not, List, [], ◌∷◌, ◌++◌, refl, sym, ap, ap₂, ◌∙◌, subst, inl, inr, ◌⊎◌, arith}
use Rattle.std.proofs.lemmas.Grind.{common_steps}
use Rattle.std.specs.Prelude.{All, Option, Some, None, IsSome, map, filter}
use Rattle.std.specs.List.Sorted.{IsStrictlySortedBy}
use Rattle.std.specs.Ordering.{nat_cmp}
use Rattle.std.specs.Map.{lookup, keys_of}
use Rattle.std.specs.BTreeMap.{get, Updates, IsOrdered, insert_entry, is_at}
use Rattle.std.proofs.lemmas.Bool.{cases_Bool, cases_eq}
use Rattle.std.proofs.lemmas.Cmp.{nat_cmp_total}
use Rattle.std.proofs.lemmas.List.{map-append}
use Rattle.std.proofs.lemmas.List.Elements.{All-head, All-tail, All-weaker}
use Rattle.std.proofs.lemmas.Map.Views.{All-found}
use Rattle.pg_msg.specs.declared.message.MessageId.{MessageId}
use Rattle.pg_flight.specs.Ids.{key_cmp, key_of, same_id}
use Rattle.pg_queue.specs.Entries.{Entry, added, entry_at, has_entry, is_journaled}
use Rattle.pg_queue.specs.Numbers.{AreNumbered, Numbered, Numbers, seen_at, seen_entries}
use Rattle.pg_queue.proofs.Found.{same_key}

-- ---- the number is told
pub same_id_itself : (id : MessageId) → same_id id id ≡ true
same_id_itself id = grind (arith, common_steps)

-- no number leads to a message that has no entry
pub none_of : (waiting : Numbered) (k : ℕ) (id : MessageId) (entries : List (ℕ × MessageId)) → has_entry (map (seen_at waiting) entries) (entry_at id None) ≡ false
    → lookup (is_at (nat_cmp k)) entries ≢ Some id
none_of waiting k id [] new is = grind (arith, common_steps, is)
none_of waiting k id (row ∷ entries) new is =
    elim (cases_eq k row.0) [
      | inl same ↦ grind (arith, common_steps, new, is, same, same_id_itself id)
      | inr apart ↦ none_of waiting k id entries (grind (arith, common_steps, new)) (grind (arith, common_steps, apart, is))
    ]

pub numbered_ahead : (next : ℕ) (rows waiting : Numbered) (numbers more : Numbers) (id : MessageId) → AreNumbered next rows waiting numbers
    → has_entry (seen_entries waiting rows) (entry_at id None) ≡ false → Updates key_cmp numbers more (key_of id) (Some next) → AreNumbered next rows waiting more
numbered_ahead next rows waiting numbers more id kept new told =
    record {
      ordered = kept.ordered;
      below = kept.below;
      found = λ k other is. found_still k other is (cases_Bool (is_at (key_cmp (key_of id)) (key_of other)));
      waits = kept.waits;
    }
  where
    found_still : (k : ℕ) (other : MessageId) → get nat_cmp rows k ≡ Some other
        → (is_at (key_cmp (key_of id)) (key_of other) ≡ true) ⊎ (is_at (key_cmp (key_of id)) (key_of other) ≡ false) → get key_cmp more (key_of other) ≡ Some k
    found_still k other is (inl same) = absurd (none_of waiting k id rows.entries new (subst (λ i. get nat_cmp rows k ≡ Some i) (sym (same_key id other same)) is))
    found_still k other is (inr apart) = grind (arith, common_steps, apart, is, kept.found k other, told.0 (key_of other))

-- ---- it stands among the rows
pub numbered_with : (next : ℕ) (rows more waiting waits : Numbered) (numbers : Numbers) (id : MessageId) → AreNumbered next rows waiting numbers
    → get key_cmp numbers (key_of id) ≡ Some next → Updates nat_cmp rows more next (Some id) → IsOrdered nat_cmp more → Updates nat_cmp waiting waits next (Some id)
    → AreNumbered (next + 1) more waits numbers
numbered_with next rows more waiting waits numbers id kept its put ordered ready =
    record {
      ordered = ordered;
      below = λ k is. below_still k is (cases_eq next k);
      found = λ k other is. found_still k other is (cases_eq next k);
      waits = λ k other is. waits_still k other is (cases_eq next k);
    }
  where
    below_still : (k : ℕ) → IsSome (get nat_cmp more k) → (next ≡ k) ⊎ (next ≡ k → ⊥) → k < next + 1
    below_still k is (inl same) = omega (arith, same)
    below_still k is (inr apart) = let was : k < next = kept.below k (grind (arith, common_steps, apart, is, put.0 k)) in omega (arith, was)

    found_still : (k : ℕ) (other : MessageId) → get nat_cmp more k ≡ Some other → (next ≡ k) ⊎ (next ≡ k → ⊥) → get key_cmp numbers (key_of other) ≡ Some k
    found_still k other is (inl same) = grind (arith, common_steps, same, is, put.0 k, its)
    found_still k other is (inr apart) = kept.found k other (grind (arith, common_steps, apart, is, put.0 k))

    waits_still : (k : ℕ) (other : MessageId) → get nat_cmp waits k ≡ Some other → (next ≡ k) ⊎ (next ≡ k → ⊥) → get nat_cmp more k ≡ Some other
    waits_still k other is (inl same) = grind (arith, common_steps, same, is, put.0 k, ready.0 k)
    waits_still k other is (inr apart) =
        let was : get nat_cmp rows k ≡ Some other = kept.waits k other (grind (arith, common_steps, apart, is, ready.0 k)) in grind (arith, common_steps, apart, was, put.0 k)

-- ---- a call that failed left all as it was
pub none_waits_at_next : (next : ℕ) (rows waiting : Numbered) (numbers : Numbers) → AreNumbered next rows waiting numbers → get nat_cmp waiting next ≡ None
none_waits_at_next next rows waiting numbers kept = only (get nat_cmp waiting next) refl
  where
    only : (found : Option MessageId) → get nat_cmp waiting next ≡ found → found ≡ None
    only None is = refl
    only (Some id) is = let below : next < next = kept.below next (grind (arith, common_steps, kept.waits next id is)) in absurd (omega (arith, below))

pub undone : (waiting more after : Numbered) (number : ℕ) (id : MessageId) → get nat_cmp waiting number ≡ None → Updates nat_cmp waiting more number (Some id) → Updates nat_cmp more after number None
    → (k : ℕ) → get nat_cmp after k ≡ get nat_cmp waiting k
undone waiting more after number id none put gone k =
    elim (cases_eq number k) [
      | inl same ↦ grind (arith, common_steps, same, none, gone.0 k)
      | inr apart ↦ grind (arith, common_steps, apart, put.0 k, gone.0 k)
    ]

pub numbered_same : (next : ℕ) (rows rows' waiting waiting' : Numbered) (numbers : Numbers) → AreNumbered next rows waiting numbers → rows'.entries ≡ rows.entries
    → ((k : ℕ) → get nat_cmp waiting' k ≡ get nat_cmp waiting k) → AreNumbered next rows' waiting' numbers
numbered_same next rows rows' waiting waiting' numbers kept same still =
    record {
      ordered = subst (λ (entries : List (ℕ × MessageId)). IsStrictlySortedBy nat_cmp (keys_of entries)) (sym same) kept.ordered;
      below = λ k is. kept.below k (subst IsSome (at_rows k) is);
      found = λ k id is. kept.found k id (sym (at_rows k) ∙ is);
      waits = λ k id is. at_rows k ∙ kept.waits k id (sym (still k) ∙ is);
    }
  where
    at_rows : (k : ℕ) → get nat_cmp rows' k ≡ get nat_cmp rows k
    at_rows k = ap (lookup (is_at (nat_cmp k))) same

-- ---- the list of entries
pub below_next : (next : ℕ) (rows waiting : Numbered) (numbers : Numbers) → AreNumbered next rows waiting numbers → All (λ row. row.0 < next) rows.entries
below_next next rows waiting numbers kept =
    All-weaker (λ row. get nat_cmp rows row.0 ≡ Some row.1) (λ row. row.0 < next) (λ row is. kept.below row.0 (grind (arith, common_steps, is))) rows.entries
    (All-found nat_cmp_total rows kept.ordered)

pub put_last : (next : ℕ) (id : MessageId) (entries : List (ℕ × MessageId)) → All (λ row. row.0 < next) entries → insert_entry nat_cmp entries next id ≡ entries ++ (next, id) ∷ []
put_last next id [] below = refl
put_last next id (row ∷ entries) below =
    grind (arith, common_steps, All-head (λ row. row.0 < next) row entries below, put_last next id entries (All-tail (λ row. row.0 < next) row entries below))

pub seen_before : (waiting waits : Numbered) (next : ℕ) (id : MessageId) (entries : List (ℕ × MessageId)) → All (λ row. row.0 < next) entries → Updates nat_cmp waiting waits next (Some id)
    → map (seen_at waits) entries ≡ map (seen_at waiting) entries
seen_before waiting waits next id [] below ready = refl
seen_before waiting waits next id (row ∷ entries) below ready =
    grind (arith, common_steps, ready.0 row.0, All-head (λ row. row.0 < next) row entries below, seen_before waiting waits next id entries (All-tail (λ row. row.0 < next) row entries below) ready)

-- all that is kept by numbers is journaled, so what is added stands at the end
pub all_journaled : (waiting : Numbered) (entries : List (ℕ × MessageId)) → filter is_journaled (map (seen_at waiting) entries) ≡ map (seen_at waiting) entries
all_journaled waiting [] = refl
all_journaled waiting (row ∷ entries) = grind (arith, common_steps, all_journaled waiting entries)

pub none_paged : (waiting : Numbered) (entries : List (ℕ × MessageId)) → filter (λ entry. not (is_journaled entry)) (map (seen_at waiting) entries) ≡ []
none_paged waiting [] = refl
none_paged waiting (row ∷ entries) = grind (arith, common_steps, none_paged waiting entries)

pub added_last : (waiting : Numbered) (entries : List (ℕ × MessageId)) (entry : Entry) → added entry (map (seen_at waiting) entries) ≡ map (seen_at waiting) entries ++ entry ∷ []
added_last waiting entries entry =
    ap₂ (λ (before behind : List Entry). before ++ entry ∷ behind) (all_journaled waiting entries) (none_paged waiting entries)

pub one_more : (next : ℕ) (rows more waiting waits : Numbered) (numbers : Numbers) (id : MessageId) → AreNumbered next rows waiting numbers → more.entries ≡ insert_entry nat_cmp rows.entries next id
    → Updates nat_cmp waiting waits next (Some id) → seen_entries waits more ≡ added (entry_at id None) (seen_entries waiting rows)
one_more next rows more waiting waits numbers id kept put ready =
    let below = below_next next rows waiting numbers kept in
    ap (map (seen_at waits)) (put ∙ put_last next id rows.entries below)
    ∙ map-append (seen_at waits) rows.entries ((next, id) ∷ [])
    ∙ ap₂ (λ (before behind : List Entry). before ++ behind) (seen_before waiting waits next id rows.entries below ready) (ap (λ (entry : Entry). entry ∷ []) last)
    ∙ sym (added_last waiting rows.entries (entry_at id None))
  where
    last : seen_at waits (next, id) ≡ entry_at id None
    last = grind (arith, common_steps, ready.1)
