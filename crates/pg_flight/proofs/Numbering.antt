-- One row more, and one less.
use Rattle.std.proofs.Common.{◌≡◌, ◌≢◌, ℕ, ◌+◌, ◌<◌, true, false, List, [], ◌∷◌, ◌++◌, refl, sym, ap, ◌∙◌, subst, inl, inr, ◌⊎◌, arith}
use Rattle.std.proofs.lemmas.Grind.{common_steps}
use Rattle.std.specs.Prelude.{All, Option, Some, None, IsSome}
use Rattle.std.specs.List.{AllByRecursion}
use Rattle.std.specs.List.Sorted.{IsStrictlySortedBy}
use Rattle.std.specs.declared.cmp.Ordering.TheVariants.{Less}
use Rattle.std.specs.Ordering.{nat_cmp}
use Rattle.std.specs.Str.{bytes_eq}
use Rattle.std.specs.String.{string_bytes, string_cmp}
use Rattle.std.specs.Cmp.Lexicographic.{slice_cmp}
use Rattle.std.specs.Map.{lookup, keys_of, remove_entry, update, values_of}
use Rattle.std.specs.BTreeMap.{get, get_by_text, Updates, UpdatesBy, IsOrdered, insert_entry, is_at, values}
use Rattle.std.proofs.lemmas.Bool.{cases_Bool, cases_eq}
use Rattle.std.proofs.lemmas.Cmp.{nat_cmp_total}
use Rattle.std.proofs.lemmas.List.{map-append}
use Rattle.std.proofs.lemmas.List.Elements.{All-head, All-tail, All-weaker}
use Rattle.std.proofs.lemmas.Map.Keys.{sorted_head, sorted_tail}
use Rattle.std.proofs.lemmas.Map.Text.{btree_map_updates_text}
use Rattle.std.proofs.lemmas.Map.Views.{All-found}
use Rattle.pg_flight.specs.declared.names.Row.{Row}
use Rattle.pg_flight.specs.Names.{AreNumbered, Numbers, Rows, named, without_name}
use Rattle.pg_flight.proofs.NamedRows.{IsFound, differs, name_itself}

-- the one name leads to this number, or to none, and each other name leads where it led
abbrev pub Leads : Numbers → Numbers → List ℕ → Option ℕ → Type 0
Leads old new name number = (other : List ℕ) → get_by_text new other ≡ update bytes_eq (get_by_text old) name number other

pub leads_by_bytes : (bytes name : List ℕ) (old new : Numbers) (number : Option ℕ) → bytes ≡ name
    → UpdatesBy string_cmp (λ key. slice_cmp nat_cmp bytes (string_bytes key)) old new number → Leads old new name number
leads_by_bytes bytes name old new number same updates = subst (λ text. Leads old new text number) same (btree_map_updates_text bytes old new number updates)

pub told_itself : (old new : Numbers) (name : List ℕ) (number : Option ℕ) → Leads old new name number → get_by_text new name ≡ number
told_itself old new name number told = grind (arith, common_steps, told name, name_itself name)

-- ---- one more
pub other_name : (name : List ℕ) (k : ℕ) (row : Row) (entries : List (ℕ × Row)) → named name (values_of entries) ≡ None → lookup (is_at (nat_cmp k)) entries ≡ Some row
    → bytes_eq name row.name ≡ false
other_name name k row [] new is = absurd (grind (arith, common_steps, is))
other_name name k row (first ∷ entries) new is =
    elim (cases_Bool (bytes_eq name first.1.name)) [
      | inl named ↦ absurd (grind (arith, common_steps, new, named))
      | inr unlike ↦ elim (cases_eq k first.0) [
        | inl same ↦
            let equal : first.1 ≡ row = grind (arith, common_steps, is, same) in
            subst (λ (other : Row). bytes_eq name other.name ≡ false) equal unlike
        | inr apart ↦ other_name name k row entries (grind (arith, common_steps, new, unlike)) (grind (arith, common_steps, apart, is))
      ]
    ]

pub numbered_ahead : (next number : ℕ) (rows : Rows) (numbers more : Numbers) (name : List ℕ) → AreNumbered next rows numbers → named name (values rows) ≡ None
    → Leads numbers more name (Some number) → AreNumbered next rows more
numbered_ahead next number rows numbers more name kept new told =
    record {
      ordered = kept.ordered;
      below = kept.below;
      found = λ k row is. grind (arith, common_steps, other_name name k row rows.entries new is, told row.name, kept.found k row is);
    }

pub numbered_with : (next : ℕ) (rows more : Rows) (numbers : Numbers) (row : Row) → AreNumbered next rows numbers → get_by_text numbers row.name ≡ Some next
    → Updates nat_cmp rows more next (Some row) → IsOrdered nat_cmp more → AreNumbered (next + 1) more numbers
numbered_with next rows more numbers row kept its put ordered =
    record {
      ordered = ordered;
      below = λ k is. below_still k is (cases_eq next k);
      found = λ k other is. found_still k other is (cases_eq next k);
    }
  where
    below_still : (k : ℕ) → IsSome (get nat_cmp more k) → (next ≡ k) ⊎ (next ≡ k → ⊥) → k < next + 1
    below_still k is (inl same) = omega (arith, same)
    below_still k is (inr apart) = let was : k < next = kept.below k (grind (arith, common_steps, apart, is, put.0 k)) in omega (arith, was)

    found_still : (k : ℕ) (other : Row) → get nat_cmp more k ≡ Some other → (next ≡ k) ⊎ (next ≡ k → ⊥) → get_by_text numbers other.name ≡ Some k
    found_still k other is (inl same) =
        let equal : row ≡ other = grind (arith, common_steps, same, is, put.0 k) in
        subst (λ (r : Row). get_by_text numbers r.name ≡ Some k) equal (its ∙ ap Some same)
    found_still k other is (inr apart) = kept.found k other (grind (arith, common_steps, apart, is, put.0 k))

-- a call that failed left all as it was
pub numbered_same : (next : ℕ) (rows rows' : Rows) (numbers : Numbers) → AreNumbered next rows numbers → rows'.entries ≡ rows.entries → AreNumbered next rows' numbers
numbered_same next rows rows' numbers kept same =
    record {
      ordered = subst (λ (entries : List (ℕ × Row)). IsStrictlySortedBy nat_cmp (keys_of entries)) (sym same) kept.ordered;
      below = λ k is. kept.below k (subst IsSome (at_rows k) is);
      found = λ k row is. kept.found k row (sym (at_rows k) ∙ is);
    }
  where
    at_rows : (k : ℕ) → get nat_cmp rows' k ≡ get nat_cmp rows k
    at_rows k = ap (lookup (is_at (nat_cmp k))) same

pub below_next : (next : ℕ) (rows : Rows) (numbers : Numbers) → AreNumbered next rows numbers → All (λ entry. entry.0 < next) rows.entries
below_next next rows numbers kept =
    All-weaker (λ entry. get nat_cmp rows entry.0 ≡ Some entry.1) (λ entry. entry.0 < next) (λ entry is. kept.below entry.0 (grind (arith, common_steps, is))) rows.entries
    (All-found nat_cmp_total rows kept.ordered)

pub put_last : (next : ℕ) (row : Row) (entries : List (ℕ × Row)) → All (λ entry. entry.0 < next) entries → insert_entry nat_cmp entries next row ≡ entries ++ (next, row) ∷ []
put_last next row [] below = refl
put_last next row (entry ∷ entries) below =
    grind (arith, common_steps, All-head (λ e. e.0 < next) entry entries below, put_last next row entries (All-tail (λ e. e.0 < next) entry entries below))

pub one_more : (next : ℕ) (rows more : Rows) (numbers : Numbers) (row : Row) → AreNumbered next rows numbers → more.entries ≡ insert_entry nat_cmp rows.entries next row
    → values more ≡ values rows ++ row ∷ []
one_more next rows more numbers row kept put =
    ap values_of (put ∙ put_last next row rows.entries (below_next next rows numbers kept)) ∙ map-append (λ (entry : ℕ × Row). entry.1) rows.entries ((next, row) ∷ [])

-- ---- one less
-- behind its number no row has the name
pub none_behind : (rows : Rows) (numbers : Numbers) (number : ℕ) (name : List ℕ) (entries : List (ℕ × Row)) → All (IsFound rows numbers) entries
    → AllByRecursion (λ other. nat_cmp number other ≡ Less) (keys_of entries) → get_by_text numbers name ≡ Some number
    → without_name name (values_of entries) ≡ values_of entries
none_behind rows numbers number name [] found above leads = refl
none_behind rows numbers number name (entry ∷ entries) found above leads =
    let apart : number ≢ entry.0 = λ same. grind (arith, common_steps, above.0, same) in
    let other = differs rows numbers name number entry (All-head (IsFound rows numbers) entry entries found) leads apart in
    grind (arith, common_steps, other, none_behind rows numbers number name entries (All-tail (IsFound rows numbers) entry entries found) above.1 leads)

pub one_less : (rows : Rows) (numbers : Numbers) (number : ℕ) (name : List ℕ) (row : Row) (entries : List (ℕ × Row)) → All (IsFound rows numbers) entries
    → IsStrictlySortedBy nat_cmp (keys_of entries) → get nat_cmp rows number ≡ Some row → row.name ≡ name → get_by_text numbers name ≡ Some number
    → values_of (remove_entry (is_at (nat_cmp number)) entries) ≡ without_name name (values_of entries)
one_less rows numbers number name row [] found sorted there its leads = refl
one_less rows numbers number name row (first ∷ entries) found sorted there its leads =
    let others = All-tail (IsFound rows numbers) first entries found in
    let here = All-head (IsFound rows numbers) first entries found in
    elim (cases_eq number first.0) [
      | inl same ↦
          let above = subst (λ key. AllByRecursion (λ other. nat_cmp key other ≡ Less) (keys_of entries)) (sym same) (sorted_head nat_cmp first.0 (keys_of entries) sorted) in
          let equal : row ≡ first.1 = grind (arith, common_steps, same, there, here.0) in
          let named : bytes_eq name first.1.name ≡ true = subst (λ (other : Row). bytes_eq name other.name ≡ true) equal (subst (λ other. bytes_eq name other ≡ true) (sym its) (name_itself name)) in
          grind (arith, common_steps, same, named, none_behind rows numbers number name entries others above leads)
      | inr apart ↦
          let unlike : bytes_eq name first.1.name ≡ false = differs rows numbers name number first here leads apart in
          grind (arith, common_steps, apart, unlike, one_less rows numbers number name row entries others (sorted_tail nat_cmp first.0 (keys_of entries) sorted) there its leads)
    ]

-- the others are numbered as before
pub numbered_less : (next : ℕ) (rows fewer : Rows) (numbers less : Numbers) (name : List ℕ) (number : ℕ) → AreNumbered next rows numbers → get_by_text numbers name ≡ Some number
    → Updates nat_cmp rows fewer number None → IsOrdered nat_cmp fewer → Leads numbers less name None → AreNumbered next fewer less
numbered_less next rows fewer numbers less name number kept leads gone ordered lost =
    record {
      ordered = ordered;
      below = λ k is. grind (arith, common_steps, gone.0 k, is, kept.below k);
      found = λ k row is. found_still k row is (cases_eq number k);
    }
  where
    found_still : (k : ℕ) (row : Row) → get nat_cmp fewer k ≡ Some row → (number ≡ k) ⊎ (number ≡ k → ⊥) → get_by_text less row.name ≡ Some k
    found_still k row is (inl same) = absurd (grind (arith, common_steps, same, is, gone.0 k))
    found_still k row is (inr apart) =
        let there : get nat_cmp rows k ≡ Some row = grind (arith, common_steps, apart, is, gone.0 k) in
        let its : get_by_text numbers row.name ≡ Some k = kept.found k row there in
        let other : bytes_eq name row.name ≡ false = differs rows numbers name number (k, row) (there, its) leads apart in
        grind (arith, common_steps, other, its, lost row.name)
