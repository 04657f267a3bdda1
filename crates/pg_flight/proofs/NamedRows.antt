-- Rows by their numbers, and the numbers by the rows' names.
use Rattle.std.proofs.Common.{◌≡◌, ◌≢◌, ℕ, true, false, List, [], ◌∷◌, refl, sym, subst, inl, inr, arith}
use Rattle.std.proofs.lemmas.Grind.{common_steps}
use Rattle.std.specs.Prelude.{All, Some, None}
use Rattle.std.specs.List.{AllByRecursion}
use Rattle.std.specs.List.Sorted.{IsStrictlySortedBy}
use Rattle.std.specs.declared.cmp.Ordering.TheVariants.{Less}
use Rattle.std.specs.Ordering.{nat_cmp}
use Rattle.std.specs.Str.{bytes_eq}
use Rattle.std.specs.Map.{lookup, keys_of, values_of}
use Rattle.std.specs.BTreeMap.{get, get_by_text, is_at, values}
use Rattle.std.proofs.lemmas.Bool.{cases_Bool, cases_eq}
use Rattle.std.proofs.lemmas.Cmp.{nat_cmp_total}
use Rattle.std.proofs.lemmas.List.Elements.{All-cons, All-head, All-nil, All-tail, All-weaker}
use Rattle.std.proofs.lemmas.List.Kept.{AllPairs-cons}
use Rattle.std.proofs.lemmas.Map.Keys.{sorted_head, sorted_tail}
use Rattle.std.proofs.lemmas.Map.Views.{All-found}
use Rattle.std.proofs.lemmas.Slice.Eq.{bytes_eq-Decides}
use Rattle.pg_flight.specs.declared.names.Row.{Row}
use Rattle.pg_flight.specs.Names.{AreApart, AreNumbered, IsNumberOf, Numbers, Rows, named, without_name}

pub same_name : (a b : List ℕ) → bytes_eq a b ≡ true → a ≡ b
same_name a b = (bytes_eq-Decides a b).0

pub name_itself : (name : List ℕ) → bytes_eq name name ≡ true
name_itself name = (bytes_eq-Decides name name).1 refl

-- the row is found by its number, and the number by the row's name
abbrev pub IsFound : Rows → Numbers → ℕ × Row → Type 0
IsFound rows numbers entry = (get nat_cmp rows entry.0 ≡ Some entry.1) × (get_by_text numbers entry.1.name ≡ Some entry.0)

pub all_found : (next : ℕ) (rows : Rows) (numbers : Numbers) → AreNumbered next rows numbers → All (IsFound rows numbers) rows.entries
all_found next rows numbers kept =
    All-weaker (λ entry. get nat_cmp rows entry.0 ≡ Some entry.1) (IsFound rows numbers) (λ entry is. (is, kept.found entry.0 entry.1 is)) rows.entries
    (All-found nat_cmp_total rows kept.ordered)

-- a name that leads to another number isn't that of the row
pub differs : (rows : Rows) (numbers : Numbers) (name : List ℕ) (number : ℕ) (entry : ℕ × Row) → IsFound rows numbers entry → get_by_text numbers name ≡ Some number → number ≢ entry.0
    → bytes_eq name entry.1.name ≡ false
differs rows numbers name number entry found leads apart =
    elim (cases_Bool (bytes_eq name entry.1.name)) [
      | inl same ↦
          let its : get_by_text numbers name ≡ Some entry.0 = subst (λ other. get_by_text numbers other ≡ Some entry.0) (sym (same_name name entry.1.name same)) found.1 in
          let equal : number ≡ entry.0 = grind (arith, common_steps, leads, its) in
          absurd (apart equal)
      | inr other ↦ other
    ]

-- ---- the row of a name
pub named_at : (rows : Rows) (numbers : Numbers) (name : List ℕ) (number : ℕ) (row : Row) (entries : List (ℕ × Row)) → All (IsFound rows numbers) entries
    → lookup (is_at (nat_cmp number)) entries ≡ Some row → row.name ≡ name → get_by_text numbers name ≡ Some number → named name (values_of entries) ≡ Some row
named_at rows numbers name number row [] found there its leads = absurd (grind (arith, common_steps, there))
named_at rows numbers name number row (first ∷ entries) found there its leads =
    elim (cases_eq number first.0) [
      | inl same ↦
          let equal : first.1 ≡ row = grind (arith, common_steps, same, there) in
          let here : bytes_eq name first.1.name ≡ true = subst (λ (other : Row). bytes_eq name other.name ≡ true) (sym equal) (subst (λ other. bytes_eq name other ≡ true) (sym its) (name_itself name)) in
          grind (arith, common_steps, here, equal)
      | inr apart ↦
          let other : bytes_eq name first.1.name ≡ false = differs rows numbers name number first (All-head (IsFound rows numbers) first entries found) leads apart in
          let rest : named name (values_of entries) ≡ Some row =
          named_at rows numbers name number row entries (All-tail (IsFound rows numbers) first entries found) (grind (arith, common_steps, apart, there)) its leads
          in
          grind (arith, common_steps, other, rest)
    ]

pub named_by_number : (next : ℕ) (rows : Rows) (numbers : Numbers) (name : List ℕ) (number : ℕ) → AreNumbered next rows numbers → (is : IsNumberOf rows numbers name number)
    → named name (values rows) ≡ Some is.row
named_by_number next rows numbers name number kept is =
    named_at rows numbers name number is.row rows.entries (all_found next rows numbers kept) is.there is.its is.leads

-- where no number is that of the name, no row has the name
pub has_other_name : (rows : Rows) (numbers : Numbers) (name : List ℕ) → ((number : ℕ) → ¬ IsNumberOf rows numbers name number) → (entry : ℕ × Row) → IsFound rows numbers entry
    → bytes_eq name entry.1.name ≡ false
has_other_name rows numbers name none entry found =
    elim (cases_Bool (bytes_eq name entry.1.name)) [
      | inl same ↦
          let equal = same_name name entry.1.name same in
          absurd (none entry.0 (record {
            row = entry.1;
            there = found.0;
            its = sym equal;
            leads = subst (λ other. get_by_text numbers other ≡ Some entry.0) (sym equal) found.1;
          }))
      | inr other ↦ other
    ]

pub none_named : (name : List ℕ) (entries : List (ℕ × Row)) → All (λ (entry : ℕ × Row). bytes_eq name entry.1.name ≡ false) entries → named name (values_of entries) ≡ None
none_named name [] others = refl
none_named name (entry ∷ entries) others =
    let Other = λ (entry : ℕ × Row). bytes_eq name entry.1.name ≡ false in
    let here : bytes_eq name entry.1.name ≡ false = All-head Other entry entries others in
    grind (arith, common_steps, here, none_named name entries (All-tail Other entry entries others))

pub none_without : (name : List ℕ) (entries : List (ℕ × Row)) → All (λ (entry : ℕ × Row). bytes_eq name entry.1.name ≡ false) entries
    → without_name name (values_of entries) ≡ values_of entries
none_without name [] others = refl
none_without name (entry ∷ entries) others =
    let Other = λ (entry : ℕ × Row). bytes_eq name entry.1.name ≡ false in
    let here : bytes_eq name entry.1.name ≡ false = All-head Other entry entries others in
    grind (arith, common_steps, here, none_without name entries (All-tail Other entry entries others))

pub all_others : (next : ℕ) (rows : Rows) (numbers : Numbers) (name : List ℕ) → AreNumbered next rows numbers → ((number : ℕ) → ¬ IsNumberOf rows numbers name number)
    → All (λ (entry : ℕ × Row). bytes_eq name entry.1.name ≡ false) rows.entries
all_others next rows numbers name kept none =
    All-weaker (IsFound rows numbers) (λ entry. bytes_eq name entry.1.name ≡ false) (has_other_name rows numbers name none) rows.entries (all_found next rows numbers kept)

-- ---- the names differ
pub differ_behind : (rows : Rows) (numbers : Numbers) (first : ℕ × Row) (entries : List (ℕ × Row)) → IsFound rows numbers first → All (IsFound rows numbers) entries
    → AllByRecursion (λ key. nat_cmp first.0 key ≡ Less) (keys_of entries) → All (λ (other : Row). first.1.name ≢ other.name) (values_of entries)
differ_behind rows numbers first [] here found above = All-nil (λ (other : Row). first.1.name ≢ other.name)
differ_behind rows numbers first (entry ∷ entries) here found above =
    All-cons (λ (other : Row). first.1.name ≢ other.name) entry.1 (values_of entries) apart
    (differ_behind rows numbers first entries here (All-tail (IsFound rows numbers) entry entries found) above.1)
  where
    apart : first.1.name ≢ entry.1.name
    apart same =
        let its = (All-head (IsFound rows numbers) entry entries found).1 in
        let leads : get_by_text numbers first.1.name ≡ Some entry.0 = subst (λ other. get_by_text numbers other ≡ Some entry.0) (sym same) its in
        let equal : first.0 ≡ entry.0 = grind (arith, common_steps, leads, here.1) in
        grind (arith, common_steps, above.0, equal)

pub apart_by_number : (rows : Rows) (numbers : Numbers) (entries : List (ℕ × Row)) → All (IsFound rows numbers) entries → IsStrictlySortedBy nat_cmp (keys_of entries)
    → AreApart (values_of entries)
apart_by_number rows numbers [] found sorted = λ i j d below within. grind (arith, common_steps, within)
apart_by_number rows numbers (entry ∷ entries) found sorted =
    AllPairs-cons (λ (row other : Row). row.name ≢ other.name) entry.1 (values_of entries)
    (differ_behind rows numbers entry entries (All-head (IsFound rows numbers) entry entries found) (All-tail (IsFound rows numbers) entry entries found)
    (sorted_head nat_cmp entry.0 (keys_of entries) sorted))
    (apart_by_number rows numbers entries (All-tail (IsFound rows numbers) entry entries found) (sorted_tail nat_cmp entry.0 (keys_of entries) sorted))

pub apart : (next : ℕ) (rows : Rows) (numbers : Numbers) → AreNumbered next rows numbers → AreApart (values rows)
apart next rows numbers kept = apart_by_number rows numbers rows.entries (all_found next rows numbers kept) kept.ordered
