-- Which message an id leads to by the numbers, and what an acknowledgement, a drop and a new message change.
use Rattle.std.proofs.Common.{◌≡◌, ◌∙◌, Bor, refl, sym, ap, subst, ℕ, ◌+◌, ◌<◌, Bool, true, false, cond, List, [], ◌∷◌, ◌++◌, length, get_or, map, Some, None, inl, inr, arith}
use Rattle.std.proofs.lemmas.Grind.{common_steps}
use Rattle.std.specs.Prelude.{All, Option, filter, find, is_some, option_map}
use Rattle.std.specs.Ordering.{nat_cmp}
use Rattle.std.specs.Map.{keys_of, lookup, set_value, remove_entry, values_of}
use Rattle.std.specs.Map.Calls.{RetainsPairs}
use Rattle.std.specs.BTreeMap.{get, is_at, insert_entry, Updates, IsOrdered}
use Rattle.std.proofs.lemmas.Bool.{cases_Bool, cases_eq, cond_both}
use Rattle.std.specs.Cmp.{IsTotalOrder}
use Rattle.std.proofs.lemmas.Cmp.{nat_cmp_total, eq_by_cmp_equiv, then_total, on_total}
use Rattle.std.proofs.lemmas.Map.Entries.{lookup-filter-values}
use Rattle.std.proofs.lemmas.Map.Keys.{IsDistinct-from_sorted}
use Rattle.std.proofs.lemmas.List.{get_or-map, length-map, map-append}
use Rattle.std.proofs.lemmas.List.Elements.{All-head, All-tail, All-cons, All-nil, All-push, All-weaker}
use Rattle.std.proofs.lemmas.Map.Views.{All-found}
use Rattle.pg_msg.specs.declared.message.MessageId.{MessageId}
use Rattle.pg_fold.specs.declared.rows.JournaledRow.{JournaledRow}
use Rattle.pg_fold.specs.JournalNumbers.{AreNumbered, IsRowOf, IsTold, Key, Numbered, Numbers, key_cmp, key_of}
use Rattle.pg_fold.specs.Rows.{acknowledged, dropped, has_holder, has_message, has_number, is_held, released, same_id}

abbrev Entry : Type 0
Entry = ℕ × JournaledRow

abbrev pub at : ℕ → ℕ → Bool
at number = is_at (nat_cmp number)

abbrev pub matches : MessageId → JournaledRow → Bool
matches id row = same_id row.message.id id

pub same_ids : (a b : MessageId) → same_id a b ≡ true → a ≡ b
same_ids a b e = grind (arith, common_steps, e)

same_id_itself : (id : MessageId) → same_id id id ≡ true
same_id_itself id = grind (arith, common_steps)

-- the message is found by its number, and the number by the message
abbrev pub IsFound : Numbered → Numbers → Entry → Type 0
IsFound rows numbers entry = (get nat_cmp rows entry.0 ≡ Some entry.1) × IsTold numbers entry

pub all_found : (next : ℕ) (rows : Numbered) (numbers : Numbers) → AreNumbered next rows numbers → All (IsFound rows numbers) rows.entries
all_found next rows numbers kept =
    let found = All-found nat_cmp_total rows kept.ordered in
    λ k d within. (found k d within, kept.told k d within)

module _ (rows : Numbered) (numbers : Numbers) (id : MessageId) where
  its_entry : (entry : Entry) → IsFound rows numbers entry → matches id entry.1 ≡ true → IsRowOf rows numbers id entry.0 entry.1
  its_entry entry found here =
      let same = same_ids entry.1.message.id id here in
      record { there = found.0; its = subst (λ i. get key_cmp numbers (key_of i) ≡ Some entry.0) same found.1; same = same }

  -- ---- no message has the id
  module _ (none : (number : ℕ) (row : JournaledRow) → IsRowOf rows numbers id number row → ⊥) where
    elsewhere : (entry : Entry) → IsFound rows numbers entry → matches id entry.1 ≡ false
    elsewhere entry found =
        elim (cases_Bool (matches id entry.1)) [
          | inl here ↦ absurd (none entry.0 entry.1 (its_entry entry found here))
          | inr other ↦ other
        ]

    pub found_none : (entries : List Entry) → All (IsFound rows numbers) entries → find (matches id) (values_of entries) ≡ None
    found_none [] found = refl
    found_none (entry ∷ entries) found =
        let first = elsewhere entry (All-head (IsFound rows numbers) entry entries found) in
        let others = found_none entries (All-tail (IsFound rows numbers) entry entries found) in
        grind (arith, common_steps, first, others)

    pub holder_none : (queue : ℕ) (entries : List Entry) → All (IsFound rows numbers) entries → has_holder (values_of entries) id queue ≡ false
    holder_none queue [] found = refl
    holder_none queue (entry ∷ entries) found =
        let first = elsewhere entry (All-head (IsFound rows numbers) entry entries found) in
        let others = holder_none queue entries (All-tail (IsFound rows numbers) entry entries found) in
        grind (arith, common_steps, first, others)

    pub acknowledged_none : (queue : ℕ) (entries : List Entry) → All (IsFound rows numbers) entries → acknowledged queue id (values_of entries) ≡ values_of entries
    acknowledged_none queue [] found = refl
    acknowledged_none queue (entry ∷ entries) found =
        let first = elsewhere entry (All-head (IsFound rows numbers) entry entries found) in
        let others = acknowledged_none queue entries (All-tail (IsFound rows numbers) entry entries found) in
        grind (arith, common_steps, first, others)

  -- ---- this one has it
  module _ (number : ℕ) (row : JournaledRow) (its : IsRowOf rows numbers id number row) where
    -- a message of another number has another id
    apart : (entry : Entry) → IsFound rows numbers entry → (number ≡ entry.0 → ⊥) → matches id entry.1 ≡ false
    apart entry found differs =
        elim (cases_Bool (matches id entry.1)) [
          | inl here ↦ let other = its_entry entry found here in absurd (differs (grind (arith, common_steps, its.its, other.its)))
          | inr other ↦ other
        ]

    -- a message with the id is this one
    equal : (entry : Entry) → IsFound rows numbers entry → matches id entry.1 ≡ true → entry.1 ≡ row
    equal entry found here =
        let other = its_entry entry found here in
        let same : entry.0 ≡ number = grind (arith, common_steps, its.its, other.its) in
        grind (arith, common_steps, its.there, other.there, same)

    itself : matches id row ≡ true
    itself = subst (λ i. same_id i id ≡ true) (sym its.same) (same_id_itself id)

    pub found_some : (entries : List Entry) → All (IsFound rows numbers) entries → lookup (at number) entries ≡ Some row → find (matches id) (values_of entries) ≡ Some row
    found_some [] found is = absurd (grind (arith, common_steps, is))
    found_some (entry ∷ entries) found is =
        elim (cases_eq number entry.0) [
          | inl same ↦ let this : entry.1 ≡ row = grind (arith, common_steps, same, is) in grind (arith, common_steps, this, itself)
          | inr differs ↦
              let first = apart entry (All-head (IsFound rows numbers) entry entries found) differs in
              let later : lookup (at number) entries ≡ Some row = grind (arith, common_steps, differs, is) in
              let others = found_some entries (All-tail (IsFound rows numbers) entry entries found) later in
              grind (arith, common_steps, first, others)
        ]

    pub holder_some : (queue : ℕ) (entries : List Entry) → All (IsFound rows numbers) entries → has_number row.holders queue ≡ true → lookup (at number) entries ≡ Some row → has_holder (values_of entries) id queue ≡ true
    holder_some queue [] found holds is = absurd (grind (arith, common_steps, is))
    holder_some queue (entry ∷ entries) found holds is =
        elim (cases_eq number entry.0) [
          | inl same ↦ let this : entry.1 ≡ row = grind (arith, common_steps, same, is) in grind (arith, common_steps, this, itself, holds)
          | inr differs ↦
              let later : lookup (at number) entries ≡ Some row = grind (arith, common_steps, differs, is) in
              let others = holder_some queue entries (All-tail (IsFound rows numbers) entry entries found) holds later in
              grind (arith, common_steps, others)
        ]

    pub holder_not : (queue : ℕ) (entries : List Entry) → All (IsFound rows numbers) entries → has_number row.holders queue ≡ false → has_holder (values_of entries) id queue ≡ false
    holder_not queue [] found free = refl
    holder_not queue (entry ∷ entries) found free =
        let others = holder_not queue entries (All-tail (IsFound rows numbers) entry entries found) free in
        elim (cases_Bool (matches id entry.1)) [
          | inl here ↦ let this = equal entry (All-head (IsFound rows numbers) entry entries found) here in grind (arith, common_steps, this, free, others)
          | inr other ↦ grind (arith, common_steps, other, others)
        ]

    -- the message stays, with one holder less
    pub stays : (queue : ℕ) (entries : List Entry) → All (IsFound rows numbers) entries → lookup (at number) entries ≡ Some row → is_held (released queue row) ≡ true
        → values_of (set_value (at number) entries (released queue row)) ≡ acknowledged queue id (values_of entries)
    stays queue [] found is held = refl
    stays queue (entry ∷ entries) found is held =
        elim (cases_eq number entry.0) [
          | inl same ↦ let this : entry.1 ≡ row = grind (arith, common_steps, same, is) in grind (arith, common_steps, this, itself, held, same)
          | inr differs ↦
              let first = apart entry (All-head (IsFound rows numbers) entry entries found) differs in
              let later : lookup (at number) entries ≡ Some row = grind (arith, common_steps, differs, is) in
              let others = stays queue entries (All-tail (IsFound rows numbers) entry entries found) later held in
              grind (arith, common_steps, first, others, differs)
        ]

    -- the message goes
    pub goes : (queue : ℕ) (entries : List Entry) → All (IsFound rows numbers) entries → lookup (at number) entries ≡ Some row → is_held (released queue row) ≡ false
        → values_of (remove_entry (at number) (set_value (at number) entries (released queue row))) ≡ acknowledged queue id (values_of entries)
    goes queue [] found is free = refl
    goes queue (entry ∷ entries) found is free =
        elim (cases_eq number entry.0) [
          | inl same ↦ let this : entry.1 ≡ row = grind (arith, common_steps, same, is) in grind (arith, common_steps, this, itself, free, same)
          | inr differs ↦
              let first = apart entry (All-head (IsFound rows numbers) entry entries found) differs in
              let later : lookup (at number) entries ≡ Some row = grind (arith, common_steps, differs, is) in
              let others = goes queue entries (All-tail (IsFound rows numbers) entry entries found) later free in
              grind (arith, common_steps, first, others, differs)
        ]

-- ---- a change of a value that keeps its id
pub told_changed : (numbers : Numbers) (number : ℕ) (row changed : JournaledRow) (entries : List Entry) → All (IsTold numbers) entries → lookup (at number) entries ≡ Some row
    → changed.message.id ≡ row.message.id → All (IsTold numbers) (set_value (at number) entries changed)
told_changed numbers number row changed [] told is same = All-nil (IsTold numbers)
told_changed numbers number row changed (entry ∷ entries) told is same =
    let first = All-head (IsTold numbers) entry entries told in
    let others = All-tail (IsTold numbers) entry entries told in
    cond_both (at number entry.0) ((entry.0, changed) ∷ entries) (entry ∷ set_value (at number) entries changed) (All (IsTold numbers))
    (λ here.
    let this : entry.1 ≡ row = grind (arith, common_steps, here, is) in
    let now : IsTold numbers (entry.0, changed) = subst (λ i. get key_cmp numbers (key_of i) ≡ Some entry.0) (ap (λ (r : JournaledRow). r.message.id) this ∙ sym same) first in
    All-cons (IsTold numbers) (entry.0, changed) entries now others)
    (λ other.
    let later : lookup (at number) entries ≡ Some row = grind (arith, common_steps, other, is) in
    All-cons (IsTold numbers) entry (set_value (at number) entries changed) first (told_changed numbers number row changed entries others later same))

abbrev pub IsBelow : ℕ → Entry → Type 0
IsBelow next entry = entry.0 < next

pub below_changed : (next number : ℕ) (changed : JournaledRow) (entries : List Entry) → All (IsBelow next) entries → All (IsBelow next) (set_value (at number) entries changed)
below_changed next number changed [] below = below
below_changed next number changed (entry ∷ entries) below =
    let first = All-head (IsBelow next) entry entries below in
    let others = All-tail (IsBelow next) entry entries below in
    cond_both (at number entry.0) ((entry.0, changed) ∷ entries) (entry ∷ set_value (at number) entries changed) (All (IsBelow next))
    (λ _. All-cons (IsBelow next) (entry.0, changed) entries first others)
    (λ _. All-cons (IsBelow next) entry (set_value (at number) entries changed) first (below_changed next number changed entries others))

pub all_removed : (P : Entry → Type 0) (number : ℕ) (entries : List Entry) → All P entries → All P (remove_entry (at number) entries)
all_removed P number [] all = all
all_removed P number (entry ∷ entries) all =
    let first = All-head P entry entries all in
    let others = All-tail P entry entries all in
    cond_both (at number entry.0) entries (entry ∷ remove_entry (at number) entries) (All P) (λ _. others)
    (λ _. All-cons P entry (remove_entry (at number) entries) first (all_removed P number entries others))

pub numbered_changed : (next : ℕ) (rows after : Numbered) (numbers : Numbers) (id : MessageId) (number queue : ℕ) (row : JournaledRow) → AreNumbered next rows numbers → IsRowOf rows numbers id number row
    → after.entries ≡ set_value (at number) rows.entries (released queue row) → IsOrdered nat_cmp after → AreNumbered next after numbers
numbered_changed next rows after numbers id number queue row kept its is ordered =
    record {
      ordered = ordered;
      below = subst (All (IsBelow next)) (sym is) (below_changed next number (released queue row) rows.entries kept.below);
      told = subst (All (IsTold numbers)) (sym is) (told_changed numbers number row (released queue row) rows.entries kept.told its.there refl);
    }

-- ---- a drop of a queue
kept_or_not : (P : Entry → Type 0) (b : Bool) (entry : Entry) (entries : List Entry) → P entry → All P entries → All P (cond b (entry ∷ entries) entries)
kept_or_not P true entry entries first others = All-cons P entry entries first others
kept_or_not P false entry entries first others = others

module _ {F : Type 0} (step : F → ℕ → JournaledRow → Bool → JournaledRow → F → Type 0) (f : F) (queue : ℕ)
    (does : (k : ℕ) (v : JournaledRow) (b : Bool) (w : JournaledRow) (f' : F) → step f k v b w f' → (b ≡ is_held w) × (w ≡ released queue v) × (f' ≡ f)) where
  pub dropped_by : (entries kept : List Entry) → RetainsPairs step f entries kept → values_of kept ≡ dropped queue (values_of entries)
  dropped_by [] kept by = ap values_of by
  dropped_by (entry ∷ entries) kept (b, w, f', rest, stepped, by, is) =
      let did = does entry.0 entry.1 b w f' stepped in
      let others = dropped_by entries rest (subst (λ g. RetainsPairs step g entries rest) did.2 by) in
      ap values_of is ∙ grind (arith, common_steps, did.0, did.1, others)

  -- what holds of each entry by its number and its id holds of those that are left
  pub all_by : (P : Entry → Type 0) → ((number : ℕ) (row : JournaledRow) → P (number, row) → P (number, released queue row)) → (entries kept : List Entry) → RetainsPairs step f entries kept
      → All P entries → All P kept
  all_by P still [] kept by all = subst (All P) (sym by) (All-nil P)
  all_by P still (entry ∷ entries) kept (b, w, f', rest, stepped, by, is) all =
      let did = does entry.0 entry.1 b w f' stepped in
      let others = all_by P still entries rest (subst (λ g. RetainsPairs step g entries rest) did.2 by) (All-tail P entry entries all) in
      let first : P (entry.0, w) = subst (λ r. P (entry.0, r)) (sym did.1) (still entry.0 entry.1 (All-head P entry entries all)) in
      subst (All P) (sym is) (kept_or_not P b (entry.0, w) rest first others)

-- ---- a new message
pub put_last : (next : ℕ) (row : JournaledRow) (entries : List Entry) → All (IsBelow next) entries → insert_entry nat_cmp entries next row ≡ entries ++ (next, row) ∷ []
put_last next row [] below = refl
put_last next row (entry ∷ entries) below =
    grind (
      arith,
      common_steps,
      All-head (IsBelow next) entry entries below,
      put_last next row entries (All-tail (IsBelow next) entry entries below),
    )

-- the number is told ahead, for an id that none has
pub told_ahead : (numbers more : Numbers) (next : ℕ) (id : MessageId) (entries : List Entry) → All (IsTold numbers) entries → has_message (values_of entries) id ≡ false
    → Updates key_cmp numbers more (key_of id) (Some next) → All (IsTold more) entries
told_ahead numbers more next id [] told new put = All-nil (IsTold more)
told_ahead numbers more next id (entry ∷ entries) told new put =
    let first = All-head (IsTold numbers) entry entries told in
    let other : matches id entry.1 ≡ false = grind (arith, common_steps, new) in
    let others : has_message (values_of entries) id ≡ false = grind (arith, common_steps, new) in
    let at_its : IsTold more entry = grind (arith, common_steps, other, first, put.0 (key_of entry.1.message.id)) in
    All-cons (IsTold more) entry entries at_its (told_ahead numbers more next id entries (All-tail (IsTold numbers) entry entries told) others put)

-- ---- a message that is taken out
pub told_less : (rows : Numbered) (numbers less : Numbers) (number : ℕ) (id : MessageId) → IsOrdered nat_cmp rows → get nat_cmp rows number ≡ None → All (IsTold numbers) rows.entries
    → get key_cmp numbers (key_of id) ≡ Some number → Updates key_cmp numbers less (key_of id) None → All (IsTold less) rows.entries
told_less rows numbers less number id ordered gone told its lost =
    λ k d within. one (get_or rows.entries k d) (All-found nat_cmp_total rows ordered k d within) (told k d within)
  where
    one : (entry : Entry) → get nat_cmp rows entry.0 ≡ Some entry.1 → IsTold numbers entry → IsTold less entry
    one entry there is =
        elim (cases_Bool (is_at (key_cmp (key_of id)) (key_of entry.1.message.id))) [
          | inl same ↦
              let this : entry.1.message.id ≡ id = grind (arith, common_steps, same) in
              let number_is : entry.0 ≡ number = grind (arith, common_steps, is, its, this) in
              absurd (grind (arith, common_steps, there, gone, number_is))
          | inr other ↦ grind (arith, common_steps, other, is, lost.0 (key_of entry.1.message.id))
        ]

pub numbered_less : (next : ℕ) (rows fewer : Numbered) (numbers less : Numbers) (id : MessageId) (number : ℕ) → AreNumbered next rows numbers → get key_cmp numbers (key_of id) ≡ Some number
    → fewer.entries ≡ remove_entry (at number) rows.entries → IsOrdered nat_cmp fewer → get nat_cmp fewer number ≡ None → Updates key_cmp numbers less (key_of id) None → AreNumbered next fewer less
numbered_less next rows fewer numbers less id number kept its is ordered gone lost =
    record {
      ordered = ordered;
      below = subst (All (IsBelow next)) (sym is) (all_removed (IsBelow next) number rows.entries kept.below);
      told = told_less fewer numbers less number id ordered gone (subst (All (IsTold numbers)) (sym is) (all_removed (IsTold numbers) number rows.entries kept.told)) its lost;
    }

-- ---- a new message, once its number is told and once it stands behind the others
pub numbered_ahead : (next : ℕ) (rows : Numbered) (numbers more : Numbers) (id : MessageId) → AreNumbered next rows numbers → has_message (values_of rows.entries) id ≡ false
    → Updates key_cmp numbers more (key_of id) (Some next) → AreNumbered next rows more
numbered_ahead next rows numbers more id kept new put = record { ordered = kept.ordered; below = kept.below; told = told_ahead numbers more next id rows.entries kept.told new put }

pub numbered_same : (next : ℕ) (rows same : Numbered) (numbers others : Numbers) → AreNumbered next rows numbers → same.entries ≡ rows.entries → others.entries ≡ numbers.entries → IsOrdered nat_cmp same
    → AreNumbered next same others
numbered_same next rows same numbers others kept is its ordered =
    record {
      ordered = ordered;
      below = subst (All (IsBelow next)) (sym is) kept.below;
      told = subst (All (IsTold others)) (sym is) (λ k d within. ap (lookup (is_at (key_cmp (key_of (get_or rows.entries k d).1.message.id)))) its ∙ kept.told k d within);
    }

pub numbered_more : (next : ℕ) (rows more : Numbered) (numbers : Numbers) (row : JournaledRow) → AreNumbered next rows numbers → get key_cmp numbers (key_of row.message.id) ≡ Some next
    → more.entries ≡ insert_entry nat_cmp rows.entries next row → IsOrdered nat_cmp more → AreNumbered (next + 1) more numbers
numbered_more next rows more numbers row kept its is ordered =
    let last = is ∙ put_last next row rows.entries kept.below in
    record {
      ordered = ordered;
      below = subst (All (IsBelow (next + 1))) (sym last)
          (All-push (IsBelow (next + 1)) rows.entries (next, row) (All-weaker (IsBelow next) (IsBelow (next + 1)) (λ entry below. omega (arith, below)) rows.entries kept.below) (omega arith));
      told = subst (All (IsTold numbers)) (sym last) (All-push (IsTold numbers) rows.entries (next, row) kept.told its);
    }

pub one_more : (next : ℕ) (rows more : Numbered) (numbers : Numbers) (row : JournaledRow) → AreNumbered next rows numbers → more.entries ≡ insert_entry nat_cmp rows.entries next row
    → values_of more.entries ≡ values_of rows.entries ++ row ∷ []
one_more next rows more numbers row kept is = ap values_of (is ∙ put_last next row rows.entries kept.below) ∙ map-append (λ (entry : Entry). entry.1) rows.entries ((next, row) ∷ [])

-- ---- numbers of which those of messages that aren't there are forgotten
key_total : IsTotalOrder key_cmp
key_total = then_total (on_total (λ (k : Key). k.0) nat_cmp_total) (on_total (λ (k : Key). k.1) nat_cmp_total)

abbrev pub is_kept : Numbered → Key × ℕ → Bool
is_kept rows entry = is_some (get nat_cmp rows entry.1)

pub told_kept : (rows : Numbered) (numbers kept : Numbers) → IsOrdered nat_cmp rows → IsOrdered key_cmp numbers → kept.entries ≡ filter (is_kept rows) numbers.entries
    → All (IsTold numbers) rows.entries → All (IsTold kept) rows.entries
told_kept rows numbers kept ordered sorted is told =
    λ k d within. one (get_or rows.entries k d) (All-found nat_cmp_total rows ordered k d within) (told k d within)
  where
    one : (entry : Entry) → get nat_cmp rows entry.0 ≡ Some entry.1 → IsTold numbers entry → IsTold kept entry
    one entry there its =
        let found = lookup-filter-values (eq_by_cmp_equiv key_total) (λ number. is_some (get nat_cmp rows number)) (key_of entry.1.message.id) numbers.entries
        (IsDistinct-from_sorted key_cmp (keys_of numbers.entries) sorted) in
        ap (lookup (is_at (key_cmp (key_of entry.1.message.id)))) is ∙ found ∙ grind (arith, common_steps, its, there)

-- ---- what is found is there
pub found_has : (id : MessageId) (rows : List JournaledRow) → is_some (find (matches id) rows) ≡ has_message rows id
found_has id [] = refl
found_has id (row ∷ rows) =
    elim (cases_Bool (matches id row)) [
      | inl here ↦ grind (arith, common_steps, here)
      | inr other ↦ grind (arith, common_steps, other, found_has id rows)
    ]

pub some_is : {A B : Type 0} (f : A → B) (a : Option A) → is_some (option_map f a) ≡ is_some a
some_is f None = refl
some_is f (Some x) = refl

-- ---- rows that are listed
abbrev Listed : Type 0
Listed = List (Bor JournaledRow)

pub as_many : (listed : Listed) (rows : List JournaledRow) → map (λ (row : Bor JournaledRow). row.now) listed ≡ rows → length rows ≡ length listed
as_many listed rows are = ap length (sym are) ∙ length-map listed (λ (row : Bor JournaledRow). row.now)

pub listed_at : (listed : Listed) (rows : List JournaledRow) (place : ℕ) (row : Bor JournaledRow) → map (λ (r : Bor JournaledRow). r.now) listed ≡ rows → place < length listed
    → row ≡ get_or listed place row → row.now ≡ get_or rows place row.now
listed_at listed rows place row are within is =
    ap (λ (r : Bor JournaledRow). r.now) is ∙ sym (get_or-map (λ (r : Bor JournaledRow). r.now) listed place row row.now within) ∙ ap (λ (all : List JournaledRow). get_or all place row.now) are
