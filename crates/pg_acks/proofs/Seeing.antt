-- Runs and pages as they are kept, and the sets that they are seen as.
use Rattle.std.proofs.Common.{◌≡◌, ◌==◌, ◌&&◌, ◌||◌, ◌≤◌, ℕ, Bool, true, List, [], ◌∷◌, map, inl, inr, refl, sym, ap, ap₂, subst, ◌∙◌, arith}
use Rattle.std.proofs.lemmas.Grind.{common_steps}
use Rattle.std.proofs.lemmas.Bool.{and_parts, cases_Bool, or_cases, or_left, or_right}
use Rattle.std.proofs.lemmas.Bool.Decides.{nat_tests, same_from_decides}
use Rattle.std.proofs.lemmas.List.Elements.{All-head, All-tail}
use Rattle.std.proofs.lemmas.Map.Views.{All-found}
use Rattle.std.specs.Prelude.{◌↔◌, IsTrue, All, Option, Some, None, IsSome}
use Rattle.std.specs.FinSet as set
use Rattle.std.specs.List.{list_any}
use Rattle.std.specs.List.Sorted.{IsStrictlySortedBy}
use Rattle.std.specs.Map.{keys_of, lookup}
use Rattle.std.specs.BTreeMap.{BTreeMap, IsOrdered, get, is_at}
use Rattle.std.specs.BTreeSet.{BTreeSet}
use Rattle.pg_acks.specs.declared.position.Position.{Position}
use Rattle.pg_acks.specs.Acked.{is_single, is_whole, no_acks, row_has}
use Rattle.pg_acks.specs.Kept.{RunsAreKept, positions_of, row_of, seen}
use Rattle.pg_acks.specs.Keys.{At, Key, at_cmp, key_cmp, same_at}
use Rattle.pg_acks.specs.Runs.{AreRuns, Covers, starts}
use Rattle.pg_acks.proofs.Keys.{at_total, finds_at, finds_key, key_total, same_ats}
use Rattle.pg_acks.proofs.Sets.{has_between, in_between, same_tests, sets_of}

pub nothing_seen : (runs : BTreeMap Key ℕ) (pages : BTreeSet At) → runs.entries ≡ [] → pages.keys ≡ [] → seen runs pages ≡ no_acks
nothing_seen runs pages no_runs no_pages = ap₂ sets_of (ap positions_of no_runs) (ap set.from_list no_pages)

-- ---- a position is among those of the runs where a run covers its index
covers_from : (runs : BTreeMap Key ℕ) (key : Key) (es : List (Key × ℕ)) → All (λ e. get key_cmp runs e.0 ≡ Some e.1) es → set.contains (positions_of es) key ≡ true → Covers (starts runs key.0) key.1
covers_from runs key [] found has = absurd (grind (arith, common_steps, has, set.contains-empty key_cmp key))
covers_from runs key (e ∷ es) found has =
    elim (in_between e.0.0 e.0.1 e.1 (positions_of es) key has) [
      | inl here ↦
          let is : get key_cmp runs e.0 ≡ Some e.1 = All-head (λ x. get key_cmp runs x.0 ≡ Some x.1) e es found in
          record {
            first = e.0.1;
            last = e.1;
            is = subst (λ (a : At). get key_cmp runs (a, e.0.1) ≡ Some e.1) (sym here.at_key) is;
            from = here.low;
            to = here.high;
          }
      | inr others ↦ covers_from runs key es (All-tail (λ x. get key_cmp runs x.0 ≡ Some x.1) e es found) others
    ]

covers_to : (key : Key) (first last : ℕ) (es : List (Key × ℕ)) → lookup (is_at (key_cmp (key.0, first))) es ≡ Some last → first ≤ key.1 → key.1 ≤ last → set.contains (positions_of es) key ≡ true
covers_to key first last [] is low high = absurd (grind (arith, common_steps, is))
covers_to key first last (e ∷ es) is low high =
    elim (cases_Bool (is_at (key_cmp (key.0, first)) e.0)) [
      | inl here ↦
          let end : e.1 ≡ last = grind (arith, common_steps, here, is) in
          let parts = and_parts (same_at key.0 e.0.0) (e.0.1 == first) (sym (finds_key (key.0, first) e.0) ∙ here) in
          let begin : e.0.1 ≡ first = grind (arith, common_steps, nat_tests, parts.1) in
          has_between e.0.0 e.0.1 e.1 (positions_of es) key
          (inl (record { at_key = same_ats key.0 e.0.0 parts.0; low = omega (arith, begin, low); high = omega (arith, end, high) }))
      | inr other ↦ has_between e.0.0 e.0.1 e.1 (positions_of es) key (inr (covers_to key first last es (grind (arith, common_steps, other, is)) low high))
    ]

pub position_covers : (runs : BTreeMap Key ℕ) (key : Key) → IsOrdered key_cmp runs → set.contains (positions_of runs.entries) key ≡ true → Covers (starts runs key.0) key.1
position_covers runs key ordered has = covers_from runs key runs.entries (All-found key_total runs ordered) has

pub covers_position : (runs : BTreeMap Key ℕ) (key : Key) → Covers (starts runs key.0) key.1 → set.contains (positions_of runs.entries) key ≡ true
covers_position runs key covers = covers_to key covers.first covers.last runs.entries covers.is covers.from covers.to

-- a run that has the index, or none, tells whether the position is single
pub single_is : (runs : BTreeMap Key ℕ) (pages : BTreeSet At) (queue : ℕ) (position : Position) (has : Bool) → IsOrdered key_cmp runs
    → (IsTrue has ↔ Covers (starts runs (queue, position.page)) position.index) → has ≡ is_single (seen runs pages) queue position
single_is runs pages queue position has ordered tells =
    same_from_decides has (is_single (seen runs pages) queue position) tells
    (λ single. position_covers runs ((queue, position.page), position.index) ordered single, λ covers. covers_position runs ((queue, position.page), position.index) covers)

-- ---- the rows that the runs are told as
row_of_position : (queue : ℕ) (position : Position) (es : List (Key × ℕ)) → set.contains (positions_of es) ((queue, position.page), position.index) ≡ true → list_any (row_has queue position) (map row_of es) ≡ true
row_of_position queue position [] has = absurd (grind (arith, common_steps, has, set.contains-empty key_cmp ((queue, position.page), position.index)))
row_of_position queue position (e ∷ es) has =
    elim (in_between e.0.0 e.0.1 e.1 (positions_of es) ((queue, position.page), position.index) has) [
      | inl here ↦
          let same_queue : e.0.0.0 ≡ queue = ap (λ (a : At). a.0) (sym here.at_key) in
          let same_page : e.0.0.1 ≡ position.page = ap (λ (a : At). a.1) (sym here.at_key) in
          let low : e.0.1 ≤ position.index = here.low in
          let high : position.index ≤ e.1 = here.high in
          or_left (row_has queue position (row_of e)) (list_any (row_has queue position) (map row_of es)) (grind (arith, common_steps, nat_tests, same_queue, same_page, low, high))
      | inr others ↦ or_right (row_has queue position (row_of e)) (list_any (row_has queue position) (map row_of es)) (row_of_position queue position es others)
    ]

position_of_row : (queue : ℕ) (position : Position) (es : List (Key × ℕ)) → list_any (row_has queue position) (map row_of es) ≡ true → set.contains (positions_of es) ((queue, position.page), position.index) ≡ true
position_of_row queue position [] has = absurd (grind (arith, common_steps, has))
position_of_row queue position (e ∷ es) has =
    elim (or_cases (row_has queue position (row_of e)) (list_any (row_has queue position) (map row_of es)) has) [
      | inl here ↦
          let at : (queue, position.page) ≡ e.0.0 = grind (arith, common_steps, nat_tests, here) in
          let low : e.0.1 ≤ position.index = grind (arith, common_steps, nat_tests, here) in
          let high : position.index ≤ e.1 = grind (arith, common_steps, nat_tests, here) in
          has_between e.0.0 e.0.1 e.1 (positions_of es) ((queue, position.page), position.index) (inl (record { at_key = at; low = low; high = high }))
      | inr others ↦ has_between e.0.0 e.0.1 e.1 (positions_of es) ((queue, position.page), position.index) (inr (position_of_row queue position es others))
    ]

pub rows_seen : (runs : BTreeMap Key ℕ) (pages : BTreeSet At) (queue : ℕ) (position : Position) → list_any (row_has queue position) (map row_of runs.entries) ≡ is_single (seen runs pages) queue position
rows_seen runs pages queue position =
    same_tests (list_any (row_has queue position) (map row_of runs.entries)) (is_single (seen runs pages) queue position)
    (position_of_row queue position runs.entries) (row_of_position queue position runs.entries)

-- ---- whole pages
pub whole_seen : (runs : BTreeMap Key ℕ) (pages : BTreeSet At) (queue page : ℕ) → list_any (is_at (at_cmp (queue, page))) pages.keys ≡ is_whole (seen runs pages) queue page
whole_seen runs pages queue page = sym (set.contains-from_list at_total pages.keys (queue, page))

page_seen : (queue page : ℕ) (pages : List At) → list_any (is_at (at_cmp (queue, page))) pages ≡ list_any (λ other. (other.0 == queue) && (other.1 == page)) pages
page_seen queue page [] = refl
page_seen queue page (other ∷ pages) = ap₂ (λ (a b : Bool). a || b) (finds_at (queue, page) other) (page_seen queue page pages)

pub pages_seen : (runs : BTreeMap Key ℕ) (pages : BTreeSet At) (queue page : ℕ) → list_any (λ other. (other.0 == queue) && (other.1 == page)) pages.keys ≡ is_whole (seen runs pages) queue page
pages_seen runs pages queue page = sym (page_seen queue page pages.keys) ∙ whole_seen runs pages queue page

-- ---- the same runs
pub runs_again : (run again : ℕ → Option ℕ) → ((k : ℕ) → again k ≡ run k) → AreRuns run → AreRuns again
runs_again run again same runs =
    record {
      full = λ first last is. runs.full first last (sym (same first) ∙ is);
      within = λ first last is. runs.within first last (sym (same first) ∙ is);
      apart = λ first last next is some lt. runs.apart first last next (sym (same first) ∙ is) (subst IsSome (same next) some) lt;
    }

pub covers_again : (run again : ℕ → Option ℕ) (index : ℕ) → ((k : ℕ) → again k ≡ run k) → Covers run index → Covers again index
covers_again run again index same covers =
    record {
      first = covers.first;
      last = covers.last;
      is = same covers.first ∙ covers.is;
      from = covers.from;
      to = covers.to;
    }

pub kept_same : (runs again : BTreeMap Key ℕ) → again.entries ≡ runs.entries → RunsAreKept runs → RunsAreKept again
kept_same runs again same kept =
    record {
      ordered = subst (λ (es : List (Key × ℕ)). IsStrictlySortedBy key_cmp (keys_of es)) (sym same) kept.ordered;
      each = λ at. runs_again (starts runs at) (starts again at) (λ k. ap (lookup (is_at (key_cmp (at, k)))) same) (kept.each at);
    }

-- no runs, where none begins
pub no_runs : (run : ℕ → Option ℕ) → ((k : ℕ) → run k ≡ None) → AreRuns run
no_runs run none =
    record {
      full = λ first last is. absurd (grind (arith, common_steps, none first, is));
      within = λ first last is. absurd (grind (arith, common_steps, none first, is));
      apart = λ first last next is some lt. absurd (grind (arith, common_steps, none first, is));
    }
