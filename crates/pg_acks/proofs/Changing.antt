-- What each change makes of what is kept, and of the sets that it is seen as.
use Rattle.std.proofs.Common.{◌≡◌, ◌==◌, ◌&&◌, ◌||◌, ◌<◌, ◌≤◌, ◌⊎◌, ◌^◌, ℕ, Bool, true, false, not, if◌then◌else◌, List, [], ◌∷◌, inl, inr, refl, sym, ap, subst, ◌∙◌, arith}
use Rattle.std.proofs.lemmas.Grind.{common_steps}
use Rattle.std.proofs.lemmas.Bool.{and_from, and_parts, both_ways, cases_Bool, cond_both, false_from_ne_true, or_cases, or_left, or_right}
use Rattle.std.proofs.lemmas.Bool.Decides.{nat_tests}
use Rattle.std.proofs.lemmas.Map.Entries.{lookup-filter-keys}
use Rattle.std.specs.Prelude.{filter, None}
use Rattle.std.specs.FinSet as set
use Rattle.std.specs.List.{list_any}
use Rattle.std.specs.Map.{lookup}
use Rattle.std.specs.Ordering.{eq_by_cmp}
use Rattle.std.specs.BTreeMap.{BTreeMap, IsOrdered, is_at}
use Rattle.std.specs.BTreeSet.{BTreeSet, Updates}
use Rattle.pg_acks.specs.declared.position.Position.{Position}
use Rattle.pg_acks.specs.Acked.{AckSets, any_acknowledged, indexes_between, is_acknowledged, is_single, is_whole, position_at, with_indexes, with_position, with_run}
use Rattle.pg_acks.specs.Kept.{RunsAreKept, any_single, positions_of, seen}
use Rattle.pg_acks.specs.Keys.{At, Key, at_cmp, key_cmp, same_at}
use Rattle.pg_acks.specs.Runs.{AreRuns, BeginsAt, Covers, CoversAny, EndsAt, joined, starts}
use Rattle.pg_acks.proofs.Joining.{Facts, covers_more, covers_still, joined_runs}
use Rattle.pg_acks.proofs.Keys.{at_total, finds_at, key_total, same_ats}
use Rattle.pg_acks.proofs.Seeing.{covers_again, covers_position, no_runs, position_covers, runs_again}
use Rattle.pg_acks.proofs.Sets.{IsBetween, any_between, at_same, at_tied, between_of_any, has_between, in_between, insert_there, key_same, key_tied, none_between, one_between, same_tests, sets_of}
use Rattle.pg_acks.proofs.Writing.{itself}

-- ---- some position of a run
-- none of which is single, so no run has any
pub free_between : (runs : BTreeMap Key ℕ) (pages : BTreeSet At) (queue page from to : ℕ) → any_single (seen runs pages) queue page from to ≡ false → CoversAny (starts runs (queue, page)) from to → ⊥
free_between runs pages queue page from to none any =
    both_ways (any_single (seen runs pages) queue page from to) none
    (any_between (λ index. is_single (seen runs pages) queue (position_at page index)) from to any.index any.low any.high (covers_position runs ((queue, page), any.index) any.covers))

-- a run that has one tells that one is acknowledged
pub any_covered : (runs : BTreeMap Key ℕ) (pages : BTreeSet At) (queue page from to : ℕ) → CoversAny (starts runs (queue, page)) from to → any_acknowledged (seen runs pages) queue page from to ≡ true
any_covered runs pages queue page from to any =
    any_between (λ index. is_acknowledged (seen runs pages) queue (position_at page index)) from to any.index any.low any.high
    (or_left (is_single (seen runs pages) queue (position_at page any.index)) (is_whole (seen runs pages) queue page) (covers_position runs ((queue, page), any.index) any.covers))

-- and where none has, the whole page tells
pub any_whole : (runs : BTreeMap Key ℕ) (pages : BTreeSet At) (queue page from to : ℕ) → IsOrdered key_cmp runs → from ≤ to → (CoversAny (starts runs (queue, page)) from to → ⊥)
    → is_whole (seen runs pages) queue page ≡ any_acknowledged (seen runs pages) queue page from to
any_whole runs pages queue page from to ordered order free =
    same_tests (is_whole (seen runs pages) queue page) (any_acknowledged (seen runs pages) queue page from to) there back
  where
    there : is_whole (seen runs pages) queue page ≡ true → any_acknowledged (seen runs pages) queue page from to ≡ true
    there whole =
        any_between (λ index. is_acknowledged (seen runs pages) queue (position_at page index)) from to from (omega arith) order
        (or_right (is_single (seen runs pages) queue (position_at page from)) (is_whole (seen runs pages) queue page) whole)

    back : any_acknowledged (seen runs pages) queue page from to ≡ true → is_whole (seen runs pages) queue page ≡ true
    back any =
        let found = between_of_any (λ index. is_acknowledged (seen runs pages) queue (position_at page index)) from to any in
        elim (or_cases (is_single (seen runs pages) queue (position_at page found.0)) (is_whole (seen runs pages) queue page) found.3) [
          | inl single ↦ absurd (free (record { index = found.0; low = found.1; high = found.2; covers = position_covers runs ((queue, page), found.0) ordered single }))
          | inr whole ↦ whole
        ]

-- where no position of a run is acknowledged, none is a single one
pub none_single : (acks : AckSets) (queue page from to : ℕ) → any_acknowledged acks queue page from to ≡ false → any_single acks queue page from to ≡ false
none_single acks queue page from to none = false_from_ne_true (any_single acks queue page from to) (λ any. both_ways (any_acknowledged acks queue page from to) none (some any))
  where
    some : any_single acks queue page from to ≡ true → any_acknowledged acks queue page from to ≡ true
    some any =
        let found = between_of_any (λ index. is_single acks queue (position_at page index)) from to any in
        any_between (λ index. is_acknowledged acks queue (position_at page index)) from to found.0 found.1 found.2 (or_left (is_single acks queue (position_at page found.0)) (is_whole acks queue page) found.3)

-- ---- a run more
pub run_facts : (runs : BTreeMap Key ℕ) (pages : BTreeSet At) (queue page from to first last : ℕ) → RunsAreKept runs → from ≤ to → any_single (seen runs pages) queue page from to ≡ false
    → BeginsAt (starts runs (queue, page)) from first → EndsAt (starts runs (queue, page)) to last → last < 2 ^ 32 → Facts (starts runs (queue, page)) from to first last
run_facts runs pages queue page from to first last kept order none begins ends fits =
    record {
      runs = kept.each (queue, page);
      order = order;
      free = free_between runs pages queue page from to none;
      begins = begins;
      ends = ends;
      fits = fits;
    }

pub kept_added : (runs new : BTreeMap Key ℕ) (at : At) (from to first last : ℕ) → RunsAreKept runs → Facts (starts runs at) from to first last → IsOrdered key_cmp new
    → ((other : At) (k : ℕ) → starts new other k ≡ (if same_at at other then joined (starts runs at) first to last k else starts runs other k)) → RunsAreKept new
kept_added runs new at from to first last kept facts ordered told =
    record {
      ordered = ordered;
      each = λ other. by other (cases_Bool (same_at at other));
    }
  where
    by : (other : At) → (same_at at other ≡ true) ⊎ (same_at at other ≡ false) → AreRuns (starts new other)
    by other (inl here) =
        runs_again (joined (starts runs at) first to last) (starts new other)
        (λ k. told other k ∙ ap (λ (b : Bool). if b then joined (starts runs at) first to last k else starts runs other k) here)
        (joined_runs (starts runs at) from to first last facts)
    by other (inr elsewhere) =
        runs_again (starts runs other) (starts new other)
        (λ k. told other k ∙ ap (λ (b : Bool). if b then joined (starts runs at) first to last k else starts runs other k) elsewhere) (kept.each other)

pub positions_added : (runs new : BTreeMap Key ℕ) (at : At) (from to first last : ℕ) → RunsAreKept runs → Facts (starts runs at) from to first last → IsOrdered key_cmp new
    → ((other : At) (k : ℕ) → starts new other k ≡ (if same_at at other then joined (starts runs at) first to last k else starts runs other k))
    → positions_of new.entries ≡ with_indexes at (indexes_between from to) (positions_of runs.entries)
positions_added runs new at from to first last kept facts ordered told =
    set.same_set key_total key_same (positions_of new.entries) (with_indexes at (indexes_between from to) (positions_of runs.entries))
    (λ key. same_tests (set.contains (positions_of new.entries) key) (set.contains (with_indexes at (indexes_between from to) (positions_of runs.entries)) key)
    (λ has. has_between at from to (positions_of runs.entries) key (more key (position_covers new key ordered has) (cases_Bool (same_at at key.0))))
    (λ has. covers_position new key (still key (in_between at from to (positions_of runs.entries) key has) (cases_Bool (same_at at key.0)))))
  where
    joins : (other : At) → same_at at other ≡ true → (k : ℕ) → starts new other k ≡ joined (starts runs at) first to last k
    joins other here k = told other k ∙ ap (λ (b : Bool). if b then joined (starts runs at) first to last k else starts runs other k) here

    stays : (other : At) → same_at at other ≡ false → (k : ℕ) → starts new other k ≡ starts runs other k
    stays other elsewhere k = told other k ∙ ap (λ (b : Bool). if b then joined (starts runs at) first to last k else starts runs other k) elsewhere

    more : (key : Key) → Covers (starts new key.0) key.1 → (same_at at key.0 ≡ true) ⊎ (same_at at key.0 ≡ false) → IsBetween at from to key ⊎ (set.contains (positions_of runs.entries) key ≡ true)
    more key covers (inr elsewhere) = inr (covers_position runs key (covers_again (starts new key.0) (starts runs key.0) key.1 (λ k. sym (stays key.0 elsewhere k)) covers))
    more key covers (inl here) =
        elim (covers_more (starts runs at) from to first last facts key.1 (covers_again (starts new key.0) (joined (starts runs at) first to last) key.1 (λ k. sym (joins key.0 here k)) covers)) [
          | inl within ↦ inl (record { at_key = sym (same_ats at key.0 here); low = within.0; high = within.1 })
          | inr old ↦ inr (covers_position runs key (subst (λ (a : At). Covers (starts runs a) key.1) (same_ats at key.0 here) old))
        ]

    still : (key : Key) → IsBetween at from to key ⊎ (set.contains (positions_of runs.entries) key ≡ true) → (same_at at key.0 ≡ true) ⊎ (same_at at key.0 ≡ false) → Covers (starts new key.0) key.1
    still key (inl between) (inr elsewhere) =
        absurd (both_ways (same_at at key.0) elsewhere (subst (λ (a : At). same_at at a ≡ true) (sym between.at_key) (itself at)))
    still key (inl between) (inl here) =
        covers_again (joined (starts runs at) first to last) (starts new key.0) key.1 (joins key.0 here) (covers_still (starts runs at) from to first last facts key.1 (inl (between.low, between.high)))
    still key (inr old) (inl here) =
        let covers = subst (λ (a : At). Covers (starts runs a) key.1) (sym (same_ats at key.0 here)) (position_covers runs key kept.ordered old) in
        covers_again (joined (starts runs at) first to last) (starts new key.0) key.1 (joins key.0 here) (covers_still (starts runs at) from to first last facts key.1 (inr covers))
    still key (inr old) (inr elsewhere) = covers_again (starts runs key.0) (starts new key.0) key.1 (stays key.0 elsewhere) (position_covers runs key kept.ordered old)

-- ---- a page more
pub kept_taken : (runs new : BTreeMap Key ℕ) (at : At) → RunsAreKept runs → IsOrdered key_cmp new
    → ((other : At) (k : ℕ) → starts new other k ≡ (if same_at at other then None else starts runs other k)) → RunsAreKept new
kept_taken runs new at kept ordered told =
    record {
      ordered = ordered;
      each = λ other. by other (cases_Bool (same_at at other));
    }
  where
    by : (other : At) → (same_at at other ≡ true) ⊎ (same_at at other ≡ false) → AreRuns (starts new other)
    by other (inr elsewhere) =
        runs_again (starts runs other) (starts new other) (λ k. told other k ∙ ap (λ (b : Bool). if b then None else starts runs other k) elsewhere) (kept.each other)
    by other (inl here) = no_runs (starts new other) (λ k. told other k ∙ ap (λ (b : Bool). if b then None else starts runs other k) here)

pub positions_taken : (runs new : BTreeMap Key ℕ) (at : At) → RunsAreKept runs → IsOrdered key_cmp new
    → ((other : At) (k : ℕ) → starts new other k ≡ (if same_at at other then None else starts runs other k))
    → positions_of new.entries ≡ set.retain (positions_of runs.entries) (λ key. not (same_at at key.0))
positions_taken runs new at kept ordered told =
    set.same_set key_total key_same (positions_of new.entries) (set.retain (positions_of runs.entries) (λ key. not (same_at at key.0)))
    (λ key. same_tests (set.contains (positions_of new.entries) key) (set.contains (positions_of runs.entries) key && not (same_at at key.0))
    (λ has. there key (position_covers new key ordered has) (cases_Bool (same_at at key.0)))
    (λ has. back key (and_parts (set.contains (positions_of runs.entries) key) (not (same_at at key.0)) has) (cases_Bool (same_at at key.0)))
    ∙ sym (set.contains-retain (positions_of runs.entries) (λ (k : Key). not (same_at at k.0)) key (λ x tied. ap (λ (k : Key). not (same_at at k.0)) (sym (key_same key x tied)))))
  where
    there : (key : Key) → Covers (starts new key.0) key.1 → (same_at at key.0 ≡ true) ⊎ (same_at at key.0 ≡ false) → (set.contains (positions_of runs.entries) key && not (same_at at key.0)) ≡ true
    there key covers (inl here) =
        let none : starts new key.0 covers.first ≡ None = told key.0 covers.first ∙ ap (λ (b : Bool). if b then None else starts runs key.0 covers.first) here in
        absurd (grind (arith, common_steps, none, covers.is))
    there key covers (inr elsewhere) =
        and_from (set.contains (positions_of runs.entries) key) (not (same_at at key.0))
        (covers_position runs key (covers_again (starts new key.0) (starts runs key.0) key.1 (λ k. sym (told key.0 k ∙ ap (λ (b : Bool). if b then None else starts runs key.0 k) elsewhere)) covers))
        (ap not elsewhere)

    back : (key : Key) → (set.contains (positions_of runs.entries) key ≡ true) × (not (same_at at key.0) ≡ true) → (same_at at key.0 ≡ true) ⊎ (same_at at key.0 ≡ false) → set.contains (positions_of new.entries) key ≡ true
    back key has (inl here) = absurd (both_ways (not (same_at at key.0)) (ap not here) has.1)
    back key has (inr elsewhere) =
        covers_position new key
        (covers_again (starts runs key.0) (starts new key.0) key.1 (λ k. told key.0 k ∙ ap (λ (b : Bool). if b then None else starts runs key.0 k) elsewhere) (position_covers runs key kept.ordered has.0))

at_tie : (a b : At) → is_at (at_cmp a) b ≡ eq_by_cmp at_cmp b a
at_tie a b =
    finds_at a b ∙ turned ∙ sym (finds_at b a)
  where
    turned : same_at a b ≡ same_at b a
    turned = same_tests (same_at a b) (same_at b a) (λ is. grind (arith, common_steps, nat_tests, is)) (λ is. grind (arith, common_steps, nat_tests, is))

pub wholes_added : (pages more : BTreeSet At) (at : At) → Updates at_cmp pages more at true → set.from_list {R = at_cmp} more.keys ≡ set.insert (set.from_list pages.keys) at
wholes_added pages more at updates =
    set.same_set at_total at_same (set.from_list more.keys) (set.insert (set.from_list pages.keys) at)
    (λ q. set.contains-from_list at_total more.keys q ∙ updates.0 q
    ∙ ap (λ (b : Bool). if b then true else list_any (is_at (at_cmp q)) pages.keys) (at_tie at q)
    ∙ either (eq_by_cmp at_cmp q at) (list_any (is_at (at_cmp q)) pages.keys)
    ∙ ap (λ (b : Bool). eq_by_cmp at_cmp q at || b) (sym (set.contains-from_list at_total pages.keys q))
    ∙ sym (set.contains-insert at_total (set.from_list pages.keys) at q))
  where
    either : (a b : Bool) → (if a then true else b) ≡ (a || b)
    either true b = refl
    either false b = refl

-- ---- a queue less
abbrev Stays : ℕ → Key × ℕ → Bool
Stays queue run = not (run.0.0.0 == queue)

pub kept_dropped : (runs new : BTreeMap Key ℕ) (queue : ℕ) → RunsAreKept runs → IsOrdered key_cmp new → new.entries ≡ filter (λ run. not (run.0.0.0 == queue)) runs.entries → RunsAreKept new
kept_dropped runs new queue kept ordered left =
    record {
      ordered = ordered;
      each = λ at. by at (cases_Bool (not (at.0 == queue)));
    }
  where
    found : (at : At) (k : ℕ) → starts new at k ≡ (if not (at.0 == queue) then starts runs at k else None)
    found at k =
        ap (lookup (is_at (key_cmp (at, k)))) left
        ∙ lookup-filter-keys (is_at (key_cmp (at, k))) (λ (key : Key). not (key.0.0 == queue)) (not (at.0 == queue)) (λ key tied. ap (λ (x : Key). not (x.0.0 == queue)) (sym (key_tied (at, k) key tied))) runs.entries

    by : (at : At) → (not (at.0 == queue) ≡ true) ⊎ (not (at.0 == queue) ≡ false) → AreRuns (starts new at)
    by at (inl stays) = runs_again (starts runs at) (starts new at) (λ k. found at k ∙ ap (λ (b : Bool). if b then starts runs at k else None) stays) (kept.each at)
    by at (inr gone) = no_runs (starts new at) (λ k. found at k ∙ ap (λ (b : Bool). if b then starts runs at k else None) gone)

stays_from : (queue : ℕ) (key : Key) (runs : List (Key × ℕ)) → set.contains (positions_of (filter (Stays queue) runs)) key ≡ true
    → (set.contains (positions_of runs) key ≡ true) × (not (key.0.0 == queue) ≡ true)
stays_from queue key [] = λ has. absurd (both_ways (set.contains (positions_of []) key) (set.contains-empty key_cmp key) has)
stays_from queue key (run ∷ runs) =
    cond_both (Stays queue run) (run ∷ filter (Stays queue) runs) (filter (Stays queue) runs)
    (λ left. set.contains (positions_of left) key ≡ true → (set.contains (positions_of (run ∷ runs)) key ≡ true) × (not (key.0.0 == queue) ≡ true))
    (λ stays has. elim (in_between run.0.0 run.0.1 run.1 (positions_of (filter (Stays queue) runs)) key has) [
      | inl here ↦ (
        has_between run.0.0 run.0.1 run.1 (positions_of runs) key (inl here),
        subst (λ (at : At). not (at.0 == queue) ≡ true) (sym here.at_key) stays,
      )
      | inr others ↦ behind (stays_from queue key runs others)
    ])
    (λ gone has. behind (stays_from queue key runs has))
  where
    behind : (set.contains (positions_of runs) key ≡ true) × (not (key.0.0 == queue) ≡ true) → (set.contains (positions_of (run ∷ runs)) key ≡ true) × (not (key.0.0 == queue) ≡ true)
    behind both = (has_between run.0.0 run.0.1 run.1 (positions_of runs) key (inr both.0), both.1)

stays_to : (queue : ℕ) (key : Key) (runs : List (Key × ℕ)) → not (key.0.0 == queue) ≡ true → set.contains (positions_of runs) key ≡ true → set.contains (positions_of (filter (Stays queue) runs)) key ≡ true
stays_to queue key [] other has = has
stays_to queue key (run ∷ runs) other has =
    cond_both (Stays queue run) (run ∷ filter (Stays queue) runs) (filter (Stays queue) runs) (λ left. set.contains (positions_of left) key ≡ true)
    (λ stays. has_between run.0.0 run.0.1 run.1 (positions_of (filter (Stays queue) runs)) key (kept (stays_to queue key runs other) was))
    (λ gone. left (stays_to queue key runs other) gone was)
  where
    was : IsBetween run.0.0 run.0.1 run.1 key ⊎ (set.contains (positions_of runs) key ≡ true)
    was = in_between run.0.0 run.0.1 run.1 (positions_of runs) key has

    kept : (set.contains (positions_of runs) key ≡ true → set.contains (positions_of (filter (Stays queue) runs)) key ≡ true) → IsBetween run.0.0 run.0.1 run.1 key ⊎ (set.contains (positions_of runs) key ≡ true)
        → IsBetween run.0.0 run.0.1 run.1 key ⊎ (set.contains (positions_of (filter (Stays queue) runs)) key ≡ true)
    kept rest (inl here) = inl here
    kept rest (inr others) = inr (rest others)

    left : (set.contains (positions_of runs) key ≡ true → set.contains (positions_of (filter (Stays queue) runs)) key ≡ true) → Stays queue run ≡ false
        → IsBetween run.0.0 run.0.1 run.1 key ⊎ (set.contains (positions_of runs) key ≡ true) → set.contains (positions_of (filter (Stays queue) runs)) key ≡ true
    left rest gone (inl here) = absurd (both_ways (Stays queue run) gone (subst (λ (at : At). not (at.0 == queue) ≡ true) here.at_key other))
    left rest gone (inr others) = rest others

pub positions_dropped : (queue : ℕ) (runs : List (Key × ℕ)) → positions_of (filter (λ run. not (run.0.0.0 == queue)) runs) ≡ set.retain (positions_of runs) (λ key. not (key.0.0 == queue))
positions_dropped queue runs =
    set.same_set key_total key_same (positions_of (filter (Stays queue) runs)) (set.retain (positions_of runs) (λ key. not (key.0.0 == queue)))
    (λ key. same_tests (set.contains (positions_of (filter (Stays queue) runs)) key) (set.contains (positions_of runs) key && not (key.0.0 == queue))
    (λ has. let both = stays_from queue key runs has in and_from (set.contains (positions_of runs) key) (not (key.0.0 == queue)) both.0 both.1)
    (λ has. let both = and_parts (set.contains (positions_of runs) key) (not (key.0.0 == queue)) has in stays_to queue key runs both.1 both.0)
    ∙ sym (set.contains-retain (positions_of runs) (λ (k : Key). not (k.0.0 == queue)) key (λ x tied. ap (λ (k : Key). not (k.0.0 == queue)) (sym (key_same key x tied)))))

one_stays : (tied among others passes : Bool) → (tied ≡ true → passes ≡ true) → others ≡ (among && passes) → (tied || others) ≡ ((tied || among) && passes)
one_stays true among others passes same is = sym (same refl)
one_stays false among others passes same is = is

one_goes : (tied among others passes : Bool) → (tied ≡ true → passes ≡ false) → others ≡ (among && passes) → others ≡ ((tied || among) && passes)
one_goes true true others passes same is = is
one_goes true false others passes same is = is ∙ sym (same refl)
one_goes false among others passes same is = is

-- what passes is among what is left, where it was among all
among_left : (p : At → Bool) (q : At) (ats : List At) → list_any (eq_by_cmp at_cmp q) (filter p ats) ≡ (list_any (eq_by_cmp at_cmp q) ats && p q)
among_left p q [] = refl
among_left p q (at ∷ ats) =
    cond_both (p at) (at ∷ filter p ats) (filter p ats) (λ left. list_any (eq_by_cmp at_cmp q) left ≡ ((eq_by_cmp at_cmp q at || list_any (eq_by_cmp at_cmp q) ats) && p q))
    (λ stays. one_stays (eq_by_cmp at_cmp q at) (list_any (eq_by_cmp at_cmp q) ats) (list_any (eq_by_cmp at_cmp q) (filter p ats)) (p q) (λ tied. ap p (at_tied q at tied) ∙ stays) (among_left p q ats))
    (λ gone. one_goes (eq_by_cmp at_cmp q at) (list_any (eq_by_cmp at_cmp q) ats) (list_any (eq_by_cmp at_cmp q) (filter p ats)) (p q) (λ tied. ap p (at_tied q at tied) ∙ gone) (among_left p q ats))

pub wholes_dropped : (queue : ℕ) (ats : List At) → set.from_list {R = at_cmp} (filter (λ at. not (at.0 == queue)) ats) ≡ set.retain (set.from_list ats) (λ at. not (at.0 == queue))
wholes_dropped queue ats =
    set.same_set at_total at_same (set.from_list (filter (λ at. not (at.0 == queue)) ats)) (set.retain (set.from_list ats) (λ at. not (at.0 == queue)))
    (λ q. set.contains-from_list at_total (filter (λ (at : At). not (at.0 == queue)) ats) q ∙ among_left (λ at. not (at.0 == queue)) q ats
    ∙ ap (λ (b : Bool). b && not (q.0 == queue)) (sym (set.contains-from_list at_total ats q))
    ∙ sym (set.contains-retain (set.from_list ats) (λ (at : At). not (at.0 == queue)) q (λ x tied. ap (λ (at : At). not (at.0 == queue)) (sym (at_same q x tied)))))

-- ---- one position
pub alone_single : (acks : AckSets) (queue : ℕ) (position : Position) → is_single acks queue position ≡ false → any_single acks queue position.page position.index position.index ≡ false
alone_single acks queue position none =
    ap (list_any (λ index. is_single acks queue (position_at position.page index))) (one_between position.index) ∙ ap (λ (b : Bool). b || false) none

pub one_run : (acks : AckSets) (queue : ℕ) (position : Position) → with_run queue position.page position.index position.index acks ≡ with_position queue position acks
one_run acks queue position = ap (λ (singles : set.FinSet key_cmp). sets_of singles acks.wholes) (ap (λ (some : List ℕ). with_indexes (queue, position.page) some acks.singles) (one_between position.index))

-- one that is there already
pub already : (acks : AckSets) (queue : ℕ) (position : Position) → is_single acks queue position ≡ true → acks ≡ with_position queue position acks
already acks queue position there =
    ap (λ (singles : set.FinSet key_cmp). sets_of singles acks.wholes) (sym (insert_there acks.singles ((queue, position.page), position.index) there))

-- no position where the last index is below the first
pub none_acknowledged : (acks : AckSets) (queue page from to : ℕ) → to < from → any_acknowledged acks queue page from to ≡ false
none_acknowledged acks queue page from to lt = ap (list_any (λ index. is_acknowledged acks queue (position_at page index))) (none_between from to lt)

pub no_run : (acks : AckSets) (queue page from to : ℕ) → to < from → acks ≡ with_run queue page from to acks
no_run acks queue page from to lt =
    ap (λ (some : List ℕ). sets_of (with_indexes (queue, page) some acks.singles) acks.wholes) (sym (none_between from to lt))
