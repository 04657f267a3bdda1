-- What is kept beside the queues agrees with them after one comes or goes.
use Rattle.std.proofs.Common.{◌≡◌, ◌≢◌, ℕ, zero, suc, ◌+◌, ◌<◌, Bool, true, false, not, cond, ◌||◌, ◌==◌, List, [], ◌∷◌, ◌++◌, length, get_or, string_bytes, inl, inr, refl, sym, ap, ◌∙◌, arith}
use Rattle.std.specs.Prelude.{remove, AllPairs}
use Rattle.std.specs.List.{list_any}
use Rattle.std.specs.Str.{bytes_eq}
use Rattle.std.specs.String.{string_eq}
use Rattle.std.proofs.lemmas.Bool.{cases_Bool, cond-true, cond-false, eq-eqb, false_from_ne_true, not_from_false, not_from_true, or_parts, true≢false}
use Rattle.std.proofs.lemmas.List.Folds.{list_any-append, list_any_none}
use Rattle.std.proofs.lemmas.List.Quantifiers.{all_pairs_push}
use Rattle.std.proofs.lemmas.List.Sums.{sum_by-remove}
use Rattle.std.proofs.lemmas.Map.Text.{hash_set_updates_text}
use Rattle.std.proofs.lemmas.Slice.Eq.{bytes_eq-Decides}
use Rattle.indexmap.specs.IndexSet.{UpdatesBy}
use Rattle.pg_fold.specs.declared.rows.QueueRow.{QueueRow}
use Rattle.pg_fold.specs.QueueIndex.{Counts, Names, AreCountsOf, AreNamesOf, counted}
use Rattle.pg_fold.specs.Rows.{has_queue_named, without_queue}
use Rattle.pg_fold.proofs.SoundAddresses.{differ, each_fails}
use Rattle.pg_fold.proofs.SoundQueues.{count_push}

-- the names of the rows differ
abbrev pub AreApart : List QueueRow → Type 0
AreApart rows = AllPairs (λ row other. row.name ≢ other.name) rows

pub apart_push : (rows : List QueueRow) (row : QueueRow) → AreApart rows → has_queue_named rows row.name ≡ false → AreApart (rows ++ row ∷ [])
apart_push rows row apart new =
    all_pairs_push (λ a b. a.name ≢ b.name) rows row apart (λ k d lt. differ (get_or rows k d).name row.name (each_fails (λ r. bytes_eq r.name row.name) rows new k d lt))

-- one name more in the set, and one queue more that has it
pub named_push : (names more : Names) (name : List ℕ) (rows : List QueueRow) (row : QueueRow) → AreNamesOf names rows → name ≡ row.name
    → UpdatesBy string_eq (λ k. bytes_eq name (string_bytes k)) names more true → AreNamesOf more (rows ++ row ∷ [])
named_push names more name rows row named is updates other =
    hash_set_updates_text name names more true updates other
    ∙ ap (λ b. cond (bytes_eq name other) true b) (named other)
    ∙ ap (λ n. cond (bytes_eq n other) true (has_queue_named rows other)) is
    ∙ either (bytes_eq row.name other) (has_queue_named rows other)
    ∙ sym (list_any-append (λ (r : QueueRow). bytes_eq r.name other) rows (row ∷ []))
  where
    either : (here there : Bool) → cond here true there ≡ (there || (here || false))
    either true true = refl
    either true false = refl
    either false true = refl
    either false false = refl

-- where the names differ, the first one's isn't that of another
first_alone : (row : QueueRow) (rows : List QueueRow) → AreApart (row ∷ rows) → has_queue_named rows row.name ≡ false
first_alone row rows apart =
    list_any_none (λ r. bytes_eq r.name row.name) rows (λ k d within. unequal (get_or rows k d) (λ same. apart 0 (suc k) d (omega arith) (omega (arith, within)) (sym same)))
  where
    unequal : (other : QueueRow) → other.name ≢ row.name → bytes_eq other.name row.name ≡ false
    unequal other differs = false_from_ne_true _ (λ e. differs ((bytes_eq-Decides other.name row.name).0 e))

-- so with one queue its name is gone, and no other
pub named_without : (rows : List QueueRow) (place : ℕ) (d : QueueRow) (name : List ℕ) → AreApart rows → place < length rows
    → cond (bytes_eq (get_or rows place d).name name) false (has_queue_named rows name) ≡ has_queue_named (remove rows place) name
named_without [] place d name apart within = absurd (omega (arith, within))
named_without (row ∷ rows) zero d name apart within =
    elim (cases_Bool (bytes_eq row.name name)) [
      | inl here ↦
          cond-true (bytes_eq row.name name) false _ here
          ∙ sym (first_alone row rows apart)
          ∙ ap (has_queue_named rows) ((bytes_eq-Decides row.name name).0 here)
      | inr elsewhere ↦ cond-false (bytes_eq row.name name) false _ elsewhere ∙ ap (λ b. b || has_queue_named rows name) elsewhere
    ]
named_without (row ∷ rows) (suc place) d name apart within =
    either (bytes_eq row.name name) (bytes_eq (get_or rows place d).name name) (has_queue_named rows name) (has_queue_named (remove rows place) name) only (named_without rows place d name (λ i j e lt in_j. apart (suc i) (suc j) e (omega (arith, lt)) (omega (arith, in_j))) (omega (arith, within)))
  where
    -- the first queue and the one at the place don't both have the name
    only : bytes_eq (get_or rows place d).name name ≡ true → bytes_eq row.name name ≡ false
    only at = false_from_ne_true _ (λ first. apart 0 (suc place) d (omega arith) within ((bytes_eq-Decides row.name name).0 first ∙ sym ((bytes_eq-Decides (get_or rows place d).name name).0 at)))

    either : (first at there left : Bool) → (at ≡ true → first ≡ false) → cond at false there ≡ left → cond at false (first || there) ≡ (first || left)
    either true true there left one is = absurd (true≢false (one refl))
    either true false there left one is = refl
    either false true there left one is = is
    either false false there left one is = is

-- a queue with the id that is taken out isn't missed by taking all of them out
pub without_removed : (rows : List QueueRow) (place id : ℕ) → place < length rows → ((d : QueueRow) → (get_or rows place d).id ≡ id) → without_queue id (remove rows place) ≡ without_queue id rows
without_removed [] place id within is = absurd (omega (arith, within))
without_removed (row ∷ rows) zero id within is =
    sym (cond-false (not (row.id == id)) (row ∷ without_queue id rows) (without_queue id rows) (not_from_true (row.id == id) (eq-eqb row.id id (is row))))
without_removed (row ∷ rows) (suc place) id within is =
    ap (λ others. cond (not (row.id == id)) (row ∷ others) others) (without_removed rows place id (omega (arith, within)) is)

-- where no queue has the id, none is taken out
pub without_none : (rows : List QueueRow) (id : ℕ) → list_any (λ row. row.id == id) rows ≡ false → without_queue id rows ≡ rows
without_none [] id none = refl
without_none (row ∷ rows) id none =
    let parts = or_parts (row.id == id) (list_any (λ r. r.id == id) rows) none in
    cond-true (not (row.id == id)) (row ∷ without_queue id rows) (without_queue id rows) (not_from_false (row.id == id) parts.0)
    ∙ ap (λ others. row ∷ others) (without_none rows id parts.1)

-- one name less in the set, and one queue less that has it
pub named_remove : (names fewer : Names) (name : List ℕ) (rows : List QueueRow) (place : ℕ) (row : QueueRow) → AreApart rows → AreNamesOf names rows → place < length rows → row ≡ get_or rows place row → name ≡ row.name
    → UpdatesBy string_eq (λ k. bytes_eq name (string_bytes k)) names fewer false → AreNamesOf fewer (remove rows place)
named_remove names fewer name rows place row apart named within at is updates other =
    hash_set_updates_text name names fewer false updates other
    ∙ ap (λ b. cond (bytes_eq name other) false b) (named other)
    ∙ ap (λ n. cond (bytes_eq n other) false (has_queue_named rows other)) (is ∙ ap (λ r. r.name) at)
    ∙ named_without rows place row other apart within

-- one queue more is counted at its address alone
pub counted_push : (counts more : Counts) (rows : List QueueRow) (row : QueueRow) → AreCountsOf counts rows → ((other : ℕ) → counted more other ≡ counted counts other + cond (row.address == other) 1 0) → AreCountsOf more (rows ++ row ∷ [])
counted_push counts more rows row numbers up other = up other ∙ ap (λ n. n + cond (row.address == other) 1 0) (numbers other) ∙ sym (count_push rows row other)

-- and one queue less
pub counted_remove : (counts fewer : Counts) (rows : List QueueRow) (place : ℕ) (row : QueueRow) → AreCountsOf counts rows → place < length rows → row ≡ get_or rows place row
    → ((other : ℕ) → counted fewer other + cond (row.address == other) 1 0 ≡ counted counts other) → AreCountsOf fewer (remove rows place)
counted_remove counts fewer rows place row numbers within at down other =
    let left = sum_by-remove (λ (r : QueueRow). cond (r.address == other) 1 0) rows place row within in
    let that : ◌≡◌ {A = ℕ} (cond (row.address == other) 1 0) (cond ((get_or rows place row).address == other) 1 0) = ap (λ (r : QueueRow). cond (r.address == other) 1 0) at in
    omega (arith, down other, numbers other, left, that)
