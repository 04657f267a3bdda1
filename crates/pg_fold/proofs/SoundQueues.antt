-- Queues that come and go, among those that are sound.
use Rattle.std.proofs.Common.{◌≡◌, ◌≢◌, ℕ, ◌+◌, ◌<◌, ◌≤◌, Bool, true, false, not, cond, ◌==◌, List, [], ◌∷◌, ◌++◌, length, get_or, count_by, sym, ◌∙◌, ap, subst, arith, eqb-true, inl, inr}
use Rattle.std.specs.Prelude.{filter}
use Rattle.std.specs.List.{list_any}
use Rattle.std.specs.Str.{bytes_eq}
use Rattle.std.proofs.lemmas.Bool.{cases_Bool, cond-true, cond-false, cond_both, or_cases, or_left, or_right}
use Rattle.std.proofs.lemmas.List.Elements.{All-filter, All-push, All-weaker}
use Rattle.std.proofs.lemmas.List.Kept.{AllPairs-filter}
use Rattle.std.proofs.lemmas.List.Quantifiers.{all_pairs_push}
use Rattle.std.proofs.lemmas.List.Sums.{sum_by-append}
use Rattle.pg_fold.specs.declared.rows.AddressRow.{AddressRow}
use Rattle.pg_fold.specs.declared.rows.QueueRow.{QueueRow}
use Rattle.pg_msg.specs.declared.limits.TheConstants.{LONGEST_FILTER, MOST_QUEUES}
use Rattle.pg_parse.specs.FilterTexts.{IsReadable}
use Rattle.pg_fold.specs.Rows.{has_address, has_queue_named, queues_at, without_queue}
use Rattle.pg_fold.specs.Sound.{AreQueues}
use Rattle.pg_fold.proofs.SoundAddresses.{differ, each_fails, still_address}

-- one more counts at its address alone
pub count_push : (rows : List QueueRow) (row : QueueRow) (address : ℕ) → queues_at (rows ++ row ∷ []) address ≡ queues_at rows address + cond (row.address == address) 1 0
count_push rows row address = sum_by-append (λ (r : QueueRow). cond (r.address == address) 1 0) rows (row ∷ []) ∙ ap (λ n. queues_at rows address + n) (omega arith)

few_push : (rows : List QueueRow) (row : QueueRow) → ((address : ℕ) → queues_at rows address ≤ MOST_QUEUES) → queues_at rows row.address < MOST_QUEUES → (address : ℕ) → queues_at (rows ++ row ∷ []) address ≤ MOST_QUEUES
few_push rows row few room address =
    let count = count_push rows row address in
    elim (cases_Bool (row.address == address)) [
      | inl here ↦
          let same : row.address ≡ address = eqb-true row.address address here in
          let there : queues_at rows address < MOST_QUEUES = subst (λ a. queues_at rows a < MOST_QUEUES) same room in
          let one : ◌≡◌ {A = ℕ} (cond (row.address == address) 1 0) 1 = cond-true (row.address == address) 1 0 here in
          omega (arith, count, there, one)
      | inr elsewhere ↦
          let none : ◌≡◌ {A = ℕ} (cond (row.address == address) 1 0) 0 = cond-false (row.address == address) 1 0 elsewhere in
          omega (arith, count, few address, none)
    ]

count_cons : (p : QueueRow → Bool) (row : QueueRow) (rows : List QueueRow) → count_by p (row ∷ rows) ≡ cond (p row) 1 0 + count_by p rows
count_cons p row rows = sum_by-append (λ (r : QueueRow). cond (p r) 1 0) (row ∷ []) rows ∙ ap (λ n. n + count_by p rows) (omega arith)

-- what stays is counted once, as before
count_without : (p : QueueRow → Bool) (q : QueueRow → Bool) (rows : List QueueRow) → count_by p (filter q rows) ≤ count_by p rows
count_without p q [] = omega arith
count_without p q (row ∷ rows) =
    let others = count_without p q rows in
    cond_both (q row) (row ∷ filter q rows) (filter q rows) (λ l. count_by p l ≤ count_by p (row ∷ rows)) (λ _. omega (arith, others, count_cons p row rows, count_cons p row (filter q rows)))
    (λ _. omega (arith, others, count_cons p row rows))

pub queues_push : (addresses : List AddressRow) (next : ℕ) (rows : List QueueRow) (row : QueueRow) → AreQueues addresses next rows → row.id ≡ next → has_queue_named rows row.name ≡ false → has_address addresses row.address ≡ true
    → queues_at rows row.address < MOST_QUEUES → IsReadable row.filter → length row.filter ≤ LONGEST_FILTER → AreQueues addresses (next + 1) (rows ++ row ∷ [])
queues_push addresses next rows row sound is new placed room readable short = record {
  ascending = all_pairs_push (λ a b. a.id < b.id) rows row sound.ascending (λ k d lt. omega (arith, sound.below k d lt, is));
  below = All-push (λ r. r.id < next + 1) rows row (All-weaker (λ r. r.id < next) (λ r. r.id < next + 1) (λ r lt. omega (arith, lt)) rows sound.below) (omega (arith, is));
  names = all_pairs_push (λ a b. a.name ≢ b.name) rows row sound.names (λ k d lt. differ (get_or rows k d).name row.name (each_fails (λ r. bytes_eq r.name row.name) rows new k d lt));
  placed = All-push (λ r. has_address addresses r.address ≡ true) rows row sound.placed placed;
  few = few_push rows row sound.few room;
  readable = All-push (λ r. IsReadable r.filter) rows row sound.readable readable;
  short = All-push (λ r. length r.filter ≤ LONGEST_FILTER) rows row sound.short short;
}

pub queues_without : (addresses : List AddressRow) (next : ℕ) (rows : List QueueRow) (id : ℕ) → AreQueues addresses next rows → AreQueues addresses next (without_queue id rows)
queues_without addresses next rows id sound =
    let kept : QueueRow → Bool = λ row. not (row.id == id) in
    record {
      ascending = AllPairs-filter (λ a b. a.id < b.id) kept rows sound.ascending;
      below = All-filter kept (λ r. r.id < next) rows sound.below;
      names = AllPairs-filter (λ a b. a.name ≢ b.name) kept rows sound.names;
      placed = All-filter kept (λ r. has_address addresses r.address ≡ true) rows sound.placed;
      few = λ address. let less = count_without (λ r. r.address == address) kept rows in omega (arith, less, sound.few address);
      readable = All-filter kept (λ r. IsReadable r.filter) rows sound.readable;
      short = All-filter kept (λ r. length r.filter ≤ LONGEST_FILTER) rows sound.short;
    }

-- the next id is a later one
pub queues_later : (addresses : List AddressRow) (next later : ℕ) (rows : List QueueRow) → next ≤ later → AreQueues addresses next rows → AreQueues addresses later rows
queues_later addresses next later rows le sound = record {
  ascending = sound.ascending;
  below = All-weaker (λ r. r.id < next) (λ r. r.id < later) (λ r lt. omega (arith, lt, le)) rows sound.below;
  names = sound.names;
  placed = sound.placed;
  few = sound.few;
  readable = sound.readable;
  short = sound.short;
}

-- there is one address more
pub queues_beside : (addresses : List AddressRow) (row : AddressRow) (next : ℕ) (rows : List QueueRow) → AreQueues addresses next rows → AreQueues (addresses ++ row ∷ []) next rows
queues_beside addresses row next rows sound = record {
  ascending = sound.ascending;
  below = sound.below;
  names = sound.names;
  placed = All-weaker (λ r. has_address addresses r.address ≡ true) (λ r. has_address (addresses ++ row ∷ []) r.address ≡ true) (λ r is. still_address addresses row r.address is) rows sound.placed;
  few = sound.few;
  readable = sound.readable;
  short = sound.short;
}

-- what passes is found among those that stay, where what passes stays
pub any_kept : (p : QueueRow → Bool) (q : QueueRow → Bool) → ((row : QueueRow) → p row ≡ true → q row ≡ true) → (rows : List QueueRow) → list_any p rows ≡ true → list_any p (filter q rows) ≡ true
any_kept p q stays [] any = any
any_kept p q stays (row ∷ rows) any =
    elim (or_cases (p row) (list_any p rows) any) [
      | inl here ↦ subst (λ l. list_any p l ≡ true) (sym (cond-true (q row) (row ∷ filter q rows) (filter q rows) (stays row here))) (or_left _ _ here)
      | inr there ↦
          let others = any_kept p q stays rows there in
          cond_both (q row) (row ∷ filter q rows) (filter q rows) (λ l. list_any p l ≡ true) (λ _. or_right _ _ others) (λ _. others)
    ]
