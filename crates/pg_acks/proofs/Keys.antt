-- The order of the keys by which runs are kept.
use Rattle.std.proofs.Common.{◌≡◌, ◌==◌, ◌&&◌, ◌≤◌, ℕ, true, false, sym, subst, arith}
use Rattle.std.proofs.lemmas.Grind.{common_steps}
use Rattle.std.proofs.lemmas.Cmp.{nat_cmp_total, on_total, then_total}
use Rattle.std.specs.Cmp.{IsTotalOrder}
use Rattle.std.specs.Ordering.{is_gt, is_lt}
use Rattle.std.specs.BTreeMap.{is_at}
use Rattle.pg_acks.specs.Keys.{At, Key, at_cmp, key_cmp, same_at}

pub at_total : IsTotalOrder at_cmp
at_total = then_total (on_total (λ at. at.0) nat_cmp_total) (on_total (λ at. at.1) nat_cmp_total)

pub key_total : IsTotalOrder key_cmp
key_total = then_total (on_total (λ key. key.0) at_total) (on_total (λ key. key.1) nat_cmp_total)

pub finds_at : (a b : At) → is_at (at_cmp a) b ≡ same_at a b
finds_at a b = grind (arith, common_steps)

pub finds_key : (a b : Key) → is_at (key_cmp a) b ≡ (same_at a.0 b.0 && (b.1 == a.1))
finds_key a b = grind (arith, common_steps)

pub same_ats : (a b : At) → same_at a b ≡ true → a ≡ b
same_ats a b e = grind (arith, common_steps, e)

-- what is neither before nor behind the page's indexes up to one is one of them
pub between_at : (a b : At) → is_gt (at_cmp a b) ≡ false → is_gt (at_cmp b a) ≡ false → b ≡ a
between_at a b low high = grind (arith, common_steps, low, high)

pub at_first : (a b : Key) → is_gt (key_cmp a b) ≡ false → is_gt (at_cmp a.0 b.0) ≡ false
at_first a b low = grind (arith, common_steps, low)

pub index_le : (at : At) (a b : ℕ) → is_gt (key_cmp (at, a) (at, b)) ≡ false → a ≤ b
index_le at a b low = grind (arith, common_steps, low)

pub index_ge : (at : At) (a b : ℕ) → is_lt (key_cmp (at, a) (at, b)) ≡ false → b ≤ a
index_ge at a b high = grind (arith, common_steps, high)

pub index_in : (at : At) (a b : ℕ) → a ≤ b → is_gt (key_cmp (at, a) (at, b)) ≡ false
index_in at a b le = grind (arith, common_steps, le)

-- the same of the ends of a range
pub key_at : (low high key : Key) (at : At) (index : ℕ) → low ≡ (at, 0) → high ≡ (at, index) → is_gt (key_cmp low key) ≡ false → is_gt (key_cmp key high) ≡ false → key.0 ≡ at
key_at low high key at index begins ends from to =
    let first : is_gt (at_cmp at key.0) ≡ false = subst (λ (k : Key). is_gt (at_cmp k.0 key.0) ≡ false) begins (at_first low key from) in
    let last : is_gt (at_cmp key.0 at) ≡ false = subst (λ (k : Key). is_gt (at_cmp key.0 k.0) ≡ false) ends (at_first key high to) in
    between_at at key.0 first last

pub in_range : (low high : Key) (at : At) (index first : ℕ) → low ≡ (at, 0) → high ≡ (at, index) → first ≤ index
    → (is_gt (key_cmp low (at, first)) ≡ false) × (is_gt (key_cmp (at, first) high) ≡ false)
in_range low high at index first begins ends le = (
  subst (λ (k : Key). is_gt (key_cmp k (at, first)) ≡ false) (sym begins) (index_in at 0 first (omega arith)),
  subst (λ (k : Key). is_gt (key_cmp (at, first) k) ≡ false) (sym ends) (index_in at first index le),
)

-- a key of the page that isn't before an index of it has no smaller index
pub least_ge : (key : Key) (at : At) (first : ℕ) → key.0 ≡ at → is_lt (key_cmp key (at, first)) ≡ false → first ≤ key.1
least_ge key at first is least = index_ge at key.1 first (subst (λ (a : At). is_lt (key_cmp (a, key.1) (at, first)) ≡ false) is least)
