-- Lists of bytes that are cut at line ends, and what is taken of a source in pieces.
use Rattle.std.proofs.Common.{◌≡◌, ◌≢◌, ℕ, suc, zero, ◌+◌, ◌-◌, ◌<◌, ◌≤◌, min, List, [], ◌∷◌, ◌++◌, length, get_or, take, drop, Option, Some, None, ◌==◌, eq-eqb, Bool, not, cond, nat_lt, unwrap_or, position, refl, sym, ap, ◌∙◌, arith}
use Rattle.std.proofs.lemmas.List.{drop_more, take_more, drop-take, drop-drop, length-take, get_or-take, append_assoc, take_min}
use Rattle.std.proofs.Math.Seq.{take-append-add}
use Rattle.std.proofs.lemmas.List.Sums.{fails_before_first, passes_at_first, prefix_len-le-length}
use Rattle.std.proofs.lemmas.Bool.{false≢true, eqb-true}
use Rattle.std.proofs.lemmas.Bool.Decides.{nat_tests}
use Rattle.std.specs.List.{position_or_len}
use Rattle.pg_disk.specs.Reads.{TakesFrom}
use Rattle.pg_lines.specs.Lines.{HasNoLineEnd}

-- two texts without a line end, one behind the other
pub HasNoLineEnd-append : (xs ys : List ℕ) → HasNoLineEnd xs → HasNoLineEnd ys → HasNoLineEnd (xs ++ ys)
HasNoLineEnd-append [] ys before behind = behind
HasNoLineEnd-append (x ∷ xs) ys before behind = (before.0, HasNoLineEnd-append xs ys before.1 behind)

-- no place has a line end
pub HasNoLineEnd-from_each : (xs : List ℕ) → ((k : ℕ) → k < length xs → get_or xs k 0 ≢ 10) → HasNoLineEnd xs
HasNoLineEnd-from_each [] each = tt
HasNoLineEnd-from_each (x ∷ xs) each = (each 0 (omega arith), HasNoLineEnd-from_each xs (λ k lt. each (suc k) (omega (arith, lt))))

-- what is kept of a text in pieces is what is kept of it
pub take-take_append : (n : ℕ) (xs ys : List ℕ) → take n (take n xs ++ ys) ≡ take n (xs ++ ys)
take-take_append zero xs ys = refl
take-take_append (suc n) [] ys = refl
take-take_append (suc n) (x ∷ xs) ys = ap (λ zs. x ∷ zs) (take-take_append n xs ys)

-- as much of a piece as there is room for
pub take-append_room : (n : ℕ) (xs ys : List ℕ) (count : ℕ) → length xs ≤ n → count ≡ min (n - length xs) (length ys) → xs ++ take count ys ≡ take n (xs ++ ys)
take-append_room n xs ys count le is =
    let room : length xs + (n - length xs) ≡ n = omega (arith, le) in
    rw is (ap (λ zs. xs ++ zs) (take_min (n - length xs) ys) ∙ sym (take-append-add xs ys (n - length xs)) ∙ ap (λ m. take m (xs ++ ys)) room)

-- one read after another
pub TakesFrom-then : (old mid new : Option (List ℕ)) (first second : List ℕ) → TakesFrom old mid first → TakesFrom mid new second → TakesFrom old new (first ++ second)
TakesFrom-then old mid new first second so_far now = λ xs is.
    let a = so_far xs is in
    let b = now a.0 a.1 in
    (b.0, b.1, a.2 ∙ ap (λ zs. first ++ zs) b.2 ∙ sym (append_assoc first second b.0))

-- the one byte that was read
pub take-one : (n : ℕ) (xs : List ℕ) → length xs ≡ 1 → n ≤ 1 → (n ≡ 0 → ⊥) → take n xs ≡ get_or xs 0 0 ∷ []
take-one n xs single within some =
    let one : n ≡ 1 = omega (arith, within, some) in
    let first : 0 < length xs = omega (arith, single) in
    ap (λ m. take m xs) one ∙ take_more xs 0 0 first

-- where the first line end stands, or the length
abbrev pub line_len : List ℕ → ℕ
line_len xs = position_or_len (λ b. b == 10) xs

-- what stands before the first line end has none
pub HasNoLineEnd-before : (xs : List ℕ) (n : ℕ) → n ≡ line_len xs → HasNoLineEnd (take n xs)
HasNoLineEnd-before xs n is = HasNoLineEnd-from_each (take n xs) (λ k lt.
    let below : k < n = omega (arith, lt, length-take n xs) in
    let in_line : k < line_len xs = omega (arith, below, is) in
    rw (get_or-take n xs k 0 below) (λ ends. false≢true (sym (fails_before_first (λ b. b == 10) xs k 0 in_line) ∙ eq-eqb (get_or xs k 0) 10 ends)))

-- and the line end stands behind it
pub drop-line_end : (xs : List ℕ) (n : ℕ) → n ≡ line_len xs → n < length xs → drop n xs ≡ 10 ∷ drop (n + 1) xs
drop-line_end xs n is lt =
    let in_text : line_len xs < length xs = omega (arith, is, lt) in
    drop_more xs n 0 lt ∙ ap (λ b. b ∷ drop (n + 1) xs) (ap (λ m. get_or xs m 0) is ∙ eqb-true _ _ (passes_at_first (λ b. b == 10) xs 0 in_text))

-- what is left of a part of a buffer
pub drop-part : (items : List ℕ) (from to n : ℕ) → from + n ≤ to → drop n (take (to - from) (drop from items)) ≡ take (to - (from + n)) (drop (from + n) items)
drop-part items from to n le =
    let size : to - from ≡ n + (to - (from + n)) = omega (arith, le) in
    ap (λ m. drop n (take m (drop from items))) size ∙ drop-take n (to - (from + n)) (drop from items) ∙ ap (take (to - (from + n))) (drop-drop n from items)

-- the same of a line and its line end
pub drop-line_part : (items : List ℕ) (from to n : ℕ) → n ≡ line_len (take (to - from) (drop from items)) → (n ≡ length (take (to - from) (drop from items)) → ⊥)
    → drop n (take (to - from) (drop from items)) ≡ 10 ∷ take (to - (from + (n + 1))) (drop (from + (n + 1)) items)
drop-line_part items from to n is more =
    let lt : n < length (take (to - from) (drop from items)) = omega (arith, is, more, prefix_len-le-length (λ b. not (b == 10)) (take (to - from) (drop from items))) in
    let le : from + (n + 1) ≤ to = omega (arith, lt, length-take (to - from) (drop from items)) in
    drop-line_end (take (to - from) (drop from items)) n is lt ∙ ap (λ ys. 10 ∷ ys) (drop-part items from to (n + 1) le)

-- a place that is no further than the length
unwrap_or-position_below : (n m : ℕ) → n ≤ m → unwrap_or (cond (nat_lt n m) (Some n) None) m ≡ n
unwrap_or-position_below n m le = grind (arith, nat_tests)

-- the place of the first that passes, or the length
pub unwrap_or-position : (p : ℕ → Bool) (xs : List ℕ) → unwrap_or (position p xs) (length xs) ≡ position_or_len p xs
unwrap_or-position p xs = unwrap_or-position_below (position_or_len p xs) (length xs) (prefix_len-le-length (λ x. not (p x)) xs)
