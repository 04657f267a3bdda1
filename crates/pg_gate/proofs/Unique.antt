-- Bytes have one list of batches, and a crash leaves that of a file at rest.
use Rattle.std.proofs.Common.{◌≡◌, ◌≢◌, inl, inr, ℕ, suc, ◌+◌, ◌^◌, ◌≤◌, ◌<◌, List, [], ◌∷◌, ◌++◌, length, take, drop, Option, Some, None, refl, sym, ◌∙◌, ap, subst, arith, append_assoc, length-append}
use Rattle.std.specs.Int.{to_be_bytes, from_be_bytes, w64}
use Rattle.std.proofs.lemmas.Nat.{from_be_bytes-to_be_bytes_8}
use Rattle.std.proofs.lemmas.List.{take_at, drop_at}
use Rattle.std.proofs.lemmas.List.Elements.{All-cons}
use Rattle.pg_disk.specs.Account.{FileState}
use Rattle.pg_disk.specs.Image.{IsLeftAt}
use Rattle.pg_gate.specs.Gated.{opened, Batches, HasBatches, AllFit, IsFront, StandsClosed, StandsFor, counted_length}
use Rattle.pg_gate.specs.declared.at_rest.Rest.{Rest}
use Rattle.pg_gate.proofs.Sealing.{batches_from, front_left}

-- equal texts of two parts each, of which the first are as long
pub front_of : (a b c d : List ℕ) → length a ≡ length c → a ++ b ≡ c ++ d → a ≡ c
front_of a b c d size e = sym (take_at a b (length a) refl) ∙ ap (take (length a)) e ∙ take_at c d (length a) (sym size)

pub back_of : (a b c d : List ℕ) → length a ≡ length c → a ++ b ≡ c ++ d → b ≡ d
back_of a b c d size e = sym (drop_at a b (length a) refl) ∙ ap (drop (length a)) e ∙ drop_at c d (length a) (sym size)

pub tail_of : (x y : ℕ) (xs ys : List ℕ) → x ∷ xs ≡ y ∷ ys → xs ≡ ys
tail_of x y xs ys e = cc

pub head_of : (x y : ℕ) (xs ys : List ℕ) → x ∷ xs ≡ y ∷ ys → x ≡ y
head_of x y xs ys e = cc

pub fits_first : (payload : List ℕ) (batches : List (List ℕ)) → AllFit (payload ∷ batches) → length payload < 2 ^ 64
fits_first payload batches fit = fit 0 payload (omega arith)

pub fits_rest : (payload : List ℕ) (batches : List (List ℕ)) → AllFit (payload ∷ batches) → AllFit batches
fits_rest payload batches fit = λ k d lt. fit (suc k) d (omega (arith, lt))

-- a length's eight bytes tell the length
pub same_length : (n m : ℕ) → n < 2 ^ 64 → m < 2 ^ 64 → to_be_bytes w64 n ≡ to_be_bytes w64 m → n ≡ m
same_length n m lt below e = sym (from_be_bytes-to_be_bytes_8 n lt) ∙ ap (from_be_bytes w64) e ∙ from_be_bytes-to_be_bytes_8 m below

-- the batches before a shut gate
pub opened_unique : (xs ys : List (List ℕ)) (g h : ℕ) (b d : List ℕ) → AllFit xs → AllFit ys → g ≢ 1 → h ≢ 1 → opened xs ++ g ∷ b ≡ opened ys ++ h ∷ d → xs ≡ ys
opened_unique [] [] g h b d fit fits shut closed e = refl
opened_unique [] (q ∷ ys) g h b d fit fits shut closed e = absurd (shut (head_of g 1 _ _ e))
opened_unique (p ∷ xs) [] g h b d fit fits shut closed e = absurd (closed (sym (head_of 1 h _ _ e)))
opened_unique (p ∷ xs) (q ∷ ys) g h b d fit fits shut closed e =
    let left : List ℕ = opened xs ++ g ∷ b in
    let right : List ℕ = opened ys ++ h ∷ d in
    let joined : to_be_bytes w64 (length p) ++ (p ++ left) ≡ to_be_bytes w64 (length q) ++ (q ++ right) =
    ap (λ (l : List ℕ). to_be_bytes w64 (length p) ++ l) (sym (append_assoc p (opened xs) (g ∷ b)))
    ∙ tail_of 1 1 _ _ e
    ∙ ap (λ (l : List ℕ). to_be_bytes w64 (length q) ++ l) (append_assoc q (opened ys) (h ∷ d)) in
    let size : length p ≡ length q = same_length (length p) (length q) (fits_first p xs fit) (fits_first q ys fits) (front_of (to_be_bytes w64 (length p)) (p ++ left) (to_be_bytes w64 (length q)) (q ++ right) refl joined) in
    let body : p ++ left ≡ q ++ right = back_of (to_be_bytes w64 (length p)) (p ++ left) (to_be_bytes w64 (length q)) (q ++ right) refl joined in
    let one : p ≡ q = front_of p left q right size body in
    let more : xs ≡ ys = opened_unique xs ys g h b d (fits_rest p xs fit) (fits_rest q ys fits) shut closed (back_of p left q right size body) in
    λ i. one i ∷ more i

-- with a batch there are ten bytes at least
pub opened_long : (p : List ℕ) (ps : List (List ℕ)) (gate : ℕ) (behind : List ℕ) → 10 ≤ length (opened (p ∷ ps) ++ gate ∷ behind)
opened_long p ps gate behind = omega (arith, length-append (opened (p ∷ ps)) (gate ∷ behind))

pub short_none : (bytes : List ℕ) (batches : List (List ℕ)) (gate : ℕ) (behind : List ℕ) → length bytes ≤ 1 → bytes ≡ opened batches ++ gate ∷ behind → [] ≡ batches
short_none bytes [] gate behind short e = refl
short_none bytes (p ∷ ps) gate behind short e = absurd (omega (arith, short, ap length e, opened_long p ps gate behind))

-- Bytes have one list of batches.
pub batches_unique : (bytes : List ℕ) (xs ys : List (List ℕ)) → AllFit xs → AllFit ys → Batches bytes xs → Batches bytes ys → xs ≡ ys
batches_unique bytes xs ys fit fits (inl none) (inl same) = none.1 ∙ sym same.1
batches_unique bytes xs ys fit fits (inl none) (inr some) = none.1 ∙ short_none bytes ys some.0 some.1 none.0 some.3
batches_unique bytes xs ys fit fits (inr some) (inl none) = sym (short_none bytes xs some.0 some.1 none.0 some.3) ∙ sym none.1
batches_unique bytes xs ys fit fits (inr some) (inr same) = opened_unique xs ys some.0 same.0 some.1 same.1 fit fits some.2 same.2 (sym some.3 ∙ same.3)

pub none_fit : AllFit []
none_fit = λ k d none. absurd (omega (arith, none))

pub opened_fit : (batches : List (List ℕ)) (n : ℕ) → length (opened batches) ≤ n → n < 2 ^ 64 → AllFit batches
opened_fit [] n le lt = none_fit
opened_fit (p ∷ ps) n le lt =
    let size = length-append p (opened ps) in
    All-cons (λ payload. length payload < 2 ^ 64) p ps (omega (arith, le, lt, size)) (opened_fit ps n (omega (arith, le, size)) lt)

-- in a file that is no longer than any may be each payload's length has a spelling
pub batches_fit : (bytes : List ℕ) (batches : List (List ℕ)) → length bytes < 2 ^ 64 → Batches bytes batches → AllFit batches
batches_fit bytes batches lt (inl none) = subst AllFit (sym none.1) none_fit
batches_fit bytes batches lt (inr some) = opened_fit batches (length bytes) (omega (arith, ap length some.3, length-append (opened batches) (some.0 ∷ some.1))) lt

-- so such bytes have one list of batches
pub short_unique : (bytes : List ℕ) (xs ys : List (List ℕ)) → length bytes < 2 ^ 64 → Batches bytes xs → Batches bytes ys → xs ≡ ys
short_unique bytes xs ys lt these those = batches_unique bytes xs ys (batches_fit bytes xs lt these) (batches_fit bytes ys lt those) these those

-- the batches of a file at rest are those of all that a crash leaves of it
pub stands_left : (rest : Rest) (batches : List (List ℕ)) (s : Option FileState) (left : Option (List ℕ)) → StandsFor rest batches s → IsLeftAt s left → HasBatches batches left
stands_left rest batches None left stands is = absurd stands
stands_left rest batches (Some s) None stands is = absurd is
stands_left rest batches (Some s) (Some left) stands is = front_left rest.gate batches s left stands.front is

-- what a file at rest stands for fits, since its counted length does
pub stands_fit : (rest : Rest) (batches : List (List ℕ)) (s : Option FileState) → StandsFor rest batches s → AllFit batches
stands_fit rest batches None stands = absurd stands
stands_fit rest batches (Some s) stands = opened_fit batches rest.gate (omega (arith, stands.front.place)) (omega (arith, rest.in_range))

-- a file at rest stands for one list of batches
pub stands_unique : (rest : Rest) (xs ys : List (List ℕ)) (s : Option FileState) → StandsFor rest xs s → StandsFor rest ys s → xs ≡ ys
stands_unique rest xs ys None these those = absurd these
stands_unique rest xs ys (Some s) these those =
    batches_unique s.bytes xs ys (stands_fit rest xs (Some s) these) (stands_fit rest ys (Some s) those) (in_front xs these.front) (in_front ys those.front)
  where
    in_front : (batches : List (List ℕ)) → IsFront rest.gate batches s → Batches s.bytes batches
    in_front batches front = batches_from s.bytes batches front.closed front.shut front.holds

-- its counted length is that of its batches, with the closed gate
pub stands_length : (rest : Rest) (batches : List (List ℕ)) (s : Option FileState) → StandsFor rest batches s → counted_length rest ≡ length (opened batches) + 1
stands_length rest batches None stands = absurd stands
stands_length rest batches (Some s) stands = ap (λ (n : ℕ). n + 1) stands.front.place

-- a file that is closed by a 0 is at rest
pub closed_stands : (rest : Rest) (batches : List (List ℕ)) (s : Option FileState) → StandsClosed rest batches s → StandsFor rest batches s
closed_stands rest batches None closed = absurd closed
closed_stands rest batches (Some s) closed = closed.0
