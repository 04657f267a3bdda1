-- Lists whose elements differ: parts of them, and one element more.
use Rattle.std.proofs.Common.{◌≡◌, ℕ, zero, suc, ◌<◌, Bool, List, [], ◌∷◌, ◌++◌, length, get_or, map, arith}
use Rattle.std.proofs.lemmas.Bool.{cond_both}
use Rattle.std.specs.Prelude.{filter, AllPairs, All}
use Rattle.std.specs.List.{AllByRecursion}
use Rattle.std.proofs.lemmas.List.Elements.{All-from_recursion, recursion_from_All}
use Rattle.pg_routes.specs.Laws.{IsPart, ends, leaves, keeps}

-- R holds of each element and each later one, by recursion
abbrev pub Pairs : {X : Type 0} → (X → X → Type 0) → List X → Type 0
Pairs R [] = Unit {0}
Pairs R (x ∷ xs) = AllByRecursion (R x) xs × Pairs R xs

pub from_pairs : {X : Type 0} (R : X → X → Type 0) (xs : List X) → AllPairs R xs → Pairs R xs
from_pairs R [] pairs = tt
from_pairs R (x ∷ xs) pairs = (
  recursion_from_All (R x) xs (λ k d within. pairs 0 (suc k) d (omega arith) (omega arith)),
  from_pairs R xs (λ i j d before within. pairs (suc i) (suc j) d (omega arith) (omega arith)),
)

pairs_more : {X : Type 0} (R : X → X → Type 0) (x : X) (xs : List X) → All (R x) xs → AllPairs R xs
    → (i j : ℕ) (d : X) → i < j → j < length (x ∷ xs) → R (get_or (x ∷ xs) i d) (get_or (x ∷ xs) j d)
pairs_more R x xs first rest zero zero d before within = absurd (omega arith)
pairs_more R x xs first rest zero (suc j) d before within = first j d (omega arith)
pairs_more R x xs first rest (suc i) zero d before within = absurd (omega arith)
pairs_more R x xs first rest (suc i) (suc j) d before within = rest i j d (omega arith) (omega arith)

pub to_pairs : {X : Type 0} (R : X → X → Type 0) (xs : List X) → Pairs R xs → AllPairs R xs
to_pairs R [] pairs = λ i j d before within. absurd (omega arith)
to_pairs R (x ∷ xs) pairs = pairs_more R x xs (All-from_recursion (R x) xs pairs.0) (to_pairs R xs pairs.1)

-- ---- what each element has
pub each_weaker : {X : Type 0} (P Q : X → Type 0) (xs : List X) → ((x : X) → P x → Q x) → AllByRecursion P xs → AllByRecursion Q xs
each_weaker P Q [] weaker all = tt
each_weaker P Q (x ∷ xs) weaker all = (weaker x all.0, each_weaker P Q xs weaker all.1)

pub each_appended : {X : Type 0} (P : X → Type 0) (xs ys : List X) → AllByRecursion P xs → AllByRecursion P ys → AllByRecursion P (xs ++ ys)
each_appended P [] ys left right = right
each_appended P (x ∷ xs) ys left right = (left.0, each_appended P xs ys left.1 right)

pub each_left : {X : Type 0} (P : X → Type 0) (xs ys : List X) → AllByRecursion P (xs ++ ys) → AllByRecursion P xs
each_left P [] ys all = tt
each_left P (x ∷ xs) ys all = (all.0, each_left P xs ys all.1)

pub each_right : {X : Type 0} (P : X → Type 0) (xs ys : List X) → AllByRecursion P (xs ++ ys) → AllByRecursion P ys
each_right P [] ys all = all
each_right P (x ∷ xs) ys all = each_right P xs ys all.1

pub each_mapped : {X Y : Type 0} (P : Y → Type 0) (f : X → Y) (xs : List X) → AllByRecursion (λ x. P (f x)) xs → AllByRecursion P (map f xs)
each_mapped P f [] all = tt
each_mapped P f (x ∷ xs) all = (all.0, each_mapped P f xs all.1)

-- a list whose elements are changed, but not in what they differ
pub pairs_mapped : {X K : Type 0} (key : X → K) (f : X → X) → ((x : X) → key (f x) ≡ key x) → (xs : List X)
    → Pairs (λ x other. key x ≡ key other → ⊥) xs → Pairs (λ x other. key x ≡ key other → ⊥) (map f xs)
pairs_mapped key f same [] pairs = tt
pairs_mapped {X} key f same (x ∷ xs) pairs = (
  each_mapped (λ other. key (f x) ≡ key other → ⊥) f xs (each_weaker (λ (other : X). key x ≡ key other → ⊥) (λ other. key (f x) ≡ key (f other) → ⊥) xs (λ other differ is. differ (cc (same x, same other))) pairs.0),
  pairs_mapped key f same xs pairs.1,
)

-- each element of the one list, and each of the other behind it
pub pairs_across : {X : Type 0} (R : X → X → Type 0) (xs ys : List X) → Pairs R (xs ++ ys) → AllByRecursion (λ x. AllByRecursion (R x) ys) xs
pairs_across R [] ys pairs = tt
pairs_across R (x ∷ xs) ys pairs = (each_right (R x) xs ys pairs.0, pairs_across R xs ys pairs.1)

pub pairs_behind : {X : Type 0} (R : X → X → Type 0) (xs ys : List X) → Pairs R (xs ++ ys) → Pairs R ys
pairs_behind R [] ys pairs = pairs
pairs_behind R (x ∷ xs) ys pairs = pairs_behind R xs ys pairs.1

-- ---- some of the elements, in their order
pub part_each : {X : Type 0} {xs ys : List X} (P : X → Type 0) → IsPart xs ys → AllByRecursion P ys → AllByRecursion P xs
part_each P ends all = tt
part_each P (leaves part) all = part_each P part all.1
part_each P (keeps part) all = (all.0, part_each P part all.1)

pub part_pairs : {X : Type 0} {xs ys : List X} (R : X → X → Type 0) → IsPart xs ys → Pairs R ys → Pairs R xs
part_pairs R ends pairs = tt
part_pairs R (leaves part) pairs = part_pairs R part pairs.1
part_pairs R (keeps {x} part) pairs = (part_each (R x) part pairs.0, part_pairs R part pairs.1)

pub part_whole : {X : Type 0} (xs : List X) → IsPart xs xs
part_whole [] = ends
part_whole (x ∷ xs) = keeps (part_whole xs)

pub part_none : {X : Type 0} (xs : List X) → IsPart [] xs
part_none [] = ends
part_none (x ∷ xs) = leaves (part_none xs)

pub part_appended : {X : Type 0} {xs ys us vs : List X} → IsPart xs ys → IsPart us vs → IsPart (xs ++ us) (ys ++ vs)
part_appended ends more = more
part_appended (leaves part) more = leaves (part_appended part more)
part_appended (keeps part) more = keeps (part_appended part more)

pub part_mapped : {X Y : Type 0} {xs ys : List X} (f : X → Y) → IsPart xs ys → IsPart (map f xs) (map f ys)
part_mapped f ends = ends
part_mapped f (leaves part) = leaves (part_mapped f part)
part_mapped f (keeps part) = keeps (part_mapped f part)

pub part_filter : {X : Type 0} (p : X → Bool) (xs : List X) → IsPart (filter p xs) xs
part_filter p [] = ends
part_filter p (x ∷ xs) = cond_both (p x) (x ∷ filter p xs) (filter p xs) (λ kept. IsPart kept (x ∷ xs)) (λ _. keeps (part_filter p xs)) (λ _. leaves (part_filter p xs))

-- ---- one element more, at some place
pub data IsPut {X : Type 0} (one : X) : List X → List X → Type 0 where
  here : {xs : List X} → IsPut one xs (one ∷ xs)
  behind : {x : X} {xs ys : List X} → IsPut one xs ys → IsPut one (x ∷ xs) (x ∷ ys)

pub put_each : {X : Type 0} {one : X} {xs ys : List X} (P : X → Type 0) → IsPut one xs ys → P one → AllByRecursion P xs → AllByRecursion P ys
put_each P here first all = (first, all)
put_each P (behind put) first all = (all.0, put_each P put first all.1)

pub put_pairs : {X : Type 0} {one : X} {xs ys : List X} (R : X → X → Type 0) → ((a b : X) → R a b → R b a) → IsPut one xs ys
    → AllByRecursion (R one) xs → Pairs R xs → Pairs R ys
put_pairs R turned here apart pairs = (apart, pairs)
put_pairs {one} R turned (behind {x} put) apart pairs =
    (put_each (R x) put (turned one x apart.0) pairs.0, put_pairs R turned put apart.1 pairs.1)

pub put_mapped : {X Y : Type 0} {one : X} {xs ys : List X} (f : X → Y) → IsPut one xs ys → IsPut (f one) (map f xs) (map f ys)
put_mapped f here = here
put_mapped f (behind put) = behind (put_mapped f put)

pub put_before : {X : Type 0} {one : X} {xs ys : List X} (more : List X) → IsPut one xs ys → IsPut one (xs ++ more) (ys ++ more)
put_before more here = here
put_before more (behind put) = behind (put_before more put)

pub put_after : {X : Type 0} {one : X} {xs ys : List X} (more : List X) → IsPut one xs ys → IsPut one (more ++ xs) (more ++ ys)
put_after [] put = put
put_after (x ∷ more) put = behind (put_after more put)

pub put_last : {X : Type 0} (one : X) (xs : List X) → IsPut one xs (xs ++ one ∷ [])
put_last one [] = here
put_last one (x ∷ xs) = behind (put_last one xs)
