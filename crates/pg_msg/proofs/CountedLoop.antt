-- Reading so many values one behind the other, and spelling them, as a loop does.
use Rattle.std.proofs.Common.{◌≡◌, ℕ, suc, ◌+◌, ◌-◌, ◌<◌, ◌≤◌, List, [], ◌∷◌, ◌++◌, length, get_or, drop, Some, None, refl, sym, ap, ◌∙◌, append_assoc, arith}
use Rattle.std.proofs.lemmas.List.{append-nil, drop_more, drop_all}
use Rattle.pg_msg.specs.declared.fields.Unread.{Unread}
use Rattle.pg_msg.specs.declared.fields.Unread.TheVariants.{Malformed, Memory}
use Rattle.pg_msg.specs.Reading.{◌>>=◌, Read, Misses, counted_at}
use Rattle.pg_msg.proofs.FieldLaws.{IsChain}

-- what was read before, and behind it what is still read
abbrev pub joined : {X : Type 0} → List X → Read (List X) → Read (List X)
joined front read = read >>= λ xs. Some (front ++ xs.0, xs.1)

one_more : {X : Type 0} (front : List X) (x : X) (read : Read (List X)) → joined front (read >>= λ xs. Some (x ∷ xs.0, xs.1)) ≡ joined (front ++ x ∷ []) read
one_more {X} front x (Some xs) = ap (λ (all : List X). Some (all, xs.1)) (sym (append_assoc front (x ∷ []) xs.0))
one_more front x None = refl

-- a value was read
pub reads_on : {X : Type 0} (value_at : List ℕ → Read X) (front : List X) (count i : ℕ) (bytes : List ℕ) (x : X) (rest : List ℕ) (whole : Read (List X)) → i < count → value_at bytes ≡ Some (x, rest) → joined front (counted_at value_at (count - i) bytes) ≡ whole
    → joined (front ++ x ∷ []) (counted_at value_at (count - (i + 1)) rest) ≡ whole
unfolding counted_at
reads_on value_at front count i bytes x rest whole below read so_far =
    let left : count - i ≡ suc (count - (i + 1)) = omega arith in
    let same : joined front (counted_at value_at (count - i) bytes) ≡ joined (front ++ x ∷ []) (counted_at value_at (count - (i + 1)) rest) = rw (left, read) (one_more front x (counted_at value_at (count - (i + 1)) rest)) in
    sym same ∙ so_far

-- no value is there
pub reads_none : {X : Type 0} (value_at : List ℕ → Read X) (error : Unread) (front : List X) (count i : ℕ) (bytes : List ℕ) (whole : Read (List X)) → i < count → Misses error (value_at bytes) → joined front (counted_at value_at (count - i) bytes) ≡ whole → Misses error whole
unfolding counted_at
reads_none value_at Memory front count i bytes whole below missed so_far = tt
reads_none value_at Malformed front count i bytes whole below missed so_far =
    let left : count - i ≡ suc (count - (i + 1)) = omega arith in
    let same : joined front (counted_at value_at (count - i) bytes) ≡ None = rw (left, missed) refl in
    sym so_far ∙ same

-- none is left to be read
pub reads_all : {X : Type 0} (value_at : List ℕ → Read X) (front : List X) (count i : ℕ) (bytes : List ℕ) (whole : Read (List X)) → count ≤ i → joined front (counted_at value_at (count - i) bytes) ≡ whole → whole ≡ Some (front, bytes)
unfolding counted_at
reads_all {X} value_at front count i bytes whole past so_far =
    let left : count - i ≡ 0 = omega arith in
    let same : joined front (counted_at value_at (count - i) bytes) ≡ Some (front, bytes) = rw left (ap (λ (all : List X). Some (all, bytes)) (append-nil front)) in
    sym so_far ∙ same

-- one more value is spelled
pub spells_on : {X : Type 0} (value_bytes : X → List ℕ) (all_bytes : List X → List ℕ) → IsChain value_bytes all_bytes → (xs : List X) (i : ℕ) (x : X) (start before after : List ℕ) → i < length xs → x ≡ get_or xs i x → before ++ all_bytes (drop i xs) ≡ start ++ all_bytes xs → after ≡ before ++ value_bytes x
    → after ++ all_bytes (drop (i + 1) xs) ≡ start ++ all_bytes xs
spells_on {X} value_bytes all_bytes chain xs i x start before after inside there so_far more =
    let behind = all_bytes (drop (i + 1) xs) in
    let next : drop i xs ≡ x ∷ drop (i + 1) xs = drop_more xs i x inside ∙ ap (λ (y : X). y ∷ drop (i + 1) xs) (sym there) in
    ap (λ (bytes : List ℕ). bytes ++ behind) more
    ∙ append_assoc before (value_bytes x) behind
    ∙ ap (λ (bytes : List ℕ). before ++ bytes) (sym (chain.more x (drop (i + 1) xs)) ∙ ap all_bytes (sym next))
    ∙ so_far

-- none is left to be spelled
pub spells_all : {X : Type 0} (value_bytes : X → List ℕ) (all_bytes : List X → List ℕ) → IsChain value_bytes all_bytes → (xs : List X) (i : ℕ) (start bytes : List ℕ) → length xs ≤ i → bytes ++ all_bytes (drop i xs) ≡ start ++ all_bytes xs → bytes ≡ start ++ all_bytes xs
spells_all {X} value_bytes all_bytes chain xs i start bytes past so_far =
    let nothing : all_bytes (drop i xs) ≡ [] = ap all_bytes (drop_all i xs past) ∙ chain.none in
    sym (append-nil bytes) ∙ sym (ap (λ (rest : List ℕ). bytes ++ rest) nothing) ∙ so_far
