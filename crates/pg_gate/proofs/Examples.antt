-- Small files and their batches.
use Rattle.std.proofs.Common.{◌≡◌, inl, inr, ℕ, List, [], ◌∷◌, length, get_or, refl, sym, ap, arith}
use Rattle.pg_gate.specs.Gated.{Batches}
use Rattle.pg_gate.specs.Spans.{spans_of}
use Rattle.pg_gate.proofs.Unique.{opened_long, short_unique}

-- an open gate, the length 5, five bytes and a gate that isn't open
fifteen : List ℕ
fifteen = 1 ∷ 0 ∷ 0 ∷ 0 ∷ 0 ∷ 0 ∷ 0 ∷ 0 ∷ 5 ∷ 1 ∷ 0 ∷ 0 ∷ 0 ∷ 1 ∷ 0 ∷ []

payload : List ℕ
payload = 1 ∷ 0 ∷ 0 ∷ 0 ∷ 1 ∷ []

one_batch : Batches fifteen (payload ∷ [])
unfolding fifteen payload
one_batch = inr (0, [], omega arith, refl)

-- and no others
no_other : (batches : List (List ℕ)) → Batches fifteen batches → batches ≡ payload ∷ []
unfolding fifteen
no_other batches has = short_unique fifteen batches (payload ∷ []) (omega arith) has one_batch

-- its payload stands behind the gate and the length
one_place : spans_of 0 (payload ∷ []) ≡ record { at = 9; length = 5 } ∷ []
unfolding payload
one_place = refl

-- one byte is no batch, whatever it is
lone_seven : Batches (7 ∷ []) []
lone_seven = inl (omega arith, refl)

lone_zero : Batches (0 ∷ []) []
lone_zero = inl (omega arith, refl)

lone_one : Batches (1 ∷ []) []
lone_one = inl (omega arith, refl)

-- what stands behind a gate that isn't open doesn't count
behind_shut : (behind : List ℕ) → Batches (0 ∷ behind) []
behind_shut behind = inr (0, behind, omega arith, refl)

behind_the_batch : Batches (1 ∷ 0 ∷ 0 ∷ 0 ∷ 0 ∷ 0 ∷ 0 ∷ 0 ∷ 1 ∷ 9 ∷ 7 ∷ 1 ∷ 2 ∷ 3 ∷ []) ((9 ∷ []) ∷ [])
behind_the_batch = inr (7, 1 ∷ 2 ∷ 3 ∷ [], omega arith, refl)

-- where a batch is cut short there is no list of batches
cut_short : (batches : List (List ℕ)) → Batches (1 ∷ 0 ∷ 0 ∷ []) batches → ⊥
cut_short batches (inl none) = absurd (omega (arith, none.0))
cut_short [] (inr some) = some.2 (sym (ap (λ (l : List ℕ). get_or l 0 0) some.3))
cut_short (p ∷ ps) (inr some) = absurd (omega (arith, ap length some.3, opened_long p ps some.0 some.1))
