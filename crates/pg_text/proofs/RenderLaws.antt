-- Texts are written byte by byte, with each quote twice.
use Rattle.std.proofs.Common.{◌≡◌, ℕ, Bool, true, false, cond, eqb, List, [], ◌∷◌, ◌++◌, refl}
use Rattle.pg_msg.proofs.FieldLaws.{IsChain}
use Rattle.pg_text.specs.Texts.{doubled}

abbrev pub byte_doubled : ℕ → List ℕ
byte_doubled byte = doubled (byte ∷ [])

one_byte : (byte : ℕ) (bytes : List ℕ) (test : Bool) → cond test (39 ∷ 39 ∷ bytes) (byte ∷ bytes) ≡ cond test (39 ∷ 39 ∷ []) (byte ∷ []) ++ bytes
one_byte byte bytes true = refl
one_byte byte bytes false = refl

pub doubled_chain : IsChain byte_doubled doubled
doubled_chain = record { none = refl; more = λ byte bytes. one_byte byte (doubled bytes) (eqb byte 39) }
