-- How names are spelled.
use Rattle.std.specs.Prelude.{◌≡◌, ◌⊎◌, ◌≤◌, ℕ, List, [], ◌∷◌, length, slice_index, All, codes}
use Rattle.std.specs.List.{Contains}
use Rattle.std.specs.Str.{str_to_ascii_lowercase}
use Rattle.pg_msg.specs.declared.limits.TheConstants.{LONGEST_NAME}

abbrev pub IsBetween : ℕ → ℕ → ℕ → Type 0
IsBetween low high n = (low ≤ n) × (n ≤ high)

-- a letter or `_`
abbrev pub IsNameStart : ℕ → Type 0
IsNameStart byte = IsBetween 65 90 byte ⊎ IsBetween 97 122 byte ⊎ (byte ≡ 95)

-- a letter, a digit, `_`, `.` or `-`
abbrev pub IsNameByte : ℕ → Type 0
IsNameByte byte = IsNameStart byte ⊎ IsBetween 48 57 byte ⊎ (byte ≡ 46) ⊎ (byte ≡ 45)

-- a name of an address, a queue, a consumer, a transaction or a large message
pub record IsName (name : List ℕ) : Type 0 where
  pub some : 1 ≤ length name
  pub short : length name ≤ LONGEST_NAME
  pub first : IsNameStart (slice_index name 0)
  pub each : All IsNameByte name

-- a letter, `_` or `$`
abbrev pub IsPropertyNameStart : ℕ → Type 0
IsPropertyNameStart byte = IsNameStart byte ⊎ (byte ≡ 36)

-- a letter, a digit, `_` or `$`
abbrev pub IsPropertyNameByte : ℕ → Type 0
IsPropertyNameByte byte = IsPropertyNameStart byte ⊎ IsBetween 48 57 byte

-- the words that filters are made of, which name no property
abbrev pub reserved_words : List (List ℕ)
reserved_words =
    codes "and" ∷ codes "or" ∷ codes "not" ∷ codes "between" ∷ codes "in" ∷ codes "like" ∷ codes "escape" ∷ codes "is" ∷ codes "null" ∷ codes "true" ∷ codes "false" ∷ []

-- one of those words, in any case of its letters
abbrev pub IsReserved : List ℕ → Type 0
IsReserved name = Contains reserved_words (str_to_ascii_lowercase name)

-- a name of a property
pub record IsPropertyName (name : List ℕ) : Type 0 where
  pub some : 1 ≤ length name
  pub short : length name ≤ LONGEST_NAME
  pub first : IsPropertyNameStart (slice_index name 0)
  pub each : All IsPropertyNameByte name
  pub unreserved : IsReserved name → ⊥
