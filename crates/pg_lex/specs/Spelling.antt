-- How words, symbols, wholes and texts are spelled.
use Rattle.std.specs.Prelude.{◌≡◌, true, ◌<◌, ◌^◌, ◌+◌, ◌-◌, ◌*◌, ℕ, Bool, List, [], ◌∷◌, ◌++◌, map, codes, if◌then◌else◌, Option, MatchOption}
use Rattle.std.specs.Char.{to_ascii_uppercase, is_ascii_digit}
use Rattle.pg_lex.specs.Characters.{begins_identifier, continues_identifier, is_quote, Each}
use Rattle.pg_lex.specs.declared.reserved_word.ReservedWord.{ReservedWord}
use Rattle.pg_lex.specs.declared.reserved_word.ReservedWord.TheVariants.{And, Or, Not, Between, In, Like, Escape, Is, Null, True, False}
use Rattle.pg_lex.specs.declared.symbol.Symbol.{Symbol}
use Rattle.pg_lex.specs.declared.symbol.Symbol.TheVariants.{Equal, Unequal, Less, LessEqual, Greater, GreaterEqual, Plus, Minus, Star, Open, Close, Comma}

-- what was looked for, and none only where nothing is such
abbrev pub Finds : {T : Type 0} → (T → Type 0) → Option T → Type 0
Finds {T} P found = MatchOption found ((x : T) → P x → ⊥) P

-- a character that passes the first test, and others that pass the second
abbrev pub IsRun : (ℕ → Bool) → (ℕ → Bool) → List ℕ → Type 0
IsRun begins continues [] = ⊥
IsRun begins continues (c ∷ cs) = (begins c ≡ true) × Each continues cs

abbrev pub IsIdentifier : List ℕ → Type 0
IsIdentifier spelling = IsRun begins_identifier continues_identifier spelling

abbrev pub capitals : ReservedWord → List ℕ
capitals And = codes "AND"
capitals Or = codes "OR"
capitals Not = codes "NOT"
capitals Between = codes "BETWEEN"
capitals In = codes "IN"
capitals Like = codes "LIKE"
capitals Escape = codes "ESCAPE"
capitals Is = codes "IS"
capitals Null = codes "NULL"
capitals True = codes "TRUE"
capitals False = codes "FALSE"

-- in any case of letters
abbrev pub SpellsWord : ReservedWord → List ℕ → Type 0
SpellsWord word spelling = map to_ascii_uppercase spelling ≡ capitals word

abbrev pub IsReserved : List ℕ → Type 0
IsReserved spelling = (word : ReservedWord) × SpellsWord word spelling

abbrev pub sign_of : Symbol → List ℕ
sign_of Equal = codes "="
sign_of Unequal = codes "<>"
sign_of Less = codes "<"
sign_of LessEqual = codes "<="
sign_of Greater = codes ">"
sign_of GreaterEqual = codes ">="
sign_of Plus = codes "+"
sign_of Minus = codes "-"
sign_of Star = codes "*"
sign_of Open = codes "("
sign_of Close = codes ")"
sign_of Comma = codes ","

abbrev pub IsSymbol : List ℕ → Type 0
IsSymbol spelling = (symbol : Symbol) × (spelling ≡ sign_of symbol)

-- at least one digit
abbrev pub IsDigits : List ℕ → Type 0
IsDigits spelling = IsRun is_ascii_digit is_ascii_digit spelling

-- the number that the digits spell behind those of n
abbrev pub value_behind : ℕ → List ℕ → ℕ
value_behind n [] = n
value_behind n (c ∷ cs) = value_behind (10 * n + (c - 48)) cs

abbrev pub value_of : List ℕ → ℕ
value_of digits = value_behind 0 digits

-- digits of a number that is at most 9,223,372,036,854,775,807
abbrev pub IsWhole : List ℕ → Type 0
IsWhole spelling = IsDigits spelling × (value_of spelling < 2 ^ 63)

-- each quote of the text twice
abbrev pub doubled : List ℕ → List ℕ
doubled [] = []
doubled (c ∷ cs) = if is_quote c then (39 ∷ (39 ∷ doubled cs)) else (c ∷ doubled cs)

-- the text between quotes
abbrev pub quoted : List ℕ → List ℕ
quoted text = 39 ∷ (doubled text ++ (39 ∷ []))

abbrev pub IsQuoted : List ℕ → Type 0
IsQuoted spelling = (text : List ℕ) × (spelling ≡ quoted text)
