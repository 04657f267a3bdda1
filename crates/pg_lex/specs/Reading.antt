-- The steps in which the first token is read.
use Rattle.std.specs.Prelude.{◌≡◌, ◌≢◌, ◌≤◌, ℕ, List, ◌++◌, length, take, drop, Option, MatchOption, false}
use Rattle.std.specs.Char.{is_ascii_digit}
use Rattle.pg_lex.specs.Characters.{begins_identifier, is_quote, NotNext}
use Rattle.pg_lex.specs.Spelling.{quoted}
use Rattle.pg_lex.specs.Tokens.{IsRead, NothingReads}
use Rattle.pg_lex.specs.declared.token.TokenKind.{TokenKind}

-- so many characters are a token of the kind
abbrev pub Reads : List ℕ → TokenKind → ℕ → Type 0
Reads rest kind n = (n ≤ length rest) × IsRead kind (take n rest) (drop n rest)

-- a token, or none where none is there
abbrev pub ReadsFirst : List ℕ → Option (TokenKind × ℕ) → Type 0
ReadsFirst rest found = MatchOption found (NothingReads rest) (λ token. Reads rest token.0 token.1)

-- no text in quotes stands at the front
abbrev pub NoText : List ℕ → Type 0
NoText rest = (text behind : List ℕ) → NotNext is_quote behind → rest ≢ quoted text ++ behind

-- the character begins no word, no whole and no text
abbrev pub IsOther : ℕ → Type 0
IsOther c = (begins_identifier c ≡ false) × (is_ascii_digit c ≡ false) × (c ≢ 39)
