-- The tokens of a filter.
use Rattle.std.specs.Prelude.{◌≡◌, ◌≢◌, ◌≤◌, ◌-◌, ℕ, List, [], ◌∷◌, ◌++◌, take, drop}
use Rattle.std.specs.Char.{is_ascii_digit}
use Rattle.std.specs.Str.{IsCharBoundary}
use Rattle.pg_lex.specs.Characters.{is_blank, continues_identifier, is_quote, Each, NotNext}
use Rattle.pg_lex.specs.Spelling.{IsIdentifier, IsReserved, IsSymbol, IsWhole, IsQuoted}
use Rattle.pg_lex.specs.declared.token.Token.{Token}
use Rattle.pg_lex.specs.declared.token.TokenKind.{TokenKind}
use Rattle.pg_lex.specs.declared.token.TokenKind.TheVariants.{Reserved, Name, Whole, Text, Symbol, Bad}

-- a symbol of one character more would be read
abbrev pub Lengthens : List ℕ → List ℕ → Type 0
Lengthens symbol [] = ⊥
Lengthens symbol (c ∷ behind) = IsSymbol (symbol ++ (c ∷ []))

-- The characters are spelled as a token of the kind, and what stands behind them doesn't go on with it.
abbrev pub IsRead : TokenKind → List ℕ → List ℕ → Type 0
IsRead Reserved spelling behind = IsIdentifier spelling × IsReserved spelling × NotNext continues_identifier behind
IsRead Name spelling behind = IsIdentifier spelling × (IsReserved spelling → ⊥) × NotNext continues_identifier behind
IsRead Whole spelling behind = IsWhole spelling × NotNext is_ascii_digit behind
IsRead Text spelling behind = IsQuoted spelling × NotNext is_quote behind
IsRead Symbol spelling behind = IsSymbol spelling × (Lengthens spelling behind → ⊥)
IsRead Bad spelling behind = ⊥

-- the characters begin with no token
abbrev pub NothingReads : List ℕ → Type 0
NothingReads rest = (kind : TokenKind) (spelling behind : List ℕ) → rest ≡ spelling ++ behind → IsRead kind spelling behind → ⊥

-- Where no token can be read, all that is left is one Bad token. It begins at no blank.
abbrev pub IsTokenOf : TokenKind → List ℕ → List ℕ → Type 0
IsTokenOf Bad spelling behind = (behind ≡ []) × (spelling ≢ []) × NotNext is_blank spelling × NothingReads spelling
IsTokenOf kind spelling behind = IsRead kind spelling behind

abbrev pub spelling_of : List ℕ → Token → List ℕ
spelling_of filter token = take (token.to - token.from) (drop token.from filter)

-- the token is a part of the filter, cut out between characters
pub record IsTokenIn (filter : List ℕ) (token : Token) : Type 0 where
  pub ordered : token.from ≤ token.to
  pub from : IsCharBoundary filter token.from
  pub to : IsCharBoundary filter token.to
  pub read : IsTokenOf token.kind (spelling_of filter token) (drop token.to filter)

-- between these places there are blanks alone
pub record AreBlanks (filter : List ℕ) (from to : ℕ) : Type 0 where
  pub ordered : from ≤ to
  pub blanks : Each is_blank (take (to - from) (drop from filter))

-- from this place on the filter has these tokens, with blanks before, between and behind them
abbrev pub HasFrom : List ℕ → ℕ → List Token → Type 0
HasFrom filter place [] = Each is_blank (drop place filter)
HasFrom filter place (token ∷ tokens) = AreBlanks filter place token.from × IsTokenIn filter token × HasFrom filter token.to tokens

-- all that the filter has are these tokens, in this order
abbrev pub AreTokensOf : List ℕ → List Token → Type 0
AreTokensOf filter tokens = HasFrom filter 0 tokens
