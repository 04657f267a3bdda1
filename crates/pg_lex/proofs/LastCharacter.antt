-- A token ends with an ASCII character, or where the filter ends.
use Rattle.std.proofs.Common.{◌≡◌, ◌<◌, ◌⊎◌, inl, inr, ℕ, Bool, true, List, [], ◌∷◌, ◌++◌, refl, sym, ap, subst, arith, rules}
use Rattle.std.specs.Char.{is_ascii_digit}
use Rattle.pg_lex.specs.Characters.{begins_identifier, continues_identifier, Each}
use Rattle.pg_lex.specs.Spelling.{IsRun, sign_of, doubled}
use Rattle.pg_lex.specs.Tokens.{IsTokenOf}
use Rattle.pg_lex.specs.declared.symbol.Symbol.{Symbol as SymbolOf}
use Rattle.pg_lex.specs.declared.symbol.Symbol.TheVariants.{Equal, Unequal, Less, LessEqual, Greater, GreaterEqual, Plus, Minus, Star, Open, Close, Comma}
use Rattle.pg_lex.specs.declared.token.TokenKind.{TokenKind}
use Rattle.pg_lex.specs.declared.token.TokenKind.TheVariants.{Reserved, Name, Whole, Text, Symbol, Bad}

abbrev pub EndsAscii : List ℕ → Type 0
EndsAscii spelling = (front : List ℕ) × (last : ℕ) × (spelling ≡ front ++ (last ∷ [])) × (last < 128)

abbrev pub EndsWell : List ℕ → List ℕ → Type 0
EndsWell spelling behind = (behind ≡ []) ⊎ EndsAscii spelling

continues_ascii : (c : ℕ) → continues_identifier c ≡ true → c < 128
continues_ascii c is = search rules

digit_ascii : (c : ℕ) → is_ascii_digit c ≡ true → c < 128
digit_ascii c is = search rules

-- the last of characters that pass a test of ASCII
last_passes : (test : ℕ → Bool) → ((c : ℕ) → test c ≡ true → c < 128) → (c : ℕ) (cs : List ℕ) → c < 128 → Each test cs → EndsAscii (c ∷ cs)
last_passes test ascii c [] is each = ([], c, refl, is)
last_passes test ascii c (d ∷ ds) is each =
    let more = last_passes test ascii d ds (ascii d each.0) each.1 in
    (c ∷ more.0, more.1, ap (λ (l : List ℕ). c ∷ l) more.2, more.3)

begins_ascii : (c : ℕ) → begins_identifier c ≡ true → c < 128
begins_ascii c is = search rules

last_run : (begins continues : ℕ → Bool) → ((c : ℕ) → begins c ≡ true → c < 128) → ((c : ℕ) → continues c ≡ true → c < 128) → (spelling : List ℕ) → IsRun begins continues spelling → EndsAscii spelling
last_run begins continues first others [] is = absurd is
last_run begins continues first others (c ∷ cs) is = last_passes continues others c cs (first c is.0) is.1

last_symbol : (s : SymbolOf) → EndsAscii (sign_of s)
last_symbol Equal = ([], 61, refl, omega arith)
last_symbol Unequal = (60 ∷ [], 62, refl, omega arith)
last_symbol Less = ([], 60, refl, omega arith)
last_symbol LessEqual = (60 ∷ [], 61, refl, omega arith)
last_symbol Greater = ([], 62, refl, omega arith)
last_symbol GreaterEqual = (62 ∷ [], 61, refl, omega arith)
last_symbol Plus = ([], 43, refl, omega arith)
last_symbol Minus = ([], 45, refl, omega arith)
last_symbol Star = ([], 42, refl, omega arith)
last_symbol Open = ([], 40, refl, omega arith)
last_symbol Close = ([], 41, refl, omega arith)
last_symbol Comma = ([], 44, refl, omega arith)

pub ends_well : (kind : TokenKind) (spelling behind : List ℕ) → IsTokenOf kind spelling behind → EndsWell spelling behind
ends_well Reserved spelling behind is = inr (last_run begins_identifier continues_identifier begins_ascii continues_ascii spelling is.0)
ends_well Name spelling behind is = inr (last_run begins_identifier continues_identifier begins_ascii continues_ascii spelling is.0)
ends_well Whole spelling behind is = inr (last_run is_ascii_digit is_ascii_digit digit_ascii digit_ascii spelling is.0.0)
ends_well Text spelling behind is = inr (39 ∷ doubled is.0.0, 39, is.0.1, omega arith)
ends_well Symbol spelling behind is = inr (subst EndsAscii (sym is.0.1) (last_symbol is.0.0))
ends_well Bad spelling behind is = inl is.0
