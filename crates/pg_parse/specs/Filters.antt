-- Filters: texts whose tokens are words that the grammar reads.
use Rattle.std.specs.Prelude.{◌≡◌, ℕ, zero, suc, pos, true, false, List, [], ◌∷◌, length, Result, Ok, Err}
use Rattle.pg_lex.specs.declared.token.Token.{Token}
use Rattle.pg_lex.specs.declared.token.TokenKind.{TokenKind}
use Rattle.pg_lex.specs.declared.token.TokenKind.TheVariants as kinds
use Rattle.pg_lex.specs.declared.reserved_word.ReservedWord.{ReservedWord}
use Rattle.pg_lex.specs.declared.reserved_word.ReservedWord.TheVariants as reserved
use Rattle.pg_lex.specs.declared.symbol.Symbol.{Symbol}
use Rattle.pg_lex.specs.declared.symbol.Symbol.TheVariants as symbols
use Rattle.pg_lex.specs.Spelling.{SpellsWord, sign_of, value_of, quoted}
use Rattle.pg_lex.specs.Tokens.{spelling_of, AreTokensOf}
use Rattle.pg_parse.specs.declared.op.Op.TheVariants as ops
use Rattle.pg_parse.specs.declared.word.Word.{Word}
use Rattle.pg_parse.specs.declared.word.Word.TheVariants as words
use Rattle.pg_parse.specs.declared.word.Mark.TheVariants as marks
use Rattle.pg_parse.specs.declared.tree.Tree.{Tree}
use Rattle.pg_parse.specs.declared.refusal.FilterError.{FilterError}
use Rattle.pg_parse.specs.declared.refusal.FilterError.TheVariants as errors
use Rattle.pg_parse.specs.Grammar.{mark, ReadsWords, IsRefusedAt}

abbrev pub word_says : ReservedWord → Word
word_says reserved.And = mark marks.And
word_says reserved.Or = mark marks.Or
word_says reserved.Not = mark marks.Not
word_says reserved.Between = mark marks.Between
word_says reserved.In = mark marks.In
word_says reserved.Like = mark marks.Like
word_says reserved.Escape = mark marks.Escape
word_says reserved.Is = mark marks.Is
word_says reserved.Null = mark marks.Null
word_says reserved.True = words.Truth true
word_says reserved.False = words.Truth false

abbrev pub symbol_says : Symbol → Word
symbol_says symbols.Equal = words.Compared ops.Equal
symbol_says symbols.Unequal = words.Compared ops.Unequal
symbol_says symbols.Less = words.Compared ops.Less
symbol_says symbols.LessEqual = words.Compared ops.LessEqual
symbol_says symbols.Greater = words.Compared ops.Greater
symbol_says symbols.GreaterEqual = words.Compared ops.GreaterEqual
symbol_says symbols.Plus = mark marks.Plus
symbol_says symbols.Minus = mark marks.Minus
symbol_says symbols.Star = mark marks.Star
symbol_says symbols.Open = mark marks.Open
symbol_says symbols.Close = mark marks.Close
symbol_says symbols.Comma = mark marks.Comma

-- the word that a token of the kind says that is spelled so
abbrev pub Says : TokenKind → List ℕ → Word → Type 0
Says kinds.Reserved spelling word = (name : ReservedWord) × SpellsWord name spelling × (word ≡ word_says name)
Says kinds.Name spelling word = word ≡ words.Name spelling
Says kinds.Whole spelling word = word ≡ words.Whole (pos (value_of spelling))
Says kinds.Text spelling word = (text : List ℕ) × (spelling ≡ quoted text) × (word ≡ words.Text text)
Says kinds.Symbol spelling word = (symbol : Symbol) × (spelling ≡ sign_of symbol) × (word ≡ symbol_says symbol)
Says kinds.Bad spelling word = word ≡ words.Bad

-- one word for each token, in their order
abbrev pub Say : List ℕ → List Token → List Word → Type 0
Say filter [] [] = Unit {0}
Say filter (token ∷ tokens) (word ∷ rest) = Says token.kind (spelling_of filter token) word × Say filter tokens rest
Say _ _ _ = ⊥

-- the filter has these tokens, which say these words
pub record HasWords (filter : List ℕ) (tokens : List Token) (said : List Word) : Type 0 where
  pub are : AreTokensOf filter tokens
  pub say : Say filter tokens said

-- the text is a filter, and this is its tree
pub record Reads (filter : List ℕ) (tree : Tree) : Type 0 where
  pub tokens : List Token
  pub said : List Word
  pub has : HasWords filter tokens said
  pub reads : ReadsWords said tree

-- where the token of this place begins, or where there is none, the text's length
abbrev pub offset_of : List ℕ → List Token → ℕ → ℕ
offset_of filter [] place = length filter
offset_of filter (token ∷ tokens) zero = token.from
offset_of filter (token ∷ tokens) (suc place) = offset_of filter tokens place

-- The text is no filter. Here begins the first token that can follow the tokens before it in no filter; or all of them
-- can be followed, and this is the text's length.
pub record IsBadAt (filter : List ℕ) (at : ℕ) : Type 0 where
  pub tokens : List Token
  pub said : List Word
  pub has : HasWords filter tokens said
  pub place : ℕ
  pub refused : IsRefusedAt said place
  pub offset : at ≡ offset_of filter tokens place

abbrev pub IsCause : List ℕ → FilterError → Type 0
IsCause filter errors.Memory = Unit {0}
IsCause filter (errors.BadFilter at) = IsBadAt filter at

-- this tree, or want of memory
abbrev pub IsTreeOrMemory : Tree → Result Tree FilterError → Type 0
IsTreeOrMemory tree (Ok other) = other ≡ tree
IsTreeOrMemory tree (Err errors.Memory) = Unit {0}
IsTreeOrMemory tree (Err (errors.BadFilter at)) = ⊥
