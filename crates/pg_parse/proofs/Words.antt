-- The words that tokens say, and the places where these begin.
use Rattle.std.proofs.Common.{◌≡◌, ◌<◌, ◌≤◌, ℕ, zero, suc, List, [], ◌∷◌, ◌++◌, length, refl, sym, ◌∙◌, ap, subst, append_assoc, append-nil, get_or, arith}
use Rattle.pg_lex.specs.declared.token.Token.{Token}
use Rattle.pg_lex.specs.declared.token.TokenKind.{TokenKind}
use Rattle.pg_lex.specs.declared.token.TokenKind.TheVariants as kinds
use Rattle.pg_lex.specs.Tokens.{IsTokenIn, HasFrom, AreTokensOf, spelling_of}
use Rattle.pg_lex.proofs.SpellingLaws.{word_one, symbol_one, text_one}
use Rattle.pg_lex.proofs.TokenLaws.{tokens_one}
use Rattle.pg_parse.specs.declared.word.Word.{Word}
use Rattle.pg_parse.specs.declared.word.Word.TheVariants as words
use Rattle.pg_parse.specs.declared.tree.Tree.{Tree}
use Rattle.pg_parse.specs.Grammar.{ReadsWords}
use Rattle.pg_parse.specs.Filters.{word_says, symbol_says, Says, Say, Reads, offset_of}

-- what was said so far by the tokens before the rest
pub record SaidSoFar (filter : List ℕ) (tokens rest : List Token) (said : List Word) : Type 0 where
  pub front : List Token
  pub place : ℕ
  pub split : tokens ≡ front ++ rest
  pub from : HasFrom filter place rest
  pub say : Say filter front said

pub said_none : (filter : List ℕ) (tokens : List Token) → AreTokensOf filter tokens → SaidSoFar filter tokens tokens []
said_none filter tokens are = record { front = []; place = 0; split = refl; from = are; say = tt }

pub say_push : (filter : List ℕ) (front : List Token) (said : List Word) (token : Token) (word : Word) → Say filter front said → Says token.kind (spelling_of filter token) word → Say filter (front ++ (token ∷ [])) (said ++ (word ∷ []))
say_push filter [] [] token word s e = (e, tt)
say_push filter [] (w ∷ said) token word s e = elim s [ ]
say_push filter (t ∷ front) [] token word s e = elim s [ ]
say_push filter (t ∷ front) (w ∷ said) token word s e = (s.0, say_push filter front said token word s.1 e)

pub token_in : (filter : List ℕ) (tokens : List Token) (token : Token) (behind : List Token) (said : List Word) → SaidSoFar filter tokens (token ∷ behind) said → IsTokenIn filter token
token_in filter tokens token behind said s = s.from.1

pub said_more : (filter : List ℕ) (tokens : List Token) (token : Token) (behind : List Token) (said : List Word) (word : Word) → SaidSoFar filter tokens (token ∷ behind) said
    → Says token.kind (spelling_of filter token) word → SaidSoFar filter tokens behind (said ++ (word ∷ []))
said_more filter tokens token behind said word s e = record {
  front = s.front ++ (token ∷ []);
  place = token.to;
  split = s.split ∙ sym (append_assoc s.front (token ∷ []) behind);
  from = s.from.2;
  say = say_push filter s.front said token word s.say e;
}

pub said_all : (filter : List ℕ) (tokens rest : List Token) (said : List Word) → length rest ≡ 0 → SaidSoFar filter tokens rest said → Say filter tokens said
said_all filter tokens [] said none s = subst (λ ts. Say filter ts said) (sym (s.split ∙ append-nil s.front)) s.say
said_all filter tokens (t ∷ rest) said none s = elim (let some : suc (length rest) ≡ 0 = none in let no : ⊥ = cc some in no) [ ]

-- a token says one word
pub says_one : (kind : TokenKind) (spelling : List ℕ) (v w : Word) → Says kind spelling v → Says kind spelling w → v ≡ w
says_one kinds.Reserved spelling v w a b = a.2 ∙ (ap word_says (word_one spelling a.0 b.0 a.1 b.1) ∙ sym b.2)
says_one kinds.Name spelling v w a b = a ∙ sym b
says_one kinds.Whole spelling v w a b = a ∙ sym b
says_one kinds.Text spelling v w a b = a.2 ∙ (ap (λ t. words.Text t) (text_one a.0 b.0 (sym a.1 ∙ b.1)) ∙ sym b.2)
says_one kinds.Symbol spelling v w a b = a.2 ∙ (ap symbol_says (symbol_one a.0 b.0 (sym a.1 ∙ b.1)) ∙ sym b.2)
says_one kinds.Bad spelling v w a b = a ∙ sym b

pub say_one : (filter : List ℕ) (tokens : List Token) (a b : List Word) → Say filter tokens a → Say filter tokens b → a ≡ b
say_one filter [] [] [] s r = refl
say_one filter [] [] (w ∷ b) s r = elim r [ ]
say_one filter [] (v ∷ a) b s r = elim s [ ]
say_one filter (t ∷ tokens) [] b s r = elim s [ ]
say_one filter (t ∷ tokens) (v ∷ a) [] s r = elim r [ ]
say_one filter (t ∷ tokens) (v ∷ a) (w ∷ b) s r =
    let first : v ≡ w = says_one t.kind (spelling_of filter t) v w s.0 r.0 in
    let others : a ≡ b = say_one filter tokens a b s.1 r.1 in cc

-- where a token begins

pub no_place : (tokens : List Token) → suc (length tokens) ≤ 0 → ⊥
no_place tokens past = omega arith

pub offset_some : (filter : List ℕ) (tokens : List Token) (place : ℕ) (token : Token) → place < length tokens → token ≡ get_or tokens place token → token.from ≡ offset_of filter tokens place
offset_some filter [] place token within e = omega arith
offset_some filter (t ∷ tokens) zero token within e = ap (λ (t : Token). t.from) e
offset_some filter (t ∷ tokens) (suc place) token within e = offset_some filter tokens place token (omega arith) e

pub offset_none : (filter : List ℕ) (tokens : List Token) (place : ℕ) → length tokens ≤ place → length filter ≡ offset_of filter tokens place
offset_none filter [] place past = refl
offset_none filter (t ∷ tokens) zero past = elim (no_place tokens past) [ ]
offset_none filter (t ∷ tokens) (suc place) past = offset_none filter tokens place (omega arith)

-- a filter's words are those that its tokens say
pub reads_said : (filter : List ℕ) (tokens : List Token) (said : List Word) (tree : Tree) → AreTokensOf filter tokens → Say filter tokens said → Reads filter tree → ReadsWords said tree
reads_said filter tokens said tree are say r =
    let same : r.tokens ≡ tokens = tokens_one filter r.tokens tokens r.has.are are in
    let words_same : r.said ≡ said = say_one filter tokens r.said said (subst (λ ts. Say filter ts r.said) same r.has.say) say in
    subst (λ ws. ReadsWords ws tree) words_same r.reads
