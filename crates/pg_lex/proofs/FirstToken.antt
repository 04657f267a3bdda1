-- What stands first is one token.
use Rattle.std.proofs.Common.{◌≡◌, ◌≢◌, ◌≤◌, ◌<◌, ◌+◌, ◌||◌, cond, get_or, take-append-drop, ℕ, Bool, true, false, List, [], ◌∷◌, ◌++◌, length, take, drop, if◌then◌else◌, refl, sym, ◌∙◌, ap, subst, arith, rules, append_assoc, append-nil}
use Rattle.std.specs.Char.{is_ascii_digit}
use Rattle.std.specs.List.{prefix_len}
use Rattle.std.proofs.lemmas.List.Sums.{prefix_len-le-length}
use Rattle.pg_lex.specs.Characters.{is_quote, is_blank, begins_identifier, continues_identifier, NotNext}
use Rattle.pg_lex.specs.Spelling.{IsRun, IsIdentifier, IsReserved, IsDigits, IsWhole, IsSymbol, IsQuoted, sign_of, doubled, quoted}
use Rattle.pg_lex.specs.Tokens.{IsRead, IsTokenOf, NothingReads, Lengthens}
use Rattle.pg_lex.specs.declared.symbol.Symbol.{Symbol as SymbolOf}
use Rattle.pg_lex.specs.declared.token.TokenKind.{TokenKind}
use Rattle.pg_lex.specs.declared.token.TokenKind.TheVariants.{Reserved, Name, Whole, Text, Symbol, Bad}
use Rattle.pg_lex.proofs.QuoteLemmas.{one_text}
use Rattle.pg_lex.proofs.Runs.{one_run, take-one_more, each_passes, next_fails}

-- kinds that begin alike: words, wholes, texts, symbols
abbrev pub class_of : TokenKind → ℕ
class_of Reserved = 0
class_of Name = 0
class_of Whole = 1
class_of Text = 2
class_of Symbol = 3
class_of Bad = 4

-- by the first character
abbrev pub class_at : ℕ → ℕ
class_at c = if begins_identifier c then 0 else (if is_ascii_digit c then 1 else (if is_quote c then 2 else 3))

abbrev pub class_first : List ℕ → ℕ
class_first [] = 5
class_first (c ∷ cs) = class_at c

class_identifier : (spelling behind : List ℕ) → IsIdentifier spelling → class_first (spelling ++ behind) ≡ 0
class_identifier [] behind is = absurd is
class_identifier (c ∷ cs) behind is = ap (λ (b : Bool). if b then 0 else (if is_ascii_digit c then 1 else (if is_quote c then 2 else 3))) is.0

-- a digit begins no identifier
digit_begins_none : (c : ℕ) → is_ascii_digit c ≡ true → begins_identifier c ≡ false
digit_begins_none c is = search rules

class_digits : (spelling behind : List ℕ) → IsDigits spelling → class_first (spelling ++ behind) ≡ 1
class_digits [] behind is = absurd is
class_digits (c ∷ cs) behind is =
    ap (λ (b : Bool). if b then 0 else (if is_ascii_digit c then 1 else (if is_quote c then 2 else 3))) (digit_begins_none c is.0) ∙ ap (λ (b : Bool). if b then 1 else (if is_quote c then 2 else 3)) is.0

class_symbol : (s : SymbolOf) (behind : List ℕ) → class_first (sign_of s ++ behind) ≡ 3
class_symbol s behind = search rules

-- the first character tells the class
pub class_read : (kind : TokenKind) (spelling behind : List ℕ) → IsRead kind spelling behind → class_first (spelling ++ behind) ≡ class_of kind
class_read Reserved spelling behind read = class_identifier spelling behind read.0
class_read Name spelling behind read = class_identifier spelling behind read.0
class_read Whole spelling behind read = class_digits spelling behind read.0.0
class_read Text spelling behind read = ap (λ (l : List ℕ). class_first (l ++ behind)) read.0.1
class_read Symbol spelling behind read = ap (λ (l : List ℕ). class_first (l ++ behind)) read.0.1 ∙ class_symbol read.0.0 behind
class_read Bad spelling behind read = absurd read

-- the longest run at the front is one
one_front : (begins continues : ℕ → Bool) (a b c d : List ℕ) → IsRun begins continues a → NotNext continues b → IsRun begins continues c → NotNext continues d → a ++ b ≡ c ++ d → a ≡ c
one_front begins continues [] b c d ia nb ic nd same = absurd ia
one_front begins continues (x ∷ xs) b [] d ia nb ic nd same = absurd ic
one_front begins continues (x ∷ xs) b (y ∷ ys) d ia nb ic nd same =
    let first : x ≡ y = cc in
    let rest : xs ++ b ≡ ys ++ d = cc in
    let tails : xs ≡ ys = (one_run continues xs b ys d ia.1 nb ic.1 nd rest).0 in
    cc

one_identifier : (a b c d : List ℕ) → IsIdentifier a → NotNext continues_identifier b → IsIdentifier c → NotNext continues_identifier d → a ++ b ≡ c ++ d → a ≡ c
one_identifier a b c d = one_front begins_identifier continues_identifier a b c d

one_digits : (a b c d : List ℕ) → IsDigits a → NotNext is_ascii_digit b → IsDigits c → NotNext is_ascii_digit d → a ++ b ≡ c ++ d → a ≡ c
one_digits a b c d = one_front is_ascii_digit is_ascii_digit a b c d

-- the text, with its end and what is behind it
pub quoted_then : (t b : List ℕ) → quoted t ++ b ≡ 39 ∷ (doubled t ++ (39 ∷ b))
quoted_then t b = ap (λ (l : List ℕ). 39 ∷ l) (append_assoc (doubled t) (39 ∷ []) b)

one_quoted : (a b c d : List ℕ) → IsQuoted a → NotNext is_quote b → IsQuoted c → NotNext is_quote d → a ++ b ≡ c ++ d → a ≡ c
one_quoted a b c d ia nb ic nd same =
    let long : 39 ∷ (doubled ia.0 ++ (39 ∷ b)) ≡ 39 ∷ (doubled ic.0 ++ (39 ∷ d)) = sym (quoted_then ia.0 b) ∙ ap (λ (l : List ℕ). l ++ b) (sym ia.1) ∙ same ∙ ap (λ (l : List ℕ). l ++ d) ic.1 ∙ quoted_then ic.0 d in
    let inner : doubled ia.0 ++ (39 ∷ b) ≡ doubled ic.0 ++ (39 ∷ d) = cc in
    ia.1 ∙ ap quoted (one_text ia.0 ic.0 (39 ∷ b) (39 ∷ d) (refl, nb) (refl, nd) inner).0 ∙ sym ic.1

-- a symbol has one character or two
abbrev pub IsShort : List ℕ → Type 0
IsShort [] = ⊥
IsShort (x ∷ []) = Unit {0}
IsShort (x ∷ (y ∷ [])) = Unit {0}
IsShort (x ∷ (y ∷ (z ∷ zs))) = ⊥

pub sign_short : (s : SymbolOf) → IsShort (sign_of s)
sign_short s = search rules

-- of two symbols that begin alike, the shorter one would go on
shorter : (x : ℕ) (b : List ℕ) (y z : ℕ) (d : List ℕ) → (Lengthens (x ∷ []) b → ⊥) → IsSymbol (y ∷ (z ∷ [])) → x ∷ b ≡ y ∷ (z ∷ d) → ⊥
shorter x [] y z d longest is same = let e : [] ≡ z ∷ d = cc in cc
shorter x (w ∷ b) y z d longest is same =
    let e : x ∷ (w ∷ []) ≡ y ∷ (z ∷ []) = cc in
    longest (subst IsSymbol (sym e) is)

one_short : (a b c d : List ℕ) → IsShort a → IsShort c → IsSymbol a → (Lengthens a b → ⊥) → IsSymbol c → (Lengthens c d → ⊥) → a ++ b ≡ c ++ d → a ≡ c
one_short [] b c d sa sc ia la ic lc same = absurd sa
one_short (x ∷ []) b [] d sa sc ia la ic lc same = absurd sc
one_short (x ∷ []) b (y ∷ []) d sa sc ia la ic lc same = cc
one_short (x ∷ []) b (y ∷ (z ∷ [])) d sa sc ia la ic lc same = absurd (shorter x b y z d la ic same)
one_short (x ∷ []) b (y ∷ (z ∷ (v ∷ vs))) d sa sc ia la ic lc same = absurd sc
one_short (x ∷ (w ∷ [])) b [] d sa sc ia la ic lc same = absurd sc
one_short (x ∷ (w ∷ [])) b (y ∷ []) d sa sc ia la ic lc same = absurd (shorter y d x w b lc ia (sym same))
one_short (x ∷ (w ∷ [])) b (y ∷ (z ∷ [])) d sa sc ia la ic lc same = cc
one_short (x ∷ (w ∷ [])) b (y ∷ (z ∷ (v ∷ vs))) d sa sc ia la ic lc same = absurd sc
one_short (x ∷ (w ∷ (u ∷ us))) b c d sa sc ia la ic lc same = absurd sa

one_symbol : (a b c d : List ℕ) → IsSymbol a → (Lengthens a b → ⊥) → IsSymbol c → (Lengthens c d → ⊥) → a ++ b ≡ c ++ d → a ≡ c
one_symbol a b c d ia la ic lc same = one_short a b c d (subst IsShort (sym ia.1) (sign_short ia.0)) (subst IsShort (sym ic.1) (sign_short ic.0)) ia la ic lc same

-- tokens that are read from the same characters have the same class
same_class : (k l : TokenKind) (a b c d : List ℕ) → IsRead k a b → IsRead l c d → a ++ b ≡ c ++ d → class_of k ≡ class_of l
same_class k l a b c d ra rc same = sym (class_read k a b ra) ∙ ap class_first same ∙ class_read l c d rc

-- at most one token is read
pub one_read : (k l : TokenKind) (a b c d : List ℕ) → IsRead k a b → IsRead l c d → a ++ b ≡ c ++ d → (k ≡ l) × (a ≡ c)
one_read Reserved Reserved a b c d ra rc same = (refl, one_identifier a b c d ra.0 ra.2 rc.0 rc.2 same)
one_read Reserved Name a b c d ra rc same = absurd (rc.1 (subst IsReserved (one_identifier a b c d ra.0 ra.2 rc.0 rc.2 same) ra.1))
one_read Name Reserved a b c d ra rc same = absurd (ra.1 (subst IsReserved (sym (one_identifier a b c d ra.0 ra.2 rc.0 rc.2 same)) rc.1))
one_read Name Name a b c d ra rc same = (refl, one_identifier a b c d ra.0 ra.2 rc.0 rc.2 same)
one_read Whole Whole a b c d ra rc same = (refl, one_digits a b c d ra.0.0 ra.1 rc.0.0 rc.1 same)
one_read Text Text a b c d ra rc same = (refl, one_quoted a b c d ra.0 ra.1 rc.0 rc.1 same)
one_read Symbol Symbol a b c d ra rc same = (refl, one_symbol a b c d ra.0 ra.1 rc.0 rc.1 same)
one_read k l a b c d ra rc same = let e = same_class k l a b c d ra rc same in absurd (omega (arith, e))

-- a token has a first character, and it is no blank
pub record HasFirst (spelling : List ℕ) : Type 0 where
  pub first : ℕ
  pub more : List ℕ
  pub split : spelling ≡ first ∷ more
  pub no_blank : is_blank first ≡ false

identifier_no_blank : (c : ℕ) → begins_identifier c ≡ true → is_blank c ≡ false
identifier_no_blank c is = search rules

digit_no_blank : (c : ℕ) → is_ascii_digit c ≡ true → is_blank c ≡ false
digit_no_blank c is = search rules

first_run : (begins continues : ℕ → Bool) → ((c : ℕ) → begins c ≡ true → is_blank c ≡ false) → (spelling : List ℕ) → IsRun begins continues spelling → HasFirst spelling
first_run begins continues passes [] is = absurd is
first_run begins continues passes (c ∷ cs) is = record { first = c; more = cs; split = refl; no_blank = passes c is.0 }

first_short : (spelling : List ℕ) → IsShort spelling → NotNext is_blank spelling → HasFirst spelling
first_short [] short next = absurd short
first_short (c ∷ cs) short next = record { first = c; more = cs; split = refl; no_blank = next }

sign_no_blank : (s : SymbolOf) → NotNext is_blank (sign_of s)
sign_no_blank s = search rules

first_symbol : (s : SymbolOf) → HasFirst (sign_of s)
first_symbol s = first_short (sign_of s) (sign_short s) (sign_no_blank s)

first_bad : (spelling : List ℕ) → spelling ≢ [] → NotNext is_blank spelling → HasFirst spelling
first_bad [] some next = absurd (some refl)
first_bad (c ∷ cs) some next = record { first = c; more = cs; split = refl; no_blank = next }

pub has_first : (kind : TokenKind) (spelling behind : List ℕ) → IsTokenOf kind spelling behind → HasFirst spelling
has_first Reserved spelling behind is = first_run begins_identifier continues_identifier identifier_no_blank spelling is.0
has_first Name spelling behind is = first_run begins_identifier continues_identifier identifier_no_blank spelling is.0
has_first Whole spelling behind is = first_run is_ascii_digit is_ascii_digit digit_no_blank spelling is.0.0
has_first Text spelling behind is = record { first = 39; more = doubled is.0.0 ++ (39 ∷ []); split = is.0.1; no_blank = refl }
has_first Symbol spelling behind is = subst HasFirst (sym is.0.1) (first_symbol is.0.0)
has_first Bad spelling behind is = first_bad spelling is.1 is.2

-- at most one token stands first
pub one_token : (k l : TokenKind) (a b c d : List ℕ) → IsTokenOf k a b → IsTokenOf l c d → a ++ b ≡ c ++ d → (k ≡ l) × (a ≡ c)
one_token Bad Bad a b c d ra rc same = (refl, sym (append-nil a) ∙ ap (λ (l : List ℕ). a ++ l) (sym ra.0) ∙ same ∙ ap (λ (l : List ℕ). c ++ l) rc.0 ∙ append-nil c)
one_token Bad l a b c d ra rc same = absurd (ra.3 l c d (sym (append-nil a) ∙ ap (λ (m : List ℕ). a ++ m) (sym ra.0) ∙ same) rc)
one_token k Bad a b c d ra rc same = absurd (rc.3 k a b (sym (append-nil c) ∙ ap (λ (m : List ℕ). c ++ m) (sym rc.0) ∙ sym same) ra)
one_token k l a b c d ra rc same = one_read k l a b c d ra rc same

run_by : (begins continues : ℕ → Bool) (c : ℕ) (cs : List ℕ) (b : Bool) → b ≡ true → begins c ≡ true → IsRun begins continues (take (cond b (1 + prefix_len continues cs) 0) (c ∷ cs))
run_by begins continues c cs true is first = subst (IsRun begins continues) (sym (take-one_more (prefix_len continues cs) c cs)) (first, each_passes continues cs)
run_by begins continues c cs false is first = cc

run_front : (begins continues : ℕ → Bool) → ((c : ℕ) → begins c ≡ true → continues c ≡ true) → (rest : List ℕ) → 0 < length rest → begins (get_or rest 0 0) ≡ true → IsRun begins continues (take (prefix_len continues rest) rest)
run_front begins continues passes [] some first = absurd (omega (arith, some))
run_front begins continues passes (c ∷ cs) some first = run_by begins continues c cs (continues c) (passes c first) first

-- the run that begins here
run_read : (begins continues : ℕ → Bool) → ((c : ℕ) → begins c ≡ true → continues c ≡ true) → (rest : List ℕ) (n : ℕ) → 0 < length rest → begins (get_or rest 0 0) ≡ true → n ≡ prefix_len continues rest → (n ≤ length rest) × IsRun begins continues (take n rest) × NotNext continues (drop n rest)
run_read begins continues passes rest n some first is = (
  omega (arith, is, prefix_len-le-length continues rest),
  subst (λ m. IsRun begins continues (take m rest)) (sym is) (run_front begins continues passes rest some first),
  subst (λ m. NotNext continues (drop m rest)) (sym is) (next_fails continues rest),
)

begins_continues : (c : ℕ) → begins_identifier c ≡ true → continues_identifier c ≡ true
begins_continues c begins = ap (λ (b : Bool). b || is_ascii_digit c) begins

-- the identifier that begins here
pub identifier_read : (rest : List ℕ) (n : ℕ) → 0 < length rest → begins_identifier (get_or rest 0 0) ≡ true → n ≡ prefix_len continues_identifier rest → (n ≤ length rest) × IsIdentifier (take n rest) × NotNext continues_identifier (drop n rest)
identifier_read rest n = run_read begins_identifier continues_identifier begins_continues rest n

-- the digits that begin here
pub digits_read : (rest : List ℕ) (n : ℕ) → 0 < length rest → is_ascii_digit (get_or rest 0 0) ≡ true → n ≡ prefix_len is_ascii_digit rest → (n ≤ length rest) × IsDigits (take n rest) × NotNext is_ascii_digit (drop n rest)
digits_read rest n = run_read is_ascii_digit is_ascii_digit (λ c digit. digit) rest n

-- the class of what begins with a digit
class_whole : (rest : List ℕ) → 0 < length rest → is_ascii_digit (get_or rest 0 0) ≡ true → class_first rest ≡ 1
class_whole [] some digit = absurd (omega (arith, some))
class_whole (c ∷ cs) some digit = class_digits (c ∷ []) cs (digit, tt)

-- digits that are no whole: nothing is read
pub no_whole : (rest : List ℕ) (n : ℕ) → 0 < length rest → is_ascii_digit (get_or rest 0 0) ≡ true → n ≡ prefix_len is_ascii_digit rest → (IsWhole (take n rest) → ⊥) → NothingReads rest
no_whole rest n some digit is none Whole spelling behind split read =
    let run = digits_read rest n some digit is in
    none (subst IsWhole (sym (one_digits (take n rest) (drop n rest) spelling behind run.1 run.2 read.0.0 read.1 (take-append-drop n rest ∙ split))) read.0)
no_whole rest n some digit is none kind spelling behind split read =
    let e = sym (class_whole rest some digit) ∙ ap class_first split ∙ class_read kind spelling behind read in
    omega (arith, e)
