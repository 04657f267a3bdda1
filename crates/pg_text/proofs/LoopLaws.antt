-- Reading a text up to its end, and properties one behind the other, as a loop does.
use Rattle.std.proofs.Common.{◌≡◌, ℕ, zero, suc, ◌+◌, ◌-◌, ◌<◌, ◌≤◌, true, false, eqb, List, [], ◌∷◌, ◌++◌, length, Option, Some, None, inl, inr, refl, ap, sym, subst, ◌∙◌, append_assoc, arith, length-append}
use Rattle.std.proofs.lemmas.Bool.{false_from_ne_true, eqb-true}
use Rattle.std.proofs.lemmas.List.{append-nil}
use Rattle.pg_msg.specs.declared.fields.Unread.{Unread}
use Rattle.pg_msg.specs.declared.fields.Unread.TheVariants.{Malformed, Memory}
use Rattle.pg_msg.specs.declared.properties.Property.{Property}
use Rattle.pg_msg.specs.Reading.{Read, ◌>>=◌, Misses}
use Rattle.pg_msg.proofs.ValueLaws.{chosen}
use Rattle.std.specs.Prelude.{codes}
use Rattle.pg_text.specs.Reading.{behind, behind_byte, joined, quoted_from, property_at, each_at}
use Rattle.pg_text.proofs.PieceLaws.{behind_again, behind_takes}

joined_more : {X : Type 0} (front : List X) (x : X) (read : Read (List X)) → joined front (joined (x ∷ []) read) ≡ joined (front ++ x ∷ []) read
joined_more front x None = refl
joined_more {X} front x (Some read) = ap (λ (all : List X). Some (all, read.1)) (sym (append_assoc front (x ∷ []) read.0))

-- ---- a text

-- a byte that is no quote
pub quoted_on : (text rest behind_it line : List ℕ) (first : ℕ) → rest ≡ first ∷ behind_it → eqb first 39 ≡ false → joined text (quoted_from false rest) ≡ quoted_from false line → joined (text ++ first ∷ []) (quoted_from false behind_it) ≡ quoted_from false line
unfolding quoted_from
quoted_on text rest behind_it line first parts plain so_far =
    let step : joined text (quoted_from false rest) ≡ joined (text ++ first ∷ []) (quoted_from false behind_it) = rw (parts, plain) (joined_more text first (quoted_from false behind_it)) in
    sym step ∙ so_far

-- two quotes
pub quoted_twice : (text rest behind_it more line : List ℕ) (first : ℕ) → rest ≡ first ∷ behind_it → eqb first 39 ≡ true → behind (39 ∷ []) behind_it ≡ Some more → joined text (quoted_from false rest) ≡ quoted_from false line → joined (text ++ first ∷ []) (quoted_from false more) ≡ quoted_from false line
unfolding quoted_from
quoted_twice text rest behind_it more line first parts quote again so_far =
    let step : joined text (quoted_from false rest) ≡ joined (text ++ 39 ∷ []) (quoted_from false more) = rw (parts, quote, behind_takes (39 ∷ []) behind_it more again) (joined_more text 39 (quoted_from false more)) in
    rw (eqb-true first 39 quote) (sym step ∙ so_far)

one_quote : (line : List ℕ) → behind (39 ∷ []) line ≡ None → quoted_from true line ≡ Some ([], line)
unfolding quoted_from
one_quote [] none = refl
one_quote (byte ∷ line) none =
    let other : eqb byte 39 ≡ false = false_from_ne_true (eqb byte 39) (λ quote. let found = behind_again (39 ∷ []) line in
    let same : behind (39 ∷ []) (byte ∷ line) ≡ Some line = ap (λ (b : ℕ). behind (39 ∷ []) (b ∷ line)) (eqb-true byte 39 quote) ∙ found in cc) in
    rw other refl

-- one quote alone
pub quoted_done : (text rest behind_it line : List ℕ) (first : ℕ) → rest ≡ first ∷ behind_it → eqb first 39 ≡ true → behind (39 ∷ []) behind_it ≡ None → joined text (quoted_from false rest) ≡ quoted_from false line → quoted_from false line ≡ Some (text, behind_it)
unfolding quoted_from
quoted_done text rest behind_it line first parts quote none so_far =
    let step : joined text (quoted_from false rest) ≡ Some (text ++ [], behind_it) = rw (parts, quote, one_quote behind_it none) refl in
    sym so_far ∙ step ∙ ap (λ (all : List ℕ). Some (all, behind_it)) (append-nil text)

-- the text goes on behind its first byte
pub quoted_step : (text rest behind_it more line : List ℕ) (first : ℕ) → rest ≡ first ∷ behind_it → behind_byte first behind_it ≡ Some more → joined text (quoted_from false rest) ≡ quoted_from false line → joined (text ++ first ∷ []) (quoted_from false more) ≡ quoted_from false line
quoted_step text rest behind_it more line first parts left so_far = elim (chosen (eqb first 39) (behind (39 ∷ []) behind_it) (Some behind_it) (Some more) left) [
  | inl quote ↦ quoted_twice text rest behind_it more line first parts quote.0 quote.1 so_far
  | inr plain ↦ let same : behind_it ≡ more = let e = plain.1 in cc in subst (λ (xs : List ℕ). joined (text ++ first ∷ []) (quoted_from false xs) ≡ quoted_from false line) same (quoted_on text rest behind_it line first parts plain.0 so_far)
]

-- or it ends there
pub quoted_ends : (text rest behind_it line : List ℕ) (first : ℕ) → rest ≡ first ∷ behind_it → behind_byte first behind_it ≡ None → joined text (quoted_from false rest) ≡ quoted_from false line → quoted_from false line ≡ Some (text, behind_it)
quoted_ends text rest behind_it line first parts left so_far = elim (chosen (eqb first 39) (behind (39 ∷ []) behind_it) (Some behind_it) None left) [
  | inl quote ↦ quoted_done text rest behind_it line first parts quote.0 quote.1 so_far
  | inr plain ↦ absurd (let never = plain.1 in cc)
]

-- and less is left
pub less_left : (rest behind_it more : List ℕ) (first : ℕ) → rest ≡ first ∷ behind_it → behind_byte first behind_it ≡ Some more → length more < length rest
less_left rest behind_it more first parts left = elim (chosen (eqb first 39) (behind (39 ∷ []) behind_it) (Some behind_it) (Some more) left) [
  | inl quote ↦ let counted : length behind_it ≡ suc (length more) = ap length (behind_takes (39 ∷ []) behind_it more quote.1) in let whole : length rest ≡ suc (length behind_it) = ap length parts in omega arith
  | inr plain ↦ let same : behind_it ≡ more = let e = plain.1 in cc in let whole : length rest ≡ suc (length behind_it) = ap length parts in let counted : length behind_it ≡ length more = ap length same in omega arith
]

-- no quote
pub quoted_open : (text rest line : List ℕ) → length rest ≡ 0 → joined text (quoted_from false rest) ≡ quoted_from false line → quoted_from false line ≡ None
unfolding quoted_from
quoted_open text [] line nothing so_far = sym so_far
quoted_open text (byte ∷ rest) line nothing so_far = absurd (omega arith)

-- ---- properties

-- these properties were read of the line, and this is left
pub record HasRead (properties : List Property) (rest line : List ℕ) : Type 0 where
  pub few : length properties ≤ 100
  pub read : joined properties (each_at (100 - length properties) rest) ≡ each_at 100 line

pub nothing_read : (line : List ℕ) → HasRead [] line line
nothing_read line = record { few = omega arith; read = joined_none (each_at 100 line) }
  where
    joined_none : (read : Read (List Property)) → joined [] read ≡ read
    joined_none None = refl
    joined_none (Some read) = refl

more_left : (n : ℕ) → n < 100 → 100 - n ≡ suc (100 - (n + 1))
more_left n below = omega arith

joined_behind : (front : List Property) (x : Property) (read : Read (List Property)) → joined front (read >>= λ others. Some (x ∷ others.0, others.1)) ≡ joined (front ++ x ∷ []) read
joined_behind front x None = refl
joined_behind front x (Some read) = ap (λ (all : List Property). Some (all, read.1)) (sym (append_assoc front (x ∷ []) read.0))

-- one more was read
pub read_on : (properties : List Property) (rest line more left : List ℕ) (property : Property) → length properties < 100 → behind (codes " prop ") rest ≡ Some more → property_at more ≡ Some (property, left) → HasRead properties rest line → HasRead (properties ++ property ∷ []) left line
unfolding each_at
read_on properties rest line more left property room found read so_far =
    let counted : length (properties ++ property ∷ []) ≡ length properties + 1 = length-append properties (property ∷ []) in
    let step : joined properties (each_at (100 - length properties) rest) ≡ joined (properties ++ property ∷ []) (each_at (100 - (length properties + 1)) left) = rw (more_left (length properties) room, found, read) (joined_behind properties property (each_at (100 - (length properties + 1)) left)) in
    record {
      few = omega arith;
      read = ap (λ (n : ℕ). joined (properties ++ property ∷ []) (each_at (100 - n) left)) counted ∙ sym step ∙ so_far.read;
    }

-- no property stands there
pub read_missed : (error : Unread) (properties : List Property) (rest line more : List ℕ) → length properties < 100 → behind (codes " prop ") rest ≡ Some more → Misses error (property_at more) → HasRead properties rest line → Misses error (each_at 100 line)
unfolding each_at
read_missed Memory properties rest line more room found missed so_far = tt
read_missed Malformed properties rest line more room found missed so_far =
    let step : joined properties (each_at (100 - length properties) rest) ≡ None = rw (more_left (length properties) room, found, missed) refl in
    sym so_far.read ∙ step

bind_none : {A B : Type 0} (read : Option A) → (read >>= λ x. let none : Option B = None in none) ≡ None
bind_none None = refl
bind_none (Some x) = refl

-- there are too many
pub read_full : (properties : List Property) (rest line more : List ℕ) → 100 ≤ length properties → behind (codes " prop ") rest ≡ Some more → HasRead properties rest line → each_at 100 line ≡ None
unfolding each_at
read_full properties rest line more full found so_far =
    let none_left : 100 - length properties ≡ 0 = omega arith in
    let step : joined properties (each_at (100 - length properties) rest) ≡ None = rw (none_left, found) (ap (joined properties) (bind_none (property_at more))) in
    sym so_far.read ∙ step

ends_there : (most : ℕ) (rest : List ℕ) → behind (codes " prop ") rest ≡ None → each_at most rest ≡ Some ([], rest)
unfolding each_at
ends_there zero rest none = rw none refl
ends_there (suc most) rest none = rw none refl

-- no keyword stands there
pub read_done : (properties : List Property) (rest line : List ℕ) → behind (codes " prop ") rest ≡ None → HasRead properties rest line → each_at 100 line ≡ Some (properties, rest)
read_done properties rest line none so_far =
    let step : joined properties (each_at (100 - length properties) rest) ≡ Some (properties ++ [], rest) = rw (ends_there (100 - length properties) rest none) refl in
    sym so_far.read ∙ step ∙ ap (λ (all : List Property). Some (all, rest)) (append-nil properties)
