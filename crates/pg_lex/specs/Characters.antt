-- The characters of a filter, by their codes. One past ASCII has bytes from 128 on, of which each stands for itself.
use Rattle.std.specs.Prelude.{◌≡◌, ℕ, Bool, true, false, ◌||◌, ◌==◌, List, [], ◌∷◌}
use Rattle.std.specs.Char.{is_ascii_alphabetic, is_ascii_digit}

-- a space or a tab
abbrev pub is_blank : ℕ → Bool
is_blank c = (c == 32) || (c == 9)

-- a letter, `_` or `$`
abbrev pub begins_identifier : ℕ → Bool
begins_identifier c = is_ascii_alphabetic c || ((c == 95) || (c == 36))

-- a letter, a digit, `_` or `$`
abbrev pub continues_identifier : ℕ → Bool
continues_identifier c = begins_identifier c || is_ascii_digit c

abbrev pub is_quote : ℕ → Bool
is_quote c = c == 39

-- each of the characters passes the test
abbrev pub Each : (ℕ → Bool) → List ℕ → Type 0
Each test [] = Unit {0}
Each test (c ∷ cs) = (test c ≡ true) × Each test cs

-- the characters don't begin with one that passes the test
abbrev pub NotNext : (ℕ → Bool) → List ℕ → Type 0
NotNext test [] = Unit {0}
NotNext test (c ∷ cs) = test c ≡ false
