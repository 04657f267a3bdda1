-- The words of the program.
use Rattle.std.proofs.Common.{◌≡◌, ℕ, ◌≤◌, ◌<◌, List, [], ◌∷◌, map, length, get_or, sym, ◌∙◌, ap, subst, arith, String, string_bytes}
use Rattle.std.specs.Prelude.{codes}
use Rattle.std.specs.declared.alloc.Global.{Global}
use Rattle.pg_run.specs.ProgramWords.{AreRunWords, IsDirectory}

-- a list of three, by its last two
pub record IsThree (words : List (String Global)) (command directory : String Global) : Type 0 where
  pub name : String Global
  pub words_are : words ≡ name ∷ (command ∷ (directory ∷ []))

pub is_three : (words : List (String Global)) (command directory : String Global) → 3 ≤ length words → length words < 4 → command ≡ get_or words 1 command → directory ≡ get_or words 2 directory → IsThree words command directory
is_three [] command directory least most second third = absurd (omega (arith, least))
is_three (a ∷ []) command directory least most second third = absurd (omega (arith, least))
is_three (a ∷ b ∷ []) command directory least most second third = absurd (omega (arith, least))
is_three (a ∷ b ∷ c ∷ []) command directory least most second third = record { name = a; words_are = ap (λ (x : String Global). a ∷ (x ∷ (c ∷ []))) (sym second) ∙ ap (λ (y : String Global). a ∷ (command ∷ (y ∷ []))) (sym third) }
is_three (a ∷ b ∷ c ∷ d ∷ words) command directory least most second third = absurd (omega (arith, most))

-- three words are those of `run` exactly where the third is a directory's
pub are_run : (words : List (String Global)) (command directory : String Global) → IsThree words command directory → string_bytes command ≡ codes "run" → IsDirectory (string_bytes directory) → AreRunWords (map string_bytes words)
are_run words command directory three run is = record {
  name = string_bytes three.name;
  directory = string_bytes directory;
  three = ap (λ (ws : List (String Global)). map string_bytes ws) three.words_are ∙ ap (λ (w : List ℕ). string_bytes three.name ∷ (w ∷ (string_bytes directory ∷ []))) run;
  is_directory = is;
}

third_same : (a b c x y z : List ℕ) → a ∷ (b ∷ (c ∷ [])) ≡ x ∷ (y ∷ (z ∷ [])) → z ≡ c
third_same a b c x y z e = cc

pub run_directory : (words : List (String Global)) (command directory : String Global) → IsThree words command directory → AreRunWords (map string_bytes words) → IsDirectory (string_bytes directory)
run_directory words command directory three run = subst (λ (w : List ℕ). IsDirectory w)
    (third_same (string_bytes three.name) (string_bytes command) (string_bytes directory) run.name (codes "run") run.directory (sym (ap (λ (ws : List (String Global)). map string_bytes ws) three.words_are) ∙ run.three)) run.is_directory
