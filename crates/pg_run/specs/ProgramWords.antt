-- The words that the program accepts.
use Rattle.std.specs.Prelude.{◌≡◌, ◌≢◌, ℕ, List, [], ◌∷◌, slice_index, codes}

-- a word that names a directory: it isn't empty, and doesn't begin with `-`
pub record IsDirectory (word : List ℕ) : Type 0 where
  pub some : word ≢ []
  pub no_option : slice_index word 0 ≢ 45

-- the program's name, `run` and a directory
pub record AreRunWords (words : List (List ℕ)) : Type 0 where
  pub name : List ℕ
  pub directory : List ℕ
  pub three : words ≡ name ∷ (codes "run" ∷ (directory ∷ []))
  pub is_directory : IsDirectory directory
