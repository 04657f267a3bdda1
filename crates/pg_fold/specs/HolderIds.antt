-- The ids that holders stand for.
use Rattle.std.specs.Prelude.{ℕ, List, [], ◌∷◌}
use Rattle.pg_fold.specs.declared.holders.Ids.{Ids}
use Rattle.pg_fold.specs.declared.holders.Ids.TheVariants.{One, Others}

-- one alone, or all of them
abbrev pub ids_in : Ids → List ℕ
ids_in (One id) = id ∷ []
ids_in (Others ids) = ids
