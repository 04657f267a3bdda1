-- What the filter of a queue that is asked for is read as.
use Rattle.std.specs.Prelude.{◌≡◌, ℕ, List, Option, Some, None}
use Rattle.pg_parse.specs.declared.refusal.FilterError.{FilterError}
use Rattle.pg_parse.specs.declared.refusal.FilterError.TheVariants.{BadFilter, Memory}
use Rattle.pg_parse.specs.declared.tree.Tree.{Tree}
use Rattle.pg_parse.specs.Filters.{IsBadAt, Reads}

-- without a filter there is no tree, and with one it is the tree that the filter's text is read as
abbrev pub IsTreeOf : Option (List ℕ) → Option Tree → Type 0
IsTreeOf None tree = tree ≡ None
IsTreeOf (Some text) None = ⊥
IsTreeOf (Some text) (Some tree) = Reads text tree

-- there is a filter, and it has no reading from this offset on
abbrev pub IsBadFilter : Option (List ℕ) → FilterError → Type 0
IsBadFilter filter Memory = Unit {0}
IsBadFilter None (BadFilter at) = ⊥
IsBadFilter (Some text) (BadFilter at) = IsBadAt text at
