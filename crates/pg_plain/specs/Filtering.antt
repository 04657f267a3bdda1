-- Why a queue doesn't get the filter that a command asks for.
use Rattle.std.specs.Prelude.{ℕ, List, Option, Some, None}
use Rattle.pg_parse.specs.declared.refusal.FilterError.{FilterError}
use Rattle.pg_parse.specs.declared.refusal.FilterError.TheVariants as errors
use Rattle.pg_parse.specs.Filters.{IsBadAt}

-- The filter is bad at this offset, or there is no memory for it. Without a filter nothing is bad.
abbrev pub IsUnread : Option (List ℕ) → FilterError → Type 0
IsUnread filter errors.Memory = Unit {0}
IsUnread (Some text) (errors.BadFilter at) = IsBadAt text at
IsUnread None (errors.BadFilter at) = ⊥
