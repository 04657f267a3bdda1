-- Filters as queues keep them: a text, which is empty where there is no filter.
use Rattle.std.specs.Prelude.{◌≡◌, ℕ, List, [], Option, Some, None, Result, Ok, Err}
use Rattle.pg_parse.specs.declared.tree.Tree.{Tree}
use Rattle.pg_parse.specs.declared.refusal.FilterError.{FilterError}
use Rattle.pg_parse.specs.declared.refusal.FilterError.TheVariants as errors
use Rattle.pg_parse.specs.Filters.{Reads}

-- an empty text is read as no filter, and the text of a filter as its tree
abbrev pub ReadsAs : List ℕ → Option Tree → Type 0
ReadsAs text None = text ≡ []
ReadsAs text (Some tree) = Reads text tree

-- the text is empty, or that of a filter
abbrev pub IsReadable : List ℕ → Type 0
IsReadable text = (filter : Option Tree) × ReadsAs text filter

-- this filter, or want of memory
abbrev pub IsFilterOrMemory : Option Tree → Result (Option Tree) FilterError → Type 0
IsFilterOrMemory filter (Ok other) = other ≡ filter
IsFilterOrMemory filter (Err errors.Memory) = Unit {0}
IsFilterOrMemory filter (Err (errors.BadFilter at)) = ⊥
