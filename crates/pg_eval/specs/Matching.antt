-- Whether a message matches the filter that a queue keeps as a text.
use Rattle.std.specs.Prelude.{◌≡◌, ℕ, Bool, List, Option}
use Rattle.pg_msg.specs.declared.properties.Property.{Property}
use Rattle.pg_parse.specs.declared.tree.Tree.{Tree}
use Rattle.pg_parse.specs.FilterTexts.{ReadsAs}
use Rattle.pg_eval.specs.Truth.{is_match}

-- The text is read as a filter, or as none, and this is whether a message with these properties matches it.
pub record IsMatchBy (text : List ℕ) (properties : List Property) (matched : Bool) : Type 0 where
  pub filter : Option Tree
  pub read : ReadsAs text filter
  pub is : matched ≡ is_match properties filter
