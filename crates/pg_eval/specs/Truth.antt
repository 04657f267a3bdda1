-- The truth of a filter for a message with these properties.
use Rattle.std.specs.Prelude.{ℕ, ◌+ℤ◌, ◌-ℤ◌, ◌*ℤ◌, neg_ℤ, Bool, true, false, List, Option, Some, None, is_none, find}
use Rattle.std.specs.Str.{bytes_eq}
use Rattle.pg_msg.specs.declared.properties.Property.{Property}
use Rattle.pg_msg.specs.declared.properties.Value.{Value as PropertyValue}
use Rattle.pg_msg.specs.declared.properties.Value.TheVariants as kinds
use Rattle.pg_parse.specs.declared.tree.Tree.{Tree}
use Rattle.pg_parse.specs.declared.tree.Tree.TheOpen.{Tree-F}
use Rattle.pg_parse.specs.declared.tree.Tree.TheFolds.{fold-Tree}
use Rattle.pg_eval.specs.declared.tri.Tri.{Tri}
use Rattle.pg_eval.specs.declared.tri.Tri.TheVariants.{Yes, No, Unknown}
use Rattle.pg_eval.specs.Tables.{not_of, and_of, or_of}
use Rattle.pg_eval.specs.Values.{Value, text, whole, truth, unknown, tri_of, value_of, compare, between, of_whole, of_wholes, is_in, matches_pattern}

-- the first property of that name
abbrev pub first_named : List ℕ → List Property → Option Property
first_named name properties = find (λ property. bytes_eq property.name name) properties

abbrev pub property_value : PropertyValue → Value
property_value (kinds.Text bytes) = text bytes
property_value (kinds.Whole number) = whole number
property_value (kinds.Truth bool) = truth bool

-- the value of a property; one that is missing is unknown
abbrev pub value_or_unknown : Option Property → Value
value_or_unknown None = unknown
value_or_unknown (Some property) = property_value property.value

-- the value of the property of that name
abbrev pub named : List ℕ → List Property → Value
named name properties = value_or_unknown (first_named name properties)

-- The value of an expression, where its parts are replaced by their values. Of a message with the properties color
-- 'red' and n 3, `n + 1` has the whole 4, `color` the text red, `n = 'x'` and `n <> 'x'` the truth false, and `size`,
-- `NOT size = 1` and `color + 1` are unknown.
abbrev pub value_from : List Property → Tree-F Value → Value
value_from properties (Tree-F.Or a b) = value_of (or_of (tri_of a) (tri_of b))
value_from properties (Tree-F.And a b) = value_of (and_of (tri_of a) (tri_of b))
value_from properties (Tree-F.Not a) = value_of (not_of (tri_of a))
value_from properties (Tree-F.In name texts) = value_of (is_in (named name properties) texts)
value_from properties (Tree-F.Like name pattern escape) =
    value_of (matches_pattern (named name properties) pattern escape)
value_from properties (Tree-F.IsNull name) = truth (is_none (first_named name properties))
value_from properties (Tree-F.Between x low high) = value_of (between x low high)
value_from properties (Tree-F.Compare op a b) = value_of (compare op a b)
value_from properties (Tree-F.Plus a b) = of_wholes ◌+ℤ◌ a b
value_from properties (Tree-F.Minus a b) = of_wholes ◌-ℤ◌ a b
value_from properties (Tree-F.Times a b) = of_wholes ◌*ℤ◌ a b
value_from properties (Tree-F.Positive a) = of_whole (λ number. number) a
value_from properties (Tree-F.Negative a) = of_whole neg_ℤ a
value_from properties (Tree-F.Name name) = named name properties
value_from properties (Tree-F.Whole number) = whole number
value_from properties (Tree-F.Text bytes) = text bytes
value_from properties (Tree-F.Truth bool) = truth bool

-- the value of an expression, from its leaves on
abbrev pub value : List Property → Tree → Value
value properties = fold-Tree Value (value_from properties)

-- the truth of a filter
unfoldable pub truth_of : List Property → Tree → Tri
truth_of properties filter = tri_of (value properties filter)

abbrev pub is_yes : Tri → Bool
is_yes Yes = true
is_yes No = false
is_yes Unknown = false

-- whether a message with these properties matches the filter: its truth is yes, or there is no filter
unfoldable pub is_match : List Property → Option Tree → Bool
is_match properties None = true
is_match properties (Some filter) = is_yes (truth_of properties filter)
