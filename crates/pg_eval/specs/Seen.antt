-- How the code's values are seen.
use Rattle.pg_eval.specs.declared.value.Value.{Value as Held}
use Rattle.pg_eval.specs.declared.value.Value.TheVariants.{Text, Whole, Truth, Unknown}
use Rattle.pg_eval.specs.Values.{Value, text, whole, truth, unknown}

abbrev pub seen : Held → Value
seen (Text borrowed) = text borrowed.now
seen (Whole number) = whole number
seen (Truth bool) = truth bool
seen Unknown = unknown
