use Rattle.std.proofs.Common.{None, sym, ◌∙◌}
use Rattle.pg_parse.proofs.FilterTextLaws.{empty_text, text_one}
use Rattle.pg_parse.proofs.filter.filter_of.Goals as goal

pub returns-then-is_empty-clause-only : goal.returns-then-is_empty-clause-only
returns-then-is_empty-clause-only c = λ filter. text_one c.args.text.now None filter (empty_text c.args.text.now (sym c.is_empty.ensures ∙ c.if-is_empty.true))
