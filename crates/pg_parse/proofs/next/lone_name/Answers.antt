use Rattle.std.proofs.Common.{◌∷◌, ◌∙◌, ap, sym}
use Rattle.pg_parse.specs.declared.word.Word.TheVariants as words
use Rattle.pg_parse.proofs.Leaves.{same_rest}
use Rattle.pg_parse.proofs.next.lone_name.Goals as goal

pub returns-then-behind-rest : goal.returns-then-behind-rest
returns-then-behind-rest c =
    let at = c.in_ok-name.ensures.cases.0 ∙ ap (λ w. w ∷ c.in_ok-name.field-0.1.now) c.in-Name-default.is-0 in
    at ∙ ap (λ rest. words.Name c.in-Name-default.name ∷ rest) (same_rest c.requires.0 c.args.rest.now c.in_ok-name.field-0.1.now (words.Name c.in-Name-default.name) (sym at ∙ c.requires.1) c.if-behind-rest.true)
