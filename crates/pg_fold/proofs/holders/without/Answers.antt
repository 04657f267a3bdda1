use Rattle.std.proofs.Common.{not, eqb, ap, ◌∙◌, rules}
use Rattle.std.proofs.lemmas.Fn.{filter_same}
use Rattle.pg_fold.specs.Rows.{without_number}
use Rattle.pg_fold.proofs.holders.without.Goals as goal

pub returns : goal.returns
returns c =
    c.from_vec.ensures ∙ filter_same _ (λ id. not (eqb id c.args.queue)) _ (λ x b f' k. search rules) _ _ c.retain.ensures.filtered
    ∙ ap (without_number c.args.queue) c.into_vec-ids.ensures
