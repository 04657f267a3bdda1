use Rattle.std.proofs.Common.{rules, ltb, ap, ◌∙◌}
use Rattle.std.proofs.lemmas.List.{map-id}
use Rattle.std.proofs.lemmas.List.Sorted.{answers_always}
use Rattle.pg_msg.specs.Reading.{ascends}
use Rattle.pg_msg.proofs.TestLaws.{ascends_answer}
use Rattle.pg_msg.proofs.fields.lists.ids_ascend.Goals as goal

pub returns : goal.returns
returns c =
    let told = c.is_sorted_by.ensures.cases (λ a b. ltb a b) (answers_always _ _ _ (λ f a r g called. search rules)) in
    ascends_answer (λ id. id) c.args.ids.now c.is_sorted_by.result told ∙ ap ascends (map-id c.args.ids.now)
