use Rattle.std.proofs.Common.{rules, ltb}
use Rattle.std.proofs.lemmas.List.Sorted.{answers_always}
use Rattle.pg_msg.proofs.TestLaws.{ascends_answer}
use Rattle.pg_msg.proofs.fields.lists.addresses_ascend.Goals as goal

pub returns : goal.returns
returns c =
    let told = c.is_sorted_by.ensures.cases (λ a b. ltb a.0 b.0) (answers_always _ _ _ (λ f a r g called. search rules)) in
    ascends_answer (λ row. row.0) c.args.rows.now c.is_sorted_by.result told
