use Rattle.pg_msg.proofs.TestLaws.{differs_behind, differs_not}
use Rattle.pg_msg.proofs.fields.values.names_differ.Goals as goal

pub returns-then-has_name : goal.returns-then-has_name
returns-then-has_name c =
    differs_not (λ property. property.name) c.in-Some.first.now c.in-Some.behind.now c.loop-first.rest.now c.args.properties.now c.in-Some.ensures.cases.0 c.if-has_name.ensures c.loop-first.invariant

pub loop-first-preserved : goal.loop-first-preserved
loop-first-preserved c =
    differs_behind (λ property. property.name) c.in-Some.first.now c.in-Some.behind.now c.loop-first.rest.now c.args.properties.now c.in-Some.ensures.cases.0 c.if-has_name.ensures c.loop-first.invariant
