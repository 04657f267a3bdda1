use Rattle.std.proofs.Common.{◌∙◌}
use Rattle.pg_acks.proofs.Writing.{all_taken, taken_none, taken_others}
use Rattle.pg_acks.proofs.runs.take_page.Goals as goal

pub loop-first-preserved : goal.loop-first-preserved
loop-first-preserved c = record {
  others = λ other k elsewhere. taken_others c.loop-first.runs c.remove.new.self c.args.at c.in-Some.first c.remove.ensures.updates other k elsewhere ∙ c.loop-first.invariant.others other k elsewhere;
  past = λ k past. taken_none c.loop-first.runs c.remove.new.self c.args.at c.in-Some.first c.remove.ensures.updates k (c.loop-first.invariant.past k past);
}

pub returns-clause-taken : goal.returns-clause-taken
returns-clause-taken c = all_taken c.args.runs.now c.loop-first.runs c.args.at c.loop-first.invariant.others c.loop-first.invariant.past c.in_default.ensures.none
