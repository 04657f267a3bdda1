use Rattle.std.proofs.Common.{rules}
use Rattle.std.specs.Range.{range_inclusive_end, range_inclusive_start}
use Rattle.pg_acks.proofs.Keys.{in_range, key_at, least_ge}
use Rattle.pg_acks.proofs.runs.last_from.Goals as goal

pub returns-in-Some-clause-last : goal.returns-in-Some-clause-last
returns-in-Some-clause-last c = λ first le some.
    let low = range_inclusive_start c.new.result in
    let high = range_inclusive_end c.new.result in
    let inside = (c.range.ensures.in_range (search rules)).3 _ _ c.in-Some.ensures.steps in
    let is = key_at low high c.in-Some.key.now c.args.at c.args.index c.new.ensures.start c.new.ensures.end inside.0.0 inside.0.1 in
    let least = (c.range.ensures.in_range (search rules)).4 _ _ c.in-Some.ensures.steps (c.args.at, first) in
    least_ge c.in-Some.key.now c.args.at first is (least (in_range low high c.args.at c.args.index first c.new.ensures.start c.new.ensures.end le) some)

pub returns-in-None-clause-none : goal.returns-in-None-clause-none
returns-in-None-clause-none c = λ first le.
    let none = (c.range.ensures.in_range (search rules)).5 c.in-None.ensures.steps.0 (c.args.at, first) in
    none (in_range (range_inclusive_start c.new.result) (range_inclusive_end c.new.result) c.args.at c.args.index first c.new.ensures.start c.new.ensures.end le)
