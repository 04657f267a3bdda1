use Rattle.std.proofs.Common.{arith, length}
use Rattle.pg_recover.proofs.GroupLemmas.{covers_one, covers_more, covers_all}
use Rattle.pg_recover.proofs.grouping.first_group.Goals as goal

pub loop-count-init : goal.loop-count-init
loop-count-init c = record {
  covers = covers_one c.args.spans.now _ c.requires;
  inside = λ size are. are 0 _ (omega (arith, c.requires));
}

pub returns-in-None-clause-covers : goal.returns-in-None-clause-covers
returns-in-None-clause-covers c = covers_all c.loop-count.cover c.loop-count.count c.args.spans.now (omega arith) c.loop-count.invariant.covers

pub loop-count-preserved : goal.loop-count-preserved
loop-count-preserved c = record {
  covers = covers_more c.loop-count.cover c.in-Some.longer c.loop-count.count c.args.spans.now _ c.loop-count-test.true c.loop-count.invariant.covers c.in-Some.ensures.both.0 c.in-Some.ensures.both.1;
  inside = λ size are. c.in-Some.ensures.inside size (c.loop-count.invariant.inside size are) (are c.loop-count.count _ c.loop-count-test.true);
}

pub returns-clause-covers : goal.returns-clause-covers
returns-clause-covers c = covers_all c.loop-count.cover (length c.args.spans.now) c.args.spans.now (omega arith) (λ k d lt. c.loop-count.invariant.covers k d (omega (arith, lt)))
