use Rattle.std.proofs.Common.{◌∙◌, ◌<◌, ◌≤◌, length, subst, sym, arith}
use Rattle.pg_msg.specs.Messages.{HasFields}
use Rattle.pg_fold.specs.declared.rows.JournaledRow.{JournaledRow}
use Rattle.pg_fold.proofs.JournaledLemmas.{as_many, listed_at}
use Rattle.pg_recover.proofs.RoomLemmas.{weights_done, weights_next}
use Rattle.pg_recover.proofs.room.weights_by_address.Goals as goal

pub add_weight-requires : goal.add_weight-requires
add_weight-requires c =
    let listed = c.in_ok-listed.listed.items in
    let many = as_many listed c.args.rows.now c.in_ok-listed.ensures in
    let inside : c.loop-place.place < length listed = omega (arith, c.loop-place-test.true, c.len-place-end.ensures) in
    let within : c.loop-place.place < length c.args.rows.now = omega (arith, inside, many) in
    let row = listed_at listed c.args.rows.now c.loop-place.place c.index.result.now c.in_ok-listed.ensures inside c.index.ensures in
    subst (λ (r : JournaledRow). HasFields r.message) (sym row) (c.requires c.loop-place.place c.index.result.now.now within)

pub loop-place-preserved : goal.loop-place-preserved
loop-place-preserved c =
    let listed = c.in_ok-listed.listed.items in
    let many = as_many listed c.args.rows.now c.in_ok-listed.ensures in
    let inside : c.loop-place.place < length listed = omega (arith, c.loop-place-test.true, c.len-place-end.ensures) in
    let within : c.loop-place.place < length c.args.rows.now = omega (arith, inside, many) in
    let row = listed_at listed c.args.rows.now c.loop-place.place c.index.result.now c.in_ok-listed.ensures inside c.index.ensures in
    record {
      count = c.add_weight.ensures.count ∙ c.loop-place.invariant.count;
      each = weights_next c.args.rows.now c.loop-place.place c.index.result.now.now c.loop-place.sums.items c.add_weight.new.sums.items within row c.add_weight.ensures.count c.add_weight.ensures.each c.loop-place.invariant.each;
    }

pub returns-clause-each : goal.returns-clause-each
returns-clause-each c =
    let many = as_many c.in_ok-listed.listed.items c.args.rows.now c.in_ok-listed.ensures in
    let past : length c.args.rows.now ≤ c.loop-place.place = omega (arith, many, c.loop-place-test.false, c.len-place-end.ensures) in
    weights_done c.args.rows.now c.loop-place.place c.loop-place.sums.items past c.loop-place.invariant.each
