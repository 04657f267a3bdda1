use Rattle.std.proofs.Common.{ℕ, ◌∙◌, ◌<◌, ◌≤◌, List, [], map, length, Bor, refl, ap, arith}
use Rattle.std.proofs.lemmas.List.{length-map, take_all}
use Rattle.pg_fold.specs.declared.rows.JournaledRow.{JournaledRow}
use Rattle.pg_fold.proofs.JournaledLemmas.{listed_at}
use Rattle.pg_dispatch.specs.Dispatch.{with_message}
use Rattle.pg_recover.specs.Denotation.{queue_of}
use Rattle.pg_engine.specs.Kept.{line_from}
use Rattle.pg_engine.proofs.LineLemmas.{held_line, new_in_lines}
use Rattle.pg_engine.proofs.lines.add_held.Goals as goal

abbrev rows_of : List (Bor JournaledRow) → List JournaledRow
rows_of rows = map (λ (row : Bor JournaledRow). row.now) rows

pub add-requires : goal.add-requires
add-requires c =
    let listed = c.args.rows.now in
    let many = length-map listed (λ (row : Bor JournaledRow). row.now) in
    let inside : c.loop-place.place < length listed = omega (arith, c.loop-place-test.true) in
    let within : c.loop-place.place < length (rows_of listed) = omega (arith, inside, many) in
    let row = listed_at listed (rows_of listed) c.loop-place.place c.index-rows-place.result refl inside c.index-rows-place.is in
    new_in_lines (rows_of listed) c.args.queues.now c.loop-place.place c.index-rows-place.result.now c.loop-place.dispatcher within row c.requires.apart c.loop-place.invariant

pub loop-place-preserved : goal.loop-place-preserved
loop-place-preserved c =
    let listed = c.args.rows.now in
    let many = length-map listed (λ (row : Bor JournaledRow). row.now) in
    let inside : c.loop-place.place < length listed = omega (arith, c.loop-place-test.true) in
    let within : c.loop-place.place < length (rows_of listed) = omega (arith, inside, many) in
    let row = listed_at listed (rows_of listed) c.loop-place.place c.index-rows-place.result refl inside c.index-rows-place.is in
    c.in_ok-add.ensures ∙ ap (λ (numbers : List ℕ). with_message numbers c.index-rows-place.result.now.message.id c.loop-place.dispatcher) c.as_slice.ensures.value
    ∙ held_line (rows_of listed) c.args.queues.now c.loop-place.place c.index-rows-place.result.now c.loop-place.dispatcher within row c.loop-place.invariant

pub returns : goal.returns
returns c =
    let many = length-map c.args.rows.now (λ (row : Bor JournaledRow). row.now) in
    let past : length (rows_of c.args.rows.now) ≤ c.loop-place.place = omega (arith, many, c.loop-place-test.false) in
    c.loop-place.invariant ∙ ap (λ (l : List JournaledRow). record { lines = map line_from (map (queue_of l) c.args.queues.now); consumers = [] }) (take_all c.loop-place.place (rows_of c.args.rows.now) past)
