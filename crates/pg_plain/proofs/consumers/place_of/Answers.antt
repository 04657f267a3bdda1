use Rattle.pg_plain.proofs.PlaceLemmas.{placed, placed_last}
use Rattle.pg_plain.proofs.consumers.place_of.Goals as goal

pub returns-in-Some-clause-place : goal.returns-in-Some-clause-place
returns-in-Some-clause-place c = (placed c.args.id c.args.ids.now c.in-Some.place c.in-Some.ensures).0

pub returns-in-Some-clause-within : goal.returns-in-Some-clause-within
returns-in-Some-clause-within c = (placed c.args.id c.args.ids.now c.in-Some.place c.in-Some.ensures).1

pub returns-in-None-clause-place : goal.returns-in-None-clause-place
returns-in-None-clause-place c = placed_last c.args.id c.args.ids.now c.in-None.ensures
