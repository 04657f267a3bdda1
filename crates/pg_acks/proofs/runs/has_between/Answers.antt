use Rattle.std.proofs.Common.{◌≤◌, arith}
use Rattle.std.proofs.lemmas.Grind.{common_steps}
use Rattle.std.proofs.lemmas.Bool.Decides.{nat_tests}
use Rattle.pg_acks.specs.Runs.{starts}
use Rattle.pg_acks.proofs.Joining.{between_some, some_between}
use Rattle.pg_acks.proofs.runs.has_between.Goals as goal

pub returns-in-Some : goal.returns-in-Some
returns-in-Some c =
    let run = starts c.args.runs.now c.args.at in (
      λ is.
          let le : c.args.from ≤ c.in-Some.last = grind (arith, common_steps, nat_tests, is) in
          some_between run c.args.from c.args.to c.in-Some.field-0-0 c.in-Some.last c.requires.runs c.requires.order c.in-Some.ensures.found c.in-Some.ensures.within le,
      λ any.
          let le : c.args.from ≤ c.in-Some.last = between_some run c.args.from c.args.to c.in-Some.field-0-0 c.in-Some.last c.requires.runs c.in-Some.ensures.found c.in-Some.ensures.last any in
          grind (arith, common_steps, nat_tests, le),
    )
