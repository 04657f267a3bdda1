use Rattle.std.proofs.Common.{◌≡◌, ◌+◌, ◌≤◌, ◌^◌, arith}
use Rattle.std.proofs.lemmas.Grind.{common_steps}
use Rattle.pg_acks.proofs.Writing.{joined_both, joined_one}
use Rattle.pg_acks.proofs.runs.join.Goals as goal

pub returns-in-Some-clause-ok : goal.returns-in-Some-clause-ok
returns-in-Some-clause-ok c =
    let next : c.in-Some.next ≡ c.args.index + 1 = grind (arith, common_steps, c.checked_add.ensures, c.in-Some.is) in
    joined_both c.args.runs.now c.insert.new.self c.remove.new.self c.args.at c.args.first c.args.index c.in-Some.next c.args.last c.in_ok-insert.ensures.updates c.remove.ensures.updates next

pub returns-in_default-clause-ok : goal.returns-in_default-clause-ok
returns-in_default-clause-ok c =
    let past : 2 ^ 32 ≤ c.args.index + 1 = grind (arith, common_steps, c.checked_add.ensures, c.in_default.is) in
    joined_one c.args.runs.now c.insert.new.self c.args.at c.args.first c.args.index c.args.last c.requires.runs c.in_ok-insert.ensures.updates c.requires.order past
