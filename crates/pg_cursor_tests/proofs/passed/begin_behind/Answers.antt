use Rattle.std.proofs.Common.{arith, refl}
use Rattle.pg_disk.specs.MemSite.{tells_of}
use Rattle.pg_cursor_tests.proofs.Standing.{first_there, given_behind, there_then}
use Rattle.pg_cursor_tests.proofs.passed.begin_behind.Goals as goal

pub next_ready-requires-clause-there : goal.next_ready-requires-clause-there
next_ready-requires-clause-there c = λ honest. first_there c.new-cursor.result c.args.queue 0 1 c.args.last c.new-cursor.ensures.new _ (omega arith) c.requires.pages

pub returns-clause-there : goal.returns-clause-there
returns-clause-there c =
    let change = c.in_ok-next.ensures.same.1 in
    let takes = c.in_ok-next.ensures.takes in
    there_then (tells_of c.args.site.now) (tells_of c.next_ready.new.disk) c.in_ok-next.ensures.same.0 change c.new-cursor.result.address c.in_ok-next.next.address takes.address c.args.last c.new-cursor.result.tail c.in_ok-next.next.tail c.in_ok-next.next.tail takes.tail refl
    (λ honest. first_there c.new-cursor.result c.args.queue 0 1 c.args.last c.new-cursor.ensures.new _ (omega arith) c.requires.pages)
    (change.kept c.requires.honest)

pub returns-clause-behind : goal.returns-clause-behind
returns-clause-behind c = given_behind c.new-cursor.result c.args.queue c.new-cursor.ensures.new c.new-acks.result c.new-txs.result c.args.last _ c.in_ok-next.given c.in-Some.place c.in_ok-next.next (c.in_ok-next.ensures.next c.requires.honest) (c.new-cursor.ensures.tracks _ _ _) c.in_ok-next.ensures.takes c.in-Some.is (omega (arith, c.if-place-le1.false))
