use Rattle.std.proofs.Common.{◌+◌, ◌∙◌, length, subst, arith}
use Rattle.pg_disk.specs.Calls.{Rewrites}
use Rattle.pg_disk.proofs.Runs.{Since}
use Rattle.pg_disk.proofs.Rewriting.{rewrote_none, then_rewrote}
use Rattle.pg_gate.proofs.Appending.{not_begun, in_add, can_seal, in_seal, if_appended}
use Rattle.pg_gate.proofs.at_rest.Rest.append.Goals as goal

pub returns-then-end-gt-LIMIT-clause-any_moment : goal.returns-then-end-gt-LIMIT-clause-any_moment
returns-then-end-gt-LIMIT-clause-any_moment g c =
    not_begun c.args.self c.args.batch.now c.args.self.file g.D.Disk c.args.disk.now (g.met.D.Disk.only_now c.args.disk.now)

pub returns-in_err-filling-clause-any_moment : goal.returns-in_err-filling-clause-any_moment
returns-in_err-filling-clause-any_moment g c =
    in_add c.args.self c.args.batch.now c.args.self.file g.D.Disk c.args.disk.now (g.met.D.Disk.only_now c.args.disk.now) c.begin.result c.begin.ensures.fills c.begin.result.file c.begin.ensures.file c.add.new.disk c.add.ensures.any_moment

pub seal-requires : goal.seal-requires
seal-requires g c =
    can_seal c.args.self c.args.batch.now c.args.self.file g.D.Disk c.args.disk.now (g.met.D.Disk.only_now c.args.disk.now) c.begin.result c.begin.ensures.fills c.begin.result.file c.begin.ensures.file
    c.add.new.disk c.add.ensures.any_moment c.in_ok-filling.filling c.in_ok-filling.ensures.added c.in_ok-filling.filling.file c.in_ok-filling.ensures.file c.requires

pub returns-clause-any_moment : goal.returns-clause-any_moment
returns-clause-any_moment g c =
    in_seal c.args.self c.args.batch.now c.args.self.file g.D.Disk c.args.disk.now (g.met.D.Disk.only_now c.args.disk.now) c.begin.result c.begin.ensures.fills c.begin.result.file c.begin.ensures.file
    c.add.new.disk c.add.ensures.any_moment c.in_ok-filling.filling c.in_ok-filling.ensures.added c.in_ok-filling.filling.file c.in_ok-filling.ensures.file c.seal.new.disk c.seal.ensures.any_moment

pub returns-clause-appended : goal.returns-clause-appended
returns-clause-appended g c =
    if_appended c.args.self c.args.batch.now c.args.self.file g.D.Disk c.args.disk.now (g.met.D.Disk.only_now c.args.disk.now) c.begin.result c.begin.ensures.fills c.begin.result.file c.begin.ensures.file
    c.add.new.disk c.add.ensures.any_moment c.in_ok-filling.filling c.in_ok-filling.ensures.added c.in_ok-filling.filling.file c.in_ok-filling.ensures.file c.seal.new.disk c.seal.result c.seal.ensures.sealed

pub returns-then-end-gt-LIMIT-clause-all_else : goal.returns-then-end-gt-LIMIT-clause-all_else
returns-then-end-gt-LIMIT-clause-all_else g c = rewrote_none c.args.self.file (g.D.Disk.tells c.args.disk.now) c.args.self.gate (c.args.self.gate + 1 + length c.args.batch.now + 9)

pub returns-in_err-filling-clause-all_else : goal.returns-in_err-filling-clause-all_else
returns-in_err-filling-clause-all_else g c =
    then_rewrote c.args.self.file (g.D.Disk.tells c.args.disk.now) (g.D.Disk.tells c.args.disk.now) (g.D.Disk.tells c.add.new.disk) c.args.self.gate (c.args.self.gate + 1 + length c.args.batch.now + 9) _ _
    (rewrote_none c.args.self.file (g.D.Disk.tells c.args.disk.now) c.args.self.gate (c.args.self.gate + 1 + length c.args.batch.now + 9)) (subst (λ f. Since f (g.D.Disk.tells c.args.disk.now) (Rewrites (c.begin.result.gate + 1) (c.begin.result.gate + 1 + 8 + c.begin.result.length + length c.args.batch.now)) (g.D.Disk.tells c.add.new.disk)) c.begin.ensures.file c.add.ensures.all_else)
    (omega (arith, c.begin.ensures.counted, c.begin.ensures.empty)) (omega (arith, c.begin.ensures.counted, c.begin.ensures.empty))

pub returns-clause-all_else : goal.returns-clause-all_else
returns-clause-all_else g c =
    then_rewrote c.args.self.file (g.D.Disk.tells c.args.disk.now) (g.D.Disk.tells c.add.new.disk) (g.D.Disk.tells c.seal.new.disk) c.args.self.gate (c.args.self.gate + 1 + length c.args.batch.now + 9) _ _
    (then_rewrote c.args.self.file (g.D.Disk.tells c.args.disk.now) (g.D.Disk.tells c.args.disk.now) (g.D.Disk.tells c.add.new.disk) c.args.self.gate (c.args.self.gate + 1 + length c.args.batch.now + 9) _ _
    (rewrote_none c.args.self.file (g.D.Disk.tells c.args.disk.now) c.args.self.gate (c.args.self.gate + 1 + length c.args.batch.now + 9)) (subst (λ f. Since f (g.D.Disk.tells c.args.disk.now) (Rewrites (c.begin.result.gate + 1) (c.begin.result.gate + 1 + 8 + c.begin.result.length + length c.args.batch.now)) (g.D.Disk.tells c.add.new.disk)) c.begin.ensures.file c.add.ensures.all_else)
    (omega (arith, c.begin.ensures.counted, c.begin.ensures.empty)) (omega (arith, c.begin.ensures.counted, c.begin.ensures.empty)))
    (subst (λ f. Since f (g.D.Disk.tells c.add.new.disk) (Rewrites c.in_ok-filling.filling.gate (c.in_ok-filling.filling.gate + 1 + 9 + c.in_ok-filling.filling.length)) (g.D.Disk.tells c.seal.new.disk)) (c.in_ok-filling.ensures.file ∙ c.begin.ensures.file) c.seal.ensures.all_else)
    (omega (arith, c.begin.ensures.counted, c.begin.ensures.empty, c.in_ok-filling.ensures.counted, c.in_ok-filling.ensures.grown)) (omega (arith, c.begin.ensures.counted, c.begin.ensures.empty, c.in_ok-filling.ensures.counted, c.in_ok-filling.ensures.grown))
