use Rattle.pg_gate.proofs.Appending.{not_begun}
use Rattle.pg_gate.proofs.at_rest.Rest.append_at_once.Goals as goal

pub returns-in_err-buffer-clause-any_moment : goal.returns-in_err-buffer-clause-any_moment
returns-in_err-buffer-clause-any_moment g c =
    not_begun c.args.self c.args.batch.now c.args.self.file g.D.Disk c.args.disk.now (g.met.D.Disk.only_now c.args.disk.now)
