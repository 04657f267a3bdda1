use Rattle.pg_acks.proofs.Changing.{none_single}
use Rattle.pg_acks.proofs.acks.Acks.add_run.Goals as goal

pub put_run-requires : goal.put_run-requires
put_run-requires c = none_single c.args.self.now c.args.queue c.args.page c.args.from c.args.to c.requires
