use Rattle.pg_disk.specs.Account.{account}
use Rattle.pg_gate.proofs.Reading.{one_read}
use Rattle.pg_journal.proofs.Listed.{are_generations}
use Rattle.pg_journal.proofs.generations.generations.Goals as goal

pub returns-in_err-files-clause-any_moment : goal.returns-in_err-files-clause-any_moment
returns-in_err-files-clause-any_moment g c =
    one_read g.D.Disk c.args.disk.now c.list.new.self (g.met.D.Disk.only_now c.args.disk.now) c.list.ensures.time

pub returns-clause-listed : goal.returns-clause-listed
returns-clause-listed g c = λ honest.
    are_generations (account (g.D.Disk.tells c.args.disk.now)).files c.in_ok-files.files.items (c.in_ok-files.ensures.files honest) c.in_ok-sorted_generations.field-0.items c.in_ok-sorted_generations.ensures.same c.in_ok-sorted_generations.ensures.ascending
