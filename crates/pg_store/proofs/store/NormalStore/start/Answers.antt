use Rattle.std.proofs.Common.{[], refl}
use Rattle.pg_gate.specs.Gated.{Anyhow}
use Rattle.pg_page.specs.Pages.{page_file}
use Rattle.pg_page.specs.Writing.{Writes}
use Rattle.pg_store.specs.Stores.{address_of_normal, first_of_normal}
use Rattle.pg_store.proofs.Runs.{made_somehow, starting, unstarted, was_started}
use Rattle.pg_store.proofs.store.NormalStore.start.Goals as goal

pub returns-then-self-gt-LAST-clause-any_moment : goal.returns-then-self-gt-LAST-clause-any_moment
returns-then-self-gt-LAST-clause-any_moment g c = unstarted g.D.Disk c.args.self c.args.disk.now (g.met.D.Disk.only_now c.args.disk.now)

pub returns-in_err-writer-clause-any_moment : goal.returns-in_err-writer-clause-any_moment
returns-in_err-writer-clause-any_moment g c = starting g.D.Disk c.args.self c.args.disk.now c.create.new.disk c.create.ensures.any_moment

pub returns-clause-started : goal.returns-clause-started
returns-clause-started g c = was_started c.args.self _ (g.D.Disk.tells c.args.disk.now) (g.D.Disk.tells c.create.new.disk) refl c.in_ok-writer.ensures.page.1 c.in_ok-writer.ensures.created

pub returns-clause-any_moment : goal.returns-clause-any_moment
returns-clause-any_moment g c = starting g.D.Disk c.args.self c.args.disk.now c.create.new.disk c.create.ensures.any_moment

pub returns-in_err-writer-clause-other_files : goal.returns-in_err-writer-clause-other_files
returns-in_err-writer-clause-other_files g c =
    made_somehow (page_file c.args.self.address c.args.self.first) (address_of_normal c.args.self) (first_of_normal c.args.self) refl (g.D.Disk.tells c.args.disk.now) (g.D.Disk.tells c.create.new.disk) Anyhow c.in_err-writer.ensures.other_files

pub returns-clause-other_files : goal.returns-clause-other_files
returns-clause-other_files g c =
    made_somehow (page_file c.args.self.address c.args.self.first) (address_of_normal c.args.self) (first_of_normal c.args.self) refl (g.D.Disk.tells c.args.disk.now) (g.D.Disk.tells c.create.new.disk)
    (λ _ s. Writes c.in_ok-writer.writer [] s) c.in_ok-writer.ensures.created
