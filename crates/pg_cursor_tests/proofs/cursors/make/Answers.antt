use Rattle.std.proofs.Common.{◌≡◌, Option, Some, None}
use Rattle.pg_disk.specs.Account.{FileState}
use Rattle.pg_page.specs.Pages.{page_file}
use Rattle.pg_cursor_tests.proofs.Standing.{created_there, other_stays, two_files, two_files_back}
use Rattle.pg_cursor_tests.proofs.cursors.make.Goals as goal

pub create-requires-2 : goal.create-requires-2
create-requires-2 g c =
    other_stays (λ (o : Option FileState). o ≡ None) (g.D.Disk.tells c.args.disk.now) (g.D.Disk.tells c.create.new.self) (page_file 3 7) c.create.ensures.step.back (λ h. (c.create.ensures.step.step h).others (page_file 3 7) two_files_back) (λ h. c.requires h 7)

pub returns-clause-empty : goal.returns-clause-empty
returns-clause-empty g c =
    let Is : Option FileState → Type 0 = λ o. (s : FileState) × (o ≡ Some s) in
    other_stays Is (g.D.Disk.tells c.write.new.self) (g.D.Disk.tells c.sync.new.self) (page_file 3 8) c.sync.ensures.step.back (λ h. (c.sync.ensures.step.step h).others (page_file 3 8) two_files)
    (other_stays Is (g.D.Disk.tells c.create-2.new.self) (g.D.Disk.tells c.write.new.self) (page_file 3 8) c.write.ensures.step.back (λ h. (c.write.ensures.step.step h).others (page_file 3 8) two_files)
    (other_stays Is (g.D.Disk.tells c.create.new.self) (g.D.Disk.tells c.create-2.new.self) (page_file 3 8) c.create-2.ensures.step.back (λ h. (c.create-2.ensures.step.step h).others (page_file 3 8) two_files)
    (λ h. created_there _ _ (c.in_ok-create.ensures.step.step (c.in_ok-create.ensures.step.back h)).change)))
