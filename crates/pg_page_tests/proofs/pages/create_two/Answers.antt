use Rattle.pg_page.proofs.WritingLaws.{just_made, still_written}
use Rattle.pg_page_tests.proofs.pages.create_two.Goals as goal

pub write-requires-2-clause-stands : goal.write-requires-2-clause-stands
write-requires-2-clause-stands g c =
    still_written c.in_ok-writer.writer c.in_ok-writer-2.writer c.in_ok-octets.field-0 (g.D.Disk.tells c.create.new.disk) (g.D.Disk.tells c.write.new.disk) c.in_ok-writer-2.ensures.page c.in_ok-writer-2.ensures.written
    (just_made c.in_ok-writer.writer 3 7 (g.D.Disk.tells c.args.disk.now) (g.D.Disk.tells c.create.new.disk) c.in_ok-writer.ensures.page c.in_ok-writer.ensures.created)
