use Rattle.pg_cursor.proofs.Onward.{later_answer}
use Rattle.pg_cursor.proofs.walking.next_on_page.Goals as goal

pub returns-in-Behind-clause-next : goal.returns-in-Behind-clause-next
returns-in-Behind-clause-next g c =
    later_answer (g.D.Disk.tells c.args.disk.now) c.args.address c.args.tail c.in-Behind.after c.next_place.result c.in-Behind.is c.requires.there c.requires.stands c.next_place.ensures.next
    c.next_place.ensures.short
