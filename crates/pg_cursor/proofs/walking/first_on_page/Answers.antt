use Rattle.pg_cursor.proofs.Onward.{first_answer}
use Rattle.pg_cursor.proofs.walking.first_on_page.Goals as goal

pub returns-clause-next : goal.returns-clause-next
returns-clause-next g c = first_answer (g.D.Disk.tells c.args.disk.now) c.args.address c.args.page c.requires c.first_place.result c.first_place.ensures.next c.first_place.ensures.short
