use Rattle.std.proofs.Common.{◌∙◌, sym}
use Rattle.pg_cursor.proofs.Onward.{live_answer}
use Rattle.pg_cursor.proofs.walking.is_live.Goals as goal

pub returns-clause-live : goal.returns-clause-live
returns-clause-live g c =
    live_answer (g.D.Disk.tells c.args.disk.now) c.args.address c.args.queue c.args.acks.now c.args.txs.now c.args.place c.in_ok-frame.frame c.is_entry.result c.requires.there c.requires.stands (sym c.contains.ensures ∙ c.if-contains.false) c.in_ok-frame.ensures.frame c.is_entry.ensures
