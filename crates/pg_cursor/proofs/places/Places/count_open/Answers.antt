use Rattle.std.proofs.Common.{◌∙◌, ap, length, subst}
use Rattle.pg_cursor.specs.Counting.{AreOnce, open_of}
use Rattle.pg_cursor.proofs.Counted.{kept_once, open_keys}
use Rattle.pg_cursor.proofs.places.Places.count_open.Goals as goal

pub returns-clause-count : goal.returns-clause-count
returns-clause-count c = c.open_keys.ensures ∙ open_keys c.args.queue c.args.acks.now c.self.inside.offsets.entries ∙ ap (λ l. length (open_of c.args.queue c.args.acks.now l)) c.self.view_is

pub returns-clause-once : goal.returns-clause-once
returns-clause-once c = subst AreOnce c.self.view_is (kept_once c.self.inside.offsets.entries c.self.invariant)
