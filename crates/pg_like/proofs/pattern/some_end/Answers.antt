use Rattle.std.proofs.Common.{sym, ◌∙◌, rules}
use Rattle.std.specs.Str.{chars}
use Rattle.pg_like.specs.Pattern.{pieces_of}
use Rattle.pg_like.proofs.Ends.{here, older_dropped}
use Rattle.pg_like.proofs.pattern.some_end.Goals as goal

pub returns-in-All : goal.returns-in-All
returns-in-All c =
    sym (c.loop-rest.invariant.2 ∙ here (pieces_of c.args.escape (chars c.loop-rest.pattern.now)) (chars c.loop-rest.text.now) c.in-All.ensures)

pub loop-rest-preserved-in-Any : goal.loop-rest-preserved-in-Any
loop-rest-preserved-in-Any c =
    (search rules, search rules, c.loop-rest.invariant.2 ∙ older_dropped (pieces_of c.args.escape (chars c.in-Any.behind.now)) (pieces_of c.args.escape (chars c.loop-rest.pattern.now)) (chars c.loop-rest.text.now) (chars c.in-Any.rest.now) c.in-Any.ensures)
