use Rattle.std.proofs.Common.{length}
use denote.Text.{Utf8}
use denote.Shadow.{shadow}
use Rattle.std.specs.Str.{chars}
use Rattle.pg_like.specs.Pattern.{pieces_of}
use Rattle.pg_like.specs.Reaching.{Passes}
use Rattle.pg_like.proofs.fixed.followed.Given as goal

abbrev pub invariant-loop-piece : goal.invariant-loop-piece
invariant-loop-piece l =
    shadow (Utf8 l.text) × shadow (Utf8 l.pattern) × Passes (pieces_of l.escape (chars l.fn.pattern)) (chars l.fn.text) (pieces_of l.escape (chars l.pattern)) (chars l.text)

abbrev pub decreases-loop-piece : goal.decreases-loop-piece
decreases-loop-piece l = length (pieces_of l.escape (chars l.pattern))
