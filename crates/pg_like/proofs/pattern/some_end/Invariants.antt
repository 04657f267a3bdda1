use Rattle.std.proofs.Common.{◌≡◌, ◌+◌, length}
use denote.Text.{Utf8}
use denote.Shadow.{shadow}
use Rattle.std.specs.List.{list_any}
use Rattle.std.specs.Str.{chars}
use Rattle.pg_like.specs.Pattern.{ends, is_like, pieces_of}
use Rattle.pg_like.proofs.pattern.some_end.Given as goal

abbrev pub invariant-loop-rest : goal.invariant-loop-rest
invariant-loop-rest l =
    shadow (Utf8 l.text) × shadow (Utf8 l.pattern) × (list_any (λ end. is_like (pieces_of l.escape (chars l.fn.pattern)) end) (ends (chars l.fn.text)) ≡ list_any (λ end. is_like (pieces_of l.escape (chars l.pattern)) end) (ends (chars l.text)))

abbrev pub decreases-loop-rest : goal.decreases-loop-rest
decreases-loop-rest l = length (chars l.text) + length (pieces_of l.escape (chars l.pattern))
