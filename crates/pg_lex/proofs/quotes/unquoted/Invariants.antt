use Rattle.std.proofs.Common.{◌≡◌, ◌++◌, ℕ, List, length, string_bytes}
use denote.Shadow.{shadow}
use denote.Text.{Utf8}
use Rattle.pg_lex.specs.Spelling.{doubled, quoted}
use Rattle.pg_lex.proofs.quotes.unquoted.Given as goal

abbrev pub invariant-loop-front : goal.invariant-loop-front
invariant-loop-front l = record {
  utf8 : shadow (Utf8 l.rest);
  left : List ℕ;
  rest : l.rest ≡ doubled left;
  text : l.spelling ≡ quoted (string_bytes l.text ++ left);
}

abbrev pub decreases-loop-front : goal.decreases-loop-front
decreases-loop-front l = length l.rest
