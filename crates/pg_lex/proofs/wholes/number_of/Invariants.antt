use Rattle.std.proofs.Common.{◌≡◌, ◌<◌, ◌^◌, take}
use Rattle.std.specs.Char.{is_ascii_digit}
use Rattle.pg_lex.specs.Characters.{Each}
use Rattle.pg_lex.specs.Spelling.{value_of}
use Rattle.pg_lex.proofs.wholes.number_of.Given as goal

abbrev pub invariant-loop-digit : goal.invariant-loop-digit
invariant-loop-digit l = record {
  digits : Each is_ascii_digit (take l.digit-index l.digits);
  value : l.number ≡ value_of (take l.digit-index l.digits);
  small : l.number < 2 ^ 63;
}
