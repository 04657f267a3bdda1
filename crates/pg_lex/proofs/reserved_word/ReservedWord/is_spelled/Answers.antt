use Rattle.std.proofs.Common.{map, ap, sym, ◌∙◌}
use Rattle.std.specs.Char.{to_ascii_lowercase}
use Rattle.pg_lex.proofs.WordLemmas.{spells, spells_small}
use Rattle.pg_lex.proofs.reserved_word.ReservedWord.is_spelled.Goals as goal

pub returns : goal.returns
returns c =
    let same = ap (map to_ascii_lowercase) c.capitals.ensures in
    let test = c.eq_ignore_ascii_case.ensures.test in
    (λ yes. spells c.args.self c.args.bytes.now (test.0 yes ∙ same), λ is. test.1 (spells_small c.args.self c.args.bytes.now is ∙ sym same))
