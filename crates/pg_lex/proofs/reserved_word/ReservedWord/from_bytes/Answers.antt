use Rattle.std.proofs.Common.{below_more, sym, subst, arith}
use Rattle.pg_lex.specs.Spelling.{SpellsWord}
use Rattle.pg_lex.specs.declared.reserved_word.ReservedWord.{ReservedWord}
use Rattle.pg_lex.specs.declared.reserved_word.ReservedWord.TheVariants.{And}
use Rattle.pg_lex.proofs.Runs.{both_values}
use Rattle.pg_lex.proofs.WordLemmas.{index_of, at_index, index_small}
use Rattle.pg_lex.proofs.reserved_word.ReservedWord.from_bytes.Goals as goal

pub loop-word-preserved : goal.loop-word-preserved
loop-word-preserved c = below_more _ _ c.loop-word.invariant (λ is. both_values c.is_spelled.result (c.is_spelled.ensures.1 is) c.if-is_spelled.false)

pub returns : goal.returns
returns c = λ word is. c.loop-word.invariant (index_of word) (omega (arith, index_small word)) (subst (λ (w : ReservedWord). SpellsWord w c.args.bytes.now) (sym (at_index word And)) is)
