use Rattle.std.proofs.Common.{◌<◌, ℕ, get_or}
use Rattle.pg_lex.specs.Spelling.{SpellsWord}
use Rattle.pg_lex.specs.declared.reserved_word.ReservedWord.TheVariants.{And}
use Rattle.pg_lex.proofs.WordLemmas.{words}
use Rattle.pg_lex.proofs.reserved_word.ReservedWord.from_bytes.Given as goal

abbrev pub invariant-loop-word : goal.invariant-loop-word
invariant-loop-word l = (k : ℕ) → k < l.word-index → SpellsWord (get_or words k And) l.bytes → ⊥
