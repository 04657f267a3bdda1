use Rattle.pg_lex.proofs.SpellingLaws.{word_one, symbol_one, text_one}
use Rattle.pg_lex.proofs.TokenLaws.{tokens_one}
use Rattle.pg_lex.proofs.lexing.one_reading.Goals as goal

pub returns-clause-word : goal.returns-clause-word
returns-clause-word c = word_one

pub returns-clause-symbol : goal.returns-clause-symbol
returns-clause-symbol c = symbol_one

pub returns-clause-text : goal.returns-clause-text
returns-clause-text c = text_one

pub returns-clause-tokens : goal.returns-clause-tokens
returns-clause-tokens c = tokens_one
