use Rattle.pg_parse.proofs.FilterTextLaws.{empty_never, text_one}
use Rattle.pg_parse.proofs.filter.filter_texts.Goals as goal

pub returns-clause-one : goal.returns-clause-one
returns-clause-one c = text_one

pub returns-clause-never : goal.returns-clause-never
returns-clause-never c = empty_never
