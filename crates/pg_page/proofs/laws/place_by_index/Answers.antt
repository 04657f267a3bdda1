use Rattle.pg_page.proofs.PageLaws.{batch_at, short_fit}
use Rattle.pg_page.proofs.laws.place_by_index.Goals as goal

pub returns-clause-index : goal.returns-clause-index
returns-clause-index c = batch_at

pub returns-clause-short : goal.returns-clause-short
returns-clause-short c = short_fit
