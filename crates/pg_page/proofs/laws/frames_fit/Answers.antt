use Rattle.pg_page.proofs.PageLaws.{entries_fit}
use Rattle.pg_page.proofs.laws.frames_fit.Goals as goal

pub returns : goal.returns
returns c = entries_fit
