use Rattle.pg_page.proofs.PageLaws.{frames_once}
use Rattle.pg_page.proofs.laws.one_list_of_frames.Goals as goal

pub returns : goal.returns
returns c = frames_once
