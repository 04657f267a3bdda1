use Rattle.std.proofs.Common.{sym, ◌∙◌}
use Rattle.pg_page.proofs.FrameLaws.{frame_short, same_frame}
use Rattle.pg_page.proofs.decoding.one_frame.Goals as goal

pub returns-clause-spelling : goal.returns-clause-spelling
returns-clause-spelling c = λ frame a b spells_a spells_b. spells_a.spelled ∙ sym spells_b.spelled

pub returns-clause-reading : goal.returns-clause-reading
returns-clause-reading c = λ bytes a b spells_a spells_b. same_frame bytes a b spells_a spells_b

pub returns-clause-longest : goal.returns-clause-longest
returns-clause-longest c = λ bytes frame spells. frame_short bytes frame spells
