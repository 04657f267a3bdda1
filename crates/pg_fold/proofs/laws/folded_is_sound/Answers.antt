use Rattle.pg_fold.proofs.SoundLaws.{sound_folded, sound_fresh, sound_kept}
use Rattle.pg_fold.proofs.laws.folded_is_sound.Goals as goal

pub returns-clause-fresh : goal.returns-clause-fresh
returns-clause-fresh c = sound_fresh

pub returns-clause-kept : goal.returns-clause-kept
returns-clause-kept c = sound_kept

pub returns-clause-folded : goal.returns-clause-folded
returns-clause-folded c = sound_folded
