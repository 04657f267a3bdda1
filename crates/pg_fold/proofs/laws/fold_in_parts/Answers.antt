use Rattle.pg_fold.proofs.FoldLaws.{folds_applied, folds_broken, folds_cut, folds_one, folds_parts}
use Rattle.pg_fold.proofs.laws.fold_in_parts.Goals as goal

pub returns-clause-one : goal.returns-clause-one
returns-clause-one c = folds_one

pub returns-clause-parts : goal.returns-clause-parts
returns-clause-parts c = folds_parts

pub returns-clause-cut : goal.returns-clause-cut
returns-clause-cut c = folds_cut

pub returns-clause-applied : goal.returns-clause-applied
returns-clause-applied c = folds_applied

pub returns-clause-broken : goal.returns-clause-broken
returns-clause-broken c = folds_broken
