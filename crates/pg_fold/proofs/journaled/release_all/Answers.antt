use Rattle.std.proofs.Common.{rules, of_calls}
use Rattle.pg_fold.specs.JournalNumbers.{IsTold}
use Rattle.pg_fold.proofs.JournaledLemmas.{all_by, dropped_by, IsBelow}
use Rattle.pg_fold.proofs.journaled.release_all.Goals as goal

pub returns-clause-left : goal.returns-clause-left
returns-clause-left c = dropped_by _ _ c.args.queue (λ k v b w f' step. search (rules, of_calls)) _ _ c.retain.ensures.filtered

pub returns-clause-below : goal.returns-clause-below
returns-clause-below c next below = all_by _ _ c.args.queue (λ k v b w f' step. search (rules, of_calls)) (IsBelow next) (λ number row is. is) _ _ c.retain.ensures.filtered below

pub returns-clause-told : goal.returns-clause-told
returns-clause-told c numbers told = all_by _ _ c.args.queue (λ k v b w f' step. search (rules, of_calls)) (IsTold numbers) (λ number row is. is) _ _ c.retain.ensures.filtered told
