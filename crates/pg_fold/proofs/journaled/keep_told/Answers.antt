use Rattle.std.proofs.Common.{rules, of_calls}
use Rattle.std.proofs.lemmas.Map.Made.{filter_same_pairs}
use Rattle.pg_fold.proofs.JournaledLemmas.{is_kept, told_kept}
use Rattle.pg_fold.proofs.journaled.keep_told.Goals as goal

pub returns : goal.returns
returns c told =
    let kept = filter_same_pairs _ (is_kept c.args.rows.now) _ (λ k v b w f' step. search (rules, of_calls)) _ _ c.retain.ensures.filtered in
    told_kept c.args.rows.now c.args.numbers.now c.retain.new.self c.requires c.retain.ensures.was_ordered kept told
