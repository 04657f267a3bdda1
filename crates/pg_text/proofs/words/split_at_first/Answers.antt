use Rattle.std.proofs.Common.{◌≡◌, length, ap, ◌∙◌, unwrap_or}
use Rattle.std.specs.List.{position_or_len}
use Rattle.pg_text.specs.Reading.{before, onward}
use Rattle.pg_text.proofs.PieceLaws.{first_place, is_mark}
use Rattle.pg_text.proofs.words.split_at_first.Goals as goal

pub returns-clause-front : goal.returns-clause-front
unfolding before
returns-clause-front c =
    let end : c.unwrap_or-end.result ≡ position_or_len (is_mark c.args.mark) c.args.line.now = c.unwrap_or-end.ensures ∙ ap (λ place. unwrap_or place (length c.args.line.now)) c.place_of.ensures.place ∙ first_place c.args.mark c.args.line.now in
    rw end at c.split_at.ensures.front

pub returns-clause-back : goal.returns-clause-back
unfolding onward
returns-clause-back c =
    let end : c.unwrap_or-end.result ≡ position_or_len (is_mark c.args.mark) c.args.line.now = c.unwrap_or-end.ensures ∙ ap (λ place. unwrap_or place (length c.args.line.now)) c.place_of.ensures.place ∙ first_place c.args.mark c.args.line.now in
    rw end at c.split_at.ensures.back
