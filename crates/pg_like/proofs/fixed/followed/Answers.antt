use Rattle.std.proofs.Common.{ap, ◌∙◌, rules, []}
use Rattle.std.specs.Str.{chars}
use Rattle.pg_like.specs.Pattern.{is_like, pieces_of}
use Rattle.pg_like.proofs.Passing.{passes_start, passes_more, passes_like, none_taken}
use Rattle.pg_like.proofs.fixed.followed.Goals as goal

pub loop-piece-init : goal.loop-piece-init
loop-piece-init c = (c.utf8.text, c.utf8.pattern, passes_start (pieces_of c.args.escape (chars c.args.pattern.now)) (chars c.args.text.now))

pub returns-in_default-behind_one : goal.returns-in_default-behind_one
returns-in_default-behind_one c =
    let all = pieces_of c.args.escape (chars c.args.pattern.now) in
    let left = pieces_of c.args.escape (chars c.loop-piece.pattern.now) in
    let text = chars c.loop-piece.text.now in
    passes_like all (chars c.args.text.now) left text c.loop-piece.invariant.2
    ∙ (ap (λ ps. is_like ps text) c.in-Some.ensures ∙ none_taken c.in-Some.piece (pieces_of c.args.escape (chars c.in-Some.behind.now)) text c.in_default-piece.not-Any c.in_default-behind_one.ensures)

pub loop-piece-preserved : goal.loop-piece-preserved
loop-piece-preserved c = (search rules, search rules, passes_more (pieces_of c.args.escape (chars c.args.pattern.now)) (chars c.args.text.now) (pieces_of c.args.escape (chars c.loop-piece.pattern.now)) (chars c.loop-piece.text.now) c.in-Some.piece (pieces_of c.args.escape (chars c.in-Some.behind.now)) (chars c.in-Some-behind_one.rest.now) c.loop-piece.invariant.2 c.in-Some.ensures c.in-Some-behind_one.ensures)

pub returns-in-Some-first_char : goal.returns-in-Some-first_char
returns-in-Some-first_char c =
    let text = chars c.loop-piece.text.now in
    passes_like (pieces_of c.args.escape (chars c.args.pattern.now)) (chars c.args.text.now) (pieces_of c.args.escape (chars c.loop-piece.pattern.now)) text c.loop-piece.invariant.2
    ∙ (ap (λ ps. is_like ps text) c.in_default.ensures ∙ ap (λ t. is_like [] t) c.in-Some-first_char.ensures)

pub returns-in-None : goal.returns-in-None
returns-in-None c =
    let text = chars c.loop-piece.text.now in
    passes_like (pieces_of c.args.escape (chars c.args.pattern.now)) (chars c.args.text.now) (pieces_of c.args.escape (chars c.loop-piece.pattern.now)) text c.loop-piece.invariant.2
    ∙ (ap (λ ps. is_like ps text) c.in_default.ensures ∙ ap (λ t. is_like [] t) c.in-None.ensures)
