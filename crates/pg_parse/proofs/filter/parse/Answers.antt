use Rattle.std.proofs.Common.{◌≡◌, subst, Err}
use Rattle.pg_parse.specs.Filters.{Say}
use Rattle.pg_parse.specs.Parsing.{IsReadAs}
use Rattle.pg_parse.proofs.Words.{reads_said}
use Rattle.pg_parse.proofs.filter.parse.Goals as goal

pub returns-in-Ok-clause-only : goal.returns-in-Ok-clause-only
returns-in-Ok-clause-only c tree r =
    let tokens_are : c.as_slice.result.now ≡ c.in_ok-tokens.tokens.items = cc in
    let words_are : c.as_slice-2.result.now ≡ c.in_ok-words.words.items = cc in
    c.in-Ok.ensures.only tree (rw words_are (reads_said c.args.filter.now c.in_ok-tokens.tokens.items c.in_ok-words.words.items tree c.in_ok-tokens.ensures.all
    (subst (λ ts. Say c.args.filter.now ts c.in_ok-words.words.items) tokens_are c.in_ok-words.ensures) r))

pub returns-clause-only : goal.returns-clause-only
returns-clause-only c tree r =
    let tokens_are : c.as_slice.result.now ≡ c.in_ok-tokens.tokens.items = cc in
    let words_are : c.as_slice-2.result.now ≡ c.in_ok-words.words.items = cc in
    let never : IsReadAs tree (Err c.in-Err-Left.field-0) =
    c.in-Err-Left.ensures.only tree (rw words_are (reads_said c.args.filter.now c.in_ok-tokens.tokens.items c.in_ok-words.words.items tree c.in_ok-tokens.ensures.all
    (subst (λ ts. Say c.args.filter.now ts c.in_ok-words.words.items) tokens_are c.in_ok-words.ensures) r)) in
    subst (λ e. IsReadAs tree (Err e)) c.in-Err-Left.field-0-is never
