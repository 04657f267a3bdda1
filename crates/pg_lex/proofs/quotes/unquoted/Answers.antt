use Rattle.std.proofs.Common.{◌++◌, ℕ, List, sym, ap, ◌∙◌, drop, string_bytes, lit<}
use Rattle.std.proofs.lemmas.Str.{encode_ascii}
use Rattle.std.proofs.lemmas.Str.Pattern.{split_parts}
use Rattle.pg_lex.proofs.QuoteLemmas.{has_quote, behind_quote, behind_utf8, text_more, text_all}
use Rattle.pg_lex.proofs.quotes.unquoted.Goals as goal

pub range-rest-requires-clause-start_boundary : goal.range-rest-requires-clause-start_boundary
range-rest-requires-clause-start_boundary c = λ _. behind_quote c.args.spelling.now _ c.utf8.spelling c.requires.1

pub range_from-rest-requires : goal.range_from-rest-requires
range_from-rest-requires c =
    let split = split_parts 39 c.loop-front.rest.now c.split_once.result c.split_once.ensures.cases (lit< tt) in
    let parts = rw c.in-Some.is at split in
    let has = has_quote c.loop-front.invariant.left c.in-Some.front.now c.in-Some.behind.now parts.1 (sym c.loop-front.invariant.rest ∙ parts.0) in
    λ _. behind_quote c.in-Some.behind.now _ (behind_utf8 c.loop-front.rest.now c.in-Some.front.now c.in-Some.behind.now c.loop-front.invariant.utf8 parts.0) has.behind_is

pub loop-front-preserved : goal.loop-front-preserved
loop-front-preserved c =
    let split = split_parts 39 c.loop-front.rest.now c.split_once.result c.split_once.ensures.cases (lit< tt) in
    let parts = rw c.in-Some.is at split in
    let has = has_quote c.loop-front.invariant.left c.in-Some.front.now c.in-Some.behind.now parts.1 (sym c.loop-front.invariant.rest ∙ parts.0) in
    record {
      utf8 = c.range_from-rest.utf8;
      left = has.more;
      rest = c.range_from-rest.ensures.value ∙ ap (drop 1) has.behind_is;
      text = text_more c.args.spelling.now (string_bytes c.loop-front.text) c.loop-front.invariant.left c.in-Some.front.now has.more _ _ c.loop-front.invariant.text has.text_is c.in_ok-push_str.ensures.bytes (c.in_ok-push.ensures.bytes ∙ ap (λ (l : List ℕ). string_bytes c.push_str.new.self ++ l) (encode_ascii 39 (lit< tt)));
    }

pub returns : goal.returns
returns c =
    let split = split_parts 39 c.loop-front.rest.now c.split_once.result c.split_once.ensures.cases (lit< tt) in
    let none = rw c.in_default.is at split in
    text_all c.args.spelling.now (string_bytes c.loop-front.text) c.loop-front.invariant.left c.loop-front.rest.now _ c.loop-front.invariant.text c.loop-front.invariant.rest none c.in_ok-push_str-2.ensures.bytes
