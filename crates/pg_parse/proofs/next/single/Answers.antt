use Rattle.std.proofs.Common.{sym, subst, ◌≡◌, ◌∙◌}
use Rattle.std.specs.Str.{IsUtf8}
use Rattle.pg_parse.proofs.Leaves.{two_characters, one_character}
use Rattle.pg_parse.proofs.next.single.Goals as goal

pub returns-in-Some : goal.returns-in-Some
returns-in-Some c one =
    let all : c.chars-chars.result.rest.now ≡ c.args.text.now = cc in
    two_characters c.args.text.now c.next.new.self.rest.now c.in_ok-first.first c.in-Some.field-0 (subst IsUtf8 c.as_str.ensures.value c.as_str.utf8) (sym all ∙ c.in_ok-first.ensures.steps.0) c.in-Some.ensures.steps.2 one

pub returns-in-None : goal.returns-in-None
returns-in-None c =
    let all : c.chars-chars.result.rest.now ≡ c.args.text.now = cc in
    one_character c.args.text.now c.next.new.self.rest.now c.in_ok-first.first (subst IsUtf8 c.as_str.ensures.value c.as_str.utf8) (sym all ∙ c.in_ok-first.ensures.steps.0) c.in-None.ensures.steps.0.0
