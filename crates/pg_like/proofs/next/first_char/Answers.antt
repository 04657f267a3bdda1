use Rattle.std.proofs.Common.{sym, ap, ◌≡◌, ◌∷◌, ◌++◌, ◌∙◌}
use Rattle.std.specs.Char.{encode_utf8}
use Rattle.std.specs.Str.{chars}
use Rattle.std.proofs.lemmas.Str.{chars_past_char}
use Rattle.pg_like.proofs.next.first_char.Goals as goal

pub returns : goal.returns
returns c =
    let all : c.chars-characters.result.rest.now ≡ c.args.text.now = cc in
    let here : c.args.text.now ≡ encode_utf8 c.in_ok-first.first ++ c.next.new.self.rest.now = sym all ∙ c.in_ok-first.ensures.steps.0 in
    let rest : c.next.new.self.rest.now ≡ c.as_str.result.now = cc in
    chars_past_char c.args.text.now c.next.new.self.rest.now c.in_ok-first.first c.utf8.text here ∙ ap (λ r. c.in_ok-first.first ∷ chars r) rest
