use Rattle.std.proofs.Common.{◌≡◌, Some, refl, sym, subst, ap, ◌∙◌}
use Rattle.std.specs.Str.{IsUtf8, is_utf8}
use Rattle.std.proofs.lemmas.Bool.{false_from_ne_true}
use Rattle.std.proofs.lemmas.Str.{IsUtf8-from_is_utf8, is_utf8-from_IsUtf8}
use Rattle.pg_text.proofs.values.text_from.Goals as goal

pub returns-in_default : goal.returns-in_default
returns-in_default c =
    rw (false_from_ne_true (is_utf8 c.args.bytes) (λ is. let ok = c.in_default.ensures.succeeds (subst IsUtf8 (sym c.into_vec.ensures) (IsUtf8-from_is_utf8 c.args.bytes is)) in cc)) refl

pub returns : goal.returns
returns c =
    let same : c.from_string-text.result ≡ c.args.bytes = c.from_string-text.ensures ∙ ap (λ v. v.items) c.in-Ok.ensures.ok ∙ c.into_vec.ensures in
    rw (is_utf8-from_IsUtf8 c.args.bytes (subst IsUtf8 same c.as_str-text.ensures.utf8)) (ap Some (sym same))
