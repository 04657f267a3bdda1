use Rattle.std.proofs.Common.{Bool, refl, sym, subst, ◌∙◌}
use Rattle.std.proofs.lemmas.Bool.{false_from_ne_true}
use Rattle.pg_msg.specs.Reading.{Gives, guarded, is_name}
use Rattle.pg_msg.proofs.TestLaws.{name_decides, name_is_utf8}
use Rattle.pg_msg.proofs.fields.names.name_of.Goals as goal

pub returns-then-not-is_name : goal.returns-then-not-is_name
returns-then-not-is_name c =
    rw (false_from_ne_true (is_name c.args.name.now) (λ passed. let told = c.if-not-is_name.ensures.1 ((name_decides c.args.name.now).0 passed) in cc)) refl

pub returns : goal.returns
returns c =
    let name = c.args.name.now in
    let is = c.if-not-is_name.ensures.0 refl in
    subst (λ (test : Bool). Gives (λ text. text) c.text_of.result (guarded test name)) (name_is_utf8 name is ∙ sym ((name_decides name).1 is)) c.text_of.ensures
