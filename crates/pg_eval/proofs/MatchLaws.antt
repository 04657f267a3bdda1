-- By a text a message matches or doesn't.
use Rattle.std.proofs.Common.{◌≡◌, ℕ, Bool, List, refl, sym, ◌∙◌, ap}
use Rattle.pg_msg.specs.declared.properties.Property.{Property}
use Rattle.pg_parse.specs.FilterTexts.{IsReadable}
use Rattle.pg_parse.proofs.FilterTextLaws.{text_one}
use Rattle.pg_eval.specs.Matching.{IsMatchBy}
use Rattle.pg_eval.specs.Truth.{is_match}

pub match_one : (text : List ℕ) (properties : List Property) (a b : Bool) → IsMatchBy text properties a → IsMatchBy text properties b → a ≡ b
match_one text properties a b this that =
    this.is ∙ (ap (λ filter. is_match properties filter) (text_one text this.filter that.filter this.read that.read) ∙ sym that.is)

pub match_some : (text : List ℕ) (properties : List Property) → IsReadable text → (matched : Bool) × IsMatchBy text properties matched
match_some text properties readable =
    (is_match properties readable.0, record { filter = readable.0; read = readable.1; is = refl })
