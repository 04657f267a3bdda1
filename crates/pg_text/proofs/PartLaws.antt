-- The parts of a line that may be missing, and bodies, are read as they were spelled, and what is read was spelled.
use Rattle.std.proofs.Common.{◌≡◌, ℕ, List, [], ◌∷◌, ◌++◌, length, Option, Some, None, inl, inr, refl, ap, sym, subst, ◌∙◌}
use Rattle.std.specs.Prelude.{codes, IfSome}
use Rattle.std.proofs.lemmas.Bool.{and_parts, leb-true, le-leb}
use Rattle.std.proofs.lemmas.Option.{cond_some}
use Rattle.std.proofs.lemmas.Str.{IsUtf8-from_is_utf8, is_utf8-from_IsUtf8}
use Rattle.pg_msg.specs.declared.limits.TheConstants.{LONGEST_DUPLICATE_ID, LONGEST_FILTER}
use Rattle.pg_msg.specs.declared.properties.Property.{Property}
use Rattle.pg_msg.specs.Commands.{IsFilterText}
use Rattle.pg_msg.specs.Messages.{IsDuplicateId}
use Rattle.pg_msg.specs.Names.{IsName}
use Rattle.pg_msg.proofs.FieldLaws.{bind_some, some_is}
use Rattle.pg_msg.proofs.TestLaws.{between_decides}
use Rattle.pg_text.specs.Texts.{SpellsHex, filter_text, properties_text, tx_text}
use Rattle.pg_text.specs.Spelling.{SpellsId, SpellsBody}
use Rattle.pg_text.specs.Reading.{before, onward, behind, is_empty, hex_of, tx_from, tx_at, id_of, id_from, id_at, filter_from, filter_at, name_at, body_from, body_at}
use Rattle.pg_text.proofs.NumeralLemmas.{EndsAt}
use Rattle.pg_text.proofs.PieceLaws.{cut_parts, before_again, onward_again, behind_again, behind_takes}
use Rattle.pg_text.proofs.WordLaws.{Lacks-hex, name_again, name_takes, hex_again, hex_takes, is_nothing}

-- ---- parts that may be missing

pub tx_again : (tx : Option (List ℕ)) (rest : List ℕ) → IfSome tx IsName → EndsAt 32 rest → behind (codes " tx ") rest ≡ None → tx_at (tx_text tx ++ rest) ≡ Some (tx, rest)
unfolding tx_at
tx_again None rest is ends none = rw none refl
tx_again (Some name) rest is ends none = rw (behind_again (codes " tx ") (name ++ rest), name_again name rest is ends) refl

tx_found : (line : List ℕ) (tx : Option (List ℕ)) (rest : List ℕ) (name : Option (List ℕ)) → behind (codes " tx ") line ≡ name → tx_from name line ≡ Some (tx, rest) → (line ≡ tx_text tx ++ rest) × IfSome tx IsName
tx_found line tx rest None none found = subst (λ (x : Option (List ℕ) × List ℕ). (line ≡ tx_text x.0 ++ x.1) × IfSome x.0 IsName) (some_is (None, line) (tx, rest) found) (refl, tt)
tx_found line tx rest (Some more) keyword found =
    let a = bind_some (name_at more) _ (tx, rest) found in
    let taken = name_takes more a.0.0 a.0.1 a.1 in
    subst (λ (x : Option (List ℕ) × List ℕ). (line ≡ tx_text x.0 ++ x.1) × IfSome x.0 IsName) (some_is (Some a.0.0, a.0.1) (tx, rest) a.2) (behind_takes (codes " tx ") line more keyword ∙ ap (λ (xs : List ℕ). codes " tx " ++ xs) taken.0, taken.1)

pub tx_takes : (line : List ℕ) (tx : Option (List ℕ)) (rest : List ℕ) → tx_at line ≡ Some (tx, rest) → (line ≡ tx_text tx ++ rest) × IfSome tx IsName
unfolding tx_at
tx_takes line tx rest found = tx_found line tx rest (behind (codes " tx ") line) refl found

id_word_again : (digits id rest : List ℕ) → SpellsHex digits id → IsDuplicateId id → EndsAt 32 rest → id_from (Some (digits ++ rest)) [] ≡ Some (Some id, rest)
unfolding id_of
id_word_again digits id rest spelled is ends =
    let word = Lacks-hex digits id spelled in
    rw (before_again 32 digits rest word ends, onward_again 32 digits rest word ends, hex_again digits id spelled, (between_decides 1 LONGEST_DUPLICATE_ID (length id)).1 is) refl

pub dup_again : (part : List ℕ) (id : Option (List ℕ)) (rest : List ℕ) → SpellsId part id → IfSome id IsDuplicateId → EndsAt 32 rest → behind (codes " id ") rest ≡ None → id_at (part ++ rest) ≡ Some (id, rest)
unfolding id_at
dup_again part None rest is in_range ends none = rw (is, none) refl
dup_again part (Some id) rest is in_range ends none =
    ap id_at (ap (λ (xs : List ℕ). xs ++ rest) is.2)
    ∙ rw (behind_again (codes " id ") (is.0 ++ rest)) (id_word_again is.0 id rest is.1 in_range ends)

-- the line is a part that spells the id, and the rest
pub record HasId (line : List ℕ) (id : Option (List ℕ)) (rest : List ℕ) : Type 0 where
  pub part : List ℕ
  pub parts : line ≡ part ++ rest
  pub spelled : SpellsId part id
  pub in_range : IfSome id IsDuplicateId

dup_found : (line : List ℕ) (id : Option (List ℕ)) (rest : List ℕ) (digits : Option (List ℕ)) → behind (codes " id ") line ≡ digits → id_from digits line ≡ Some (id, rest) → HasId line id rest
unfolding id_of
dup_found line id rest None none found =
    subst (λ (x : Option (List ℕ) × List ℕ). HasId line x.0 x.1) (some_is (None, line) (id, rest) found) (record { part = []; parts = refl; spelled = refl; in_range = tt })
dup_found line id rest (Some more) keyword found =
    let a = bind_some (id_of (before 32 more)) _ (id, rest) found in
    let b = bind_some (hex_of (before 32 more)) _ a.0 a.1 in
    let passed = cond_some _ _ _ b.2 in
    let within = subst IsDuplicateId passed.1 ((between_decides 1 LONGEST_DUPLICATE_ID (length b.0)).0 passed.0) in
    let spelled = subst (SpellsHex (before 32 more)) passed.1 (hex_takes (before 32 more) b.0 b.1) in
    let whole : line ≡ (codes " id " ++ before 32 more) ++ onward 32 more = behind_takes (codes " id ") line more keyword ∙ ap (λ (xs : List ℕ). codes " id " ++ xs) (cut_parts 32 more) in
    subst (λ (x : Option (List ℕ) × List ℕ). HasId line x.0 x.1) (some_is (Some a.0, onward 32 more) (id, rest) a.2) (record {
      part = codes " id " ++ before 32 more;
      parts = whole;
      spelled = (before 32 more, spelled, refl);
      in_range = within;
    })

pub dup_takes : (line : List ℕ) (id : Option (List ℕ)) (rest : List ℕ) → id_at line ≡ Some (id, rest) → HasId line id rest
unfolding id_at
dup_takes line id rest found = dup_found line id rest (behind (codes " id ") line) refl found

pub filter_again : (filter : Option (List ℕ)) → IfSome filter IsFilterText → filter_at (filter_text filter) ≡ Some filter
unfolding filter_at behind
filter_again None is = refl
filter_again (Some filter) is = ap (λ (o : Option (List ℕ)). filter_from o (filter_text (Some filter))) (behind_again (codes " where ") filter) ∙ rw (is_utf8-from_IsUtf8 filter is.0, le-leb (length filter) LONGEST_FILTER is.1) refl

filter_found : (line : List ℕ) (filter : Option (List ℕ)) (text : Option (List ℕ)) → behind (codes " where ") line ≡ text → filter_from text line ≡ Some filter → (line ≡ filter_text filter) × IfSome filter IsFilterText
filter_found line filter None none found =
    let passed = cond_some (is_empty line) None filter found in
    subst (λ (f : Option (List ℕ)). (line ≡ filter_text f) × IfSome f IsFilterText) passed.1 (is_nothing line passed.0, tt)
filter_found line filter (Some text) keyword found =
    let passed = cond_some _ _ _ found in
    let both = and_parts _ _ passed.0 in
    subst (λ (f : Option (List ℕ)). (line ≡ filter_text f) × IfSome f IsFilterText) passed.1 (behind_takes (codes " where ") line text keyword, (IsUtf8-from_is_utf8 text both.0, leb-true (length text) LONGEST_FILTER both.1))

pub filter_takes : (line : List ℕ) (filter : Option (List ℕ)) → filter_at line ≡ Some filter → (line ≡ filter_text filter) × IfSome filter IsFilterText
unfolding filter_at
filter_takes line filter found = filter_found line filter (behind (codes " where ") line) refl found

-- ---- bodies, and what tells one part from another

not_body : (digits : List ℕ) → behind (codes " body ") (codes " hex " ++ digits) ≡ None
unfolding behind
not_body digits = refl

pub body_again : (part body : List ℕ) → SpellsBody part body → body_at part ≡ Some body
unfolding body_at
body_again part body (inl plain) = rw (plain, behind_again (codes " body ") body) refl
body_again part body (inr hex) = rw (hex.bytes, not_body hex.digits, behind_again (codes " hex ") hex.digits, hex_again hex.digits body hex.spelled) refl

body_found : (line body : List ℕ) (bytes : Option (List ℕ)) → behind (codes " body ") line ≡ bytes → body_from bytes line ≡ Some body → SpellsBody line body
body_found line body None none found =
    let a = bind_some (behind (codes " hex ") line) _ body found in
    inr (record { digits = a.0; spelled = hex_takes a.0 body a.2; bytes = behind_takes (codes " hex ") line a.0 a.1 })
body_found line body (Some bytes) keyword found = inl (behind_takes (codes " body ") line bytes keyword ∙ ap (λ (xs : List ℕ). codes " body " ++ xs) (some_is bytes body found))

pub body_takes : (line body : List ℕ) → body_at line ≡ Some body → SpellsBody line body
unfolding body_at
body_takes line body found = body_found line body (behind (codes " body ") line) refl found

-- what may stand behind the parts that may be missing
pub record Follows (rest : List ℕ) : Type 0 where
  pub ends : EndsAt 32 rest
  pub no_tx : behind (codes " tx ") rest ≡ None
  pub no_id : behind (codes " id ") rest ≡ None
  pub no_property : behind (codes " prop ") rest ≡ None

pub nothing_follows : Follows []
unfolding behind
nothing_follows = record { ends = tt; no_tx = refl; no_id = refl; no_property = refl }

plain_follows : (body : List ℕ) → Follows (codes " body " ++ body)
unfolding behind
plain_follows body = record { ends = refl; no_tx = refl; no_id = refl; no_property = refl }

hex_follows : (digits : List ℕ) → Follows (codes " hex " ++ digits)
unfolding behind
hex_follows digits = record { ends = refl; no_tx = refl; no_id = refl; no_property = refl }

pub body_follows : (part body : List ℕ) → SpellsBody part body → Follows part
body_follows part body (inl plain) = subst Follows (sym plain) (plain_follows body)
body_follows part body (inr hex) = subst Follows (sym hex.bytes) (hex_follows hex.digits)

-- properties and what follows them hold no id and no transaction
pub properties_no_id : (properties : List Property) (rest : List ℕ) → behind (codes " id ") rest ≡ None → behind (codes " id ") (properties_text properties ++ rest) ≡ None
unfolding behind
properties_no_id [] rest none = none
properties_no_id (property ∷ properties) rest none = refl

pub properties_no_tx : (properties : List Property) (rest : List ℕ) → behind (codes " tx ") rest ≡ None → behind (codes " tx ") (properties_text properties ++ rest) ≡ None
unfolding behind
properties_no_tx [] rest none = none
properties_no_tx (property ∷ properties) rest none = refl

id_words_no_tx : (digits rest : List ℕ) → behind (codes " tx ") ((codes " id " ++ digits) ++ rest) ≡ None
unfolding behind
id_words_no_tx digits rest = refl

pub id_no_tx : (part : List ℕ) (id : Option (List ℕ)) (rest : List ℕ) → SpellsId part id → behind (codes " tx ") rest ≡ None → behind (codes " tx ") (part ++ rest) ≡ None
id_no_tx part None rest is none = ap (λ (xs : List ℕ). behind (codes " tx ") (xs ++ rest)) is ∙ none
id_no_tx part (Some id) rest is none = ap (λ (xs : List ℕ). behind (codes " tx ") (xs ++ rest)) is.2 ∙ id_words_no_tx is.0 rest

pub ends_id : (part : List ℕ) (id : Option (List ℕ)) (rest : List ℕ) → SpellsId part id → EndsAt 32 rest → EndsAt 32 (part ++ rest)
ends_id part None rest is ends = subst (λ (xs : List ℕ). EndsAt 32 (xs ++ rest)) (sym is) ends
ends_id part (Some id) rest is ends = subst (λ (xs : List ℕ). EndsAt 32 (xs ++ rest)) (sym is.2) refl

pub ends_tx : (tx : Option (List ℕ)) (rest : List ℕ) → EndsAt 32 rest → EndsAt 32 (tx_text tx ++ rest)
ends_tx None rest ends = ends
ends_tx (Some name) rest ends = refl

pub ends_filter : (filter : Option (List ℕ)) → EndsAt 32 (filter_text filter)
ends_filter None = tt
ends_filter (Some filter) = refl
