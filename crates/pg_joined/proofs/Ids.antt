-- Ids that are put at their places and taken away, in any order.
use Rattle.std.proofs.Common.{◌≡◌, suc, cond, Bool, true, false, not, ◌||◌, List, [], ◌∷◌, refl, sym, ap, subst, ◌∙◌, inl, inr, arith}
use Rattle.std.proofs.lemmas.Bool.{cases_Bool, cond_both, false≢true}
use Rattle.std.proofs.lemmas.Grind.{common_steps}
use Rattle.std.specs.List.{AllByRecursion, Contains, list_any}
use Rattle.std.proofs.lemmas.List.Elements.{recursion_from_All}
use Rattle.pg_msg.specs.declared.message.MessageId.{MessageId}
use Rattle.pg_model.specs.Broker.{same_id}
use Rattle.pg_model.specs.Changes.{is_before, with_id, without_id}
use Rattle.pg_joined.specs.Joined.{Ascends, merged}
use Rattle.pg_joined.proofs.Lists.{in_cases, in_first, in_rest, nothing_in}

-- ---- one id
pub one_id : (a b : MessageId) → same_id a b ≡ true → a ≡ b
one_id a b same = grind (arith, common_steps, same)

pub itself : (a : MessageId) → same_id a a ≡ true
itself a = grind (arith, common_steps)

-- ---- the order of ids
behind_not_before : (a b : MessageId) → is_before a b ≡ true → is_before b a ≡ false
behind_not_before a b before = grind (arith, common_steps, before)

only_itself : (a b : MessageId) → is_before a b ≡ false → is_before b a ≡ false → a ≡ b
only_itself a b this that = grind (arith, common_steps, this, that)

front_before : (x a b : MessageId) → is_before x a ≡ true → is_before x b ≡ false → is_before b a ≡ true
front_before x a b before not_before = grind (arith, common_steps, before, not_before)

not_before_both : (y x a : MessageId) → is_before y x ≡ false → is_before x a ≡ false → is_before y a ≡ false
not_before_both y x a this that = grind (arith, common_steps, this, that)

-- none of them is before that one
abbrev pub NoneBefore : MessageId → List MessageId → Type 0
NoneBefore a ids = AllByRecursion (λ id. is_before id a ≡ false) ids

-- none is before an earlier one
abbrev pub InOrder : List MessageId → Type 0
InOrder [] = Unit {0}
InOrder (id ∷ ids) = NoneBefore id ids × InOrder ids

-- ---- put at its place
pub goes_first : (a : MessageId) (ids : List MessageId) → NoneBefore a ids → with_id a ids ≡ a ∷ ids
goes_first a [] none = refl
goes_first a (x ∷ ids) none = ap (λ b. cond b (x ∷ with_id a ids) (a ∷ x ∷ ids)) none.0

two_put : (a b : MessageId) → with_id a (b ∷ []) ≡ with_id b (a ∷ [])
two_put a b =
    elim (cases_Bool (is_before a b)) [
      | inl before ↦ rw (before, behind_not_before a b before)
      | inr not_before ↦
          elim (cases_Bool (is_before b a)) [
            | inl before ↦ rw (before, not_before)
            | inr neither ↦ subst (λ x. with_id a (x ∷ []) ≡ with_id x (a ∷ [])) (only_itself a b not_before neither) refl
          ]
    ]

stands : (a x : MessageId) (ids : List MessageId) → is_before x a ≡ false → with_id a (x ∷ ids) ≡ a ∷ x ∷ ids
stands a x ids not_before = ap (λ t. cond t (x ∷ with_id a ids) (a ∷ x ∷ ids)) not_before

put_in_front : (a b x : MessageId) (ids : List MessageId) → is_before x a ≡ false → is_before x b ≡ false → with_id a (b ∷ x ∷ ids) ≡ with_id b (a ∷ x ∷ ids)
put_in_front a b x ids not_a not_b =
    elim (cases_Bool (is_before a b)) [
      | inl before ↦ rw (before, behind_not_before a b before, not_b)
      | inr not_before ↦
          elim (cases_Bool (is_before b a)) [
            | inl before ↦ rw (before, not_before, not_a)
            | inr neither ↦ subst (λ y. with_id a (y ∷ x ∷ ids) ≡ with_id y (a ∷ x ∷ ids)) (only_itself a b not_before neither) refl
          ]
    ]

pub put_both : (a b : MessageId) (ids : List MessageId) → with_id a (with_id b ids) ≡ with_id b (with_id a ids)
put_both a b [] = two_put a b
put_both a b (x ∷ ids) =
    elim (cases_Bool (is_before x a)) [
      | inl x_a ↦
          elim (cases_Bool (is_before x b)) [
            | inl x_b ↦ rw (x_a, x_b, x_a) (ap (λ others. x ∷ others) (put_both a b ids))
            | inr b_x ↦ rw (x_a, b_x, front_before x a b x_a b_x, x_a)
          ]
      | inr a_x ↦
          elim (cases_Bool (is_before x b)) [
            | inl x_b ↦ rw (x_b, a_x, front_before x b a x_b a_x, x_b)
            | inr b_x ↦ ap (with_id a) (stands b x ids b_x) ∙ (put_in_front a b x ids a_x b_x ∙ sym (ap (with_id b) (stands a x ids a_x)))
          ]
    ]

pub merged_put : (a : MessageId) (ids others : List MessageId) → merged ids (with_id a others) ≡ with_id a (merged ids others)
merged_put a [] others = refl
merged_put a (x ∷ ids) others = ap (with_id x) (merged_put a ids others) ∙ put_both x a (merged ids others)

pub put_merged : (a : MessageId) (ids others : List MessageId) → merged (with_id a ids) others ≡ with_id a (merged ids others)
put_merged a [] others = refl
put_merged a (x ∷ ids) others =
    elim (cases_Bool (is_before x a)) [
      | inl before ↦ rw before (ap (with_id x) (put_merged a ids others) ∙ put_both x a (merged ids others))
      | inr not_before ↦ rw not_before
    ]

-- ---- in order
none_put : (x a : MessageId) (ids : List MessageId) → is_before a x ≡ false → NoneBefore x ids → NoneBefore x (with_id a ids)
none_put x a [] its none = (its, tt)
none_put x a (y ∷ ids) its none =
    cond_both (is_before y a) (y ∷ with_id a ids) (a ∷ y ∷ ids) (NoneBefore x) (λ _. (none.0, none_put x a ids its none.1)) (λ _. (its, (none.0, none.1)))

none_further : (x a : MessageId) (ids : List MessageId) → is_before x a ≡ false → NoneBefore x ids → NoneBefore a ids
none_further x a [] not_before none = tt
none_further x a (y ∷ ids) not_before none = (not_before_both y x a none.0 not_before, none_further x a ids not_before none.1)

none_left : (a id : MessageId) (ids : List MessageId) → NoneBefore a ids → NoneBefore a (without_id id ids)
none_left a id [] none = tt
none_left a id (x ∷ ids) none =
    cond_both (not (same_id x id)) (x ∷ without_id id ids) (without_id id ids) (NoneBefore a) (λ _. (none.0, none_left a id ids none.1)) (λ _. none_left a id ids none.1)

pub put_in_order : (a : MessageId) (ids : List MessageId) → InOrder ids → InOrder (with_id a ids)
put_in_order a [] ordered = (tt, tt)
put_in_order a (x ∷ ids) ordered =
    cond_both (is_before x a) (x ∷ with_id a ids) (a ∷ x ∷ ids) InOrder
    (λ before. (none_put x a ids (behind_not_before x a before) ordered.0, put_in_order a ids ordered.1))
    (λ not_before. ((not_before, none_further x a ids not_before ordered.0), ordered))

pub merged_in_order : (ids others : List MessageId) → InOrder others → InOrder (merged ids others)
merged_in_order [] others ordered = ordered
merged_in_order (x ∷ ids) others ordered = put_in_order x (merged ids others) (merged_in_order ids others ordered)

all_behind : (x : MessageId) (ids : List MessageId) → AllByRecursion (λ id. is_before x id ≡ true) ids → NoneBefore x ids
all_behind x [] all = tt
all_behind x (y ∷ ids) all = (behind_not_before x y all.0, all_behind x ids all.1)

pub ascending_in_order : (ids : List MessageId) → Ascends ids → InOrder ids
ascending_in_order [] ascends = tt
ascending_in_order (x ∷ ids) ascends = (
  all_behind x ids (recursion_from_All (λ id. is_before x id ≡ true) ids (λ k d within. ascends 0 (suc k) d (omega arith) (omega arith))),
  ascending_in_order ids (λ i j d before within. ascends (suc i) (suc j) d (omega arith) (omega arith)),
)

-- ---- taken away
taken_put : (id : MessageId) (ids : List MessageId) → without_id id (with_id id ids) ≡ without_id id ids
taken_put id [] = ap (λ b. cond (not b) (id ∷ []) []) (itself id)
taken_put id (x ∷ ids) =
    elim (cases_Bool (is_before x id)) [
      | inl before ↦ rw before (ap (λ others. cond (not (same_id x id)) (x ∷ others) others) (taken_put id ids))
      | inr not_before ↦ rw (not_before, itself id)
    ]

other_taken : (a id : MessageId) (ids : List MessageId) → same_id a id ≡ false → InOrder ids → without_id id (with_id a ids) ≡ with_id a (without_id id ids)
other_taken a id [] differs ordered = ap (λ b. cond (not b) (a ∷ []) []) differs
other_taken a id (x ∷ ids) differs ordered =
    elim (cases_Bool (is_before x a)) [
      | inl before ↦
          elim (cases_Bool (same_id x id)) [
            | inl same ↦ rw (before, same) (other_taken a id ids differs ordered.1)
            | inr other ↦ rw (before, other, before) (ap (λ others. x ∷ others) (other_taken a id ids differs ordered.1))
          ]
      | inr not_before ↦
          rw (not_before, differs)
          (sym (goes_first a (without_id id (x ∷ ids)) (none_left a id (x ∷ ids) (not_before, none_further x a ids not_before ordered.0))))
    ]

-- one of the ids is that one
abbrev pub has_id : MessageId → List MessageId → Bool
has_id id ids = list_any (λ other. same_id other id) ids

pub has_put : (id a : MessageId) (ids : List MessageId) → has_id id (with_id a ids) ≡ (same_id a id || has_id id ids)
has_put id a [] = refl
has_put id a (x ∷ ids) =
    elim (cases_Bool (is_before x a)) [
      | inl before ↦ grind (arith, common_steps, before, has_put id a ids)
      | inr behind ↦ grind (arith, common_steps, behind)
    ]

pub has_merged : (id : MessageId) (ids others : List MessageId) → has_id id (merged ids others) ≡ (has_id id ids || has_id id others)
has_merged id [] others = refl
has_merged id (x ∷ ids) others = has_put id x (merged ids others) ∙ (ap (λ b. same_id x id || b) (has_merged id ids others) ∙ regrouped (same_id x id) (has_id id ids) (has_id id others))
  where
    regrouped : (a b c : Bool) → (a || (b || c)) ≡ ((a || b) || c)
    regrouped true b c = refl
    regrouped false b c = refl

pub left_alone : (id : MessageId) (ids : List MessageId) → has_id id ids ≡ false → without_id id ids ≡ ids
left_alone id [] none = refl
left_alone id (x ∷ ids) none =
    elim (cases_Bool (same_id x id)) [
      | inl same ↦ absurd (false≢true (sym none ∙ ap (λ b. b || has_id id ids) same))
      | inr other ↦ rw other (ap (λ others. x ∷ others) (left_alone id ids (sym (ap (λ b. b || has_id id ids) other) ∙ none)))
    ]

pub taken_behind : (id : MessageId) (ids others : List MessageId) → has_id id ids ≡ false → InOrder others → without_id id (merged ids others) ≡ merged ids (without_id id others)
taken_behind id [] others none ordered = refl
taken_behind id (x ∷ ids) others none ordered =
    elim (cases_Bool (same_id x id)) [
      | inl same ↦ absurd (false≢true (sym none ∙ ap (λ b. b || has_id id ids) same))
      | inr other ↦
          other_taken x id (merged ids others) other (merged_in_order ids others ordered)
          ∙ ap (with_id x) (taken_behind id ids others (sym (ap (λ b. b || has_id id ids) other) ∙ none) ordered)
    ]

pub taken_in_front : (id : MessageId) (ids others : List MessageId) → has_id id others ≡ false → InOrder others → without_id id (merged ids others) ≡ merged (without_id id ids) others
taken_in_front id [] others none ordered = left_alone id others none
taken_in_front id (x ∷ ids) others none ordered =
    elim (cases_Bool (same_id x id)) [
      | inl same ↦
          rw same
          (subst (λ y. without_id id (with_id y (merged ids others)) ≡ merged (without_id id ids) others) (sym (one_id x id same))
          (taken_put id (merged ids others) ∙ taken_in_front id ids others none ordered))
      | inr other ↦
          rw other
          (other_taken x id (merged ids others) other (merged_in_order ids others ordered) ∙ ap (with_id x) (taken_in_front id ids others none ordered))
    ]

-- ---- an id that a list contains
pub has_it : (id : MessageId) (ids : List MessageId) → Contains ids id → has_id id ids ≡ true
has_it id [] there = absurd (nothing_in id there)
has_it id (x ∷ ids) there =
    elim (in_cases id x ids there) [
      | inl is ↦ ap (λ b. b || has_id id ids) (ap (λ y. same_id y id) is ∙ itself id)
      | inr rest ↦ either (same_id x id) (has_it id ids rest)
    ]
  where
    either : (b : Bool) → has_id id ids ≡ true → (b || has_id id ids) ≡ true
    either true has = refl
    either false has = has

pub contains_it : (id : MessageId) (ids : List MessageId) → has_id id ids ≡ true → Contains ids id
contains_it id [] has = absurd (false≢true has)
contains_it id (x ∷ ids) has =
    elim (cases_Bool (same_id x id)) [
      | inl same ↦ subst (λ y. Contains (x ∷ ids) y) (one_id x id same) (in_first x ids)
      | inr other ↦ in_rest id x ids (contains_it id ids (sym (ap (λ b. b || has_id id ids) other) ∙ has))
    ]

pub lacks_it : (id : MessageId) (ids : List MessageId) → (Contains ids id → ⊥) → has_id id ids ≡ false
lacks_it id ids none =
    elim (cases_Bool (has_id id ids)) [
      | inl has ↦ absurd (none (contains_it id ids has))
      | inr lacks ↦ lacks
    ]
