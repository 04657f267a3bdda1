-- The frames of pages stand in the order of their positions.
use Rattle.std.proofs.Common.{◌≡◌, ◌⊎◌, ◌<◌, ◌≤◌, ◌+◌, ℕ, Bool, true, false, List, [], ◌∷◌, ◌++◌, refl, sym, ap, subst, ◌∙◌, inl, inr, arith}
use Rattle.std.proofs.lemmas.Bool.{cond_both}
use Rattle.std.specs.Prelude.{find, Option, Some, None}
use Rattle.std.specs.List.{Contains}
use Rattle.pg_acks.specs.declared.position.Position.{Position}
use Rattle.pg_paged.proofs.Lists.{in_cases, in_first, in_rest, nothing_in}
use Rattle.pg_page.specs.Pages.{Entry, HasFrames, Pages, SpellFrames, positioned, positioned_in}
use Rattle.pg_cursor.specs.Places.{IsBefore}
use Rattle.pg_paged.specs.Paged.{Framed, Frames}

-- the position is this one or behind it
abbrev pub IsFrom : ℕ → ℕ → Position → Type 0
IsFrom page index position = (page < position.page) ⊎ ((page ≡ position.page) × (index ≤ position.index))

-- the first position is this one or behind it, and each is behind the one before it
abbrev pub Ascends : {X : Type 0} → ℕ → ℕ → List (Position × X) → Type 0
Ascends page index [] = Unit {0}
Ascends page index (x ∷ xs) = IsFrom page index x.0 × Ascends x.0.page (x.0.index + 1) xs

later_page : (page other index : ℕ) (position : Position) → page < other → IsFrom other 0 position → IsFrom page index position
later_page page other index position below (inl more) = inl (omega (arith, below, more))
later_page page other index position below (inr here) = inl (omega (arith, below, here.0))

from_later : (page other index : ℕ) (entries : List Entry) → page < other → Ascends other 0 entries → Ascends page index entries
from_later page other index [] below ascends = tt
from_later page other index (x ∷ xs) below ascends = (later_page page other index x.0 below ascends.0, ascends.1)

in_page : (page index : ℕ) (payloads : List (List ℕ)) (rest : List Entry) → Ascends (page + 1) 0 rest → Ascends page index (positioned_in page index payloads ++ rest)
in_page page index [] rest ascends = from_later page (page + 1) index rest (omega arith) ascends
in_page page index (payload ∷ payloads) rest ascends = (inr (refl, omega arith), in_page page (index + 1) payloads rest ascends)

entries_ascend : (first : ℕ) (payloads : List (List (List ℕ))) → Ascends first 0 (positioned first payloads)
entries_ascend first [] = tt
entries_ascend first (x ∷ xs) = in_page first 0 x (positioned (first + 1) xs) (entries_ascend (first + 1) xs)

spelled_ascend : (page index : ℕ) (entries : List Entry) (frames : Frames) → Ascends page index entries → SpellFrames entries frames → Ascends page index frames
spelled_ascend page index [] frames ascends spells = subst (λ (l : Frames). Ascends page index l) (sym spells) tt
spelled_ascend page index (entry ∷ entries) frames ascends spells =
    subst (λ (l : Frames). Ascends page index l) (sym spells.4) (ascends.0, spelled_ascend entry.0.page (entry.0.index + 1) entries spells.1 ascends.1 spells.3)

pub frames_ascend : (first : ℕ) (frames : Frames) (pages : Pages) → HasFrames first frames pages → Ascends first 0 frames
frames_ascend first frames pages has =
    spelled_ascend first 0 has.entries frames (subst (λ (l : List Entry). Ascends first 0 l) (sym has.has.are) (entries_ascend first has.has.payloads)) has.spelled

-- ---- what stands behind a position
pub onward : (page index : ℕ) (a b : Position) → IsFrom page index a → IsFrom a.page (a.index + 1) b → IsFrom page index b
onward page index a b (inl p) (inl q) = inl (omega (arith, p, q))
onward page index a b (inl p) (inr q) = inl (omega (arith, p, q.0))
onward page index a b (inr p) (inl q) = inl (omega (arith, p.0, q))
onward page index a b (inr p) (inr q) = inr (p.0 ∙ q.0, omega (arith, p.1, q.1))

pub all_from : (page index : ℕ) (frames : Frames) (x : Framed) → Ascends page index frames → Contains frames x → IsFrom page index x.0
all_from page index [] x ascends there = absurd (nothing_in x there)
all_from page index (y ∷ ys) x ascends there = elim (in_cases x y ys there) [
  | inl is ↦ subst (λ (z : Framed). IsFrom page index z.0) is ascends.0
  | inr rest ↦ onward page index y.0 x.0 ascends.0 (all_from y.0.page (y.0.index + 1) ys x ascends.1 rest)
]

before : (a b : Position) → IsFrom a.page (a.index + 1) b → IsBefore a b
before a b (inl page) = inl page
before a b (inr here) = inr (here.0, omega (arith, here.1))

pub not_behind_itself : (a b : Position) → IsFrom a.page (a.index + 1) b → a ≡ b → ⊥
not_behind_itself a b (inl page) same = omega (arith, page, ap (λ (p : Position). p.page) same)
not_behind_itself a b (inr here) same = omega (arith, here.1, ap (λ (p : Position). p.index) same)

-- at a position stands one frame
pub one_at : (page index : ℕ) (frames : Frames) (x y : Framed) → Ascends page index frames → Contains frames x → Contains frames y → x.0 ≡ y.0 → x ≡ y
one_at page index [] x y ascends one other same = absurd (nothing_in x one)
one_at page index (z ∷ zs) x y ascends one other same = elim (in_cases x z zs one) [
  | inl x_is ↦ elim (in_cases y z zs other) [
    | inl y_is ↦ sym x_is ∙ y_is
    | inr y_in ↦ absurd (not_behind_itself z.0 y.0 (all_from z.0.page (z.0.index + 1) zs y ascends.1 y_in) (ap (λ (f : Framed). f.0) x_is ∙ same))
  ]
  | inr x_in ↦ elim (in_cases y z zs other) [
    | inl y_is ↦ absurd (not_behind_itself z.0 x.0 (all_from z.0.page (z.0.index + 1) zs x ascends.1 x_in) (ap (λ (f : Framed). f.0) y_is ∙ sym same))
    | inr y_in ↦ one_at z.0.page (z.0.index + 1) zs x y ascends.1 x_in y_in same
  ]
]

-- ---- the first that passes a test
true_false : (b : Bool) → b ≡ true → b ≡ false → ⊥
true_false b yes_ no_ = cc

abbrev pub FindsFirst : (Framed → Bool) → Frames → Option Framed → Type 0
FindsFirst p frames None = (x : Framed) → Contains frames x → p x ≡ false
FindsFirst p frames (Some first) =
    Contains frames first × (p first ≡ true) × ((x : Framed) → Contains frames x → p x ≡ true → (first ≡ x) ⊎ IsBefore first.0 x.0)

pub finds_first : (p : Framed → Bool) (page index : ℕ) (frames : Frames) → Ascends page index frames → FindsFirst p frames (find p frames)
finds_first p page index [] ascends = λ x there. absurd (nothing_in x there)
finds_first p page index (y ∷ ys) ascends =
    cond_both (p y) (Some y) (find p ys) (FindsFirst p (y ∷ ys))
    (λ here. (
      in_first y ys,
      here,
      λ x there passes. elim (in_cases x y ys there) [
        | inl is ↦ inl is
        | inr rest ↦ inr (before y.0 x.0 (all_from y.0.page (y.0.index + 1) ys x ascends.1 rest))
      ],
    ))
    (λ other. later (find p ys) other (finds_first p y.0.page (y.0.index + 1) ys ascends.1))
  where
    later : (o : Option Framed) → p y ≡ false → FindsFirst p ys o → FindsFirst p (y ∷ ys) o
    later None other none = λ x there. elim (in_cases x y ys there) [
      | inl is ↦ ap p (sym is) ∙ other
      | inr rest ↦ none x rest
    ]
    later (Some first) other found = (
      in_rest first y ys found.0,
      found.1,
      λ x there passes. elim (in_cases x y ys there) [
        | inl is ↦ absurd (true_false (p y) (ap p is ∙ passes) other)
        | inr rest ↦ found.2 x rest passes
      ],
    )
