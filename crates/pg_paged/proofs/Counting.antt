-- Places and frames at the same positions are as many.
use Rattle.std.proofs.Common.{◌≡◌, ◌⊎◌, ◌≤◌, ◌+◌, ◌-◌, ◌^◌, ℕ, suc, Bool, true, false, List, [], ◌∷◌, length, refl, sym, ap, subst, ◌∙◌, inl, inr, arith}
use Rattle.std.proofs.lemmas.Bool.{cases_Bool, cond_both}
use Rattle.std.proofs.lemmas.Grind.{common_steps}
use Rattle.std.proofs.lemmas.List.{length-map}
use Rattle.std.specs.Prelude.{All, filter, min, Option, Some, None, if◌then◌else◌}
use Rattle.std.specs.List.{Contains}
use Rattle.pg_acks.specs.declared.position.Position.{Position}
use Rattle.pg_acks.specs.Acked.{AckSets}
use Rattle.pg_page.specs.declared.place.Place.{Place}
use Rattle.pg_page.specs.Pages.{HasFrames, Pages}
use Rattle.pg_pagetx.specs.Standings.{Transactions}
use Rattle.pg_cursor.specs.Counting.{AreAll, AreOnce, HasCount, IsCounted}
use Rattle.pg_cursor.specs.Entries.{pages_from}
use Rattle.pg_cursor.specs.Places.{HasPlace, is_same, offset_at}
use Rattle.pg_cursor.specs.Tracking.{Cursor}
use Rattle.pg_paged.specs.Paged.{Framed, Frames, is_left, message_in, paged_for}
use Rattle.pg_paged.proofs.Giving.{in_all, live_at, live_left, live_listed}
use Rattle.pg_paged.proofs.Lists.{from_kept, in_cases, in_first, in_kept, in_rest, nothing_in}
use Rattle.pg_paged.proofs.Ordering.{Ascends, IsFrom, all_from, frames_ascend, not_behind_itself, onward}

-- ---- positions
same_at : (a b : Position) → is_same a b ≡ true → a ≡ b
same_at a b same = λ i. record { page = pages a b same i; index = indexes a b same i }
  where
    pages : (a b : Position) → is_same a b ≡ true → a.page ≡ b.page
    pages a b same = grind (arith, common_steps, same)

    indexes : (a b : Position) → is_same a b ≡ true → a.index ≡ b.index
    indexes a b same = grind (arith, common_steps, same)

itself : (a : Position) → is_same a a ≡ true
itself a = grind (arith, common_steps)

apart_if : (a b : Position) → (a ≡ b → ⊥) → is_same a b ≡ false
apart_if a b never = elim (cases_Bool (is_same a b)) [
  | inl same ↦ absurd (never (same_at a b same))
  | inr apart ↦ apart
]

differ : (a b : Position) → is_same a b ≡ false → a ≡ b → ⊥
differ a b apart same = clash (is_same a a) (itself a) (ap (is_same a) same ∙ apart)
  where
    clash : (b : Bool) → b ≡ true → b ≡ false → ⊥
    clash b is not_ = cc

not_none : (o : Option ℕ) (n : ℕ) → o ≡ None → o ≡ Some n → ⊥
not_none o n none some = cc

-- ---- places but that at a position
abbrev without : Position → List Place → List Place
without position [] = []
without position (place ∷ places) = if is_same position place.position then places else place ∷ without position places

one_fewer : (position : Position) (places : List Place) (offset : ℕ) → offset_at places position ≡ Some offset → length places ≡ suc (length (without position places))
one_fewer position [] offset has = absurd (not_none None offset refl has)
one_fewer position (place ∷ places) offset has = elim (cases_Bool (is_same position place.position)) [
  | inl same ↦ grind (arith, common_steps, same)
  | inr apart ↦ grind (arith, common_steps, apart, has, one_fewer position places offset (grind (arith, common_steps, apart, has)))
]

elsewhere_same : (position other : Position) (places : List Place) → is_same other position ≡ false → offset_at (without position places) other ≡ offset_at places other
elsewhere_same position other [] apart = refl
elsewhere_same position other (place ∷ places) apart = elim (cases_Bool (is_same position place.position)) [
  | inl same ↦
      let not_here : is_same other place.position ≡ false = ap (is_same other) (sym (same_at position place.position same)) ∙ apart in
      grind (arith, common_steps, same, not_here)
  | inr differs ↦ elim (cases_Bool (is_same other place.position)) [
    | inl here ↦ grind (arith, common_steps, differs, here)
    | inr not_here ↦ grind (arith, common_steps, differs, not_here, elsewhere_same position other places apart)
  ]
]

none_here : (position : Position) (places : List Place) → AreOnce places → offset_at (without position places) position ≡ None
none_here position [] once = refl
none_here position (place ∷ places) once = elim (cases_Bool (is_same position place.position)) [
  | inl same ↦
      let none : offset_at places position ≡ None = ap (offset_at places) (same_at position place.position same) ∙ once.0 in
      grind (arith, common_steps, same, none)
  | inr differs ↦ grind (arith, common_steps, differs, none_here position places once.1)
]

once_without : (position : Position) (places : List Place) → AreOnce places → AreOnce (without position places)
once_without position [] once = tt
once_without position (place ∷ places) once = go (once_without position places once.1) (cases_Bool (is_same position place.position))
  where
    rest : is_same position place.position ≡ true → without position (place ∷ places) ≡ places
    rest same = grind (arith, common_steps, same)

    both : is_same position place.position ≡ false → without position (place ∷ places) ≡ place ∷ without position places
    both differs = grind (arith, common_steps, differs)

    go : AreOnce (without position places) → (is_same position place.position ≡ true) ⊎ (is_same position place.position ≡ false) → AreOnce (without position (place ∷ places))
    go more (inl same) = subst AreOnce (sym (rest same)) once.1
    go more (inr differs) =
        subst AreOnce (sym (both differs)) (
          elsewhere_same position place.position places (apart_if place.position position (λ is. differ position place.position differs (sym is))) ∙ once.0,
          more,
        )

-- ---- as many
abbrev EachHasFrame : List Place → Frames → Type 0
EachHasFrame places frames = (place : Place) → HasPlace places place → (framed : Framed) × Contains frames framed × (framed.0 ≡ place.position)

abbrev EachHasPlace : List Place → Frames → Type 0
EachHasPlace places frames = (framed : Framed) → Contains frames framed → (offset : ℕ) × (offset_at places framed.0 ≡ Some offset)

none_there : (places : List Place) → EachHasFrame places [] → length places ≡ 0
none_there [] each = refl
none_there (place ∷ places) each =
    let framed = each place (first_has place places) in
    absurd (nothing_in framed.0 framed.1)
  where
    first_has : (place : Place) (places : List Place) → offset_at (place ∷ places) place.position ≡ Some place.offset
    first_has place places = grind (arith, common_steps)

pub as_many : (page index : ℕ) (places : List Place) (frames : Frames) → AreOnce places → Ascends page index frames → EachHasFrame places frames → EachHasPlace places frames → length places ≡ length frames
as_many page index places [] once ascends framed placed = none_there places framed
as_many page index places (first ∷ frames) once ascends framed placed =
    one_fewer first.0 places at.0 at.1
    ∙ ap (λ (n : ℕ). suc n) (as_many first.0.page (first.0.index + 1) (without first.0 places) frames (once_without first.0 places once) ascends.1 each_framed each_placed)
  where
    at : (offset : ℕ) × (offset_at places first.0 ≡ Some offset)
    at = placed first (in_first first frames)

    other_at : (other : Framed) → Contains frames other → is_same other.0 first.0 ≡ false
    other_at other there = apart_if other.0 first.0 (λ same. not_behind_itself first.0 other.0 (all_from first.0.page (first.0.index + 1) frames other ascends.1 there) (sym same))

    each_placed : EachHasPlace (without first.0 places) frames
    each_placed other there =
        let was = placed other (in_rest other first frames there) in
        (was.0, elsewhere_same first.0 other.0 places (other_at other there) ∙ was.1)

    each_framed : EachHasFrame (without first.0 places) frames
    each_framed place stands = by (cases_Bool (is_same place.position first.0))
      where
        by : (is_same place.position first.0 ≡ true) ⊎ (is_same place.position first.0 ≡ false) → (other : Framed) × Contains frames other × (other.0 ≡ place.position)
        by (inl same) = absurd (not_none (offset_at (without first.0 places) place.position) place.offset (ap (offset_at (without first.0 places)) (same_at place.position first.0 same) ∙ none_here first.0 places once) stands)
        by (inr apart) =
            let other = framed place (sym (elsewhere_same first.0 place.position places apart) ∙ stands) in
            elim (in_cases other.0 first frames other.1) [
              | inl is ↦ absurd (differ place.position first.0 apart (sym other.2 ∙ ap (λ (f : Framed). f.0) (sym is)))
              | inr rest ↦ (other.0, rest, other.2)
            ]

-- ---- what is kept ascends
from_ahead : (page index : ℕ) (a : Position) (frames : Frames) → IsFrom page index a → Ascends a.page (a.index + 1) frames → Ascends page index frames
from_ahead page index a [] from ascends = tt
from_ahead page index a (x ∷ xs) from ascends = (onward page index a x.0 from ascends.0, ascends.1)

pub kept_ascend : (p : Framed → Bool) (page index : ℕ) (frames : Frames) → Ascends page index frames → Ascends page index (filter p frames)
kept_ascend p page index [] ascends = tt
kept_ascend p page index (x ∷ xs) ascends =
    cond_both (p x) (x ∷ filter p xs) (filter p xs) (λ (l : Frames). Ascends page index l)
    (λ stays. (ascends.0, kept_ascend p x.0.page (x.0.index + 1) xs ascends.1))
    (λ goes. from_ahead page index x.0 (filter p xs) ascends.0 (kept_ascend p x.0.page (x.0.index + 1) xs ascends.1))

module _ (first last : ℕ) (frames : Frames) (pages : Pages) (has : HasFrames first frames pages) (cursor : Cursor) (acks : AckSets) (txs : Transactions) (within : All (λ framed. framed.0.page ≤ last) frames) where
  abbrev left : Frames
  left = filter (is_left acks txs cursor.queue) frames

  module _ (places : List Place) (all : AreAll (IsCounted last cursor acks txs (pages_from first pages)) places) where
    framed_each : EachHasFrame places left
    framed_each place stands =
        let live = (all.only place stands).live in
        ((place.position, live.entry.frame), in_kept (is_left acks txs cursor.queue) frames (place.position, live.entry.frame) (live_listed first frames pages has acks txs cursor.queue place live) (live_left first frames pages has acks txs cursor.queue place live), refl)

    placed_each : EachHasPlace places left
    placed_each framed there =
        let inside = from_kept (is_left acks txs cursor.queue) frames framed there in
        let at = live_at first frames pages has acks txs cursor.queue framed inside.0 inside.1 in
        let page : at.0.position.page ≤ last = subst (λ (p : Position). p.page ≤ last) (sym at.1) (in_all (λ (f : Framed). f.0.page ≤ last) frames framed within inside.0) in
        (at.0.offset, ap (offset_at places) (sym at.1) ∙ all.each at.0 (record { live = at.2; within = inl page }))

    length_is : length places ≡ length (paged_for acks txs cursor.queue frames)
    length_is = as_many first 0 places left all.once (kept_ascend (is_left acks txs cursor.queue) first 0 frames (frames_ascend first frames pages has)) framed_each placed_each ∙ sym (length-map left message_in)

  pub count_is : (count : ℕ) → HasCount (IsCounted last cursor acks txs (pages_from first pages)) count → count ≡ min (length (paged_for acks txs cursor.queue frames)) (2 ^ 64 - 1)
  count_is count counted = counted.is ∙ ap (λ (n : ℕ). min n (2 ^ 64 - 1)) (length_is counted.places counted.all)
