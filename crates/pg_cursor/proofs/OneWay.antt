-- There is one way between two tails.
use Rattle.std.proofs.Common.{◌≡◌, ◌⊎◌, ◌+◌, ℕ, List, [], ◌∷◌, refl, sym, subst, inl, inr, arith}
use Rattle.std.specs.Prelude.{nat_le, true, false}
use Rattle.std.proofs.lemmas.Bool.{cases_Bool, cases_eq}
use Rattle.std.proofs.lemmas.Grind.{common_steps}
use Rattle.pg_page.specs.declared.place.Place.{Place}
use Rattle.pg_page.specs.Pages.{Pages}
use Rattle.pg_cursor.specs.declared.tail.Tail.{Tail}
use Rattle.pg_cursor.specs.declared.tail.Tail.TheVariants.{Behind}
use Rattle.pg_cursor.specs.Entries.{StandsOn}
use Rattle.pg_cursor.specs.Places.{IsNoEarlier, IsPassed, page_of, passed_of}
use Rattle.pg_cursor.specs.Ways.{HasPayload, IsFirstBehind, Way}
use Rattle.pg_cursor.proofs.Along.{later_both}
use Rattle.pg_cursor.proofs.CountedBehind.{passed_or_not}
use Rattle.pg_cursor.proofs.Stepping.{one_payload}
use Rattle.pg_cursor.proofs.Walked.{passed_later}

-- behind a place that wasn't passed a tail stands no earlier
not_passed_later : (tail : Tail) (place : Place) → (IsPassed tail place.position → ⊥) → IsNoEarlier tail (Behind place)
not_passed_later tail place behind = by (cases_eq (page_of tail) place.position.page) (cases_Bool (nat_le (page_of tail) place.position.page)) (cases_Bool (nat_le (passed_of tail) (place.position.index + 1)))
  where
    by : (page_of tail ≡ place.position.page) ⊎ (page_of tail ≡ place.position.page → ⊥) → (nat_le (page_of tail) place.position.page ≡ true) ⊎ (nat_le (page_of tail) place.position.page ≡ false)
        → (nat_le (passed_of tail) (place.position.index + 1) ≡ true) ⊎ (nat_le (passed_of tail) (place.position.index + 1) ≡ false) → IsNoEarlier tail (Behind place)
    by (inl same) second (inl few) = inr (same, grind (arith, common_steps, few))
    by (inl same) second (inr more) = absurd (behind (inr (sym same, grind (arith, common_steps, more))))
    by (inr apart) (inl from) third = inl (grind (arith, common_steps, apart, from))
    by (inr apart) (inr before) third = absurd (behind (inl (grind (arith, common_steps, before))))

-- a place was passed, or a tail behind it stands no earlier
later_or : (tail : Tail) (place : Place) → IsPassed tail place.position ⊎ IsNoEarlier tail (Behind place)
later_or tail place = elim (passed_or_not tail place.position) [
  | inl passed ↦ inl passed
  | inr behind ↦ inr (not_passed_later tail place behind)
]

module _ (pages : Pages) where
  stands : (place : Place) (payload : List ℕ) → HasPayload pages place payload → StandsOn pages place
  stands place payload has = record { bytes = has.bytes; there = has.there; is = (has.before, payload, has.at); fit = has.fit }

  passed_itself : (place : Place) → IsPassed (Behind place) place.position
  passed_itself place = inr (refl, omega arith)

  way_later : (old new : Tail) (way : List (Place × List ℕ)) → Way pages old way new → IsNoEarlier old new
  way_later old new [] between = between.later
  way_later old new (passed ∷ way) more = later_both old (Behind passed.0) new (not_passed_later old passed.0 more.0.behind) (way_later (Behind passed.0) new way more.1)

  -- the first place is one
  one_first : (tail : Tail) (a b : Place) (p q : List ℕ) → IsFirstBehind pages tail a p → IsFirstBehind pages tail b q → b ≡ a
  one_first tail a b p q one two = elim (later_or (Behind a) b) [
    | inl before ↦ elim (one.first b (stands b q two.has) before) [
      | inl passed ↦ absurd (two.behind passed)
      | inr same ↦ same
    ]
    | inr later ↦ elim (two.first a (stands a p one.has) (passed_later (Behind a) (Behind b) a.position later (passed_itself a))) [
      | inl passed ↦ absurd (one.behind passed)
      | inr same ↦ sym same
    ]
  ]

  none_first : (old new : Tail) (passed : Place × List ℕ) (way : List (Place × List ℕ)) → Way pages old [] new → Way pages old (passed ∷ way) new → ⊥
  none_first old new passed way none some =
      some.0.behind (none.nothing passed.0 (stands passed.0 passed.1 some.0.has) (passed_later (Behind passed.0) new passed.0.position (way_later (Behind passed.0) new way some.1) (passed_itself passed.0)))

  pub one_way : (old new : Tail) (a b : List (Place × List ℕ)) → Way pages old a new → Way pages old b new → a ≡ b
  one_way old new [] [] one two = refl
  one_way old new [] (y ∷ b) one two = absurd (none_first old new y b one two)
  one_way old new (x ∷ a) [] one two = absurd (none_first old new x a two one)
  one_way old new (x ∷ a) (y ∷ b) one two =
      let place : y.0 ≡ x.0 = one_first old x.0 y.0 x.1 y.1 one.0 two.0 in
      let payload : x.1 ≡ y.1 = one_payload pages x.0 x.1 y.1 one.0.has (subst (λ (p : Place). HasPayload pages p y.1) place two.0.has) in
      let more : a ≡ b = one_way (Behind x.0) new a b one.1 (subst (λ (p : Place). Way pages (Behind p) b new) place two.1) in
      λ i. (sym place i, payload i) ∷ more i
