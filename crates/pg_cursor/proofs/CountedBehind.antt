-- What a walk counts, and what a cursor counts.
use Rattle.std.proofs.Common.{◌≡◌, ◌⊎◌, ◌≤◌, ◌+◌, ◌^◌, ◌-◌, ℕ, true, false, List, [], ◌∷◌, ◌++◌, length, Some, None, IsSome, refl, sym, ◌∙◌, ap, subst, inl, inr, arith, length-append}
use Rattle.std.specs.Prelude.{min}
use Rattle.std.proofs.lemmas.Bool.{cases_Bool}
use Rattle.std.proofs.lemmas.Grind.{common_steps}
use Rattle.std.specs.Prelude.{nat_le}
use Rattle.pg_acks.specs.declared.position.Position.{Position}
use Rattle.pg_acks.specs.Acked.{AckSets, is_acknowledged}
use Rattle.pg_page.specs.declared.place.Place.{Place}
use Rattle.pg_page.specs.Pages.{Pages}
use Rattle.pg_pagetx.specs.Standings.{Transactions}
use Rattle.pg_cursor.specs.declared.tail.Tail.{Tail}
use Rattle.pg_cursor.specs.declared.tail.Tail.TheVariants.{Behind}
use Rattle.pg_cursor.specs.Counting.{AreAll, AreOnce, CountsLive, HasCount, IsCounted, IsLiveBehind, open_of}
use Rattle.pg_cursor.specs.Entries.{IsLive, pages_from}
use Rattle.pg_cursor.specs.Places.{HasPlace, IsNoEarlier, IsPassed, offset_at, page_of, passed_of}
use Rattle.pg_cursor.specs.Tracking.{Cursor, Tracks}
use Rattle.pg_cursor.specs.Walking.{IsAtEnd, Walks}
use Rattle.pg_cursor.proofs.Counted.{all_as, all_both, all_of, all_open, no_places}
use Rattle.pg_cursor.proofs.FirstPage.{live_from, live_on, not_passed}
use Rattle.pg_cursor.proofs.Moving.{not_both, same_place}
use Rattle.pg_cursor.proofs.Walked.{passed_later}

some_place : (a b : Place) → Some a ≡ Some b → b ≡ a
some_place a b e = cc

none_place : (a : Place) → None ≡ Some a → ⊥
none_place a e = cc

-- a place and no other one
all_one : (place : Place) → AreAll (λ other. other ≡ place) (place ∷ [])
all_one place = record {
  each = λ other is. subst (λ (p : Place). HasPlace (place ∷ []) p) (sym is) here;
  only = λ other has. at_place other has;
  once = (refl, tt);
}
  where
    here : HasPlace (place ∷ []) place
    here = grind (arith, common_steps)

    at_place : (other : Place) → HasPlace (place ∷ []) other → other ≡ place
    at_place other has = same_place place other (λ i. record { page = page i; index = index i }) (grind (arith, common_steps, has))
      where
        page : other.position.page ≡ place.position.page
        page = grind (arith, common_steps, has)

        index : other.position.index ≡ place.position.index
        index = grind (arith, common_steps, has)

module _ (queue : ℕ) (acks : AckSets) (txs : Transactions) (pages : Pages) (from : Tail) where
  -- what is found between two tails
  pub record IsFound (tail : Tail) (place : Place) : Type 0 where
    pub live : IsLive queue acks txs pages place
    pub behind : IsPassed from place.position → ⊥
    pub passed : IsPassed tail place.position

  pub none_found : HasCount (IsFound from) 0
  none_found = record { places = []; all = no_places (IsFound from) (λ place is. is.behind is.passed); is = refl }

  pub more_passed : (tail next : Tail) (count : ℕ) → IsNoEarlier tail next → Walks queue acks txs tail next None pages → HasCount (IsFound tail) count → HasCount (IsFound next) count
  more_passed tail next count later walks has = record {
    places = has.places;
    all = all_as (IsFound tail) (IsFound next) has.places has.all
        (λ place is. record { live = is.live; behind = is.behind; passed = passed_later tail next place.position later is.passed })
        (λ place is. elim (walks.passed place is.live is.passed) [
          | inl before ↦ record { live = is.live; behind = is.behind; passed = before }
          | inr none ↦ absurd (none_place place none)
        ]);
    is = has.is;
  }

  pub one_more : (tail : Tail) (place : Place) (count : ℕ) → IsNoEarlier from tail → IsNoEarlier tail (Behind place) → Walks queue acks txs tail (Behind place) (Some place) pages → HasCount (IsFound tail) count
      → HasCount (IsFound (Behind place)) (min (count + 1) (2 ^ 64 - 1))
  one_more tail place count later onward walks has = record {
    places = place ∷ has.places;
    all = all_as (λ other. (other ≡ place) ⊎ IsFound tail other) (IsFound (Behind place)) (place ∷ has.places)
        (all_both (λ other. other ≡ place) (IsFound tail) apart (place ∷ []) has.places (all_one place) has.all) there back;
    is = ap (λ (n : ℕ). min (n + 1) (2 ^ 64 - 1)) has.is ∙ capped (length has.places) (length (place ∷ has.places)) (omega arith);
  }
    where
      capped : (n m : ℕ) → m ≡ n + 1 → min (min n (2 ^ 64 - 1) + 1) (2 ^ 64 - 1) ≡ min m (2 ^ 64 - 1)
      capped n m is = omega (arith, is)

      apart : (a b : Place) → a ≡ place → IsFound tail b → a.position ≡ b.position → ⊥
      apart a b is found same = walks.finds.2 (subst (IsPassed tail) (sym same ∙ ap (λ (p : Place). p.position) is) found.passed)

      there : (other : Place) → (other ≡ place) ⊎ IsFound tail other → IsFound (Behind place) other
      there other (inl is) = subst (IsFound (Behind place)) (sym is) (record {
        live = walks.finds.1;
        behind = λ passed. walks.finds.2 (passed_later from tail place.position later passed);
        passed = inr (refl, omega arith);
      })
      there other (inr is) = record { live = is.live; behind = is.behind; passed = passed_later tail (Behind place) other.position onward is.passed }

      back : (other : Place) → IsFound (Behind place) other → (other ≡ place) ⊎ IsFound tail other
      back other is = elim (walks.passed other is.live is.passed) [
        | inl before ↦ inr (record { live = is.live; behind = is.behind; passed = before })
        | inr found ↦ inl (some_place place other found)
      ]

  pub all_found : (last : ℕ) (tail : Tail) (count : ℕ) → ((position : Position) → IsPassed tail position → (IsPassed from position → ⊥) → position.page ≤ last) → IsAtEnd queue acks txs last tail pages → HasCount (IsFound tail) count
      → HasCount (IsLiveBehind queue acks txs last from pages) count
  all_found last tail count near end has = record {
    places = has.places;
    all = all_as (IsFound tail) (IsLiveBehind queue acks txs last from pages) has.places has.all
        (λ place is. record { live = is.live; behind = is.behind; within = near place.position is.passed is.behind })
        (λ place is. record { live = is.live; behind = is.behind; passed = end place is.live is.within });
    is = has.is;
  }

-- what a tail has passed stands on its page or before it
pub within_passed : (last : ℕ) (tail : Tail) (position : Position) → page_of tail ≤ last → IsPassed tail position → position.page ≤ last
within_passed last tail position within (inl page) = omega (arith, within, page)
within_passed last tail position within (inr here) = omega (arith, within, here.0)

-- a tail has passed a position, or it hasn't
pub passed_or_not : (tail : Tail) (position : Position) → IsPassed tail position ⊎ (IsPassed tail position → ⊥)
passed_or_not tail position = by (cases_Bool (nat_le (page_of tail) position.page)) (cases_Bool (nat_le position.page (page_of tail))) (cases_Bool (nat_le (position.index + 1) (passed_of tail)))
  where
    by : (nat_le (page_of tail) position.page ≡ true) ⊎ (nat_le (page_of tail) position.page ≡ false) → (nat_le position.page (page_of tail) ≡ true) ⊎ (nat_le position.page (page_of tail) ≡ false)
        → (nat_le (position.index + 1) (passed_of tail) ≡ true) ⊎ (nat_le (position.index + 1) (passed_of tail) ≡ false) → IsPassed tail position ⊎ (IsPassed tail position → ⊥)
    by (inr before) second third = inl (inl (grind (arith, common_steps, before)))
    by (inl from) (inr beyond) third = inr (λ passed. elim passed [
      | inl page ↦ absurd (grind (arith, common_steps, from, page))
      | inr here ↦ absurd (grind (arith, common_steps, beyond, here.0))
    ])
    by (inl from) (inl to) (inl few) = inl (inr (grind (arith, common_steps, from, to), grind (arith, common_steps, few)))
    by (inl from) (inl to) (inr more) = inr (λ passed. elim passed [
      | inl page ↦ absurd (grind (arith, common_steps, from, page))
      | inr here ↦ absurd (grind (arith, common_steps, more, here.1))
    ])

module _ (last : ℕ) (cursor : Cursor) (acks : AckSets) (txs : Transactions) where
  -- what stands behind the tail is the same among all pages and among those from a first one on
  behind_from : (first : ℕ) (pages : Pages) (count : ℕ) → first ≤ page_of cursor.tail → HasCount (IsLiveBehind cursor.queue acks txs last cursor.tail pages) count → HasCount (IsLiveBehind cursor.queue acks txs last cursor.tail (pages_from first pages)) count
  behind_from first pages count below has = record {
    places = has.places;
    all = all_as (IsLiveBehind cursor.queue acks txs last cursor.tail pages) (IsLiveBehind cursor.queue acks txs last cursor.tail (pages_from first pages)) has.places has.all
        (λ place is. record { live = live_from first pages cursor.queue acks txs place (omega (arith, below, not_passed first pages cursor.queue acks txs cursor.tail place is.behind)) is.live; behind = is.behind; within = is.within })
        (λ place is. record { live = live_on first pages cursor.queue acks txs place is.live; behind = is.behind; within = is.within });
    is = has.is;
  }

  module _ (pages : Pages) (tracks : Tracks cursor acks txs pages) where
    abbrev IsOpenTaken : Place → Type 0
    IsOpenTaken place = HasPlace cursor.taken place × (is_acknowledged acks cursor.queue place.position ≡ false)

    abbrev IsHeld : Place → Type 0
    IsHeld place = HasPlace cursor.front place ⊎ IsOpenTaken place

    front_or_taken : (a b : Place) → HasPlace cursor.front a → IsOpenTaken b → a.position ≡ b.position → ⊥
    front_or_taken a b front taken same =
        not_both (offset_at cursor.taken b.position) b.offset (ap (offset_at cursor.taken) (sym same) ∙ tracks.once a.position (subst IsSome (sym front) refl)) taken.0

    held_passed : (place : Place) → IsHeld place → IsPassed cursor.tail place.position
    held_passed place (inl front) = (tracks.front place front).0
    held_passed place (inr taken) = (tracks.taken place taken.0).0

    held_behind : (a b : Place) → IsHeld a → IsLiveBehind cursor.queue acks txs last cursor.tail pages b → a.position ≡ b.position → ⊥
    held_behind a b held behind same = behind.behind (subst (IsPassed cursor.tail) same (held_passed a held))

    counted : (place : Place) → IsHeld place ⊎ IsLiveBehind cursor.queue acks txs last cursor.tail pages place → IsCounted last cursor acks txs pages place
    counted place (inl (inl front)) = record { live = (tracks.front place front).1; within = inr (tracks.front place front).0 }
    counted place (inl (inr taken)) = record { live = record { entry = (tracks.taken place taken.0).1; open_ = taken.1 }; within = inr (tracks.taken place taken.0).0 }
    counted place (inr behind) = record { live = behind.live; within = inl behind.within }

    held_or_behind : (place : Place) → IsCounted last cursor acks txs pages place → IsHeld place ⊎ IsLiveBehind cursor.queue acks txs last cursor.tail pages place
    held_or_behind place is = elim (passed_or_not cursor.tail place.position) [
      | inl passed ↦ elim (tracks.passed place is.live passed) [
        | inl front ↦ inl (inl front)
        | inr taken ↦ inl (inr (taken, is.live.open_))
      ]
      | inr behind ↦ inr (record {
        live = is.live;
        behind = behind;
        within = elim is.within [
          | inl within ↦ within
          | inr passed ↦ absurd (behind passed)
        ];
      })
    ]

    all_counted : (found : List Place) → AreOnce cursor.front → AreOnce cursor.taken → AreAll (IsLiveBehind cursor.queue acks txs last cursor.tail pages) found
        → AreAll (IsCounted last cursor acks txs pages) ((cursor.front ++ open_of cursor.queue acks cursor.taken) ++ found)
    all_counted found front taken all =
        all_as (λ place. IsHeld place ⊎ IsLiveBehind cursor.queue acks txs last cursor.tail pages place) (IsCounted last cursor acks txs pages) _
        (all_both IsHeld (IsLiveBehind cursor.queue acks txs last cursor.tail pages) held_behind (cursor.front ++ open_of cursor.queue acks cursor.taken) found
        (all_both (HasPlace cursor.front) IsOpenTaken front_or_taken cursor.front (open_of cursor.queue acks cursor.taken) (all_of cursor.front front) (all_open cursor.queue acks cursor.taken taken)) all)
        counted held_or_behind

  -- the front, the open ones of the taken, and those behind the tail
  pub counts_live : (pages : Pages) (behind result : ℕ) → AreOnce cursor.front → AreOnce cursor.taken → HasCount (IsLiveBehind cursor.queue acks txs last cursor.tail pages) behind
      → result ≡ min (min (behind + length cursor.front) (2 ^ 64 - 1) + length (open_of cursor.queue acks cursor.taken)) (2 ^ 64 - 1) → CountsLive last cursor acks txs result pages
  counts_live pages behind result front taken has is = λ first below tracks.
      let here = behind_from first pages behind below has in record {
        places = (cursor.front ++ open_of cursor.queue acks cursor.taken) ++ here.places;
        all = all_counted (pages_from first pages) tracks here.places front taken here.all;
        is = is ∙ ap (λ (n : ℕ). min (min (n + length cursor.front) (2 ^ 64 - 1) + length (open_of cursor.queue acks cursor.taken)) (2 ^ 64 - 1)) here.is
            ∙ summed (length here.places) (length cursor.front) (length (open_of cursor.queue acks cursor.taken))
            ∙ ap (λ (n : ℕ). min n (2 ^ 64 - 1)) (sizes here.places);
      }
    where
      summed : (a b c : ℕ) → min (min (min a (2 ^ 64 - 1) + b) (2 ^ 64 - 1) + c) (2 ^ 64 - 1) ≡ min (b + c + a) (2 ^ 64 - 1)
      summed a b c = omega arith

      sizes : (found : List Place) → length cursor.front + length (open_of cursor.queue acks cursor.taken) + length found ≡ length ((cursor.front ++ open_of cursor.queue acks cursor.taken) ++ found)
      sizes found = sym (length-append (cursor.front ++ open_of cursor.queue acks cursor.taken) found ∙ ap (λ (n : ℕ). n + length found) (length-append cursor.front (open_of cursor.queue acks cursor.taken)))
