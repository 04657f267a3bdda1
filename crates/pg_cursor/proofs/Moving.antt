-- A cursor that tracks its queue does so after a place is put back or removed.
use Rattle.std.proofs.Common.{◌≡◌, ◌⊎◌, ℕ, true, false, List, Option, Some, None, IsSome, refl, sym, ◌∙◌, ap, subst, inl, inr, arith}
use Rattle.std.proofs.lemmas.Grind.{common_steps}
use Rattle.std.proofs.lemmas.Bool.{cases_Bool}
use Rattle.pg_acks.specs.declared.position.Position.{Position}
use Rattle.pg_acks.specs.Acked.{AckSets, is_acknowledged}
use Rattle.pg_page.specs.declared.place.Place.{Place}
use Rattle.pg_page.specs.Pages.{Pages}
use Rattle.pg_pagetx.specs.Standings.{Transactions}
use Rattle.pg_cursor.specs.Entries.{IsEntry, IsLive}
use Rattle.pg_cursor.specs.Places.{ChangesAt, HasPlace, IsPassed, is_same, offset_at}
use Rattle.pg_cursor.specs.Tracking.{Cursor, IsAvailable, Tracks}

pub same_positions : (a b : Position) → is_same a b ≡ true → b ≡ a
same_positions a b e = grind (arith, common_steps, e)

pub same_itself : (a : Position) → is_same a a ≡ true
same_itself a = grind (arith, common_steps)

-- the changed position, and the others
pub changed_here : (position other : Position) (offset : Option ℕ) (old new : List Place) → ChangesAt position offset old new → is_same position other ≡ true → offset_at new other ≡ offset
changed_here position other offset old new changes same = grind (arith, common_steps, changes other, same)

pub changed_not : (position other : Position) (offset : Option ℕ) (old new : List Place) → ChangesAt position offset old new → is_same position other ≡ false → offset_at new other ≡ offset_at old other
changed_not position other offset old new changes apart = grind (arith, common_steps, changes other, apart)

pub some_is : (a b : ℕ) → Some a ≡ Some b → a ≡ b
some_is a b e = cc

pub not_both : (o : Option ℕ) (a : ℕ) → o ≡ None → o ≡ Some a → ⊥
not_both o a none some = cc

none_some : (o : Option ℕ) → o ≡ None → IsSome o → ⊥
none_some None e some = cc
none_some (Some a) e some = cc

pub same_place : (a b : Place) → b.position ≡ a.position → b.offset ≡ a.offset → b ≡ a
same_place a b position offset = λ i. record { position = position i; offset = offset i }

-- two places of a list at one position are one
pub one_place : (places : List Place) (a b : Place) → HasPlace places a → HasPlace places b → is_same a.position b.position ≡ true → b ≡ a
one_place places a b has_a has_b same =
    let at = same_positions a.position b.position same in
    same_place a b at (some_is b.offset a.offset (sym has_b ∙ ap (offset_at places) at ∙ has_a))

module _ (old : Cursor) (acks : AckSets) (txs : Transactions) (pages : Pages) (place : Place) (tracks : Tracks old acks txs pages) (held : HasPlace old.taken place) where
  module _ (open_ : is_acknowledged acks old.queue place.position ≡ false) (front taken : List Place) (fronts : ChangesAt place.position (Some place.offset) old.front front) (takes : ChangesAt place.position None old.taken taken) where
    back_passed : (other : Place) → HasPlace old.front other ⊎ HasPlace old.taken other → HasPlace front other ⊎ HasPlace taken other
    back_passed other (inl in_front) =
        elim (cases_Bool (is_same place.position other.position)) [
          | inl same ↦ absurd (not_both (offset_at old.taken place.position) place.offset
              (tracks.once place.position (subst IsSome (sym (ap (offset_at old.front) (sym (same_positions place.position other.position same)) ∙ in_front)) refl)) held)
          | inr apart ↦ inl (changed_not place.position other.position (Some place.offset) old.front front fronts apart ∙ in_front)
        ]
    back_passed other (inr in_taken) =
        elim (cases_Bool (is_same place.position other.position)) [
          | inl same ↦ inl (changed_here place.position other.position (Some place.offset) old.front front fronts same ∙ ap (λ (p : Place). Some p.offset) (sym (one_place old.taken place other held in_taken same)))
          | inr apart ↦ inr (changed_not place.position other.position None old.taken taken takes apart ∙ in_taken)
        ]

    back_front : (other : Place) → HasPlace front other → IsPassed old.tail other.position × IsLive old.queue acks txs pages other
    back_front other in_front =
        elim (cases_Bool (is_same place.position other.position)) [
          | inl same ↦ let at = same_positions place.position other.position same in
              let one = same_place place other at (some_is other.offset place.offset (sym in_front ∙ changed_here place.position other.position (Some place.offset) old.front front fronts same)) in
              subst (λ (p : Place). IsPassed old.tail p.position × IsLive old.queue acks txs pages p) (sym one) ((tracks.taken place held).0, record { entry = (tracks.taken place held).1; open_ = open_ })
          | inr apart ↦ tracks.front other (sym (changed_not place.position other.position (Some place.offset) old.front front fronts apart) ∙ in_front)
        ]

    less_taken : (other : Place) → HasPlace taken other → IsPassed old.tail other.position × IsEntry old.queue txs pages other
    less_taken other in_taken =
        elim (cases_Bool (is_same place.position other.position)) [
          | inl same ↦ absurd (not_both (offset_at taken other.position) other.offset (changed_here place.position other.position None old.taken taken takes same) in_taken)
          | inr apart ↦ tracks.taken other (sym (changed_not place.position other.position None old.taken taken takes apart) ∙ in_taken)
        ]

    back_once : (position : Position) → IsSome (offset_at front position) → offset_at taken position ≡ None
    back_once position some =
        elim (cases_Bool (is_same place.position position)) [
          | inl same ↦ changed_here place.position position None old.taken taken takes same
          | inr apart ↦ changed_not place.position position None old.taken taken takes apart ∙ tracks.once position (subst IsSome (changed_not place.position position (Some place.offset) old.front front fronts apart) some)
        ]

    pub put_back : Tracks (record { queue = old.queue; address = old.address; tail = old.tail; front = front; taken = taken }) acks txs pages
    put_back = record {
      passed = λ other live passed. back_passed other (tracks.passed other live passed);
      front = back_front;
      taken = less_taken;
      once = back_once;
    }

    pub available : IsAvailable (record { queue = old.queue; address = old.address; tail = old.tail; front = front; taken = taken }) acks txs pages place
    available = record {
      live = record { entry = (tracks.taken place held).1; open_ = open_ };
      free = changed_here place.position place.position None old.taken taken takes (same_itself place.position);
    }

  -- a place that is acknowledged
  module _ (done : is_acknowledged acks old.queue place.position ≡ true) (taken : List Place) (takes : ChangesAt place.position None old.taken taken) where
    gone_passed : (other : Place) → IsLive old.queue acks txs pages other → HasPlace old.front other ⊎ HasPlace old.taken other → HasPlace old.front other ⊎ HasPlace taken other
    gone_passed other live (inl in_front) = inl in_front
    gone_passed other live (inr in_taken) =
        elim (cases_Bool (is_same place.position other.position)) [
          | inl same ↦ absurd (not_open (ap (is_acknowledged acks old.queue) (same_positions place.position other.position same) ∙ done) live.open_)
          | inr apart ↦ inr (changed_not place.position other.position None old.taken taken takes apart ∙ in_taken)
        ]
      where
        not_open : is_acknowledged acks old.queue other.position ≡ true → is_acknowledged acks old.queue other.position ≡ false → ⊥
        not_open a b = cc

    gone_taken : (other : Place) → HasPlace taken other → IsPassed old.tail other.position × IsEntry old.queue txs pages other
    gone_taken other in_taken =
        elim (cases_Bool (is_same place.position other.position)) [
          | inl same ↦ absurd (not_both (offset_at taken other.position) other.offset (changed_here place.position other.position None old.taken taken takes same) in_taken)
          | inr apart ↦ tracks.taken other (sym (changed_not place.position other.position None old.taken taken takes apart) ∙ in_taken)
        ]

    gone_once : (position : Position) → IsSome (offset_at old.front position) → offset_at taken position ≡ None
    gone_once position some =
        elim (cases_Bool (is_same place.position position)) [
          | inl same ↦ changed_here place.position position None old.taken taken takes same
          | inr apart ↦ changed_not place.position position None old.taken taken takes apart ∙ tracks.once position some
        ]

    pub removed : Tracks (record { queue = old.queue; address = old.address; tail = old.tail; front = old.front; taken = taken }) acks txs pages
    removed = record {
      passed = λ other live passed. gone_passed other live (tracks.passed other live passed);
      front = tracks.front;
      taken = gone_taken;
      once = gone_once;
    }
