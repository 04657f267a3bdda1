-- The first available place, from the front or from the walk.
use Rattle.std.proofs.Common.{◌≡◌, ◌⊎◌, ◌<◌, ◌≤◌, ℕ, true, false, List, [], Option, Some, None, IsSome, refl, sym, ◌∙◌, ap, subst, inl, inr, arith}
use Rattle.std.proofs.lemmas.Grind.{common_steps}
use Rattle.std.proofs.lemmas.Bool.{cases_Bool}
use Rattle.std.specs.Prelude.{IfNone, IfSome}
use Rattle.std.specs.Prelude.{nat_le}
use Rattle.pg_acks.specs.declared.position.Position.{Position}
use Rattle.pg_acks.specs.Acked.{AckSets}
use Rattle.pg_page.specs.declared.place.Place.{Place}
use Rattle.pg_page.specs.Pages.{Pages}
use Rattle.pg_pagetx.specs.Standings.{Transactions}
use Rattle.pg_cursor.specs.declared.tail.Tail.{Tail}
use Rattle.pg_cursor.specs.Entries.{IsEntry, IsLive}
use Rattle.pg_cursor.specs.Places.{ChangesAt, HasPlace, IsBefore, IsFirstOf, IsNoEarlier, IsPassed, is_same, offset_at}
use Rattle.pg_cursor.specs.Tracking.{Cursor, Follows, IsAvailable, Tracks}
use Rattle.pg_cursor.specs.Walking.{IsAtEnd, Walks}
use Rattle.pg_cursor.proofs.Moving.{changed_here, changed_not, not_both, one_place, same_itself, same_place, same_positions, some_is}
use Rattle.pg_cursor.proofs.Walked.{passed_later}

passed_before : (tail : Tail) (a b : Position) → IsBefore a b → IsPassed tail b → IsPassed tail a
passed_before tail a b (inl page) (inl passed) = inl (omega (arith, page, passed))
passed_before tail a b (inl page) (inr here) = inl (omega (arith, page, here.0))
passed_before tail a b (inr same) (inl passed) = inl (omega (arith, same.0, passed))
passed_before tail a b (inr same) (inr here) = inr (same.0 ∙ here.0, omega (arith, same.1, here.1))

never_before : (a : Position) → IsBefore a a → ⊥
never_before a (inl page) = omega (arith, page)
never_before a (inr same) = omega (arith, same.1)

nothing_there : (places : List Place) (place : Place) → places ≡ [] → HasPlace places place → ⊥
nothing_there places place none has = not_some place (sym (ap (λ (l : List Place). offset_at l place.position) none) ∙ has)
  where
    not_some : (place : Place) → None ≡ Some place.offset → ⊥
    not_some place e = cc

none_there : (places : List Place) (position : Position) → places ≡ [] → IsSome (offset_at places position) → ⊥
none_there places position none some = not_some (subst (λ (l : List Place). IsSome (offset_at l position)) none some)
  where
    not_some : IsSome {T = ℕ} None → ⊥
    not_some is = cc

some_there : (places : List Place) (position : Position) (o : Option ℕ) → offset_at places position ≡ o → ((offset : ℕ) → offset_at places position ≡ Some offset → ⊥) → offset_at places position ≡ None
some_there places position None e never = e
some_there places position (Some offset) e never = absurd (never offset e)

found_some : (places : List Place) (place : Place) → HasPlace places place → IsSome (offset_at places place.position)
found_some places place has = subst IsSome (sym has) refl

some_place : (a b : Place) → Some a ≡ Some b → a ≡ b
some_place a b e = cc

pub none_on : {T P Q : Type 0} (o : Option T) → (P → Q) → IfNone o P → IfNone o Q
none_on None then is = then is
none_on (Some x) then is = tt

no_none : IsSome {T = ℕ} None → ⊥
no_none is = cc

module _ (last : ℕ) (old : Cursor) (acks : AckSets) (txs : Transactions) (pages : Pages) where
  -- what is available and was passed is in the front
  in_front : Tracks old acks txs pages → (other : Place) → IsAvailable old acks txs pages other → IsPassed old.tail other.position → HasPlace old.front other
  in_front tracks other available passed = elim (tracks.passed other available.live passed) [
    | inl front ↦ front
    | inr taken ↦ absurd (not_both (offset_at old.taken other.position) other.offset available.free taken)
  ]

  -- ---- the first of the front
  module _ (place : Place) (front taken : List Place) (first : IsFirstOf old.front place) (rest : ChangesAt place.position None old.front front) (takes : ChangesAt place.position (Some place.offset) old.taken taken) where
    front_passed : Tracks old acks txs pages → (other : Place) → HasPlace old.front other ⊎ HasPlace old.taken other → HasPlace front other ⊎ HasPlace taken other
    front_passed tracks other (inl has) =
        elim (cases_Bool (is_same place.position other.position)) [
          | inl same ↦ inr (changed_here place.position other.position (Some place.offset) old.taken taken takes same ∙ ap (λ (p : Place). Some p.offset) (sym (one_place old.front place other first.0 has same)))
          | inr apart ↦ inl (changed_not place.position other.position None old.front front rest apart ∙ has)
        ]
    front_passed tracks other (inr has) =
        elim (cases_Bool (is_same place.position other.position)) [
          | inl same ↦ absurd (not_both (offset_at old.taken other.position) other.offset (ap (offset_at old.taken) (same_positions place.position other.position same) ∙ tracks.once place.position (found_some old.front place first.0)) has)
          | inr apart ↦ inr (changed_not place.position other.position (Some place.offset) old.taken taken takes apart ∙ has)
        ]

    front_front : Tracks old acks txs pages → (other : Place) → HasPlace front other → IsPassed old.tail other.position × IsLive old.queue acks txs pages other
    front_front tracks other has =
        elim (cases_Bool (is_same place.position other.position)) [
          | inl same ↦ absurd (not_both (offset_at front other.position) other.offset (changed_here place.position other.position None old.front front rest same) has)
          | inr apart ↦ tracks.front other (sym (changed_not place.position other.position None old.front front rest apart) ∙ has)
        ]

    front_once : Tracks old acks txs pages → (position : Position) → IsSome (offset_at front position) → offset_at taken position ≡ None
    front_once tracks position some =
        elim (cases_Bool (is_same place.position position)) [
          | inl same ↦ absurd (no_none (subst IsSome (changed_here place.position position None old.front front rest same) some))
          | inr apart ↦ changed_not place.position position (Some place.offset) old.taken taken takes apart ∙ tracks.once position (subst IsSome (changed_not place.position position None old.front front rest apart) some)
        ]

    front_taken : Tracks old acks txs pages → (other : Place) → HasPlace taken other → IsPassed old.tail other.position × IsEntry old.queue txs pages other
    front_taken tracks other has =
        elim (cases_Bool (is_same place.position other.position)) [
          | inl same ↦
              let one = same_place place other (same_positions place.position other.position same) (some_is other.offset place.offset (sym has ∙ changed_here place.position other.position (Some place.offset) old.taken taken takes same)) in
              subst (λ (p : Place). IsPassed old.tail p.position × IsEntry old.queue txs pages p) (sym one) ((tracks.front place first.0).0, (tracks.front place first.0).1.entry)
          | inr apart ↦ tracks.taken other (sym (changed_not place.position other.position (Some place.offset) old.taken taken takes apart) ∙ has)
        ]

    pub gives_front : Follows last acks txs (Some place) old (record { queue = old.queue; address = old.address; tail = old.tail; front = front; taken = taken }) pages
    gives_front = record {
      is_next = λ tracks. record {
        available = record { live = (tracks.front place first.0).1; free = tracks.once place.position (found_some old.front place first.0) };
        first = λ other available before.
            first.1 other.position (found_some old.front other (in_front tracks other available (passed_before old.tail other.position place.position before (tracks.front place first.0).0))) before;
      };
      tracks = λ tracks. record {
        passed = λ other live passed. front_passed tracks other (tracks.passed other live passed);
        front = front_front tracks;
        taken = front_taken tracks;
        once = front_once tracks;
      };
    }

  -- ---- an empty front, and a walk
  module _ (front : List Place) (none_before : old.front ≡ []) (none : front ≡ []) (tail : Tail) (later : IsNoEarlier old.tail tail) where
    only_taken : (other : Place) → HasPlace old.front other ⊎ HasPlace old.taken other → HasPlace old.taken other
    only_taken other (inl has) = absurd (nothing_there old.front other none_before has)
    only_taken other (inr has) = has

    pub gives_none : Walks old.queue acks txs old.tail tail None pages → IsAtEnd old.queue acks txs last tail pages
        → Follows last acks txs None old (record { queue = old.queue; address = old.address; tail = tail; front = front; taken = old.taken }) pages
    gives_none walks end = record {
      is_next = λ tracks place available. behind tracks place available (cases_Bool (nat_le place.position.page last));
      tracks = λ tracks. record {
        passed = λ other live passed. elim (walks.passed other live passed) [
          | inl before ↦ inr (only_taken other (tracks.passed other live before))
          | inr is ↦ absurd (not_some other is)
        ];
        front = λ other has. absurd (nothing_there front other none has);
        taken = λ other has. (passed_later old.tail tail other.position later (tracks.taken other has).0, (tracks.taken other has).1);
        once = λ position some. absurd (none_there front position none some);
      };
    }
      where
        not_some : (place : Place) → None ≡ Some place → ⊥
        not_some place e = cc

        was_there : Tracks old acks txs pages → (place : Place) → IsAvailable old acks txs pages place → place.position.page ≤ last → ⊥
        was_there tracks place available within = elim (walks.passed place available.live (end place available.live within)) [
          | inl before ↦ nothing_there old.front place none_before (in_front tracks place available before)
          | inr is ↦ not_some place is
        ]

        behind : Tracks old acks txs pages → (place : Place) → IsAvailable old acks txs pages place → (nat_le place.position.page last ≡ true) ⊎ (nat_le place.position.page last ≡ false) → last < place.position.page
        behind tracks place available (inl within) = absurd (was_there tracks place available (grind (arith, common_steps, within)))
        behind tracks place available (inr beyond) = grind (arith, common_steps, beyond)

    module _ (place : Place) (taken : List Place) (walks : Walks old.queue acks txs old.tail tail (Some place) pages) (takes : ChangesAt place.position (Some place.offset) old.taken taken) where
      free_there : Tracks old acks txs pages → offset_at old.taken place.position ≡ None
      free_there tracks = some_there old.taken place.position (offset_at old.taken place.position) refl
          (λ offset has. walks.finds.2 (tracks.taken (record { position = place.position; offset = offset }) has).0)

      passed_here : IsPassed tail place.position
      passed_here = subst (λ (t : Tail). IsPassed t place.position) (sym walks.finds.0) (inr (refl, omega arith))

      no_other : Tracks old acks txs pages → (other : Place) → IsAvailable old acks txs pages other → IsBefore other.position place.position → ⊥
      no_other tracks other available before = elim (walks.passed other available.live (passed_before tail other.position place.position before passed_here)) [
        | inl earlier ↦ nothing_there old.front other none_before (in_front tracks other available earlier)
        | inr is ↦ never_before place.position (subst (λ (p : Place). IsBefore p.position place.position) (sym (some_place place other is)) before)
      ]

      walked_passed : Tracks old acks txs pages → (other : Place) → IsPassed old.tail other.position ⊎ (Some place ≡ Some other) → IsLive old.queue acks txs pages other → HasPlace taken other
      walked_passed tracks other (inl before) live =
          let has = only_taken other (tracks.passed other live before) in
          elim (cases_Bool (is_same place.position other.position)) [
            | inl same ↦ absurd (not_both (offset_at old.taken other.position) other.offset (ap (offset_at old.taken) (same_positions place.position other.position same) ∙ free_there tracks) has)
            | inr apart ↦ changed_not place.position other.position (Some place.offset) old.taken taken takes apart ∙ has
          ]
      walked_passed tracks other (inr is) live =
          let one = some_place place other is in
          subst (λ (p : Place). HasPlace taken p) one (changed_here place.position place.position (Some place.offset) old.taken taken takes (same_itself place.position))

      walked_taken : Tracks old acks txs pages → (other : Place) → HasPlace taken other → IsPassed tail other.position × IsEntry old.queue txs pages other
      walked_taken tracks other has =
          elim (cases_Bool (is_same place.position other.position)) [
            | inl same ↦
                let one = same_place place other (same_positions place.position other.position same) (some_is other.offset place.offset (sym has ∙ changed_here place.position other.position (Some place.offset) old.taken taken takes same)) in
                subst (λ (p : Place). IsPassed tail p.position × IsEntry old.queue txs pages p) (sym one) (passed_here, walks.finds.1.entry)
            | inr apart ↦
                let was = tracks.taken other (sym (changed_not place.position other.position (Some place.offset) old.taken taken takes apart) ∙ has) in
                (passed_later old.tail tail other.position later was.0, was.1)
          ]

      pub gives_found : Follows last acks txs (Some place) old (record { queue = old.queue; address = old.address; tail = tail; front = front; taken = taken }) pages
      gives_found = record {
        is_next = λ tracks. record {
          available = record { live = walks.finds.1; free = free_there tracks };
          first = no_other tracks;
        };
        tracks = λ tracks. record {
          passed = λ other live passed. inr (walked_passed tracks other (walks.passed other live passed) live);
          front = λ other has. absurd (nothing_there front other none has);
          taken = walked_taken tracks;
          once = λ position some. absurd (none_there front position none some);
        };
      }

    pub gives_walked : (found : Option Place) (taken : List Place) → Walks old.queue acks txs old.tail tail found pages → IfNone found (IsAtEnd old.queue acks txs last tail pages) → IfSome found (λ place. ChangesAt place.position (Some place.offset) old.taken taken)
        → IfNone found (taken ≡ old.taken) → Follows last acks txs found old (record { queue = old.queue; address = old.address; tail = tail; front = front; taken = taken }) pages
    gives_walked None taken walks end some none =
        subst (λ (l : List Place). Follows last acks txs None old (record { queue = old.queue; address = old.address; tail = tail; front = front; taken = l }) pages) (sym none) (gives_none walks end)
    gives_walked (Some place) taken walks end some none = gives_found place taken walks some
