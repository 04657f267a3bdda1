-- Ways one behind the other, and what is read along them.
use Rattle.std.proofs.Common.{◌≡◌, ◌⊎◌, ◌≤◌, ◌<◌, ◌+◌, ℕ, List, [], ◌∷◌, ◌++◌, Option, None, Some, IfSome, sym, ◌∙◌, ap, subst, inl, inr, arith}
use Rattle.pg_page.specs.declared.place.Place.{Place}
use Rattle.pg_page.specs.Pages.{Pages}
use Rattle.pg_cursor.specs.declared.tail.Tail.{Tail}
use Rattle.pg_cursor.specs.declared.tail.Tail.TheVariants.{Begin, Behind}
use Rattle.pg_cursor.specs.declared.walking.Step.{Step}
use Rattle.pg_cursor.specs.declared.walking.Step.TheVariants.{Passes, Stays}
use Rattle.pg_cursor.specs.Places.{IsNoEarlier, page_of}
use Rattle.pg_cursor.specs.Walking.{IsNext, IsOnward}
use Rattle.pg_cursor.specs.Ways.{HasPayload, IsNothingBetween, ReadsAlong, ReadsAt, StepReads, Way, way_bytes}
use Rattle.pg_cursor.proofs.Stepping.{behind_next, begin_passes, none_left, not_yet}
use Rattle.pg_cursor.proofs.Walked.{page_later, passed_later, still}

pub later_both : (a b c : Tail) → IsNoEarlier a b → IsNoEarlier b c → IsNoEarlier a c
later_both a b c (inl one) (inl two) = inl (omega (arith, one, two))
later_both a b c (inl one) (inr two) = inl (omega (arith, one, two.0))
later_both a b c (inr one) (inl two) = inl (omega (arith, one.0, two))
later_both a b c (inr one) (inr two) = inr (one.0 ∙ two.0, omega (arith, one.1, two.1))

module _ (pages : Pages) where
  pub way_none : (tail : Tail) → Way pages tail [] tail
  way_none tail = record { later = still tail; nothing = λ place stands passed. passed }

  -- where nothing stands between two tails, what follows the later one follows the earlier one
  way_from : (old mid new : Tail) (way : List (Place × List ℕ)) → IsNothingBetween pages old mid → Way pages mid way new → Way pages old way new
  way_from old mid new [] between more = record {
    later = later_both old mid new between.later more.later;
    nothing = λ place stands passed. between.nothing place stands (more.nothing place stands passed);
  }
  way_from old mid new (passed ∷ way) between more = (
    record {
      has = more.0.has;
      behind = λ earlier. more.0.behind (passed_later old mid passed.0.position between.later earlier);
      first = λ other stands here. elim (more.0.first other stands here) [
        | inl before ↦ inl (between.nothing other stands before)
        | inr same ↦ inr same
      ];
    },
    more.1,
  )

  pub ways_join : (old mid new : Tail) (first second : List (Place × List ℕ)) → Way pages old first mid → Way pages mid second new → Way pages old (first ++ second) new
  ways_join old mid new [] second one two = way_from old mid new second one two
  ways_join old mid new (passed ∷ first) second one two = (one.0, ways_join (Behind passed.0) mid new first second one.1 two)

  bytes_join : (first second : List (Place × List ℕ)) → way_bytes (first ++ second) ≡ way_bytes first + way_bytes second
  bytes_join [] second = omega arith
  bytes_join (passed ∷ first) second = omega (arith, bytes_join first second)

  pub reads_join : (a b : ℕ) (old mid new : Tail) (before between after : ℕ) → IsNoEarlier old mid → IsNoEarlier mid new → ReadsAlong a old mid pages before between → ReadsAlong b mid new pages between after → ReadsAlong (a + b) old new pages before after
  reads_join a b old mid new before between after one two first second = record {
    way = first.way ++ second.way;
    passes = ways_join old mid new first.way second.way first.passes second.passes;
    few = omega (arith, first.few, second.few, bytes_join first.way second.way, page_later old mid one, page_later mid new two);
  }

  pub reads_more : (a b : ℕ) (old new : Tail) (before after : ℕ) → a ≤ b → ReadsAlong a old new pages before after → ReadsAlong b old new pages before after
  reads_more a b old new before after less reads = record { way = reads.way; passes = reads.passes; few = omega (arith, less, reads.few) }

  -- a step to a place
  module _ (tail : Tail) where
    pub reads_place : (place : Place) (before between after : ℕ) → IsNext tail (Some place) pages → between ≤ before + 18 → ReadsAt place pages between after → ReadsAlong 0 tail (Behind place) pages before after
    reads_place place before between after next few reads =
        let stands = next.0 in
        let has : HasPayload pages place stands.is.1 = record { bytes = stands.bytes; there = stands.there; before = stands.is.0; fit = stands.fit; at = stands.is.2 } in record {
          way = (place, stands.is.1) ∷ [];
          passes = (
            record {
              has = has;
              behind = not_yet pages tail place next;
              first = λ other here passed. elim (behind_next pages tail place other next here passed) [
                | inl earlier ↦ inl earlier
                | inr same ↦ inr (sym same)
              ];
            },
            way_none (Behind place),
          );
          few = omega (arith, few, reads stands.is.1 has);
        }

    pub reads_turn : (last page : ℕ) (next onward : Option Place) (result : Step) (before after : ℕ) → page ≡ page_of tail → IsNext tail next pages → IfSome next (λ place. IsOnward tail place → onward ≡ Some place) → onward ≡ None
        → ((page < last) × (result ≡ Passes (Begin (page + 1)))) ⊎ ((page ≡ last) × (result ≡ Stays)) → after ≤ before + 18 → StepReads tail result pages before after
    reads_turn last page next onward result before after at is same none (inl turns) few =
        subst (λ (s : Step). StepReads tail s pages before after) (sym (turns.1 ∙ ap (λ (n : ℕ). Passes (Begin (n + 1))) at))
        (record {
          way = [];
          passes = record { later = inl (omega arith); nothing = λ place stands passed. begin_passes pages tail place (none_left pages tail next onward is same none) stands passed };
          few = omega (arith, few);
        })
    reads_turn last page next onward result before after at is same none (inr stays) few =
        subst (λ (s : Step). StepReads tail s pages before after) (sym stays.1)
        (record { way = []; passes = way_none tail; few = omega (arith, few) })

    pub reads_nothing : (most before after : ℕ) → after ≤ before → ReadsAlong most tail tail pages before after
    reads_nothing most before after few = record { way = []; passes = way_none tail; few = omega (arith, few) }
