-- Runs of one page, before and after a run joins them.
use Rattle.std.proofs.Common.{◌≡◌, ◌+◌, ◌<◌, ◌≤◌, ◌⊎◌, ◌^◌, ℕ, inl, inr, refl, sym, subst, arith}
use Rattle.std.proofs.lemmas.Grind.{common_steps}
use Rattle.std.proofs.lemmas.Bool.{cases_eq, cases_lt}
use Rattle.std.proofs.lemmas.Bool.Decides.{nat_tests}
use Rattle.std.specs.Prelude.{Option, Some, None, IsSome}
use Rattle.pg_acks.specs.Runs.{AreRuns, BeginsAt, Covers, CoversAny, EndsAt, joined}

-- no run begins past 32 bits
pub none_past : (run : ℕ → Option ℕ) → AreRuns run → (first : ℕ) → 2 ^ 32 ≤ first → run first ≡ None
none_past run runs first past = only (run first) refl
  where
    only : (found : Option ℕ) → run first ≡ found → run first ≡ None
    only None is = is
    only (Some last) is = absurd (omega (arith, runs.full first last is, runs.within first last is, past))

-- a run has the index at which it begins
pub begins_covers : (run : ℕ → Option ℕ) → AreRuns run → (first : ℕ) → IsSome (run first) → Covers run first
begins_covers run runs first some = only (run first) refl
  where
    only : (found : Option ℕ) → run first ≡ found → Covers run first
    only None is = absurd (grind (arith, common_steps, is, some))
    only (Some last) is = record { first = first; last = last; is = is; from = omega arith; to = runs.full first last is }

-- ---- the last run that begins up to an index
-- it has one of the indexes up to there from another on where it ends no earlier
pub some_between : (run : ℕ → Option ℕ) (from to first last : ℕ) → AreRuns run → from ≤ to → run first ≡ Some last → first ≤ to → from ≤ last → CoversAny run from to
some_between run from to first last runs order is begins ends = by (cases_lt from first)
  where
    by : (from < first) ⊎ (first ≤ from) → CoversAny run from to
    by (inl lt) = record { index = first; low = omega (arith, lt); high = begins; covers = record { first = first; last = last; is = is; from = omega arith; to = runs.full first last is } }
    by (inr ge) = record { index = from; low = omega arith; high = order; covers = record { first = first; last = last; is = is; from = ge; to = ends } }

pub between_some : (run : ℕ → Option ℕ) (from to first last : ℕ) → AreRuns run → run first ≡ Some last → ((other : ℕ) → other ≤ to → IsSome (run other) → other ≤ first) → CoversAny run from to → from ≤ last
between_some run from to first last runs is latest any = by (cases_eq any.covers.first first)
  where
    some : IsSome (run any.covers.first)
    some = grind (arith, common_steps, any.covers.is)

    there : IsSome (run first)
    there = grind (arith, common_steps, is)

    by : (any.covers.first ≡ first) ⊎ (any.covers.first ≡ first → ⊥) → from ≤ last
    by (inl same) = let end : any.covers.last ≡ last = grind (arith, common_steps, same, any.covers.is, is) in omega (arith, end, any.low, any.covers.to)
    by (inr apart) =
        let before = latest any.covers.first (omega (arith, any.covers.from, any.high)) some in
        let gap = runs.apart any.covers.first any.covers.last first any.covers.is there (omega (arith, before, apart)) in
        omega (arith, gap, any.low, any.covers.to, runs.full first last is)

-- no run has one where none begins up to the last of them
pub none_covers : (run : ℕ → Option ℕ) (from to : ℕ) → ((other : ℕ) → other ≤ to → run other ≡ None) → CoversAny run from to → ⊥
none_covers run from to none any = let at = none any.covers.first (omega (arith, any.covers.from, any.high)) in grind (arith, common_steps, at, any.covers.is)

-- it ends before the index where no run has that
pub ends_before : (run : ℕ → Option ℕ) (first last index : ℕ) → run first ≡ Some last → first ≤ index → (Covers run index → ⊥) → last < index
ends_before run first last index is begins free = by (cases_lt last index)
  where
    by : (last < index) ⊎ (index ≤ last) → last < index
    by (inl lt) = lt
    by (inr ge) = absurd (free (record { first = first; last = last; is = is; from = begins; to = ge }))

pub begins_fresh : (run : ℕ → Option ℕ) (first last index : ℕ) → AreRuns run → run first ≡ Some last → last + 1 < index → ((other : ℕ) → other ≤ index → IsSome (run other) → other ≤ first) → BeginsAt run index index
begins_fresh run first last index runs is ends latest = inl (refl, λ other end at le. by other end at le (cases_eq other first))
  where
    there : IsSome (run first)
    there = grind (arith, common_steps, is)

    by : (other end : ℕ) → run other ≡ Some end → other ≤ index → (other ≡ first) ⊎ (other ≡ first → ⊥) → end + 1 < index
    by other end at le (inl same) = let equal : end ≡ last = grind (arith, common_steps, same, at, is) in omega (arith, equal, ends)
    by other end at le (inr apart) =
        let before = latest other le (grind (arith, common_steps, at)) in
        let gap = runs.apart other end first at there (omega (arith, before, apart)) in
        omega (arith, gap, runs.full first last is, ends)

pub begins_none : (run : ℕ → Option ℕ) (index : ℕ) → ((other : ℕ) → other ≤ index → run other ≡ None) → BeginsAt run index index
begins_none run index none = inl (refl, λ other end at le. absurd (grind (arith, common_steps, none other le, at)))

-- ---- the new runs
-- a run from one index to another, of which no run has any, is the new one from the first to the last once it is there
pub record Facts (run : ℕ → Option ℕ) (from to first last : ℕ) : Type 0 where
  pub runs : AreRuns run
  pub order : from ≤ to
  pub free : CoversAny run from to → ⊥
  pub begins : BeginsAt run from first
  pub ends : EndsAt run to last
  pub fits : last < 2 ^ 32

-- what begins behind the run begins right behind it, or behind a gap behind the new run
pub behind : (run : ℕ → Option ℕ) (from to first last : ℕ) → Facts run from to first last → (other : ℕ) → IsSome (run other) → to < other → (other ≡ to + 1) ⊎ (last + 1 < other)
behind run from to first last facts other some lt = at (cases_eq other (to + 1)) facts.ends
  where
    at : (other ≡ to + 1) ⊎ (other ≡ to + 1 → ⊥) → EndsAt run to last → (other ≡ to + 1) ⊎ (last + 1 < other)
    at (inl same) ends = inl same
    at (inr apart) (inl fresh) = inr (omega (arith, apart, lt, fresh.0))
    at (inr apart) (inr grown) = let gap = facts.runs.apart (to + 1) last other grown some (omega (arith, apart, lt)) in inr gap

pub first_le : (run : ℕ → Option ℕ) (from to first last : ℕ) → Facts run from to first last → first ≤ from
first_le run from to first last facts = by facts.begins
  where
    by : BeginsAt run from first → first ≤ from
    by (inl fresh) = omega (arith, fresh.0)
    by (inr grown) = omega (arith, facts.runs.full first grown.0 grown.1, grown.2)

pub last_ge : (run : ℕ → Option ℕ) (from to first last : ℕ) → Facts run from to first last → to ≤ last
last_ge run from to first last facts = by facts.ends
  where
    by : EndsAt run to last → to ≤ last
    by (inl fresh) = omega (arith, fresh.0)
    by (inr grown) = omega (arith, facts.runs.full (to + 1) last grown)

-- a run after the change is the new one, or an old one that wasn't joined
pub after : (run : ℕ → Option ℕ) (to first last : ℕ) (other end : ℕ) → joined run first to last other ≡ Some end
    → ((other ≡ first) × (end ≡ last)) ⊎ ((other ≡ first → ⊥) × (other ≡ to + 1 → ⊥) × (run other ≡ Some end))
after run to first last other end is = by (cases_eq other (to + 1)) (cases_eq other first)
  where
    by : (other ≡ to + 1) ⊎ (other ≡ to + 1 → ⊥) → (other ≡ first) ⊎ (other ≡ first → ⊥)
        → ((other ≡ first) × (end ≡ last)) ⊎ ((other ≡ first → ⊥) × (other ≡ to + 1 → ⊥) × (run other ≡ Some end))
    by (inl same) _ = absurd (grind (arith, common_steps, nat_tests, same, is))
    by (inr apart) (inl same) = inl (same, grind (arith, common_steps, nat_tests, apart, same, is))
    by (inr apart) (inr differs) = inr (differs, apart, grind (arith, common_steps, nat_tests, apart, differs, is))

-- ---- runs they are
pub joined_runs : (run : ℕ → Option ℕ) (from to first last : ℕ) → Facts run from to first last → AreRuns (joined run first to last)
joined_runs run from to first last facts =
    record {
      full = λ other end is. full other end (after run to first last other end is);
      within = λ other end is. within other end (after run to first last other end is);
      apart = λ other end next is some lt. apart other end next (after run to first last other end is) (some_after next some) lt;
    }
  where
    full : (other end : ℕ) → ((other ≡ first) × (end ≡ last)) ⊎ ((other ≡ first → ⊥) × (other ≡ to + 1 → ⊥) × (run other ≡ Some end)) → other ≤ end
    full other end (inl new) = omega (arith, new.0, new.1, first_le run from to first last facts, facts.order, last_ge run from to first last facts)
    full other end (inr old) = facts.runs.full other end old.2

    within : (other end : ℕ) → ((other ≡ first) × (end ≡ last)) ⊎ ((other ≡ first → ⊥) × (other ≡ to + 1 → ⊥) × (run other ≡ Some end)) → end < 2 ^ 32
    within other end (inl new) = subst (λ k. k < 2 ^ 32) (sym new.1) facts.fits
    within other end (inr old) = facts.runs.within other end old.2

    some_after : (next : ℕ) → IsSome (joined run first to last next) → (next ≡ first) ⊎ ((next ≡ first → ⊥) × (next ≡ to + 1 → ⊥) × IsSome (run next))
    some_after next some = by (cases_eq next (to + 1)) (cases_eq next first)
      where
        by : (next ≡ to + 1) ⊎ (next ≡ to + 1 → ⊥) → (next ≡ first) ⊎ (next ≡ first → ⊥) → (next ≡ first) ⊎ ((next ≡ first → ⊥) × (next ≡ to + 1 → ⊥) × IsSome (run next))
        by (inl same) _ = absurd (grind (arith, common_steps, nat_tests, same, some))
        by (inr differs) (inl same) = inl same
        by (inr differs) (inr other) = inr (other, differs, grind (arith, common_steps, nat_tests, other, differs, some))

    -- behind the new run
    new_first : (next : ℕ) → (next ≡ first → ⊥) × (next ≡ to + 1 → ⊥) × IsSome (run next) → first < next → last + 1 < next
    new_first next old lt = by (cases_lt to next)
      where
        above : BeginsAt run from first → from < next
        above (inl fresh) = omega (arith, fresh.0, lt)
        above (inr grown) = let gap = facts.runs.apart first grown.0 next grown.1 old.2 lt in omega (arith, gap, grown.2)

        by : (to < next) ⊎ (next ≤ to) → last + 1 < next
        by (inl past) = elim (behind run from to first last facts next old.2 past) [ inl same ↦ absurd (old.1 same) | inr far ↦ far ]
        by (inr not_past) =
            let low = above facts.begins in
            absurd (facts.free (record { index = next; low = omega (arith, low); high = not_past; covers = begins_covers run facts.runs next old.2 }))

    -- before the new run
    new_last : (other end : ℕ) → run other ≡ Some end → other < first → end + 1 < first
    new_last other end is lt =
        by facts.begins
      where
        by : BeginsAt run from first → end + 1 < first
        by (inl fresh) = let gap = fresh.1 other end is (omega (arith, lt, first_le run from to first last facts)) in omega (arith, gap, fresh.0)
        by (inr grown) = facts.runs.apart other end first is (grind (arith, common_steps, grown.1)) lt

    apart : (other end next : ℕ) → ((other ≡ first) × (end ≡ last)) ⊎ ((other ≡ first → ⊥) × (other ≡ to + 1 → ⊥) × (run other ≡ Some end))
        → (next ≡ first) ⊎ ((next ≡ first → ⊥) × (next ≡ to + 1 → ⊥) × IsSome (run next)) → other < next → end + 1 < next
    apart other end next (inl new) (inl same) lt = absurd (omega (arith, new.0, same, lt))
    apart other end next (inl new) (inr old) lt = let far = new_first next old (omega (arith, new.0, lt)) in omega (arith, far, new.1)
    apart other end next (inr old) (inl same) lt = let far = new_last other end old.2 (omega (arith, same, lt)) in omega (arith, far, same)
    apart other end next (inr old) (inr behind_it) lt = facts.runs.apart other end next old.2 behind_it.2 lt

-- ---- and they cover the run besides
pub covers_more : (run : ℕ → Option ℕ) (from to first last : ℕ) → Facts run from to first last → (other : ℕ) → Covers (joined run first to last) other → ((from ≤ other) × (other ≤ to)) ⊎ Covers run other
covers_more run from to first last facts other covers = by (after run to first last covers.first covers.last covers.is)
  where
    by : ((covers.first ≡ first) × (covers.last ≡ last)) ⊎ ((covers.first ≡ first → ⊥) × (covers.first ≡ to + 1 → ⊥) × (run covers.first ≡ Some covers.last))
        → ((from ≤ other) × (other ≤ to)) ⊎ Covers run other
    by (inr old) = inr (record { first = covers.first; last = covers.last; is = old.2; from = covers.from; to = covers.to })
    by (inl new) = place (cases_lt other from) (cases_lt to other)
      where
        low : first ≤ other
        low = omega (arith, new.0, covers.from)

        high : other ≤ last
        high = omega (arith, new.1, covers.to)

        smaller : other < from → BeginsAt run from first → Covers run other
        smaller lt (inl fresh) = absurd (omega (arith, fresh.0, low, lt))
        smaller lt (inr grown) = record { first = first; last = grown.0; is = grown.1; from = low; to = omega (arith, grown.2, lt) }

        greater : to < other → EndsAt run to last → Covers run other
        greater lt (inl fresh) = absurd (omega (arith, fresh.0, high, lt))
        greater lt (inr grown) = record { first = to + 1; last = last; is = grown; from = omega (arith, lt); to = high }

        place : (other < from) ⊎ (from ≤ other) → (to < other) ⊎ (other ≤ to) → ((from ≤ other) × (other ≤ to)) ⊎ Covers run other
        place (inl lt) _ = inr (smaller lt facts.begins)
        place (inr ge) (inl gt) = inr (greater gt facts.ends)
        place (inr ge) (inr le) = inl (ge, le)

pub covers_still : (run : ℕ → Option ℕ) (from to first last : ℕ) → Facts run from to first last → (other : ℕ) → ((from ≤ other) × (other ≤ to)) ⊎ Covers run other → Covers (joined run first to last) other
covers_still run from to first last facts other = by
  where
    begin : first ≤ from
    begin = first_le run from to first last facts

    end : to ≤ last
    end = last_ge run from to first last facts

    the_new : (k : ℕ) → first ≤ k → k ≤ last → Covers (joined run first to last) k
    the_new k low high = record { first = first; last = last; is = grind (arith, common_steps, nat_tests, begin, facts.order); from = low; to = high }

    old : (covers : Covers run other) → (covers.first ≡ to + 1) ⊎ (covers.first ≡ to + 1 → ⊥) → (covers.first ≡ first) ⊎ (covers.first ≡ first → ⊥) → Covers (joined run first to last) other
    old covers (inl right) _ =
        let ends : covers.last ≡ last = its facts.ends in
        the_new other (omega (arith, right, covers.from, begin, facts.order)) (omega (arith, ends, covers.to))
      where
        its : EndsAt run to last → covers.last ≡ last
        its (inl fresh) = absurd (grind (arith, common_steps, right, covers.is, fresh.1))
        its (inr grown) = grind (arith, common_steps, right, covers.is, grown)
    old covers (inr _) (inl left) = the_new other (omega (arith, left, covers.from)) (its facts.begins)
      where
        its : BeginsAt run from first → other ≤ last
        its (inl fresh) = let gap = fresh.1 covers.first covers.last covers.is (omega (arith, left, fresh.0)) in absurd (omega (arith, gap, covers.from, covers.to, left, fresh.0))
        its (inr grown) =
            let equal : covers.last ≡ grown.0 = grind (arith, common_steps, left, covers.is, grown.1) in
            omega (arith, equal, grown.2, covers.to, facts.order, end)
    old covers (inr right) (inr left) =
        record { first = covers.first; last = covers.last; is = grind (arith, common_steps, nat_tests, right, left, covers.is); from = covers.from; to = covers.to }

    by : ((from ≤ other) × (other ≤ to)) ⊎ Covers run other → Covers (joined run first to last) other
    by (inl within) = the_new other (omega (arith, begin, within.0)) (omega (arith, end, within.1))
    by (inr covers) = old covers (cases_eq covers.first (to + 1)) (cases_eq covers.first first)
