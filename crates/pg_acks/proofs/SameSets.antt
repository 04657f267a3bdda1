-- Runs and pages in their order are told by what they have.
use Rattle.std.proofs.Common.{◌≡◌, ◌==◌, ◌&&◌, ◌+◌, ◌<◌, ◌≤◌, ◌⊎◌, ℕ, Bool, true, false, List, [], ◌∷◌, inl, inr, refl, sym, ap₂, subst, ◌∙◌, arith}
use Rattle.std.proofs.lemmas.Grind.{common_steps}
use Rattle.std.proofs.lemmas.Bool.{cases_Bool, cases_lt}
use Rattle.std.proofs.lemmas.Bool.Decides.{nat_tests}
use Rattle.std.specs.List.{AllByRecursion, list_any}
use Rattle.pg_acks.specs.declared.position.Position.{Position}
use Rattle.pg_acks.specs.declared.row.AckRow.{AckRow}
use Rattle.pg_acks.specs.Acked.{AreLongestRuns, ArePagesInOrder, IsBehind, IsPageBehind, row_has}
use Rattle.pg_acks.proofs.Sets.{same_tests}

abbrev has : List AckRow → ℕ → Position → Bool
has rows queue position = list_any (row_has queue position) rows

-- the run has the position
record In (row : AckRow) (queue : ℕ) (position : Position) : Type 0 where
  is_queue : row.queue ≡ queue
  is_page : row.page ≡ position.page
  from : row.from ≤ position.index
  to : position.index ≤ row.to

-- the position stands behind the run, with a gap between them where it is on the same page
abbrev After : AckRow → ℕ → Position → Type 0
After row queue position = (row.queue < queue) ⊎ ((row.queue ≡ queue) × ((row.page < position.page) ⊎ ((row.page ≡ position.page) × (row.to + 1 < position.index))))

in_of : (row : AckRow) (queue : ℕ) (position : Position) → row_has queue position row ≡ true → In row queue position
in_of row queue position h = record {
  is_queue = grind (arith, common_steps, nat_tests, h);
  is_page = grind (arith, common_steps, nat_tests, h);
  from = grind (arith, common_steps, nat_tests, h);
  to = grind (arith, common_steps, nat_tests, h);
}

of_in : (row : AckRow) (queue : ℕ) (position : Position) → In row queue position → row_has queue position row ≡ true
of_in row queue position is = grind (arith, common_steps, nat_tests, is.is_queue, is.is_page, is.from, is.to)

not_both : (row : AckRow) (queue : ℕ) (position : Position) → In row queue position → After row queue position → ⊥
not_both row queue position is (inl lt) = omega (arith, is.is_queue, lt)
not_both row queue position is (inr (same, inl lt)) = omega (arith, is.is_page, lt)
not_both row queue position is (inr (same, inr (page, gap))) = omega (arith, is.to, gap)

-- what a run behind has stands behind
after_behind : (row next : AckRow) (queue : ℕ) (position : Position) → IsBehind row next → In next queue position → After row queue position
after_behind row next queue position (inl lt) is = inl (omega (arith, lt, is.is_queue))
after_behind row next queue position (inr (same, inl lt)) is = inr (same ∙ is.is_queue, inl (omega (arith, lt, is.is_page)))
after_behind row next queue position (inr (same, inr (page, gap))) is = inr (same ∙ is.is_queue, inr (page ∙ is.is_page, omega (arith, gap, is.from)))

after_of : (row : AckRow) (rows : List AckRow) (queue : ℕ) (position : Position) → AllByRecursion (IsBehind row) rows → has rows queue position ≡ true → After row queue position
after_of row [] queue position behind h = absurd (grind (arith, common_steps, h))
after_of row (next ∷ rows) queue position behind h =
    elim (cases_Bool (row_has queue position next)) [
      | inl here ↦ after_behind row next queue position behind.0 (in_of next queue position here)
      | inr other ↦ after_of row rows queue position behind.1 (grind (arith, common_steps, other, h))
    ]

split : (row : AckRow) (rows : List AckRow) (queue : ℕ) (position : Position) → AllByRecursion (IsBehind row) rows → has (row ∷ rows) queue position ≡ true
    → In row queue position ⊎ After row queue position
split row rows queue position behind h =
    elim (cases_Bool (row_has queue position row)) [
      | inl here ↦ inl (in_of row queue position here)
      | inr other ↦ inr (after_of row rows queue position behind (grind (arith, common_steps, other, h)))
    ]

-- a run has its first position
first_in : (row : AckRow) → row.from ≤ row.to → In row row.queue (record { page = row.page; index = row.from })
first_in row full = record { is_queue = refl; is_page = refl; from = omega arith; to = full }

-- two runs of which neither stands behind the first position of the other begin at the same position
record BeginAlike (a b : AckRow) : Type 0 where
  alike_queue : a.queue ≡ b.queue
  alike_page : a.page ≡ b.page
  alike_from : a.from ≡ b.from

alike : (a b : AckRow) → a.from ≤ a.to → b.from ≤ b.to → In b a.queue (record { page = a.page; index = a.from }) ⊎ After b a.queue (record { page = a.page; index = a.from })
    → In a b.queue (record { page = b.page; index = b.from }) ⊎ After a b.queue (record { page = b.page; index = b.from }) → BeginAlike a b
alike a b full_a full_b (inl x) (inl y) = record { alike_queue = sym x.is_queue; alike_page = sym x.is_page; alike_from = omega (arith, x.from, y.from) }
alike a b full_a full_b (inl x) (inr (inl lt)) = absurd (omega (arith, x.is_queue, lt))
alike a b full_a full_b (inl x) (inr (inr (same, inl lt))) = absurd (omega (arith, x.is_page, lt))
alike a b full_a full_b (inl x) (inr (inr (same, inr (page, gap)))) = absurd (omega (arith, x.from, gap, full_a))
alike a b full_a full_b (inr (inl lt)) (inl y) = absurd (omega (arith, y.is_queue, lt))
alike a b full_a full_b (inr (inr (same, inl lt))) (inl y) = absurd (omega (arith, y.is_page, lt))
alike a b full_a full_b (inr (inr (same, inr (page, gap)))) (inl y) = absurd (omega (arith, y.from, gap, full_b))
alike a b full_a full_b (inr (inl lt)) (inr (inl gt)) = absurd (omega (arith, lt, gt))
alike a b full_a full_b (inr (inl lt)) (inr (inr more)) = absurd (omega (arith, lt, more.0))
alike a b full_a full_b (inr (inr more)) (inr (inl gt)) = absurd (omega (arith, more.0, gt))
alike a b full_a full_b (inr (inr (_, inl lt))) (inr (inr (_, inl gt))) = absurd (omega (arith, lt, gt))
alike a b full_a full_b (inr (inr (_, inl lt))) (inr (inr (_, inr (page, gap)))) = absurd (omega (arith, lt, page))
alike a b full_a full_b (inr (inr (_, inr (page, gap)))) (inr (inr (_, inl gt))) = absurd (omega (arith, page, gt))
alike a b full_a full_b (inr (inr (_, inr (page, gap)))) (inr (inr (_, inr (again, more)))) = absurd (omega (arith, gap, more, full_a, full_b))

-- a run that begins alike and has what the other one has ends no earlier
ends : (a b : AckRow) → BeginAlike a b → a.from ≤ a.to → ((queue : ℕ) (position : Position) → In b queue position → In a queue position ⊎ After a queue position) → b.to ≤ a.to
ends a b same full told = by (cases_lt a.to b.to)
  where
    next : a.to < b.to → In b b.queue (record { page = b.page; index = a.to + 1 })
    next lt = record { is_queue = refl; is_page = refl; from = omega (arith, same.alike_from, full); to = omega (arith, lt) }

    never : In a b.queue (record { page = b.page; index = a.to + 1 }) ⊎ After a b.queue (record { page = b.page; index = a.to + 1 }) → ⊥
    never (inl is) = omega (arith, is.to)
    never (inr (inl lt)) = omega (arith, same.alike_queue, lt)
    never (inr (inr (_, inl lt))) = omega (arith, same.alike_page, lt)
    never (inr (inr (_, inr (_, gap)))) = omega (arith, gap)

    by : (a.to < b.to) ⊎ (b.to ≤ a.to) → b.to ≤ a.to
    by (inr le) = le
    by (inl lt) = absurd (never (told b.queue (record { page = b.page; index = a.to + 1 }) (next lt)))

one_row : (a b : AckRow) → BeginAlike a b → a.to ≡ b.to → a ≡ b
one_row a b same to = grind (arith, common_steps, same.alike_queue, same.alike_page, same.alike_from, to)

-- what the first run has, all of them have
first_has : (row : AckRow) (rows : List AckRow) (queue : ℕ) (position : Position) → In row queue position → has (row ∷ rows) queue position ≡ true
first_has row rows queue position is = grind (arith, common_steps, of_in row queue position is)

-- what the others have, all of them have, and the first doesn't
others_have : (row : AckRow) (rows : List AckRow) (queue : ℕ) (position : Position) → has rows queue position ≡ true → has (row ∷ rows) queue position ≡ true
others_have row rows queue position h = at (cases_Bool (row_has queue position row))
  where
    at : (row_has queue position row ≡ true) ⊎ (row_has queue position row ≡ false) → has (row ∷ rows) queue position ≡ true
    at (inl here) = grind (arith, common_steps, here)
    at (inr other) = grind (arith, common_steps, other, h)

-- without the same first run, what the ones have the others have
without_first : (a b : AckRow) (rows others : List AckRow) (queue : ℕ) (position : Position) → a ≡ b → AllByRecursion (IsBehind a) rows
    → has (a ∷ rows) queue position ≡ has (b ∷ others) queue position → has rows queue position ≡ true → has others queue position ≡ true
without_first a b rows others queue position same behind told h =
    let after = after_of a rows queue position behind h in
    let all : has (b ∷ others) queue position ≡ true = sym told ∙ others_have a rows queue position h in
    elim (cases_Bool (row_has queue position b)) [
      | inl here ↦ absurd (not_both a queue position (subst (λ (row : AckRow). In row queue position) (sym same) (in_of b queue position here)) after)
      | inr other ↦ grind (arith, common_steps, other, all)
    ]

pub same_rows : (rows others : List AckRow) → AreLongestRuns rows → AreLongestRuns others → ((queue : ℕ) (position : Position) → has rows queue position ≡ has others queue position) → rows ≡ others
same_rows [] [] are are_others told = refl
same_rows [] (b ∷ others) are are_others told =
    absurd (grind (arith, common_steps, told b.queue (record { page = b.page; index = b.from }), first_has b others b.queue (record { page = b.page; index = b.from }) (first_in b are_others.0)))
same_rows (a ∷ rows) [] are are_others told =
    absurd (grind (arith, common_steps, told a.queue (record { page = a.page; index = a.from }), first_has a rows a.queue (record { page = a.page; index = a.from }) (first_in a are.0)))
same_rows (a ∷ rows) (b ∷ others) are are_others told =
    ap₂ (λ (row : AckRow) (more : List AckRow). row ∷ more) first (same_rows rows others are.2 are_others.2 behind_them)
  where
    to_others : (queue : ℕ) (position : Position) → In a queue position → In b queue position ⊎ After b queue position
    to_others queue position is = split b others queue position are_others.1 (sym (told queue position) ∙ first_has a rows queue position is)

    from_others : (queue : ℕ) (position : Position) → In b queue position → In a queue position ⊎ After a queue position
    from_others queue position is = split a rows queue position are.1 (told queue position ∙ first_has b others queue position is)

    begin : BeginAlike a b
    begin = alike a b are.0 are_others.0 (to_others a.queue (record { page = a.page; index = a.from }) (first_in a are.0)) (from_others b.queue (record { page = b.page; index = b.from }) (first_in b are_others.0))

    back : BeginAlike b a
    back = record { alike_queue = sym begin.alike_queue; alike_page = sym begin.alike_page; alike_from = sym begin.alike_from }

    low : b.to ≤ a.to
    low = ends a b begin are.0 from_others

    high : a.to ≤ b.to
    high = ends b a back are_others.0 to_others

    first : a ≡ b
    first = one_row a b begin (omega (arith, low, high))

    behind_them : (queue : ℕ) (position : Position) → has rows queue position ≡ has others queue position
    behind_them queue position =
        same_tests (has rows queue position) (has others queue position)
        (without_first a b rows others queue position first are.1 (told queue position))
        (without_first b a others rows queue position (sym first) are_others.1 (sym (told queue position)))

-- ---- pages
abbrev has_page : List (ℕ × ℕ) → ℕ → ℕ → Bool
has_page pages queue page = list_any (λ other. (other.0 == queue) && (other.1 == page)) pages

page_among : (one : ℕ × ℕ) (pages : List (ℕ × ℕ)) (queue page : ℕ) → AllByRecursion (IsPageBehind one) pages → has_page pages queue page ≡ true → IsPageBehind one (queue, page)
page_among one [] queue page behind h = absurd (grind (arith, common_steps, h))
page_among one (other ∷ pages) queue page behind h =
    elim (cases_Bool ((other.0 == queue) && (other.1 == page))) [
      | inl here ↦
          let same : other ≡ (queue, page) = grind (arith, common_steps, nat_tests, here) in
          subst (IsPageBehind one) same behind.0
      | inr not_here ↦ page_among one pages queue page behind.1 (grind (arith, common_steps, not_here, h))
    ]

page_split : (one : ℕ × ℕ) (pages : List (ℕ × ℕ)) (queue page : ℕ) → AllByRecursion (IsPageBehind one) pages → has_page (one ∷ pages) queue page ≡ true
    → (one ≡ (queue, page)) ⊎ IsPageBehind one (queue, page)
page_split one pages queue page behind h =
    elim (cases_Bool ((one.0 == queue) && (one.1 == page))) [
      | inl here ↦ inl (grind (arith, common_steps, nat_tests, here))
      | inr not_here ↦ inr (page_among one pages queue page behind (grind (arith, common_steps, not_here, h)))
    ]

no_page_behind : (a b : ℕ × ℕ) → IsPageBehind a b → IsPageBehind b a → ⊥
no_page_behind a b (inl lt) (inl gt) = omega (arith, lt, gt)
no_page_behind a b (inl lt) (inr (same, _)) = omega (arith, lt, same)
no_page_behind a b (inr (same, _)) (inl gt) = omega (arith, same, gt)
no_page_behind a b (inr (_, lt)) (inr (_, gt)) = omega (arith, lt, gt)

first_page : (one : ℕ × ℕ) (pages : List (ℕ × ℕ)) → has_page (one ∷ pages) one.0 one.1 ≡ true
first_page one pages = grind (arith, common_steps, nat_tests)

other_pages : (one : ℕ × ℕ) (pages : List (ℕ × ℕ)) (queue page : ℕ) → has_page pages queue page ≡ true → has_page (one ∷ pages) queue page ≡ true
other_pages one pages queue page h = at (cases_Bool ((one.0 == queue) && (one.1 == page)))
  where
    at : (((one.0 == queue) && (one.1 == page)) ≡ true) ⊎ (((one.0 == queue) && (one.1 == page)) ≡ false) → has_page (one ∷ pages) queue page ≡ true
    at (inl here) = grind (arith, common_steps, here)
    at (inr not_here) = grind (arith, common_steps, not_here, h)

without_page : (a b : ℕ × ℕ) (pages others : List (ℕ × ℕ)) (queue page : ℕ) → a ≡ b → AllByRecursion (IsPageBehind a) pages
    → has_page (a ∷ pages) queue page ≡ has_page (b ∷ others) queue page → has_page pages queue page ≡ true → has_page others queue page ≡ true
without_page a b pages others queue page same behind told h =
    let after = page_among a pages queue page behind h in
    let all : has_page (b ∷ others) queue page ≡ true = sym told ∙ other_pages a pages queue page h in
    elim (cases_Bool ((b.0 == queue) && (b.1 == page))) [
      | inl here ↦
          let is : b ≡ (queue, page) = grind (arith, common_steps, nat_tests, here) in
          absurd (no_page_behind a a (subst (IsPageBehind a) (sym (same ∙ is)) after) (subst (IsPageBehind a) (sym (same ∙ is)) after))
      | inr not_here ↦ grind (arith, common_steps, not_here, all)
    ]

pub same_pages : (pages others : List (ℕ × ℕ)) → ArePagesInOrder pages → ArePagesInOrder others → ((queue page : ℕ) → has_page pages queue page ≡ has_page others queue page) → pages ≡ others
same_pages [] [] are are_others told = refl
same_pages [] (b ∷ others) are are_others told = absurd (grind (arith, common_steps, told b.0 b.1, first_page b others))
same_pages (a ∷ pages) [] are are_others told = absurd (grind (arith, common_steps, told a.0 a.1, first_page a pages))
same_pages (a ∷ pages) (b ∷ others) are are_others told =
    ap₂ (λ (one : ℕ × ℕ) (more : List (ℕ × ℕ)). one ∷ more) first (same_pages pages others are.1 are_others.1 behind_them)
  where
    to_b : (b ≡ a) ⊎ IsPageBehind b a
    to_b = page_split b others a.0 a.1 are_others.0 (sym (told a.0 a.1) ∙ first_page a pages)

    to_a : (a ≡ b) ⊎ IsPageBehind a b
    to_a = page_split a pages b.0 b.1 are.0 (told b.0 b.1 ∙ first_page b others)

    both : (b ≡ a) ⊎ IsPageBehind b a → (a ≡ b) ⊎ IsPageBehind a b → a ≡ b
    both (inl same) _ = sym same
    both (inr _) (inl same) = same
    both (inr gt) (inr lt) = absurd (no_page_behind a b lt gt)

    first : a ≡ b
    first = both to_b to_a

    behind_them : (queue page : ℕ) → has_page pages queue page ≡ has_page others queue page
    behind_them queue page =
        same_tests (has_page pages queue page) (has_page others queue page)
        (without_page a b pages others queue page first are.0 (told queue page))
        (without_page b a others pages queue page (sym first) are_others.0 (sym (told queue page)))
