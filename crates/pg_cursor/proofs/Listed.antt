-- What stands at places, and the list of what pages have.
use Rattle.std.proofs.Common.{◌≡◌, ◌≢◌, ◌⊎◌, ◌≤◌, ◌<◌, ◌+◌, ◌^◌, ◌==◌, ℕ, true, false, List, [], ◌∷◌, ◌++◌, length, Option, Some, None, refl, sym, ◌∙◌, ap, subst, inl, inr, arith, append_assoc, length-append}
use Rattle.std.specs.Prelude.{if◌then◌else◌}
use Rattle.std.specs.Int.{to_be_bytes, w64}
use Rattle.std.proofs.lemmas.Bool.{cases_Bool, cases_eq}
use Rattle.std.proofs.lemmas.Grind.{common_steps}
use Rattle.std.proofs.lemmas.List.{append-nil}
use Rattle.std.proofs.lemmas.List.Elements.{All-cons, All-head, All-tail}
use Rattle.pg_disk.specs.Calls.{Holds}
use Rattle.pg_disk.proofs.Bytes.{holds_itself}
use Rattle.pg_gate.specs.Gated.{opened, AllFit, Batches, HasBatches}
use Rattle.pg_gate.proofs.Sealing.{opened-push}
use Rattle.pg_gate.proofs.Unique.{none_fit}
use Rattle.pg_page.specs.declared.place.Place.{Place}
use Rattle.pg_page.specs.Pages.{AllEntriesFit, Entry, HasEntries, HasPages, Pages, position_at, positioned, positioned_in}
use Rattle.pg_page.specs.Places.{IsAt}
use Rattle.pg_page.proofs.PageLaws.{passed_are}

-- the payloads of a page among entries
abbrev pub on_page : ℕ → List Entry → List (List ℕ)
on_page page [] = []
on_page page (entry ∷ entries) = if entry.0.page == page then entry.1 ∷ on_page page entries else on_page page entries

pub on_page_both : (page : ℕ) (xs ys : List Entry) → on_page page (xs ++ ys) ≡ on_page page xs ++ on_page page ys
on_page_both page [] ys = refl
on_page_both page (x ∷ xs) ys = elim (cases_Bool (x.0.page == page)) [
  | inl same ↦ grind (arith, common_steps, same, on_page_both page xs ys)
  | inr apart ↦ grind (arith, common_steps, apart, on_page_both page xs ys)
]

-- where each length has its spelling, those of a page have
pub page_fit : (page : ℕ) (entries : List Entry) → AllEntriesFit entries → AllFit (on_page page entries)
page_fit page [] fit = none_fit
page_fit page (entry ∷ entries) fit =
    with_one (cases_Bool (entry.0.page == page)) (All-head (λ (e : Entry). length e.1 < 2 ^ 64) entry entries fit)
    (page_fit page entries (All-tail (λ (e : Entry). length e.1 < 2 ^ 64) entry entries fit))
  where
    here : (entry.0.page == page) ≡ true → on_page page (entry ∷ entries) ≡ entry.1 ∷ on_page page entries
    here same = grind (arith, common_steps, same)

    elsewhere : (entry.0.page == page) ≡ false → on_page page (entry ∷ entries) ≡ on_page page entries
    elsewhere apart = grind (arith, common_steps, apart)

    with_one : ((entry.0.page == page) ≡ true) ⊎ ((entry.0.page == page) ≡ false) → length entry.1 < 2 ^ 64 → AllFit (on_page page entries) → AllFit (on_page page (entry ∷ entries))
    with_one (inl same) one others = subst AllFit (sym (here same)) (All-cons (λ (p : List ℕ). length p < 2 ^ 64) entry.1 (on_page page entries) one others)
    with_one (inr apart) one others = subst AllFit (sym (elsewhere apart)) others

same_number : (a : ℕ) → (a == a) ≡ true
same_number a = grind (arith, common_steps)

other_number : (a b : ℕ) → a ≢ b → (a == b) ≡ false
other_number a b apart = elim (cases_Bool (a == b)) [
  | inl same ↦ absurd (apart (grind (arith, common_steps, same)))
  | inr is ↦ is
]

pub on_its_page : (page index : ℕ) (payloads : List (List ℕ)) → on_page page (positioned_in page index payloads) ≡ payloads
on_its_page page index [] = refl
on_its_page page index (payload ∷ payloads) = grind (arith, common_steps, same_number page, on_its_page page (index + 1) payloads)

pub on_other_page : (page other index : ℕ) (payloads : List (List ℕ)) → page ≢ other → on_page other (positioned_in page index payloads) ≡ []
on_other_page page other index [] apart = refl
on_other_page page other index (payload ∷ payloads) apart = grind (arith, common_steps, other_number page other apart, on_other_page page other (index + 1) payloads apart)

on_none_below : (first page : ℕ) (payloads : List (List (List ℕ))) → page < first → on_page page (positioned first payloads) ≡ []
on_none_below first page [] below = refl
on_none_below first page (x ∷ xs) below =
    on_page_both page (positioned_in first 0 x) (positioned (first + 1) xs)
    ∙ ap (λ (l : List (List ℕ)). l ++ on_page page (positioned (first + 1) xs)) (on_other_page first page 0 x (λ same. omega (arith, same, below)))
    ∙ on_none_below (first + 1) page xs (omega (arith, below))

on_first : (first : ℕ) (x : List (List ℕ)) (xs : List (List (List ℕ))) → on_page first (positioned_in first 0 x ++ positioned (first + 1) xs) ≡ x
on_first first x xs =
    on_page_both first (positioned_in first 0 x) (positioned (first + 1) xs)
    ∙ ap (λ (l : List (List ℕ)). l ++ on_page first (positioned (first + 1) xs)) (on_its_page first 0 x)
    ∙ ap (λ (l : List (List ℕ)). x ++ l) (on_none_below (first + 1) first xs (omega arith))
    ∙ append-nil x

on_later : (first page : ℕ) (x : List (List ℕ)) (xs : List (List (List ℕ))) → first ≢ page → on_page page (positioned_in first 0 x ++ positioned (first + 1) xs) ≡ on_page page (positioned (first + 1) xs)
on_later first page x xs apart =
    on_page_both page (positioned_in first 0 x) (positioned (first + 1) xs) ∙ ap (λ (l : List (List ℕ)). l ++ on_page page (positioned (first + 1) xs)) (on_other_page first page 0 x apart)

none_some : (bytes : List ℕ) → None ≡ Some bytes → ⊥
none_some bytes e = cc

batches_some : (payloads : List (List ℕ)) (o : Option (List ℕ)) (bytes : List ℕ) → o ≡ Some bytes → HasBatches payloads o → Batches bytes payloads
batches_some payloads o bytes is has = subst (HasBatches payloads) is has

some_batches : (payloads : List (List ℕ)) (o : Option (List ℕ)) → HasBatches payloads o → (bytes : List ℕ) × (o ≡ Some bytes)
some_batches payloads None has = absurd has
some_batches payloads (Some bytes) has = (bytes, refl)

-- the batches of a page are the payloads there
batches_on : (first page : ℕ) (payloads : List (List (List ℕ))) (pages : Pages) (bytes : List ℕ) → HasPages first payloads pages → first ≤ page → pages page ≡ Some bytes → Batches bytes (on_page page (positioned first payloads))
batches_on first page [] pages bytes has from there = absurd (none_some bytes (sym (has page from) ∙ there))
batches_on first page (x ∷ xs) pages bytes has from there = elim (cases_eq first page) [
  | inl same ↦ subst (λ (n : ℕ). Batches bytes (on_page n (positioned first (x ∷ xs)))) same (subst (Batches bytes) (sym (on_first first x xs)) (batches_some x (pages first) bytes (ap pages same ∙ there) has.0))
  | inr apart ↦ subst (Batches bytes) (sym (on_later first page x xs apart)) (batches_on (first + 1) page xs pages bytes has.1 (omega (arith, from, apart)) there)
]

-- a page with payloads is there
there_on_page : (first page : ℕ) (payloads : List (List (List ℕ))) (pages : Pages) → HasPages first payloads pages → 0 < length (on_page page (positioned first payloads)) → (first ≤ page) × ((bytes : List ℕ) × (pages page ≡ Some bytes))
there_on_page first page [] pages has some = absurd (omega (arith, some))
there_on_page first page (x ∷ xs) pages has some = elim (cases_eq first page) [
  | inl same ↦ (omega (arith, same), subst (λ (n : ℕ). (bytes : List ℕ) × (pages n ≡ Some bytes)) same (some_batches x (pages first) has.0))
  | inr apart ↦
      let more = there_on_page (first + 1) page xs pages has.1 (subst (λ (l : List (List ℕ)). 0 < length l) (on_later first page x xs apart) some) in
      (omega (arith, more.0), more.1)
]

module _ (first : ℕ) (entries : List Entry) (pages : Pages) (has : HasEntries first entries pages) where
  pub batches_are : (page : ℕ) (bytes : List ℕ) → first ≤ page → pages page ≡ Some bytes → Batches bytes (on_page page entries)
  batches_are page bytes from there = subst (λ (es : List Entry). Batches bytes (on_page page es)) (sym has.are) (batches_on first page has.payloads pages bytes has.has from there)

  pub page_there : (page : ℕ) → 0 < length (on_page page entries) → (first ≤ page) × ((bytes : List ℕ) × (pages page ≡ Some bytes))
  page_there page some = there_on_page first page has.payloads pages has.has (subst (λ (es : List Entry). 0 < length (on_page page es)) has.are some)

  -- what stands at a place is one of them
  pub stands_listed : AllEntriesFit entries → (place : Place) (bytes : List ℕ) (before : List (List ℕ)) (payload : List ℕ) → first ≤ place.position.page → pages place.position.page ≡ Some bytes → AllFit (before ++ payload ∷ []) → IsAt bytes place before payload
      → (behind : List (List ℕ)) × (on_page place.position.page entries ≡ (before ++ payload ∷ []) ++ behind)
  stands_listed fits place bytes before payload from there fit at =
      passed_are bytes (on_page place.position.page entries) (before ++ payload ∷ []) fit (page_fit place.position.page entries fits) (batches_are place.position.page bytes from there) at.stands.passes

-- batches stand one behind the other
opened_both : (xs ys : List (List ℕ)) (rest : List ℕ) → opened (xs ++ ys) ++ rest ≡ opened xs ++ (opened ys ++ rest)
opened_both xs [] rest = ap (λ (l : List (List ℕ)). opened l ++ rest) (append-nil xs)
opened_both xs (y ∷ ys) rest =
    ap (λ (l : List (List ℕ)). opened l ++ rest) (sym (append_assoc xs (y ∷ []) ys)) ∙ opened_both (xs ++ y ∷ []) ys rest ∙ opened-push xs y (opened ys ++ rest)
    ∙ ap (λ (l : List ℕ). opened xs ++ 1 ∷ (to_be_bytes w64 (length y) ++ l)) (sym (append_assoc y (opened ys) rest))

not_empty : (before behind : List (List ℕ)) (payload : List ℕ) → (before ++ payload ∷ []) ++ behind ≡ [] → ⊥
not_empty [] behind payload e = absurd (cons_nil payload behind e)
  where
    cons_nil : (x : List ℕ) (xs : List (List ℕ)) → x ∷ xs ≡ [] → ⊥
    cons_nil x xs e = cc
not_empty (x ∷ before) behind payload e = cons_nil x ((before ++ payload ∷ []) ++ behind) e
  where
    cons_nil : (x : List ℕ) (xs : List (List ℕ)) → x ∷ xs ≡ [] → ⊥
    cons_nil x xs e = cc

-- each batch of a page stands at a place
pub stands_there : (bytes : List ℕ) (place : Place) (before behind : List (List ℕ)) (payload : List ℕ) → Batches bytes ((before ++ payload ∷ []) ++ behind) → place.offset ≡ length (opened before) + 9 → place.position.index ≡ length before → IsAt bytes place before payload
stands_there bytes place before behind payload (inl none) offset index = absurd (not_empty before behind payload none.1)
stands_there bytes place before behind payload (inr some) offset index =
    let passed : List ℕ = opened (before ++ payload ∷ []) in
    let rest : List ℕ = opened behind ++ some.0 ∷ some.1 in
    let is : bytes ≡ passed ++ rest = some.3 ∙ opened_both (before ++ payload ∷ []) behind (some.0 ∷ some.1) in record {
      stands = record {
        passes = record {
          stand = subst (λ (l : List ℕ). Holds l 0 passed) (sym is) (holds_itself passed rest);
          gate = omega (arith, ap length is, length-append passed rest, length-append (opened behind) (some.0 ∷ some.1));
        };
        at = offset;
      };
      index = index;
    }

-- ---- positions

-- each entry's index is how many of its page stand before it
abbrev pub Indexed : List Entry → List Entry → Type 0
Indexed before [] = Unit {0}
Indexed before (entry ∷ entries) = (entry.0.index ≡ length (on_page entry.0.page before)) × Indexed (before ++ entry ∷ []) entries

indexed_both : (before xs ys : List Entry) → Indexed before xs → Indexed (before ++ xs) ys → Indexed before (xs ++ ys)
indexed_both before [] ys one two = subst (λ (l : List Entry). Indexed l ys) (append-nil before) two
indexed_both before (x ∷ xs) ys one two = (one.0, indexed_both (before ++ x ∷ []) xs ys one.1 (subst (λ (l : List Entry). Indexed l ys) (sym (append_assoc before (x ∷ []) xs)) two))

pub one_longer : (page : ℕ) (before : List Entry) (entry : Entry) → entry.0.page ≡ page → length (on_page page (before ++ entry ∷ [])) ≡ length (on_page page before) + 1
one_longer page before entry same =
    ap length (on_page_both page before (entry ∷ [])) ∙ length-append (on_page page before) (on_page page (entry ∷ [])) ∙ ap (λ (n : ℕ). length (on_page page before) + n) (one (subst (λ (n : ℕ). (entry.0.page == n) ≡ true) same (same_number entry.0.page)))
  where
    one : (entry.0.page == page) ≡ true → length (on_page page (entry ∷ [])) ≡ 1
    one is = grind (arith, common_steps, is)

pub as_long : (page : ℕ) (before : List Entry) (entry : Entry) → (entry.0.page == page) ≡ false → length (on_page page (before ++ entry ∷ [])) ≡ length (on_page page before)
as_long page before entry apart =
    ap length (on_page_both page before (entry ∷ [])) ∙ length-append (on_page page before) (on_page page (entry ∷ [])) ∙ ap (λ (n : ℕ). length (on_page page before) + n) none ∙ omega arith
  where
    none : length (on_page page (entry ∷ [])) ≡ 0
    none = grind (arith, common_steps, apart)

indexed_in : (before : List Entry) (page index : ℕ) (payloads : List (List ℕ)) → index ≡ length (on_page page before) → Indexed before (positioned_in page index payloads)
indexed_in before page index [] is = tt
indexed_in before page index (payload ∷ payloads) is =
    (is, indexed_in (before ++ (position_at page index, payload) ∷ []) page (index + 1) payloads (omega (arith, is, one_longer page before (position_at page index, payload) refl)))

indexed_pages : (before : List Entry) (first : ℕ) (payloads : List (List (List ℕ))) → ((page : ℕ) → first ≤ page → on_page page before ≡ []) → Indexed before (positioned first payloads)
indexed_pages before first [] none = tt
indexed_pages before first (x ∷ xs) none =
    indexed_both before (positioned_in first 0 x) (positioned (first + 1) xs) (indexed_in before first 0 x (sym (ap length (none first (omega arith)))))
    (indexed_pages (before ++ positioned_in first 0 x) (first + 1) xs (λ page from.
    on_page_both page before (positioned_in first 0 x) ∙ ap (λ (l : List (List ℕ)). l ++ on_page page (positioned_in first 0 x)) (none page (omega (arith, from))) ∙ on_other_page first page 0 x (λ same. omega (arith, same, from))))

pub indexed : (first : ℕ) (entries : List Entry) (pages : Pages) → HasEntries first entries pages → Indexed [] entries
indexed first entries pages has = subst (Indexed []) (sym has.are) (indexed_pages [] first has.payloads (λ page from. refl))

-- the last one's
pub last_index : (before entries : List Entry) (entry : Entry) → Indexed before (entries ++ entry ∷ []) → entry.0.index ≡ length (on_page entry.0.page (before ++ entries))
last_index before [] entry is = is.0 ∙ ap (λ (l : List Entry). length (on_page entry.0.page l)) (sym (append-nil before))
last_index before (x ∷ entries) entry is = last_index (before ++ x ∷ []) entries entry is.1 ∙ ap (λ (l : List Entry). length (on_page entry.0.page l)) (append_assoc before (x ∷ []) entries)
