-- What a store stands for, as pages are made and written.
use Rattle.std.proofs.Common.{◌≡◌, ◌≢◌, ◌⊎◌, inl, inr, ⊎_elim, ℕ, ◌+◌, ◌<◌, ◌≤◌, List, [], ◌∷◌, ◌++◌, length, Option, Some, None, refl, sym, ◌∙◌, ap, subst, arith, length-append}
use Rattle.std.proofs.lemmas.List.{append-nil}
use Rattle.pg_acks.specs.declared.position.Position.{Position}
use Rattle.pg_disk.specs.Account.{FileState}
use Rattle.pg_disk.specs.Image.{IsLeftAt}
use Rattle.pg_gate.specs.Gated.{HasBatches, HasNone, HasOldOrNew}
use Rattle.pg_gate.proofs.Unique.{stands_left}
use Rattle.pg_page.specs.declared.place.Place.{Place}
use Rattle.pg_page.specs.declared.writer.PageWriter.{PageWriter}
use Rattle.pg_page.specs.Pages.{Entry, HasEntries, HasPages, Pages, position_at, positioned}
use Rattle.pg_page.specs.Writing.{Adds, MayAdd, Writes, next_position}
use Rattle.pg_store.specs.declared.store.NormalStore.{NormalStore}
use Rattle.pg_store.specs.declared.store.PagingStore.{PagingStore}
use Rattle.pg_store.specs.Pages.{HasOldOrMore, States, SurelyHas, SurelyHave}
use Rattle.pg_store.specs.Stores.{IsNormal, IsPaging, LeavesNone, MayPage, Paged, StandsPaging, Starts, first_of, first_of_normal, frames_in_last, last_of}
use Rattle.pg_store.specs.Turning.{Keeps, Turns}
use Rattle.pg_store.proofs.Positions.{have_more, have_still, left_behind, none_left, positioned-last, positioned-none}

this_or_not : (m n : ℕ) → (m ≡ n) ⊎ (m ≢ n)
this_or_not m n = grind arith

-- a page that is written has its payloads whatever a crash leaves
pub surely_written : (writer : PageWriter) (payloads : List (List ℕ)) (s : Option FileState) → Writes writer payloads s → SurelyHas payloads s
surely_written writer payloads s writes left is = stands_left writer.rest payloads s left writes.stands is

-- what isn't there has no payload
pub nothing_there : (left : Option (List ℕ)) → left ≡ None → HasNone left
nothing_there left none = subst HasNone (sym none) tt

-- a page without payloads, or no page, behind others
pub none_behind : (first : ℕ) (pages : List (List (List ℕ))) (left : Pages) (o : Option (List ℕ)) → left (first + length pages) ≡ o → HasNone o → ((page : ℕ) → first + length pages + 1 ≤ page → left page ≡ None)
    → ((more : List (List (List ℕ))) → HasPages (first + length pages) more left → HasPages first (pages ++ more) left) → HasEntries first (positioned first pages) left
none_behind first pages left None is none behind have = record {
  payloads = pages ++ [];
  has = have [] (λ page le. ⊎_elim (λ (this : page ≡ first + length pages). subst (λ (n : ℕ). left n ≡ None) (sym this) is) (λ (other : page ≢ first + length pages). behind page (omega (arith, le, other))) (this_or_not page (first + length pages)));
  are = ap (λ (l : List (List (List ℕ))). positioned first l) (sym (append-nil pages));
}
none_behind first pages left (Some bytes) is none behind have = record {
  payloads = pages ++ [] ∷ [];
  has = have ([] ∷ []) (subst (λ (o : Option (List ℕ)). HasBatches [] o) (sym is) none, behind);
  are = sym (positioned-none first pages);
}

-- ---- paging starts

-- the first page isn't there, or has no payload
pub start_leaves : (store : NormalStore) (s : States) (left : Pages) → ((other : ℕ) → other ≢ first_of_normal store → IsLeftAt (s other) (left other)) → HasNone (left (first_of_normal store)) → LeavesNone store s left
start_leaves store s left others none normal =
    let first : ℕ = first_of_normal store in
    let same : first + 0 ≡ first = omega arith in
    none_behind first [] left (left first) (ap left same) none
    (λ page le. none_left (s page) (left page) (normal page (omega (arith, le))) (others page (omega (arith, le))))
    (λ more has. subst (λ (n : ℕ). HasPages n more left) same has)

pub unstarted_leaves : (store : NormalStore) (s : States) (left : Pages) → ((page : ℕ) → IsLeftAt (s page) (left page)) → LeavesNone store s left
unstarted_leaves store s left is normal =
    start_leaves store s left (λ other differ. is other) (nothing_there (left (first_of_normal store)) (none_left (s (first_of_normal store)) (left (first_of_normal store)) (normal (first_of_normal store) (omega arith)) (is (first_of_normal store)))) normal

abbrev pub start_ready : (store : NormalStore) (next : PagingStore) (s t : States) → last_of next ≡ first_of_normal store → Writes next.writer [] (t (first_of_normal store)) → ((other : ℕ) → other ≢ first_of_normal store → t other ≡ s other) → IsNormal store s → IsPaging next t
start_ready store next s t last writes same normal = record {
  written = ([], subst (λ (n : ℕ). Writes next.writer [] (t n)) (sym last) writes);
  none = λ page le. same page (omega (arith, le, last)) ∙ normal page (omega (arith, le, last));
}

pub starts : (store : NormalStore) (next : PagingStore) (s t : States) → first_of next ≡ first_of_normal store → last_of next ≡ first_of_normal store → Writes next.writer [] (t (first_of_normal store))
    → ((other : ℕ) → other ≢ first_of_normal store → t other ≡ s other) → Starts store next s t
starts store next s t first last writes same = record {
  ready = start_ready store next s t last writes same;
  stands = λ normal. record {
    ready = start_ready store next s t last writes same normal;
    closed = [];
    place = omega (arith, first, last);
    are_closed = tt;
    are = refl;
  };
}

-- ---- all pages of a store

module _ (store : PagingStore) (entries : List Entry) (s : States) (stands : StandsPaging store entries s) where
  abbrev pub last_payloads : List (List ℕ)
  last_payloads = stands.ready.written.0

  abbrev pub all_pages : List (List (List ℕ))
  all_pages = stands.closed ++ last_payloads ∷ []

  pub behind_all : first_of store + length all_pages ≡ last_of store + 1
  behind_all = omega (arith, stands.place, length-append stands.closed (last_payloads ∷ []))

  pub all_have : SurelyHave (first_of store) all_pages s
  all_have = have_more (first_of store) stands.closed last_payloads s stands.are_closed
      (subst (λ (n : ℕ). SurelyHas last_payloads (s n)) stands.place (surely_written store.writer last_payloads (s (last_of store)) stands.ready.written.1))

  -- the page behind them has no payload, or isn't there
  pub keeps_behind : (left : Pages) → ((other : ℕ) → other ≢ last_of store + 1 → IsLeftAt (s other) (left other)) → HasNone (left (last_of store + 1)) → HasEntries (first_of store) entries left
  keeps_behind left others none =
      subst (λ (l : List Entry). HasEntries (first_of store) l left) (sym stands.are)
      (none_behind (first_of store) all_pages left (left (last_of store + 1)) (ap left behind_all) none
      (λ page le. none_left (s page) (left page) (stands.ready.none page (omega (arith, le, behind_all))) (others page (omega (arith, le, behind_all))))
      (λ more has. left_behind (first_of store) all_pages more s left all_have (λ page lt. others page (omega (arith, lt, behind_all))) has))

  -- the last page is written
  module _ (left : Pages) (others : (other : ℕ) → other ≢ last_of store → IsLeftAt (s other) (left other)) where
    with_last : (payloads : List (List ℕ)) → HasBatches payloads (left (last_of store)) → HasPages (first_of store) (stands.closed ++ payloads ∷ []) left
    with_last payloads has = left_behind (first_of store) stands.closed (payloads ∷ []) s left stands.are_closed (λ page lt. others page (omega (arith, lt, stands.place)))
        (subst (λ (n : ℕ). HasPages n (payloads ∷ []) left) stands.place (has, λ page le. none_left (s page) (left page) (stands.ready.none page le) (others page (omega (arith, le)))))

    old_last : HasBatches last_payloads (left (last_of store)) → HasEntries (first_of store) entries left
    old_last has = record { payloads = all_pages; has = with_last last_payloads has; are = stands.are }

    new_last : (payload : List ℕ) → HasBatches (last_payloads ++ payload ∷ []) (left (last_of store)) → HasEntries (first_of store) (entries ++ (position_at (first_of store + length stands.closed) (length last_payloads), payload) ∷ []) left
    new_last payload has = record {
      payloads = stands.closed ++ (last_payloads ++ payload ∷ []) ∷ [];
      has = with_last (last_payloads ++ payload ∷ []) has;
      are = ap (λ (l : List Entry). l ++ (position_at (first_of store + length stands.closed) (length last_payloads), payload) ∷ []) stands.are ∙ sym (positioned-last (first_of store) stands.closed last_payloads payload);
    }

    pub old_or_more : (payload : List ℕ) → frames_in_last store < 4294967295 → HasOldOrNew last_payloads payload (left (last_of store)) → HasOldOrMore (first_of store) entries payload left
    old_or_more payload room (inl has) = inl (old_last has)
    old_or_more payload room (inr has) = inr (position_at (first_of store + length stands.closed) (length last_payloads), omega (arith, room, stands.ready.written.1.count), new_last payload has)

-- nothing was done
pub rest_leaves : (store : PagingStore) (s : States) (left : Pages) → ((page : ℕ) → IsLeftAt (s page) (left page)) → Keeps store s left
rest_leaves store s left is entries stands =
    keeps_behind store entries s stands left (λ other differ. is other)
    (nothing_there (left (last_of store + 1)) (none_left (s (last_of store + 1)) (left (last_of store + 1)) (stands.ready.none (last_of store + 1) (omega arith)) (is (last_of store + 1))))

-- ---- a page behind the last one

pub turn_leaves : (store : PagingStore) (s : States) (left : Pages) → ((other : ℕ) → other ≢ last_of store + 1 → IsLeftAt (s other) (left other)) → HasNone (left (last_of store + 1)) → Keeps store s left
turn_leaves store s left others none entries stands = keeps_behind store entries s stands left others none

module _ (store next : PagingStore) (s t : States) (first : first_of next ≡ first_of store) (last : last_of next ≡ last_of store + 1) (writes : Writes next.writer [] (t (last_of store + 1)))
    (same : (other : ℕ) → other ≢ last_of store + 1 → t other ≡ s other) where
  abbrev pub turn_ready : IsPaging store s → IsPaging next t
  turn_ready ready = record {
    written = ([], subst (λ (n : ℕ). Writes next.writer [] (t n)) (sym last) writes);
    none = λ page le. same page (omega (arith, le, last)) ∙ ready.none page (omega (arith, le, last));
  }

  pub turns : Turns store next s t
  turns = record {
    ready = turn_ready;
    stands = λ entries stands.
        let pages = all_pages store entries s stands in
        let count = behind_all store entries s stands in
        record {
          ready = turn_ready stands.ready;
          closed = pages;
          place = last ∙ sym count ∙ ap (λ (n : ℕ). n + length pages) (sym first);
          are_closed = subst (λ (n : ℕ). SurelyHave n pages t) (sym first) (have_still (first_of store) pages s t (all_have store entries s stands) (λ page lt. same page (omega (arith, lt, count))));
          are = stands.are ∙ sym (positioned-none (first_of store) pages) ∙ ap (λ (n : ℕ). positioned n (pages ++ [] ∷ [])) (sym first);
        };
  }

-- ---- the last page is written

pub add_leaves : (store : PagingStore) (payload : List ℕ) (s : States) (left : Pages) → frames_in_last store < 4294967295 → ((other : ℕ) → other ≢ last_of store → IsLeftAt (s other) (left other)) → MayAdd store.writer payload (s (last_of store)) (left (last_of store)) → MayPage store payload s left
add_leaves store payload s left room others own entries stands = old_or_more store entries s stands left others payload room (own stands.ready.written.0 stands.ready.written.1)

module _ (store : PagingStore) (payload : List ℕ) (next : PagingStore) (place : Place) (s t : States) (first : first_of next ≡ first_of store) (last : last_of next ≡ last_of store) (position : place.position ≡ next_position store.writer)
    (adds : Adds store.writer payload next.writer (s (last_of store)) (t (last_of store))) (same : (other : ℕ) → other ≢ last_of store → t other ≡ s other) where
  abbrev pub add_ready : IsPaging store s → IsPaging next t
  add_ready ready = record {
    written = (ready.written.0 ++ payload ∷ [], subst (λ (n : ℕ). Writes next.writer (ready.written.0 ++ payload ∷ []) (t n)) (sym last) (adds ready.written.0 ready.written.1));
    none = λ page le. same page (omega (arith, le, last)) ∙ ready.none page (omega (arith, le, last));
  }

  pub pages_added : Paged store payload next place s t
  pages_added = record {
    ready = add_ready;
    adds = λ entries stands.
        let payloads : List (List ℕ) = stands.ready.written.0 in
        let is : place.position ≡ position_at (first_of store + length stands.closed) (length payloads) =
        position ∙ (λ i. position_at (stands.place i) (stands.ready.written.1.count i)) in
        record {
          ready = add_ready stands.ready;
          closed = stands.closed;
          place = last ∙ stands.place ∙ ap (λ (n : ℕ). n + length stands.closed) (sym first);
          are_closed = subst (λ (n : ℕ). SurelyHave n stands.closed t) (sym first) (have_still (first_of store) stands.closed s t stands.are_closed (λ page lt. same page (omega (arith, lt, stands.place))));
          are = ap (λ (l : List Entry). l ++ (place.position, payload) ∷ []) stands.are
              ∙ ap (λ (p : Position). positioned (first_of store) (stands.closed ++ payloads ∷ []) ++ (p, payload) ∷ []) is
              ∙ sym (positioned-last (first_of store) stands.closed payloads payload)
              ∙ ap (λ (n : ℕ). positioned n (stands.closed ++ (payloads ++ payload ∷ []) ∷ [])) (sym first);
        };
  }

-- a page behind the last one is made, and then written
pub turned_paged : (store mid : PagingStore) (payload : List ℕ) (next : PagingStore) (place : Place) (r s t : States) → Turns store mid r s → Paged mid payload next place s t → Paged store payload next place r t
turned_paged store mid payload next place r s t turned paged = record {
  ready = λ ready. paged.ready (turned.ready ready);
  adds = λ entries stands. paged.adds entries (turned.stands entries stands);
}

pub turned_leaves : (store mid : PagingStore) (payload : List ℕ) (s t : States) (left : Pages) → first_of mid ≡ first_of store → Turns store mid s t → MayPage mid payload t left → MayPage store payload s left
turned_leaves store mid payload s t left first turned may entries stands = subst (λ (n : ℕ). HasOldOrMore n entries payload left) first (may entries (turned.stands entries stands))

pub keeps_may : (store : PagingStore) (payload : List ℕ) (s : States) (left : Pages) → Keeps store s left → MayPage store payload s left
keeps_may store payload s left keeps entries stands = inl (keeps entries stands)
