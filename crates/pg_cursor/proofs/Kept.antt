-- A cursor goes on tracking its queue when pages change behind its tail.
use Rattle.std.proofs.Common.{◌≡◌, ◌⊎◌, ◌≤◌, ◌<◌, ◌+◌, ◌^◌, ◌==◌, ℕ, true, false, List, [], ◌∷◌, ◌++◌, length, Some, refl, sym, ◌∙◌, ap, subst, inl, inr, arith, append_assoc, length-append}
use Rattle.std.proofs.lemmas.Bool.{cases_Bool}
use Rattle.std.proofs.lemmas.Grind.{common_steps}
use Rattle.std.proofs.lemmas.List.{append-nil}
use Rattle.pg_acks.specs.declared.position.Position.{Position}
use Rattle.pg_acks.specs.Acked.{AckSets}
use Rattle.pg_gate.specs.Gated.{opened, AllFit, Batches}
use Rattle.pg_page.specs.declared.frame.Frame.{Frame}
use Rattle.pg_page.specs.declared.place.Place.{Place}
use Rattle.pg_page.specs.Pages.{AllEntriesFit, Entry, HasEntries, Pages}
use Rattle.pg_page.specs.Places.{IsAt}
use Rattle.pg_page.proofs.PageLaws.{all_front}
use Rattle.pg_pagetx.specs.Standings.{Transactions}
use Rattle.pg_cursor.specs.declared.tail.Tail.{Tail}
use Rattle.pg_cursor.specs.declared.tail.Tail.TheVariants.{Begin, Behind}
use Rattle.pg_cursor.specs.Changes.{IsAppended}
use Rattle.pg_cursor.specs.Entries.{HasFrame, IsEntry, pages_from}
use Rattle.pg_cursor.specs.Places.{IsPassed, page_of}
use Rattle.pg_cursor.specs.Tracking.{Cursor, Tracks}
use Rattle.pg_cursor.specs.Walking.{TailStands}
use Rattle.pg_cursor.proofs.FirstPage.{there_from, there_on}
use Rattle.pg_cursor.proofs.Listed.{batches_are, indexed, last_index, on_page, on_page_both, page_there, stands_listed, stands_there}

-- where what was passed stands before and after
module _ (cursor : Cursor) (acks : AckSets) (txs : Transactions) (old new : Pages)
    (forth : (place : Place) (frame : Frame) → HasFrame old place frame → HasFrame new place frame)
    (back : (place : Place) (frame : Frame) → IsPassed cursor.tail place.position → HasFrame new place frame → HasFrame old place frame) where
  entry_forth : (place : Place) → IsEntry cursor.queue txs old place → IsEntry cursor.queue txs new place
  entry_forth place entry = record { frame = entry.frame; has = forth place entry.frame entry.has; named = entry.named; counts = entry.counts }

  entry_back : (place : Place) → IsPassed cursor.tail place.position → IsEntry cursor.queue txs new place → IsEntry cursor.queue txs old place
  entry_back place passed entry = record { frame = entry.frame; has = back place entry.frame passed entry.has; named = entry.named; counts = entry.counts }

  pub tracks_kept : Tracks cursor acks txs old → Tracks cursor acks txs new
  tracks_kept tracks = record {
    passed = λ place live passed. tracks.passed place (record { entry = entry_back place passed live.entry; open_ = live.open_ }) passed;
    front = λ place has. ((tracks.front place has).0, record { entry = entry_forth place (tracks.front place has).1.entry; open_ = (tracks.front place has).1.open_ });
    taken = λ place has. ((tracks.taken place has).0, entry_forth place (tracks.taken place has).1);
    once = tracks.once;
  }

-- ---- equal pages

module _ (old new : Pages) (same : (page : ℕ) → new page ≡ old page) where
  same_frame : (place : Place) (frame : Frame) → HasFrame old place frame → HasFrame new place frame
  same_frame place frame has = record { bytes = has.bytes; there = same place.position.page ∙ has.there; before = has.before; payload = has.payload; fit = has.fit; at = has.at; spelled = has.spelled }

  same_back : (place : Place) (frame : Frame) → HasFrame new place frame → HasFrame old place frame
  same_back place frame has = record { bytes = has.bytes; there = sym (same place.position.page) ∙ has.there; before = has.before; payload = has.payload; fit = has.fit; at = has.at; spelled = has.spelled }

  pub same_tracks : (cursor : Cursor) (acks : AckSets) (txs : Transactions) → Tracks cursor acks txs old → Tracks cursor acks txs new
  same_tracks cursor acks txs = tracks_kept cursor acks txs old new same_frame (λ place frame passed has. same_back place frame has)

  pub same_stands : (tail : Tail) → TailStands tail old → TailStands tail new
  same_stands (Begin page) stands = tt
  same_stands (Behind place) stands = record { bytes = stands.bytes; there = same place.position.page ∙ stands.there; is = stands.is; fit = stands.fit }

-- ---- one more payload

-- what stands at the place of a page with these payloads
pub stands_in : (first : ℕ) (entries : List Entry) (pages : Pages) → HasEntries first entries pages → (place : Place) (before behind : List (List ℕ)) (payload : List ℕ) → on_page place.position.page entries ≡ (before ++ payload ∷ []) ++ behind
    → place.offset ≡ length (opened before) + 9 → place.position.index ≡ length before
    → (first ≤ place.position.page) × ((bytes : List ℕ) × (pages place.position.page ≡ Some bytes) × IsAt bytes place before payload)
stands_in first entries pages has place before behind payload is offset index =
    let there = page_there first entries pages has place.position.page (omega (arith, ap length is, length-append (before ++ payload ∷ []) behind, length-append before (payload ∷ []))) in
    (there.0, (there.1.0, there.1.1, stands_there there.1.0 place before behind payload (subst (Batches there.1.0) is (batches_are first entries pages has place.position.page there.1.0 there.0 there.1.1)) offset index))

no_longer : (xs ys : List (List ℕ)) → xs ++ ys ≡ [] → xs ≡ []
no_longer [] ys e = refl
no_longer (x ∷ xs) ys e = absurd (never (xs ++ ys) e)
  where
    never : (l : List (List ℕ)) → x ∷ l ≡ [] → ⊥
    never l e = cc

-- a beginning of a list with one element more is one of the list, or all
split_last : (xs front zs : List (List ℕ)) (p : List ℕ) → xs ++ p ∷ [] ≡ front ++ zs → ((behind : List (List ℕ)) × (xs ≡ front ++ behind)) ⊎ (length front ≡ length xs + 1)
split_last xs [] zs p e = inl (xs, refl)
split_last [] (f ∷ front) zs p e = inr (ap (λ (l : List (List ℕ)). length (f ∷ l)) (no_longer front zs (sym (rest_of e))) ∙ omega arith)
  where
    rest_of : p ∷ [] ≡ f ∷ (front ++ zs) → [] ≡ front ++ zs
    rest_of same = cc
split_last (x ∷ xs) (f ∷ front) zs p e = elim (split_last xs front zs p (rest_of e)) [
  | inl more ↦ inl (more.0, λ i. head_of e i ∷ more.1 i)
  | inr all ↦ inr (omega (arith, all))
]
  where
    rest_of : x ∷ (xs ++ p ∷ []) ≡ f ∷ (front ++ zs) → xs ++ p ∷ [] ≡ front ++ zs
    rest_of same = cc

    head_of : x ∷ (xs ++ p ∷ []) ≡ f ∷ (front ++ zs) → x ≡ f
    head_of same = cc

module _ (first : ℕ) (position : Position) (added : List ℕ) (old new : Pages) (appended : IsAppended first position added old new) where
  abbrev Entries : List Entry
  Entries = appended.entries

  abbrev More : List Entry
  More = appended.entries ++ (position, added) ∷ []

  old_fit : AllEntriesFit Entries
  old_fit = all_front (λ (e : Entry). length e.1 < 2 ^ 64) Entries ((position, added) ∷ []) appended.fit

  -- what stood stands
  module _ (place : Place) (bytes : List ℕ) (before : List (List ℕ)) (payload : List ℕ) (there : pages_from first old place.position.page ≡ Some bytes) (fit : AllFit (before ++ payload ∷ [])) (at : IsAt bytes place before payload) where
    stands_still : (bytes_now : List ℕ) × (pages_from first new place.position.page ≡ Some bytes_now) × IsAt bytes_now place before payload
    stands_still =
        let on = there_on first old place.position.page bytes there in
        let listed = stands_listed first Entries old appended.was old_fit place bytes before payload on.1 on.0 fit at in
        let extra : List (List ℕ) = on_page place.position.page ((position, added) ∷ []) in
        let is : on_page place.position.page More ≡ (before ++ payload ∷ []) ++ (listed.0 ++ extra) =
        on_page_both place.position.page Entries ((position, added) ∷ []) ∙ ap (λ (l : List (List ℕ)). l ++ extra) listed.1 ∙ append_assoc (before ++ payload ∷ []) listed.0 extra in
        let now = stands_in first More new appended.is place before (listed.0 ++ extra) payload is at.stands.at at.index in
        (now.1.0, there_from first new place.position.page now.0 ∙ now.1.1, now.1.2)

  frame_forth : (place : Place) (frame : Frame) → HasFrame (pages_from first old) place frame → HasFrame (pages_from first new) place frame
  frame_forth place frame has =
      let now = stands_still place has.bytes has.before has.payload has.there has.fit has.at in
      record { bytes = now.0; there = now.1; before = has.before; payload = has.payload; fit = has.fit; at = now.2; spelled = has.spelled }

  pub tail_stands : (tail : Tail) → TailStands tail (pages_from first old) → TailStands tail (pages_from first new)
  tail_stands (Begin page) stands = tt
  tail_stands (Behind place) stands =
      let now = stands_still place stands.bytes stands.is.0 stands.is.1 stands.there stands.fit stands.is.2 in
      record { bytes = now.0; there = now.1; is = (stands.is.0, stands.is.1, now.2); fit = stands.fit }

  -- the position of the new one
  index_is : position.index ≡ length (on_page position.page Entries)
  index_is = last_index [] Entries (position, added) (indexed first More new appended.is)

  -- what stands stood, but for the new one
  stood : (place : Place) (before behind : List (List ℕ)) (payload : List ℕ) → on_page place.position.page More ≡ (before ++ payload ∷ []) ++ behind → place.position.index ≡ length before
      → ((more : List (List ℕ)) × (on_page place.position.page Entries ≡ (before ++ payload ∷ []) ++ more)) ⊎ (place.position ≡ position)
  stood place before behind payload is index = elim (cases_Bool (position.page == place.position.page)) [
    | inl same ↦ elim (split_last (on_page place.position.page Entries) (before ++ payload ∷ []) behind added (joined_here same)) [
      | inl old_one ↦ inl old_one
      | inr all ↦ inr (λ i. record {
        page = page_is same i;
        index = index_same same all i;
      })
    ]
    | inr apart ↦ inl (behind, joined_apart apart)
  ]
    where
      page_is : (position.page == place.position.page) ≡ true → place.position.page ≡ position.page
      page_is same = grind (arith, common_steps, same)

      index_same : (position.page == place.position.page) ≡ true → length (before ++ payload ∷ []) ≡ length (on_page place.position.page Entries) + 1 → place.position.index ≡ position.index
      index_same same all = omega (arith, index, all, length-append before (payload ∷ []), index_is, ap (λ (n : ℕ). length (on_page n Entries)) (page_is same))

      here : (position.page == place.position.page) ≡ true → on_page place.position.page ((position, added) ∷ []) ≡ added ∷ []
      here same = grind (arith, common_steps, same)

      apart_none : (position.page == place.position.page) ≡ false → on_page place.position.page ((position, added) ∷ []) ≡ []
      apart_none apart = grind (arith, common_steps, apart)

      joined_here : (position.page == place.position.page) ≡ true → on_page place.position.page Entries ++ added ∷ [] ≡ (before ++ payload ∷ []) ++ behind
      joined_here same = sym (on_page_both place.position.page Entries ((position, added) ∷ []) ∙ ap (λ (l : List (List ℕ)). on_page place.position.page Entries ++ l) (here same)) ∙ is

      joined_apart : (position.page == place.position.page) ≡ false → on_page place.position.page Entries ≡ (before ++ payload ∷ []) ++ behind
      joined_apart apart =
          sym (append-nil (on_page place.position.page Entries)) ∙ sym (on_page_both place.position.page Entries ((position, added) ∷ []) ∙ ap (λ (l : List (List ℕ)). on_page place.position.page Entries ++ l) (apart_none apart)) ∙ is

  frame_back : (tail : Tail) → (IsPassed tail position → ⊥) → (place : Place) (frame : Frame) → IsPassed tail place.position → HasFrame (pages_from first new) place frame → HasFrame (pages_from first old) place frame
  frame_back tail behind place frame passed has =
      let on = there_on first new place.position.page has.bytes has.there in
      let listed = stands_listed first More new appended.is appended.fit place has.bytes has.before has.payload on.1 on.0 has.fit has.at in
      elim (stood place has.before listed.0 has.payload listed.1 has.at.index) [
        | inl was ↦
            let now = stands_in first Entries old appended.was place has.before was.0 has.payload was.1 has.at.stands.at has.at.index in
            record { bytes = now.1.0; there = there_from first old place.position.page now.0 ∙ now.1.1; before = has.before; payload = has.payload; fit = has.fit; at = now.1.2; spelled = has.spelled }
        | inr is ↦ absurd (behind (subst (IsPassed tail) is passed))
      ]

  pub tracks_behind : (cursor : Cursor) (acks : AckSets) (txs : Transactions) → (IsPassed cursor.tail position → ⊥) → Tracks cursor acks txs (pages_from first old) → Tracks cursor acks txs (pages_from first new)
  tracks_behind cursor acks txs behind = tracks_kept cursor acks txs (pages_from first old) (pages_from first new) frame_forth (frame_back cursor.tail behind)

  -- a tail that stands hasn't passed what is appended
  pub not_yet_there : (tail : Tail) → page_of tail ≤ position.page → TailStands tail (pages_from first old) → IsPassed tail position → ⊥
  not_yet_there (Begin page) upto stands (inl beyond) = omega (arith, upto, beyond)
  not_yet_there (Begin page) upto stands (inr here) = omega (arith, here.1)
  not_yet_there (Behind place) upto stands (inl beyond) = omega (arith, upto, beyond)
  not_yet_there (Behind place) upto stands (inr here) =
      let on = there_on first old place.position.page stands.bytes stands.there in
      let listed = stands_listed first Entries old appended.was old_fit place stands.bytes stands.is.0 stands.is.1 on.1 on.0 stands.fit stands.is.2 in
      omega (
        arith,
        here.1,
        index_is,
        ap (λ (n : ℕ). length (on_page n Entries)) here.0,
        ap length listed.1,
        stands.is.2.index,
        length-append (stands.is.0 ++ stands.is.1 ∷ []) listed.0,
        length-append stands.is.0 (stands.is.1 ∷ []),
      )
