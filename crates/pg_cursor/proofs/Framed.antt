-- What stands at places of whole pages are the frames of their list.
use Rattle.std.proofs.Common.{◌≡◌, ◌⊎◌, ◌<◌, ◌+◌, ◌^◌, ◌==◌, ℕ, true, false, List, [], ◌∷◌, ◌++◌, length, refl, sym, ◌∙◌, ap, subst, inl, inr, arith, append_assoc}
use Rattle.std.specs.List.{Contains}
use Rattle.std.proofs.lemmas.Bool.{cases_Bool}
use Rattle.std.proofs.lemmas.Grind.{common_steps}
use Rattle.std.proofs.lemmas.List.Elements.{Contains-append_cases, Contains-append_left, Contains-append_right, Contains-push, Contains-push_cases}
use Rattle.pg_acks.specs.declared.position.Position.{Position}
use Rattle.pg_gate.specs.Gated.{opened, AllFit}
use Rattle.pg_page.specs.declared.frame.Frame.{Frame}
use Rattle.pg_page.specs.declared.place.Place.{Place}
use Rattle.pg_page.specs.Frames.{SpellsFrame, frame_bytes}
use Rattle.pg_page.specs.Pages.{AllEntriesFit, Entry, HasEntries, HasFrames, Pages, SpellFrames, position_at}
use Rattle.pg_page.proofs.FrameLaws.{same_frame}
use Rattle.pg_page.proofs.PageLaws.{all_front, entries_fit}
use Rattle.pg_cursor.specs.Changes.{IsAppended}
use Rattle.pg_cursor.specs.Entries.{HasFrame, pages_from}
use Rattle.pg_cursor.proofs.FirstPage.{there_from, there_on}
use Rattle.pg_cursor.proofs.Kept.{stands_in}
use Rattle.pg_cursor.proofs.Listed.{Indexed, as_long, indexed, on_page, one_longer, page_fit, stands_listed}

abbrev Framed : Type 0
Framed = Position × Frame

first_of : (x : Framed) (xs : List Framed) → Contains (x ∷ xs) x
first_of x xs = Contains-append_left (x ∷ []) xs x (Contains-push [] x)

later_of : (y : Framed) (xs : List Framed) (x : Framed) → Contains xs x → Contains (y ∷ xs) x
later_of y xs x has = Contains-append_right (y ∷ []) xs x has

first_or_later : (y : Framed) (xs : List Framed) (x : Framed) → Contains (y ∷ xs) x → (y ≡ x) ⊎ Contains xs x
first_or_later y xs x has = elim (Contains-append_cases (y ∷ []) xs x has) [
  | inl one ↦ elim (Contains-push_cases [] y x one) [
    | inl none ↦ absurd (omega (arith, none.1))
    | inr is ↦ inl is
  ]
  | inr more ↦ inr more
]

heads : (p q : List ℕ) (xs ys : List (List ℕ)) → p ∷ xs ≡ q ∷ ys → p ≡ q
heads p q xs ys e = cc

tails : (p q : List ℕ) (xs ys : List (List ℕ)) → p ∷ xs ≡ q ∷ ys → xs ≡ ys
tails p q xs ys e = cc

-- ---- from places to the list

abbrev IsListed : ℕ → ℕ → List ℕ → List Framed → Type 0
IsListed page index payload frames = (frame : Frame) × SpellsFrame payload frame × Contains frames (position_at page index, frame)

page_of_entry : (entry : Entry) (page : ℕ) → (entry.0.page == page) ≡ true → entry.0.page ≡ page
page_of_entry entry page same = grind (arith, common_steps, same)

frame_listed : (before entries : List Entry) (frames : List Framed) (page : ℕ) (xs zs : List (List ℕ)) (payload : List ℕ) → Indexed before entries → SpellFrames entries frames → on_page page entries ≡ xs ++ payload ∷ zs
    → IsListed page (length (on_page page before) + length xs) payload frames
frame_listed before [] frames page xs zs payload index spells is = absurd (never xs is)
  where
    never : (xs : List (List ℕ)) → [] ≡ xs ++ payload ∷ zs → ⊥
    never [] e = cc
    never (x ∷ xs) e = cc
frame_listed before (entry ∷ entries) frames page xs zs payload index spells is =
    subst (IsListed page (length (on_page page before) + length xs) payload) (sym spells.4)
    (go (λ (xs : List (List ℕ)). λ e. frame_listed (before ++ entry ∷ []) entries spells.1 page xs zs payload index.1 spells.3 e) (cases_Bool (entry.0.page == page)))
  where
    behind : List Framed
    behind = spells.1

    later : (n : ℕ) → IsListed page n payload behind → IsListed page n payload ((entry.0, spells.0) ∷ behind)
    later n listed = (listed.0, listed.1, later_of (entry.0, spells.0) behind (position_at page n, listed.0) listed.2)

    at_once : ((xs : List (List ℕ)) → on_page page entries ≡ xs ++ payload ∷ zs → IsListed page (length (on_page page (before ++ entry ∷ [])) + length xs) payload spells.1) → (xs : List (List ℕ)) → (entry.0.page == page) ≡ true → entry.1 ∷ on_page page entries ≡ xs ++ payload ∷ zs → IsListed page (length (on_page page before) + length xs) payload ((entry.0, spells.0) ∷ behind)
    at_once rest [] same is =
        let here : entry.0 ≡ position_at page (length (on_page page before) + 0) = λ i. record { page = page_of_entry entry page same i; index = here_index same i } in
        (spells.0, subst (λ (l : List ℕ). SpellsFrame l spells.0) (heads entry.1 payload (on_page page entries) zs is) spells.2, subst (λ (p : Position). Contains ((entry.0, spells.0) ∷ behind) (p, spells.0)) here (first_of (entry.0, spells.0) behind))
      where
        here_index : (entry.0.page == page) ≡ true → entry.0.index ≡ length (on_page page before) + 0
        here_index same = omega (arith, index.0, ap (λ (n : ℕ). length (on_page n before)) (page_of_entry entry page same))
    at_once rest (x ∷ xs) same is =
        later _ (subst (λ (n : ℕ). IsListed page n payload behind) (omega (arith, one_longer page before entry (page_of_entry entry page same)))
        (rest xs (tails entry.1 x (on_page page entries) (xs ++ payload ∷ zs) is)))

    same_on : (entry.0.page == page) ≡ true → on_page page (entry ∷ entries) ≡ entry.1 ∷ on_page page entries
    same_on same = grind (arith, common_steps, same)

    apart_on : (entry.0.page == page) ≡ false → on_page page (entry ∷ entries) ≡ on_page page entries
    apart_on apart = grind (arith, common_steps, apart)

    go : ((xs : List (List ℕ)) → on_page page entries ≡ xs ++ payload ∷ zs → IsListed page (length (on_page page (before ++ entry ∷ [])) + length xs) payload spells.1) → ((entry.0.page == page) ≡ true) ⊎ ((entry.0.page == page) ≡ false) → IsListed page (length (on_page page before) + length xs) payload ((entry.0, spells.0) ∷ behind)
    go rest (inl same) = at_once rest xs same (sym (same_on same) ∙ is)
    go rest (inr apart) = later _ (subst (λ (n : ℕ). IsListed page (n + length xs) payload behind) (as_long page before entry apart) (rest xs (sym (apart_on apart) ∙ is)))

pub listed : (first : ℕ) (frames : List Framed) (pages : Pages) → HasFrames first frames pages → (place : Place) (frame : Frame) → HasFrame (pages_from first pages) place frame → Contains frames (place.position, frame)
listed first frames pages has place frame stands =
    let on = there_on first pages place.position.page stands.bytes stands.there in
    let here = stands_listed first has.entries pages has.has (entries_fit has.entries frames has.spelled) place stands.bytes stands.before stands.payload on.1 on.0 stands.fit stands.at in
    let is = frame_listed [] has.entries frames place.position.page stands.before here.0 stands.payload (indexed first has.entries pages has.has) has.spelled (here.1 ∙ append_assoc stands.before (stands.payload ∷ []) here.0) in
    subst (λ (f : Frame). Contains frames (place.position, f)) (same_frame stands.payload is.0 frame is.1 stands.spelled)
    (subst (λ (n : ℕ). Contains frames (position_at place.position.page n, is.0)) (omega (arith, stands.at.index)) is.2)

-- ---- from the list to places

record IsPlaced (before entries : List Entry) (position : Position) (frame : Frame) : Type 0 where
  payload : List ℕ
  front : List (List ℕ)
  behind : List (List ℕ)
  spelled : SpellsFrame payload frame
  is : on_page position.page entries ≡ front ++ payload ∷ behind
  index : position.index ≡ length (on_page position.page before) + length front

frame_placed : (before entries : List Entry) (frames : List Framed) (position : Position) (frame : Frame) → Indexed before entries → SpellFrames entries frames → Contains frames (position, frame) → IsPlaced before entries position frame
frame_placed before [] frames position frame index spells has = absurd (never (subst (λ (l : List Framed). Contains l (position, frame)) spells has))
  where
    never : Contains {X = Framed} [] (position, frame) → ⊥
    never has = omega (arith, has.1)
frame_placed before (entry ∷ entries) frames position frame index spells has =
    elim (first_or_later (entry.0, spells.0) spells.1 (position, frame) (subst (λ (l : List Framed). Contains l (position, frame)) spells.4 has)) [
      | inl is ↦ subst (λ (x : Framed). IsPlaced before (entry ∷ entries) x.0 x.1) is here
      | inr more ↦ go (cases_Bool (entry.0.page == position.page)) (frame_placed (before ++ entry ∷ []) entries spells.1 position frame index.1 spells.3 more)
    ]
  where
    itself : (entry.0.page == entry.0.page) ≡ true
    itself = grind (arith, common_steps)

    here : IsPlaced before (entry ∷ entries) entry.0 spells.0
    here = record { payload = entry.1; front = []; behind = on_page entry.0.page entries; spelled = spells.2; is = grind (arith, common_steps, itself); index = omega (arith, index.0) }

    same_on : (entry.0.page == position.page) ≡ true → on_page position.page (entry ∷ entries) ≡ entry.1 ∷ on_page position.page entries
    same_on same = grind (arith, common_steps, same)

    apart_on : (entry.0.page == position.page) ≡ false → on_page position.page (entry ∷ entries) ≡ on_page position.page entries
    apart_on apart = grind (arith, common_steps, apart)

    go : ((entry.0.page == position.page) ≡ true) ⊎ ((entry.0.page == position.page) ≡ false) → IsPlaced (before ++ entry ∷ []) entries position frame → IsPlaced before (entry ∷ entries) position frame
    go (inl same) later = record {
      payload = later.payload;
      front = entry.1 ∷ later.front;
      behind = later.behind;
      spelled = later.spelled;
      is = same_on same ∙ ap (λ (l : List (List ℕ)). entry.1 ∷ l) later.is;
      index = omega (arith, later.index, one_longer position.page before entry (page_of_entry entry position.page same));
    }
    go (inr apart) later = record {
      payload = later.payload;
      front = later.front;
      behind = later.behind;
      spelled = later.spelled;
      is = apart_on apart ∙ later.is;
      index = omega (arith, later.index, as_long position.page before entry apart);
    }

pub placed : (first : ℕ) (frames : List Framed) (pages : Pages) → HasFrames first frames pages → (position : Position) (frame : Frame) → Contains frames (position, frame) → (place : Place) × (place.position ≡ position) × HasFrame (pages_from first pages) place frame
placed first frames pages has position frame contains =
    let at = frame_placed [] has.entries frames position frame (indexed first has.entries pages has.has) has.spelled contains in
    let place : Place = record { position = position; offset = length (opened at.front) + 9 } in
    let stands = stands_in first has.entries pages has.has place at.front at.behind at.payload (at.is ∙ sym (append_assoc at.front (at.payload ∷ []) at.behind)) refl (omega (arith, at.index)) in
    let fit : AllFit ((at.front ++ at.payload ∷ []) ++ at.behind) =
    subst AllFit (at.is ∙ sym (append_assoc at.front (at.payload ∷ []) at.behind)) (page_fit position.page has.entries (entries_fit has.entries frames has.spelled)) in (
      place,
      refl,
      record {
        bytes = stands.1.0;
        there = there_from first pages position.page stands.0 ∙ stands.1.1;
        before = at.front;
        payload = at.payload;
        fit = all_front (λ (p : List ℕ). length p < 2 ^ 64) (at.front ++ at.payload ∷ []) at.behind fit;
        at = stands.1.2;
        spelled = at.spelled;
      },
    )

-- ---- one frame more

-- frames have one spelling
abbrev entries_of : List Framed → List Entry
entries_of [] = []
entries_of (framed ∷ frames) = (framed.0, frame_bytes framed.1) ∷ entries_of frames

entries_are : (entries : List Entry) (frames : List Framed) → SpellFrames entries frames → entries ≡ entries_of frames
entries_are [] frames spells = ap entries_of (sym spells)
entries_are (entry ∷ entries) frames spells =
    let more : entries ≡ entries_of spells.1 = entries_are entries spells.1 spells.3 in
    let here : entry ∷ entries ≡ (entry.0, frame_bytes spells.0) ∷ entries_of spells.1 = λ i. (entry.0, spells.2.spelled i) ∷ more i in
    here ∙ ap entries_of (sym spells.4)

entries_both : (xs ys : List Framed) → entries_of (xs ++ ys) ≡ entries_of xs ++ entries_of ys
entries_both [] ys = refl
entries_both (x ∷ xs) ys = ap (λ (l : List Entry). (x.0, frame_bytes x.1) ∷ l) (entries_both xs ys)

-- a frame more in the list is appended
pub appended : (first : ℕ) (frames : List Framed) (position : Position) (frame : Frame) (old new : Pages) → HasFrames first frames old → HasFrames first (frames ++ (position, frame) ∷ []) new → IsAppended first position (frame_bytes frame) old new
appended first frames position frame old new had has =
    let before : had.entries ≡ entries_of frames = entries_are had.entries frames had.spelled in
    let after : has.entries ≡ entries_of frames ++ (position, frame_bytes frame) ∷ [] = entries_are has.entries (frames ++ (position, frame) ∷ []) has.spelled ∙ entries_both frames ((position, frame) ∷ []) in
    record {
      entries = entries_of frames;
      was = subst (λ (es : List Entry). HasEntries first es old) before had.has;
      is = subst (λ (es : List Entry). HasEntries first es new) after has.has;
      fit = subst AllEntriesFit after (entries_fit has.entries (frames ++ (position, frame) ∷ []) has.spelled);
    }
