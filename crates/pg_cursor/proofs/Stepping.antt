-- One step of a walk.
use Rattle.std.proofs.Common.{◌≡◌, ◌⊎◌, ◌<◌, ◌+◌, ◌^◌, ℕ, List, [], ◌∷◌, ◌++◌, length, drop, Option, Some, None, IfSome, refl, sym, ◌∙◌, ap, subst, inl, inr, arith, append_assoc, length-append}
use Rattle.std.specs.Int.{to_be_bytes, w64}
use Rattle.std.proofs.lemmas.Bool.{cases_eq}
use Rattle.pg_acks.specs.Acked.{AckSets}
use Rattle.pg_disk.specs.Calls.{Holds}
use Rattle.pg_disk.proofs.Bytes.{holds_all}
use Rattle.pg_gate.specs.Gated.{opened, AllFit}
use Rattle.pg_gate.proofs.Unique.{back_of, fits_first, fits_rest, front_of, same_length, tail_of}
use Rattle.pg_page.specs.declared.place.Place.{Place}
use Rattle.pg_page.specs.Pages.{Pages}
use Rattle.pg_page.specs.Places.{IsAt}
use Rattle.pg_page.proofs.PageLaws.{all_front}
use Rattle.pg_page.proofs.PlaceLaws.{opened_more}
use Rattle.pg_pagetx.specs.Standings.{Transactions}
use Rattle.pg_cursor.specs.declared.tail.Tail.{Tail}
use Rattle.pg_cursor.specs.declared.tail.Tail.TheVariants.{Begin, Behind}
use Rattle.pg_cursor.specs.declared.walking.Step.{Step}
use Rattle.pg_cursor.specs.declared.walking.Step.TheVariants.{Passes, Stays}
use Rattle.pg_cursor.specs.Entries.{IsLive, StandsOn}
use Rattle.pg_cursor.specs.Places.{IsPassed, page_of}
use Rattle.pg_cursor.specs.Ways.{HasPayload}
use Rattle.pg_cursor.specs.Walking.{IsNext, IsOnward, IsStep, Walks}

-- ---- a position has one place

-- two beginnings of a file with as many batches are one
same_front : (xs ys : List (List ℕ)) (left right : List ℕ) → AllFit xs → AllFit ys → length xs ≡ length ys → opened xs ++ left ≡ opened ys ++ right → xs ≡ ys
same_front [] [] left right fit fits long e = refl
same_front [] (q ∷ ys) left right fit fits long e = absurd (omega (arith, long))
same_front (p ∷ xs) [] left right fit fits long e = absurd (omega (arith, long))
same_front (p ∷ xs) (q ∷ ys) left right fit fits long e =
    let a : List ℕ = opened xs ++ left in
    let b : List ℕ = opened ys ++ right in
    let both : to_be_bytes w64 (length p) ++ (p ++ a) ≡ to_be_bytes w64 (length q) ++ (q ++ b) =
    ap (λ (l : List ℕ). to_be_bytes w64 (length p) ++ l) (sym (append_assoc p (opened xs) left)) ∙ tail_of 1 1 _ _ e ∙ ap (λ (l : List ℕ). to_be_bytes w64 (length q) ++ l) (append_assoc q (opened ys) right) in
    let size : length p ≡ length q = same_length (length p) (length q) (fits_first p xs fit) (fits_first q ys fits) (front_of (to_be_bytes w64 (length p)) (p ++ a) (to_be_bytes w64 (length q)) (q ++ b) refl both) in
    let body : p ++ a ≡ q ++ b = back_of (to_be_bytes w64 (length p)) (p ++ a) (to_be_bytes w64 (length q)) (q ++ b) refl both in
    let first : p ≡ q = front_of p a q b size body in
    let more : xs ≡ ys = same_front xs ys left right (fits_rest p xs fit) (fits_rest q ys fits) (omega (arith, long)) (back_of p a q b size body) in
    λ i. first i ∷ more i

-- what stands before a place begins its file
begins : (bytes : List ℕ) (place : Place) (before : List (List ℕ)) (payload : List ℕ) → IsAt bytes place before payload → (rest : List ℕ) × (bytes ≡ opened before ++ rest)
begins bytes place before payload at =
    let own : List ℕ = 1 ∷ (to_be_bytes w64 (length payload) ++ payload) in
    let behind : List ℕ = drop (length (opened (before ++ payload ∷ []))) bytes in
    (own ++ behind, holds_all bytes (opened (before ++ payload ∷ [])) at.stands.passes.stand ∙ ap (λ (l : List ℕ). l ++ behind) (sym (opened_more before payload)) ∙ append_assoc (opened before) own behind)

fits_before : (before : List (List ℕ)) (payload : List ℕ) → AllFit (before ++ payload ∷ []) → AllFit before
fits_before before payload fit = all_front (λ (p : List ℕ). length p < 2 ^ 64) before (payload ∷ []) fit

some_bytes : (a b : List ℕ) → Some a ≡ Some b → a ≡ b
some_bytes a b e = cc

pub one_offset : (pages : Pages) (a b : Place) → StandsOn pages a → StandsOn pages b → a.position.page ≡ b.position.page → a.position.index ≡ b.position.index → a ≡ b
one_offset pages a b on_a on_b page index =
    let one : on_b.bytes ≡ on_a.bytes = some_bytes on_b.bytes on_a.bytes (sym on_b.there ∙ ap pages (sym page) ∙ on_a.there) in
    let at : IsAt on_a.bytes b on_b.is.0 on_b.is.1 = subst (λ (l : List ℕ). IsAt l b on_b.is.0 on_b.is.1) one on_b.is.2 in
    let left = begins on_a.bytes a on_a.is.0 on_a.is.1 on_a.is.2 in
    let right = begins on_a.bytes b on_b.is.0 on_b.is.1 at in
    let same : on_a.is.0 ≡ on_b.is.0 = same_front on_a.is.0 on_b.is.0 left.0 right.0 (fits_before on_a.is.0 on_a.is.1 on_a.fit) (fits_before on_b.is.0 on_b.is.1 on_b.fit) (omega (arith, on_a.is.2.index, at.index, index)) (sym left.1 ∙ right.1) in
    let offset : a.offset ≡ b.offset = omega (arith, on_a.is.2.stands.at, at.stands.at, ap (λ (l : List (List ℕ)). length (opened l)) same) in
    λ i. record { position = record { page = page i; index = index i }; offset = offset i }

-- and one payload
pub one_payload : (pages : Pages) (place : Place) (p q : List ℕ) → HasPayload pages place p → HasPayload pages place q → p ≡ q
one_payload pages place p q has_p has_q =
    let one : has_q.bytes ≡ has_p.bytes = some_bytes has_q.bytes has_p.bytes (sym has_q.there ∙ has_p.there) in
    let at : IsAt has_p.bytes place has_q.before q = subst (λ (l : List ℕ). IsAt l place has_q.before q) one has_q.at in
    let left = begins has_p.bytes place has_p.before p has_p.at in
    let right = begins has_p.bytes place has_q.before q at in
    let before : has_p.before ≡ has_q.before = same_front has_p.before has_q.before left.0 right.0 (fits_before has_p.before p has_p.fit) (fits_before has_q.before q has_q.fit) (omega (arith, has_p.at.index, at.index)) (sym left.1 ∙ right.1) in
    one_last has_p.bytes has_p.before p q has_p.fit (subst (λ (l : List (List ℕ)). AllFit (l ++ q ∷ [])) (sym before) has_q.fit) has_p.at.stands.passes.stand
    (subst (λ (l : List (List ℕ)). Holds has_p.bytes 0 (opened (l ++ q ∷ []))) (sym before) at.stands.passes.stand)
  where
    last_of : (before : List (List ℕ)) (p q : List ℕ) → before ++ p ∷ [] ≡ before ++ q ∷ [] → p ≡ q
    last_of [] p q e = cc
    last_of (x ∷ before) p q e = last_of before p q (rest_of e)
      where
        rest_of : x ∷ (before ++ p ∷ []) ≡ x ∷ (before ++ q ∷ []) → before ++ p ∷ [] ≡ before ++ q ∷ []
        rest_of same = cc

    one_last : (bytes : List ℕ) (before : List (List ℕ)) (p q : List ℕ) → AllFit (before ++ p ∷ []) → AllFit (before ++ q ∷ []) → Holds bytes 0 (opened (before ++ p ∷ [])) → Holds bytes 0 (opened (before ++ q ∷ [])) → p ≡ q
    one_last bytes before p q fit fits left right =
        let these : bytes ≡ opened (before ++ p ∷ []) ++ drop (length (opened (before ++ p ∷ []))) bytes = holds_all bytes (opened (before ++ p ∷ [])) left in
        let those : bytes ≡ opened (before ++ q ∷ []) ++ drop (length (opened (before ++ q ∷ []))) bytes = holds_all bytes (opened (before ++ q ∷ [])) right in
        last_of before p q (same_front (before ++ p ∷ []) (before ++ q ∷ []) _ _ fit fits (omega (arith, length-append before (p ∷ []), length-append before (q ∷ []))) (sym these ∙ those))

-- ---- the step

less_or : (a b : ℕ) → a < b + 1 → (a < b) ⊎ (a ≡ b)
less_or a b le = elim (cases_eq a b) [
  | inl same ↦ inr same
  | inr apart ↦ inl (omega (arith, le, apart))
]

module _ (pages : Pages) (tail : Tail) where
  -- what is passed behind a place was passed before, or is the place
  pub behind_next : (place other : Place) → IsNext tail (Some place) pages → StandsOn pages other → IsPassed (Behind place) other.position → IsPassed tail other.position ⊎ (place ≡ other)
  behind_next place other next stands (inl page) = inl (inl (omega (arith, page, next.1)))
  behind_next place other next stands (inr here) = elim (less_or other.position.index place.position.index here.1) [
    | inl lt ↦ inl (inr (here.0 ∙ next.1, omega (arith, lt, next.2)))
    | inr same ↦ inr (one_offset pages place other next.0 stands (sym here.0) (sym same))
  ]

  pub not_yet : (place : Place) → IsNext tail (Some place) pages → IsPassed tail place.position → ⊥
  not_yet place next (inl page) = omega (arith, page, next.1)
  not_yet place next (inr here) = omega (arith, here.1, next.2)

  -- no place is left on the page
  pub none_left : (next result : Option Place) → IsNext tail next pages → IfSome next (λ place. IsOnward tail place → result ≡ Some place) → result ≡ None → IsNext tail None pages
  none_left None result is same none = is
  none_left (Some place) result is same none = absurd (not_both result place (same (is.1, omega (arith, is.2))) none)
    where
      not_both : (o : Option Place) (p : Place) → o ≡ Some p → o ≡ None → ⊥
      not_both o p a b = cc

  pub begin_passes : (other : Place) → IsNext tail None pages → StandsOn pages other → IsPassed (Begin (page_of tail + 1)) other.position → IsPassed tail other.position
  begin_passes other next stands (inl page) = elim (less_or other.position.page (page_of tail) page) [
    | inl lt ↦ inl lt
    | inr same ↦ inr (same, next other stands same)
  ]
  begin_passes other next stands (inr here) = absurd (omega (arith, here.1))

module _ (queue : ℕ) (acks : AckSets) (txs : Transactions) (pages : Pages) (tail : Tail) where
  stands_live : (place : Place) → IsLive queue acks txs pages place → StandsOn pages place
  stands_live place live = let has = live.entry.has in record { bytes = has.bytes; there = has.there; is = (has.before, has.payload, has.at); fit = has.fit }

  pub step_finds : (place : Place) → IsNext tail (Some place) pages → IsLive queue acks txs pages place → Walks queue acks txs tail (Behind place) (Some place) pages
  step_finds place next live = record {
    stands = next.0;
    passed = λ other lives passed. elim (behind_next pages tail place other next (stands_live other lives) passed) [
      | inl before ↦ inl before
      | inr same ↦ inr (ap (λ (p : Place). Some p) same)
    ];
    finds = (refl, live, not_yet pages tail place next);
  }

  pub step_passes : (place : Place) → IsNext tail (Some place) pages → (IsLive queue acks txs pages place → ⊥) → Walks queue acks txs tail (Behind place) None pages
  step_passes place next dead = record {
    stands = next.0;
    passed = λ other lives passed. elim (behind_next pages tail place other next (stands_live other lives) passed) [
      | inl before ↦ inl before
      | inr same ↦ absurd (dead (subst (λ (p : Place). IsLive queue acks txs pages p) (sym same) lives))
    ];
    finds = tt;
  }

  pub step_turns : (last page : ℕ) (next onward : Option Place) (result : Step) → page ≡ page_of tail → IsNext tail next pages → IfSome next (λ place. IsOnward tail place → onward ≡ Some place) → onward ≡ None
      → ((page < last) × (result ≡ Passes (Begin (page + 1)))) ⊎ ((page ≡ last) × (result ≡ Stays)) → IsStep queue acks txs last tail result pages
  step_turns last page next onward result at is same none (inl turns) =
      let left = none_left pages tail next onward is same none in
      subst (λ (s : Step). IsStep queue acks txs last tail s pages) (sym (turns.1 ∙ ap (λ (n : ℕ). Passes (Begin (n + 1))) at))
      (record { stands = tt; passed = λ other lives passed. inl (begin_passes pages tail other left (stands_live other lives) passed); finds = tt })
  step_turns last page next onward result at is same none (inr stays) =
      let left = none_left pages tail next onward is same none in
      subst (λ (s : Step). IsStep queue acks txs last tail s pages) (sym stays.1)
      (λ other lives within. elim (less_or other.position.page (page_of tail) (omega (arith, within, stays.0, at))) [
        | inl lt ↦ inl lt
        | inr here ↦ inr (here, left other (stands_live other lives) here)
      ])
