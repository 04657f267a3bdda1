-- The ids of messages in frames.
use Rattle.std.proofs.Common.{◌≡◌, ◌≢◌, ◌⊎◌, inl, inr, ℕ, suc, zero, Bool, true, false, ◌==◌, cond, List, [], ◌∷◌, ◌++◌, length, slice_get, Some, refl, sym, ◌∙◌, ap, subst}
use Rattle.std.proofs.lemmas.Bool.{eqb-true}
use Rattle.std.proofs.lemmas.List.{map-append}
use Rattle.std.proofs.lemmas.Option.{get_or_from_slice_get, slice_get_within}
use Rattle.pg_acks.specs.declared.position.Position.{Position}
use Rattle.pg_msg.specs.declared.message.MessageId.{MessageId}
use Rattle.pg_page.specs.declared.frame.Frame.{Frame}
use Rattle.pg_page.specs.Rules.{ids_of}
use Rattle.pg_store.specs.Framed.{Frames, FramesOf, IsNewId, StandOnce, with_frame}

-- an element of a list with one more at its end is one of the list, or it is that one
get_more : (xs : List MessageId) (x id : MessageId) (i : ℕ) → slice_get (xs ++ x ∷ []) i ≡ Some id → (slice_get xs i ≡ Some id) ⊎ ((i ≡ length xs) × (id ≡ x))
get_more [] x id zero is = inr (refl, cc)
get_more [] x id (suc i) is = cc
get_more (y ∷ xs) x id zero is = inl is
get_more (y ∷ xs) x id (suc i) is = elim (get_more xs x id i is) [ inl old ↦ inl old | inr new ↦ inr (ap suc new.0, new.1) ]

ids_more : (frames : Frames) (position : Position) (frame : Frame) → ids_of (frames ++ (position, frame) ∷ []) ≡ ids_of frames ++ frame.message.id ∷ []
ids_more frames position frame = map-append (λ (f : Position × Frame). f.1.message.id) frames ((position, frame) ∷ [])

module _ (frames : FramesOf) (address : ℕ) (position : Position) (frame : Frame) where
  -- where the id at this place comes from
  abbrev From : ℕ → ℕ → MessageId → Type 0
  From a i id = (slice_get (ids_of (frames a)) i ≡ Some id) ⊎ ((a ≡ address) × (i ≡ length (ids_of (frames address))) × (id ≡ frame.message.id))

  by_address : (b : Bool) (a i : ℕ) (id : MessageId) → (a == address) ≡ b → slice_get (ids_of (cond b (frames a ++ (position, frame) ∷ []) (frames a))) i ≡ Some id → From a i id
  by_address false a i id other is = inl is
  by_address true a i id this is =
      let same : a ≡ address = eqb-true a address this in
      elim (get_more (ids_of (frames a)) frame.message.id id i (ap (λ (ids : List MessageId). slice_get ids i) (sym (ids_more (frames a) position frame)) ∙ is)) [
        | inl old ↦ inl old
        | inr new ↦ inr (same, new.0 ∙ ap (λ (n : ℕ). length (ids_of (frames n))) same, new.1)
      ]

  from : (a i : ℕ) (id : MessageId) → slice_get (ids_of (with_frame address (position, frame) frames a)) i ≡ Some id → From a i id
  from a i id is = by_address (a == address) a i id refl is

  -- a new id isn't there
  not_new : {X : Type 0} (a i : ℕ) (id : MessageId) → IsNewId frame.message.id frames → slice_get (ids_of (frames a)) i ≡ Some id → id ≡ frame.message.id → X
  not_new a i id new is same =
      let ids = ids_of (frames a) in
      absurd (subst (λ (other : MessageId). other ≢ frame.message.id) (get_or_from_slice_get ids i id id is) (new a i id (slice_get_within ids i id is)) same)

  pub stand_once : StandOnce frames → IsNewId frame.message.id frames → StandOnce (with_frame address (position, frame) frames)
  stand_once once new a b i j id here there = by (from a i id here) (from b j id there)
    where
      by : From a i id → From b j id → (a ≡ b) × (i ≡ j)
      by (inl one) (inl two) = once a b i j id one two
      by (inl one) (inr two) = not_new a i id new one two.2
      by (inr one) (inl two) = not_new b j id new two one.2
      by (inr one) (inr two) = (one.0 ∙ sym two.0, one.1 ∙ sym two.1)
