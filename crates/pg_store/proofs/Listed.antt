-- Lists of stores, by the ids of their addresses.
use Rattle.std.proofs.Common.{◌≡◌, ◌≢◌, ◌⊎◌, inl, inr, ⊎_elim, ℕ, zero, suc, ◌+◌, ◌-◌, ◌<◌, ◌≤◌, List, [], ◌∷◌, ◌++◌, length, get_or, set, slice_get, Some, refl, sym, ◌∙◌, ap, subst, arith}
use Rattle.std.proofs.lemmas.Bool.{cases_eq}
use Rattle.std.proofs.lemmas.List.{length-set, set-set}
use Rattle.std.proofs.lemmas.Option.{same_Some, slice_get_read, slice_get_within}
use Rattle.pg_store.specs.declared.store.Store.{Store}
use Rattle.pg_store.specs.Every.{IsStoreOf, StayElsewhere}

-- what stands in a list where one element is written
get-set_same : {X : Type 0} (xs : List X) (i : ℕ) (y : X) → i < length xs → slice_get (set xs i y) i ≡ Some y
get-set_same [] i y lt = absurd (omega (arith, lt))
get-set_same (x ∷ xs) zero y lt = refl
get-set_same (x ∷ xs) (suc i) y lt = get-set_same xs i y (omega (arith, lt))

get-set_other : {X : Type 0} (xs : List X) (i k : ℕ) (y : X) → k ≢ i → slice_get (set xs i y) k ≡ slice_get xs k
get-set_other [] i k y differ = refl
get-set_other (x ∷ xs) zero zero y differ = absurd (differ refl)
get-set_other (x ∷ xs) zero (suc k) y differ = refl
get-set_other (x ∷ xs) (suc i) zero y differ = refl
get-set_other (x ∷ xs) (suc i) (suc k) y differ = get-set_other xs i k y (λ same. differ (ap (λ (n : ℕ). suc n) same))

-- an element of a list with one more at its end is one of the list, or it is that one
get_more : {X : Type 0} (xs : List X) (x y : X) (i : ℕ) → slice_get (xs ++ x ∷ []) i ≡ Some y → (slice_get xs i ≡ Some y) ⊎ ((i ≡ length xs) × (x ≡ y))
get_more [] x y zero is = inr (refl, same_Some x y is)
get_more [] x y (suc i) is = cc
get_more (z ∷ xs) x y zero is = inl is
get_more (z ∷ xs) x y (suc i) is = elim (get_more xs x y i is) [ inl old ↦ inl old | inr new ↦ inr (ap suc new.0, new.1) ]

-- ---- the store of an address

-- it is one
pub store_once : (address : ℕ) (stores : List Store) (a b : Store) → IsStoreOf address stores a → IsStoreOf address stores b → a ≡ b
store_once address stores a b one two =
    let same : one.0 ≡ two.0 = omega (arith, one.1, two.1) in
    same_Some a b (sym one.2 ∙ ap (λ (n : ℕ). slice_get stores n) same ∙ two.2)

-- the one that was taken out of its slot
module _ (address : ℕ) (stores list : List Store) (is : list ≡ stores) (there : (1 ≤ address) × (address ≤ length stores)) (x store : Store) (read : x ≡ get_or list (address - 1) x) (same : store ≡ x) where
  pub had : IsStoreOf address stores store
  had = (
    address - 1,
    omega (arith, there.0),
    slice_get_read stores (length stores) (address - 1) x refl (omega (arith, there.0, there.1)) (subst (λ (l : List Store). x ≡ get_or l (address - 1) x) is read) ∙ ap (λ (s : Store). Some s) (sym same),
  )

  -- and the one that was put there, where another one stood meanwhile
  module _ (between next : Store) where
    written : set stores (address - 1) next ≡ set (set list (address - 1) between) (address - 1) next
    written = ap (λ (l : List Store). set l (address - 1) next) (sym is) ∙ sym (set-set list (address - 1) between next)

    pub has : IsStoreOf address (set (set list (address - 1) between) (address - 1) next) next
    has = subst (λ (l : List Store). IsStoreOf address l next) written (address - 1, omega (arith, there.0), get-set_same stores (address - 1) next (omega (arith, there.0, there.1)))

    stay_set : StayElsewhere address stores (set stores (address - 1) next)
    stay_set = record {
      count = length-set stores (address - 1) next;
      others = λ other s differ. (
        λ at. (at.0, at.1, sym (get-set_other stores (address - 1) at.0 next (λ e. differ (omega (arith, at.1, e, there.0)))) ∙ at.2),
        λ at. (at.0, at.1, get-set_other stores (address - 1) at.0 next (λ e. differ (omega (arith, at.1, e, there.0))) ∙ at.2),
      );
    }

    pub stay : StayElsewhere address stores (set (set list (address - 1) between) (address - 1) next)
    stay = subst (λ (l : List Store). StayElsewhere address stores l) written stay_set

-- ---- what is true of each store

-- where one address has another one
pub each_with : (address : ℕ) (stores next : List Store) → StayElsewhere address stores next → (after : Store) → IsStoreOf address next after → (P : ℕ → Store → Type 0) → P address after
    → ((other : ℕ) (store : Store) → other ≢ address → IsStoreOf other stores store → P other store) → (other : ℕ) (store : Store) → IsStoreOf other next store → P other store
each_with address stores next stay after has P here else other store at = ⊎_elim
    (λ (this : other ≡ address).
    subst (λ (n : ℕ). P n store) (sym this) (subst (λ (s : Store). P address s) (store_once address next after store has (subst (λ (n : ℕ). IsStoreOf n next store) this at)) here))
    (λ (differ : other ≢ address). else other store differ ((stay.others other store differ).0 at)) (cases_eq other address)

-- where there is one more
pub each_more : (stores next : List Store) (new : Store) → next ≡ stores ++ new ∷ [] → (P : ℕ → Store → Type 0) → P (length stores + 1) new → ((address : ℕ) (store : Store) → IsStoreOf address stores store → P address store)
    → (address : ℕ) (store : Store) → IsStoreOf address next store → P address store
each_more stores next new is P here else address store at = elim (get_more stores new store at.0 (sym (ap (λ (l : List Store). slice_get l at.0) is) ∙ at.2)) [
  | inl old ↦ else address store (at.0, at.1, old)
  | inr last ↦
      subst (λ (n : ℕ). P n store) {x = length stores + 1} (omega (arith, at.1, last.0)) (subst (λ (s : Store). P (length stores + 1) s) last.1 here)
]

-- where there is none
pub each_none : {X : Type 0} (address : ℕ) (store : Store) → IsStoreOf address [] store → X
each_none address store at = absurd (omega (arith, slice_get_within [] at.0 store at.2))
