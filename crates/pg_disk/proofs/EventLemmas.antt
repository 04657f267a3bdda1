-- One more event in the record.
use Rattle.std.proofs.Common.{◌≡◌, ℕ, ◌+◌, cond, List, [], ◌∷◌, ◌++◌, filter_map, count_by, option_to_list, Option, Some, None, refl, sym, ◌∙◌, ap, arith}
use Rattle.std.proofs.lemmas.List.Elements.{filter_map-append}
use Rattle.std.proofs.lemmas.List.Sums.{sum_by_push}
use Rattle.pg_disk.specs.declared.call_record.CallKind.{CallKind}
use Rattle.pg_disk.specs.declared.call_record.Event.{Event}
use Rattle.pg_disk.specs.Events.{call_of, is_emit}

module _ {X Y : Type 0} where
  one : (h : X → Option Y) (x : X) (o : Option Y) → h x ≡ o → filter_map h (x ∷ []) ≡ option_to_list o
  one h x None is = grind arith
  one h x (Some y) is = grind arith

  pub filter_map_push : (h : X → Option Y) (xs : List X) (x : X) → filter_map h (xs ++ x ∷ []) ≡ filter_map h xs ++ option_to_list (h x)
  filter_map_push h xs x = filter_map-append h xs (x ∷ []) ∙ ap (λ ys. filter_map h xs ++ ys) (one h x (h x) refl)

pub calls_push : (xs : List Event) (e : Event) → filter_map call_of (xs ++ e ∷ []) ≡ filter_map call_of xs ++ option_to_list (call_of e)
calls_push xs e = filter_map_push call_of xs e

pub emits_push : (xs : List Event) (e : Event) → count_by is_emit (xs ++ e ∷ []) ≡ count_by is_emit xs + cond (is_emit e) 1 0
emits_push xs e = sum_by_push (λ x. cond (is_emit x) 1 0) xs e

-- what is kept beside the record, after one more event
pub calls_added : (xs ys : List Event) (old new : List CallKind) (e : Event) (call : Option CallKind) → call ≡ call_of e → old ≡ filter_map call_of xs → new ≡ old ++ option_to_list call → ys ≡ xs ++ e ∷ [] → new ≡ filter_map call_of ys
calls_added xs ys old new e call is was added pushed =
    added ∙ ap (λ (o : Option CallKind). old ++ option_to_list o) is ∙ ap (λ (ks : List CallKind). ks ++ option_to_list (call_of e)) was ∙ sym (calls_push xs e) ∙ ap (λ (l : List Event). filter_map call_of l) (sym pushed)

pub emits_added : (xs ys : List Event) (n m : ℕ) (e : Event) → n ≡ count_by is_emit xs → m ≡ cond (is_emit e) 1 0 → ys ≡ xs ++ e ∷ [] → n + m ≡ count_by is_emit ys
emits_added xs ys n m e was more pushed = ap (λ k. k + m) was ∙ ap (λ k. count_by is_emit xs + k) more ∙ sym (emits_push xs e) ∙ ap (λ (l : List Event). count_by is_emit l) (sym pushed)
