-- Which of an address's queues a message goes to.
use Rattle.std.proofs.Common.{◌≡◌, ◌==◌, ◌&&◌, ℕ, ◌<◌, ◌+◌, ◌⊎◌, Bool, true, false, List, [], ◌∷◌, ◌++◌, drop, get_or, length, map, refl, sym, ap, ◌∙◌, inl, inr, append_assoc, arith}
use Rattle.std.proofs.lemmas.Grind.{common_steps}
use Rattle.std.proofs.lemmas.Bool.{cases_Bool}
use Rattle.std.proofs.lemmas.Cmp.{nat_cmp_total}
use Rattle.std.proofs.lemmas.List.{at_drop_more}
use Rattle.std.proofs.lemmas.List.Elements.{All-head, All-tail, All-weaker}
use Rattle.std.proofs.lemmas.Map.Views.{All-found}
use Rattle.std.specs.Prelude.{All, Some, filter}
use Rattle.std.specs.Ordering.{nat_cmp}
use Rattle.std.specs.BTreeMap.{get}
use Rattle.pg_msg.specs.declared.properties.Property.{Property}
use Rattle.pg_eval.specs.Truth.{is_match}
use Rattle.pg_routes.specs.declared.routes.QueueEntry.{QueueEntry}
use Rattle.pg_routes.specs.Kept.{Addresses, Ids, Queues, AreKept, queue_of, seen, takes}
use Rattle.pg_routes.specs.Lists.{Lists}
use Rattle.pg_routes.specs.Names.{ids_naming, queue_ids_at, routed_at}

-- ---- one id after another
pub one_taken : (test : ℕ → Bool) (ids takers : List ℕ) (k : ℕ) → k < length ids → takers ++ filter test (drop k ids) ≡ filter test ids → test (get_or ids k 0) ≡ true
    → (takers ++ (get_or ids k 0 ∷ [])) ++ filter test (drop (k + 1) ids) ≡ filter test ids
one_taken test ids takers k within before takes =
    let more = at_drop_more (filter test) ids k 0 within in
    let here : filter test (get_or ids k 0 ∷ drop (k + 1) ids) ≡ get_or ids k 0 ∷ filter test (drop (k + 1) ids) = grind (arith, common_steps, takes) in
    append_assoc takers (get_or ids k 0 ∷ []) (filter test (drop (k + 1) ids)) ∙ ap (λ (others : List ℕ). takers ++ others) (sym (more ∙ here)) ∙ before

pub one_left_out : (test : ℕ → Bool) (ids takers : List ℕ) (k : ℕ) → k < length ids → takers ++ filter test (drop k ids) ≡ filter test ids → test (get_or ids k 0) ≡ false
    → takers ++ filter test (drop (k + 1) ids) ≡ filter test ids
one_left_out test ids takers k within before takes =
    let more = at_drop_more (filter test) ids k 0 within in
    let other : filter test (get_or ids k 0 ∷ drop (k + 1) ids) ≡ filter test (drop (k + 1) ids) = grind (arith, common_steps, takes) in
    ap (λ (others : List ℕ). takers ++ others) (sym (more ∙ other)) ∙ before

-- ---- the queues of an address
-- where a test of ids says of each queue whether it takes the message
by_ids : (test : ℕ → Bool) (properties : List Property) (address : ℕ) (es : List (ℕ × QueueEntry)) → All (λ e. test e.0 ≡ is_match properties e.1.filter) es
    → filter test (ids_naming address (map queue_of es))
    ≡ map (λ queue. queue.id) (filter (λ queue. (queue.address == address) && is_match properties queue.filter) (map queue_of es))
by_ids test properties address [] all = refl
by_ids test properties address (e ∷ es) all =
    at (cases_Bool (e.1.address == address)) (cases_Bool (is_match properties e.1.filter)) (All-head (λ e. test e.0 ≡ is_match properties e.1.filter) e es all)
    (by_ids test properties address es (All-tail (λ e. test e.0 ≡ is_match properties e.1.filter) e es all))
  where
    at : (e.1.address == address ≡ true) ⊎ (e.1.address == address ≡ false) → (is_match properties e.1.filter ≡ true) ⊎ (is_match properties e.1.filter ≡ false)
        → test e.0 ≡ is_match properties e.1.filter
        → filter test (ids_naming address (map queue_of es))
        ≡ map (λ queue. queue.id) (filter (λ queue. (queue.address == address) && is_match properties queue.filter) (map queue_of es))
        → filter test (ids_naming address (map queue_of (e ∷ es)))
        ≡ map (λ queue. queue.id) (filter (λ queue. (queue.address == address) && is_match properties queue.filter) (map queue_of (e ∷ es)))
    at (inl here) (inl matches) is rest = grind (arith, common_steps, here, matches, is, rest)
    at (inl here) (inr differs) is rest = grind (arith, common_steps, here, differs, is, rest)
    at (inr other) (inl matches) is rest = grind (arith, common_steps, other, matches, is, rest)
    at (inr other) (inr differs) is rest = grind (arith, common_steps, other, differs, is, rest)

pub routed_kept : (addresses : Addresses) (queues : Queues) (address_ids queue_ids : Ids) (lists : Lists) (properties : List Property) (address : ℕ)
    → AreKept addresses queues address_ids queue_ids lists
    → filter (takes queues properties) (queue_ids_at address (seen addresses queues)) ≡ routed_at address properties (seen addresses queues)
routed_kept addresses queues address_ids queue_ids lists properties address kept =
    by_ids (takes queues properties) properties address queues.entries
    (All-weaker (λ e. get nat_cmp queues e.0 ≡ Some e.1) (λ e. takes queues properties e.0 ≡ is_match properties e.1.filter) (λ e is. grind (arith, common_steps, is))
    queues.entries (All-found nat_cmp_total queues kept.queues_ordered))
