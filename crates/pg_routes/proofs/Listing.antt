-- The ids of the queues of an address, as queues come and go.
use Rattle.std.proofs.Common.{◌≡◌, ◌==◌, ℕ, ◌<◌, ◌⊎◌, Bool, true, false, nat_lt, if◌then◌else◌, List, [], ◌∷◌, ◌++◌, map, refl, sym, ap, ap₂, subst, ◌∙◌, inl, inr, arith}
use Rattle.std.proofs.lemmas.Grind.{common_steps}
use Rattle.std.proofs.lemmas.Bool.{cases_Bool, cases_eq}
use Rattle.std.proofs.lemmas.Bool.Decides.{nat_tests}
use Rattle.std.proofs.lemmas.List.{map-append}
use Rattle.std.proofs.lemmas.Map.Keys.{sorted_head, sorted_tail}
use Rattle.std.specs.Prelude.{filter, is_some, Some, None}
use Rattle.std.specs.List.{AllByRecursion, list_any}
use Rattle.std.specs.List.Sorted.{IsStrictlySortedBy}
use Rattle.std.specs.Ordering.{nat_cmp}
use Rattle.std.specs.declared.cmp.Ordering.TheVariants.{Less}
use Rattle.std.specs.Map.{keys_of, lookup}
use Rattle.std.specs.BTreeMap.{insert_entry, is_at}
use Rattle.pg_routes.specs.declared.routes.QueueEntry.{QueueEntry}
use Rattle.pg_routes.specs.Kept.{address_of, queue_of}
use Rattle.pg_routes.specs.Lists.{with_id}
use Rattle.pg_routes.specs.Names.{AddressName, QueueName, ids_naming}
use Rattle.pg_routes.proofs.Placing.{apart}
use Rattle.pg_routes.proofs.Rows.{map_filter, row_placed}

-- ---- what is seen of rows
pub address_absent : (id : ℕ) (es : List (ℕ × List ℕ)) → list_any (λ address. address.id == id) (map address_of es) ≡ false → lookup (is_at (nat_cmp id)) es ≡ None
address_absent id [] absent = refl
address_absent id (e ∷ es) absent = grind (arith, common_steps, nat_tests, absent, address_absent id es (grind (arith, common_steps, absent)))

pub queue_absent : (id : ℕ) (es : List (ℕ × QueueEntry)) → list_any (λ queue. queue.id == id) (map queue_of es) ≡ false → lookup (is_at (nat_cmp id)) es ≡ None
queue_absent id [] absent = refl
queue_absent id (e ∷ es) absent = grind (arith, common_steps, nat_tests, absent, queue_absent id es (grind (arith, common_steps, absent)))

pub address_there : (id : ℕ) (es : List (ℕ × List ℕ)) → is_some (lookup (is_at (nat_cmp id)) es) ≡ list_any (λ address. address.id == id) (map address_of es)
address_there id [] = refl
address_there id (e ∷ es) =
    elim (cases_eq id e.0) [
      | inl same ↦ grind (arith, common_steps, nat_tests, same)
      | inr apart ↦ grind (arith, common_steps, nat_tests, apart, address_there id es)
    ]

pub queue_there : (id : ℕ) (es : List (ℕ × QueueEntry)) → is_some (lookup (is_at (nat_cmp id)) es) ≡ list_any (λ queue. queue.id == id) (map queue_of es)
queue_there id [] = refl
queue_there id (e ∷ es) =
    elim (cases_eq id e.0) [
      | inl same ↦ grind (arith, common_steps, nat_tests, same)
      | inr apart ↦ grind (arith, common_steps, nat_tests, apart, queue_there id es)
    ]

pub address_placed : (id : ℕ) (name : List ℕ) (es : List (ℕ × List ℕ)) → IsStrictlySortedBy nat_cmp (keys_of es) → lookup (is_at (nat_cmp id)) es ≡ None
    → map address_of (insert_entry nat_cmp es id name)
    ≡ filter (λ other. nat_lt other.id id) (map address_of es) ++ (address_of (id, name) ∷ filter (λ other. nat_lt id other.id) (map address_of es))
address_placed id name es sorted absent =
    ap (map address_of) (row_placed id name es sorted absent)
    ∙ map-append address_of (filter (λ e. nat_lt e.0 id) es) ((id, name) ∷ filter (λ e. nat_lt id e.0) es)
    ∙ ap₂ (λ (xs ys : List AddressName). xs ++ (address_of (id, name) ∷ ys)) (map_filter address_of (λ other. nat_lt other.id id) es) (map_filter address_of (λ other. nat_lt id other.id) es)

pub queue_placed : (id : ℕ) (queue : QueueEntry) (es : List (ℕ × QueueEntry)) → IsStrictlySortedBy nat_cmp (keys_of es) → lookup (is_at (nat_cmp id)) es ≡ None
    → map queue_of (insert_entry nat_cmp es id queue)
    ≡ filter (λ other. nat_lt other.id id) (map queue_of es) ++ (queue_of (id, queue) ∷ filter (λ other. nat_lt id other.id) (map queue_of es))
queue_placed id queue es sorted absent =
    ap (map queue_of) (row_placed id queue es sorted absent)
    ∙ map-append queue_of (filter (λ e. nat_lt e.0 id) es) ((id, queue) ∷ filter (λ e. nat_lt id e.0) es)
    ∙ ap₂ (λ (xs ys : List QueueName). xs ++ (queue_of (id, queue) ∷ ys)) (map_filter queue_of (λ other. nat_lt other.id id) es) (map_filter queue_of (λ other. nat_lt id other.id) es)

-- ---- the ids of an address's queues
pub naming_append : (address : ℕ) (xs ys : List QueueName) → ids_naming address (xs ++ ys) ≡ ids_naming address xs ++ ids_naming address ys
naming_append address [] ys = refl
naming_append address (x ∷ xs) ys =
    elim (cases_Bool (x.address == address)) [
      | inl here ↦ grind (arith, common_steps, here, naming_append address xs ys)
      | inr other ↦ grind (arith, common_steps, other, naming_append address xs ys)
    ]

pub naming_filter : (p : ℕ → Bool) (address : ℕ) (queues : List QueueName) → ids_naming address (filter (λ queue. p queue.id) queues) ≡ filter p (ids_naming address queues)
naming_filter p address [] = refl
naming_filter p address (q ∷ queues) = at (cases_Bool (q.address == address)) (cases_Bool (p q.id)) (naming_filter p address queues)
  where
    at : (q.address == address ≡ true) ⊎ (q.address == address ≡ false) → (p q.id ≡ true) ⊎ (p q.id ≡ false)
        → ids_naming address (filter (λ queue. p queue.id) queues) ≡ filter p (ids_naming address queues)
        → ids_naming address (filter (λ queue. p queue.id) (q ∷ queues)) ≡ filter p (ids_naming address (q ∷ queues))
    at (inl here) (inl passes) rest = grind (arith, common_steps, here, passes, rest)
    at (inl here) (inr fails) rest = grind (arith, common_steps, here, fails, rest)
    at (inr other) (inl passes) rest = grind (arith, common_steps, other, passes, rest)
    at (inr other) (inr fails) rest = grind (arith, common_steps, other, fails, rest)

-- behind an id that is smaller than all of these, the named ones are greater too
named_above : (address x : ℕ) (es : List (ℕ × QueueEntry)) → AllByRecursion (λ other. nat_cmp x other ≡ Less) (keys_of es)
    → AllByRecursion (λ other. nat_cmp x other ≡ Less) (ids_naming address (map queue_of es))
named_above address x [] above = above
named_above address x (e ∷ es) above =
    elim (cases_Bool (e.1.address == address)) [
      | inl here ↦ grind (arith, common_steps, here, above.0, named_above address x es above.1)
      | inr other ↦ grind (arith, common_steps, other, named_above address x es above.1)
    ]

pub named_ascend : (address : ℕ) (es : List (ℕ × QueueEntry)) → IsStrictlySortedBy nat_cmp (keys_of es) → IsStrictlySortedBy nat_cmp (ids_naming address (map queue_of es))
unfolding IsStrictlySortedBy
named_ascend address [] sorted = sorted
named_ascend address (e ∷ es) sorted =
    elim (cases_Bool (e.1.address == address)) [
      | inl here ↦ subst (λ b. IsStrictlySortedBy nat_cmp (map (λ queue. queue.id) (if b then queue_of e ∷ filter (λ queue. queue.address == address) (map queue_of es) else filter (λ queue. queue.address == address) (map queue_of es)))) (sym here) (named_above address e.0 es sorted.0, named_ascend address es sorted.1)
      | inr other ↦ subst (λ b. IsStrictlySortedBy nat_cmp (map (λ queue. queue.id) (if b then queue_of e ∷ filter (λ queue. queue.address == address) (map queue_of es) else filter (λ queue. queue.address == address) (map queue_of es)))) (sym other) (named_ascend address es sorted.1)
    ]

pub absent_named : (id address : ℕ) (queues : List QueueName) → list_any (λ queue. queue.id == id) queues ≡ false → list_any (λ other. other == id) (ids_naming address queues) ≡ false
absent_named id address [] absent = refl
absent_named id address (q ∷ queues) absent =
    let rest = absent_named id address queues (grind (arith, common_steps, absent)) in
    elim (cases_Bool (q.address == address)) [
      | inl here ↦ grind (arith, common_steps, here, absent, rest)
      | inr other ↦ grind (arith, common_steps, other, absent, rest)
    ]

-- one queue more
pub naming_placed : (address : ℕ) (q : QueueName) (queues : List QueueName) → IsStrictlySortedBy nat_cmp (ids_naming address queues)
    → list_any (λ other. other == q.id) (ids_naming address queues) ≡ false
    → ids_naming address (filter (λ other. nat_lt other.id q.id) queues ++ (q ∷ filter (λ other. nat_lt q.id other.id) queues))
    ≡ (if address == q.address then with_id q.id (ids_naming address queues) else ids_naming address queues)
naming_placed address q queues sorted absent = at (cases_eq address q.address)
  where
    at : (address ≡ q.address) ⊎ (address ≡ q.address → ⊥)
        → ids_naming address (filter (λ other. nat_lt other.id q.id) queues ++ (q ∷ filter (λ other. nat_lt q.id other.id) queues))
        ≡ (if address == q.address then with_id q.id (ids_naming address queues) else ids_naming address queues)
    at (inl same) =
        let parts = naming_append address (filter (λ other. nat_lt other.id q.id) queues) (q ∷ filter (λ other. nat_lt q.id other.id) queues) in
        let below = naming_filter (λ id. nat_lt id q.id) address queues in
        let above = naming_filter (λ id. nat_lt q.id id) address queues in
        grind (arith, common_steps, nat_tests, same, parts, below, above)
    at (inr other) =
        let parts = naming_append address (filter (λ other. nat_lt other.id q.id) queues) (q ∷ filter (λ other. nat_lt q.id other.id) queues) in
        let below = naming_filter (λ id. nat_lt id q.id) address queues in
        let above = naming_filter (λ id. nat_lt q.id id) address queues in
        let all = apart q.id (ids_naming address queues) sorted absent in
        grind (arith, common_steps, nat_tests, other, parts, below, above, all)

-- one queue less
none_named_behind : (id address x : ℕ) (es : List (ℕ × QueueEntry)) → AllByRecursion (λ other. nat_cmp x other ≡ Less) (keys_of es) → x ≡ id
    → list_any (λ other. other == id) (ids_naming address (map queue_of es)) ≡ false
none_named_behind id address x [] above is = refl
none_named_behind id address x (e ∷ es) above is =
    let first : x < e.0 = grind (arith, common_steps, above.0) in
    let rest = none_named_behind id address x es above.1 is in
    elim (cases_Bool (e.1.address == address)) [
      | inl here ↦ grind (arith, common_steps, nat_tests, here, first, is, rest)
      | inr other ↦ grind (arith, common_steps, other, rest)
    ]

-- a queue isn't among those of another address
pub not_named : (id address : ℕ) (queue : QueueEntry) (es : List (ℕ × QueueEntry)) → IsStrictlySortedBy nat_cmp (keys_of es) → lookup (is_at (nat_cmp id)) es ≡ Some queue
    → (address ≡ queue.address → ⊥) → list_any (λ other. other == id) (ids_naming address (map queue_of es)) ≡ false
not_named id address queue [] sorted its elsewhere = refl
not_named id address queue (e ∷ es) sorted its elsewhere =
    elim (cases_eq id e.0) [
      | inl same ↦
          let is : e.1 ≡ queue = grind (arith, common_steps, same, its) in
          let differs : (e.1.address == address) ≡ false = grind (arith, common_steps, nat_tests, is, elsewhere) in
          grind (arith, common_steps, differs, none_named_behind id address e.0 es (sorted_head nat_cmp e.0 (keys_of es) sorted) (sym same))
      | inr differ ↦
          let rest = not_named id address queue es (sorted_tail nat_cmp e.0 (keys_of es) sorted) (grind (arith, common_steps, differ, its)) elsewhere in
          elim (cases_Bool (e.1.address == address)) [
            | inl here ↦ grind (arith, common_steps, nat_tests, here, differ, rest)
            | inr other ↦ grind (arith, common_steps, other, rest)
          ]
    ]
