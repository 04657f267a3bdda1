-- Rows by their ids, and ids by the rows' names.
use Rattle.std.proofs.Common.{◌≡◌, ℕ, true, false, List, [], ◌∷◌, map, refl, sym, subst, ◌∙◌, inl, inr, arith}
use Rattle.std.proofs.lemmas.Grind.{common_steps}
use Rattle.std.proofs.lemmas.Bool.{cases_Bool, cases_eq}
use Rattle.std.proofs.lemmas.Cmp.{nat_cmp_total}
use Rattle.std.proofs.lemmas.List.Elements.{All-head, All-tail, All-weaker}
use Rattle.std.proofs.lemmas.Map.Views.{All-found}
use Rattle.std.proofs.lemmas.Slice.Eq.{bytes_eq-Decides}
use Rattle.std.specs.Prelude.{All, Option, Some, None, find}
use Rattle.std.specs.Option.{option_map}
use Rattle.std.specs.Ordering.{nat_cmp}
use Rattle.std.specs.Map.{lookup}
use Rattle.std.specs.Str.{bytes_eq}
use Rattle.std.specs.BTreeMap.{BTreeMap, get, IsOrdered, is_at}
use Rattle.indexmap.specs.IndexMap.{get_by_text}
use Rattle.pg_routes.specs.declared.routes.QueueEntry.{QueueEntry}
use Rattle.pg_routes.specs.Kept.{Addresses, Ids, Queues, address_of, queue_of, seen}
use Rattle.pg_routes.specs.Names.{address_named, queue_named}

-- the id of the first row of that name
abbrev pub named_in : {X : Type 0} → (X → List ℕ) → List ℕ → List (ℕ × X) → Option ℕ
named_in name_of name es = option_map (λ e. e.0) (find (λ e. bytes_eq name (name_of e.1)) es)

-- each row's name leads to its id
abbrev pub LeadsTo : {X : Type 0} → (X → List ℕ) → Ids → BTreeMap ℕ X → Type 0
LeadsTo {X} name_of ids rows = (id : ℕ) (row : X) → get nat_cmp rows id ≡ Some row → get_by_text ids (name_of row) ≡ Some id

-- the row is found by its id, and its name leads to the id
abbrev pub IsFound : {X : Type 0} → (X → List ℕ) → Ids → BTreeMap ℕ X → ℕ × X → Type 0
IsFound name_of ids rows e = (get nat_cmp rows e.0 ≡ Some e.1) × (get_by_text ids (name_of e.1) ≡ Some e.0)

pub all_found : {X : Type 0} (name_of : X → List ℕ) (ids : Ids) (rows : BTreeMap ℕ X) → IsOrdered nat_cmp rows → LeadsTo name_of ids rows → All (IsFound name_of ids rows) rows.entries
all_found name_of ids rows ordered leads =
    All-weaker (λ e. get nat_cmp rows e.0 ≡ Some e.1) (IsFound name_of ids rows) (λ e is. (is, leads e.0 e.1 is)) rows.entries (All-found nat_cmp_total rows ordered)

pub same_bytes : (a b : List ℕ) → bytes_eq a b ≡ true → a ≡ b
same_bytes a b e = (bytes_eq-Decides a b).0 e

-- the row to whose id the name leads is the one of that name
pub named_by : {X : Type 0} (name_of : X → List ℕ) (ids : Ids) (rows : BTreeMap ℕ X) (name : List ℕ) (id : ℕ) (row : X) (es : List (ℕ × X)) → All (IsFound name_of ids rows) es
    → get_by_text ids name ≡ Some id → lookup (is_at (nat_cmp id)) es ≡ Some row → bytes_eq name (name_of row) ≡ true → named_in name_of name es ≡ Some id
named_by name_of ids rows name id row [] found leads its same = absurd (grind (arith, common_steps, its))
named_by name_of ids rows name id row (e ∷ es) found leads its same =
    elim (cases_Bool (bytes_eq name (name_of e.1))) [
      | inl here ↦
          let first = All-head (IsFound name_of ids rows) e es found in
          let at : get_by_text ids name ≡ Some e.0 = subst (λ n. get_by_text ids n ≡ Some e.0) (sym (same_bytes name (name_of e.1) here)) first.1 in
          grind (arith, common_steps, here, at, leads)
      | inr other ↦
          elim (cases_eq id e.0) [
            | inl equal ↦ absurd (grind (arith, common_steps, equal, its, same, other))
            | inr apart ↦
                let rest = named_by name_of ids rows name id row es (All-tail (IsFound name_of ids rows) e es found) leads (grind (arith, common_steps, apart, its)) same in
                grind (arith, common_steps, other, rest)
          ]
    ]

-- where the name leads to no row of that name, there is none
pub named_none : {X : Type 0} (name_of : X → List ℕ) (ids : Ids) (rows : BTreeMap ℕ X) (name : List ℕ) (es : List (ℕ × X)) → All (IsFound name_of ids rows) es
    → ((id : ℕ) (row : X) → get_by_text ids name ≡ Some id → get nat_cmp rows id ≡ Some row → bytes_eq name (name_of row) ≡ false) → named_in name_of name es ≡ None
named_none name_of ids rows name [] found none = refl
named_none name_of ids rows name (e ∷ es) found none =
    elim (cases_Bool (bytes_eq name (name_of e.1))) [
      | inl here ↦
          let first = All-head (IsFound name_of ids rows) e es found in
          let at : get_by_text ids name ≡ Some e.0 = subst (λ n. get_by_text ids n ≡ Some e.0) (sym (same_bytes name (name_of e.1) here)) first.1 in
          absurd (grind (arith, common_steps, here, none e.0 e.1 at first.0))
      | inr other ↦ grind (arith, common_steps, other, named_none name_of ids rows name es (All-tail (IsFound name_of ids rows) e es found) none)
    ]

-- a name that no row has is that of none of them
pub new_name : {X : Type 0} (name_of : X → List ℕ) (name : List ℕ) (es : List (ℕ × X)) → named_in name_of name es ≡ None
    → (id : ℕ) (row : X) → lookup (is_at (nat_cmp id)) es ≡ Some row → bytes_eq name (name_of row) ≡ false
new_name name_of name [] none id row its = absurd (grind (arith, common_steps, its))
new_name name_of name (e ∷ es) none id row its =
    elim (cases_Bool (bytes_eq name (name_of e.1))) [
      | inl here ↦ absurd (grind (arith, common_steps, here, none))
      | inr other ↦
          elim (cases_eq id e.0) [
            | inl equal ↦ grind (arith, common_steps, equal, its, other)
            | inr apart ↦ new_name name_of name es (grind (arith, common_steps, other, none)) id row (grind (arith, common_steps, apart, its))
          ]
    ]

-- ---- what contracts see
abbrev pub address_name : List ℕ → List ℕ
address_name name = name

abbrev pub queue_name : QueueEntry → List ℕ
queue_name queue = queue.name

pub address_seen : (name : List ℕ) (es : List (ℕ × List ℕ)) → named_in address_name name es ≡ option_map (λ address. address.id) (find (λ address. bytes_eq name address.name) (map address_of es))
address_seen name [] = refl
address_seen name (e ∷ es) =
    elim (cases_Bool (bytes_eq name e.1)) [
      | inl here ↦ grind (arith, common_steps, here)
      | inr other ↦ grind (arith, common_steps, other, address_seen name es)
    ]

pub queue_seen : (name : List ℕ) (es : List (ℕ × QueueEntry)) → named_in queue_name name es ≡ option_map (λ queue. queue.id) (find (λ queue. bytes_eq name queue.name) (map queue_of es))
queue_seen name [] = refl
queue_seen name (e ∷ es) =
    elim (cases_Bool (bytes_eq name e.1.name)) [
      | inl here ↦ grind (arith, common_steps, here)
      | inr other ↦ grind (arith, common_steps, other, queue_seen name es)
    ]

pub no_address : (ids : Ids) (addresses : Addresses) (queues : Queues) (name : List ℕ) → IsOrdered nat_cmp addresses → LeadsTo address_name ids addresses
    → ((id : ℕ) (row : List ℕ) → get_by_text ids name ≡ Some id → get nat_cmp addresses id ≡ Some row → bytes_eq name row ≡ false) → None ≡ address_named name (seen addresses queues)
no_address ids addresses queues name ordered leads none =
    sym (named_none address_name ids addresses name addresses.entries (all_found address_name ids addresses ordered leads) none) ∙ address_seen name addresses.entries

pub an_address : (ids : Ids) (addresses : Addresses) (queues : Queues) (name : List ℕ) (id : ℕ) (row : List ℕ) → IsOrdered nat_cmp addresses → LeadsTo address_name ids addresses
    → get_by_text ids name ≡ Some id → get nat_cmp addresses id ≡ Some row → bytes_eq name row ≡ true → Some id ≡ address_named name (seen addresses queues)
an_address ids addresses queues name id row ordered leads its at same =
    sym (named_by address_name ids addresses name id row addresses.entries (all_found address_name ids addresses ordered leads) its at same) ∙ address_seen name addresses.entries

pub no_queue : (ids : Ids) (addresses : Addresses) (queues : Queues) (name : List ℕ) → IsOrdered nat_cmp queues → LeadsTo queue_name ids queues
    → ((id : ℕ) (row : QueueEntry) → get_by_text ids name ≡ Some id → get nat_cmp queues id ≡ Some row → bytes_eq name row.name ≡ false) → None ≡ queue_named name (seen addresses queues)
no_queue ids addresses queues name ordered leads none =
    sym (named_none queue_name ids queues name queues.entries (all_found queue_name ids queues ordered leads) none) ∙ queue_seen name queues.entries

pub a_queue : (ids : Ids) (addresses : Addresses) (queues : Queues) (name : List ℕ) (id : ℕ) (row : QueueEntry) → IsOrdered nat_cmp queues → LeadsTo queue_name ids queues
    → get_by_text ids name ≡ Some id → get nat_cmp queues id ≡ Some row → bytes_eq name row.name ≡ true → Some id ≡ queue_named name (seen addresses queues)
a_queue ids addresses queues name id row ordered leads its at same =
    sym (named_by queue_name ids queues name id row queues.entries (all_found queue_name ids queues ordered leads) its at same) ∙ queue_seen name queues.entries
