-- What the routes find is what the broker has.
use Rattle.std.proofs.Common.{◌≡◌, refl, sym, ◌∙◌, ap, ap₂, subst, ℕ, ◌+◌, ◌≤◌, Bool, true, false, not, cond, ◌||◌, ltb, ◌==◌, List, [], ◌∷◌, length, map, find, filter, position, slice_get, Option, Some, None, option_map, is_some, inl, inr, arith}
use Rattle.std.specs.List.{AllByRecursion, prefix_len, position_or_len, list_any}
use Rattle.std.specs.Str.{bytes_eq}
use Rattle.std.specs.Cmp.Lexicographic.{bytes_decides}
use Rattle.std.proofs.lemmas.Bool.{cases_Bool, cases_lt, cond-true, cond-false, lt-ltb, le-ltb, or_from, or_left, or_right}
use Rattle.std.proofs.lemmas.Bool.Decides.{same_from_decides}
use Rattle.std.proofs.lemmas.List.{length-map}
use Rattle.std.proofs.lemmas.List.Folds.{find_at}
use Rattle.std.proofs.lemmas.Option.{none-some, same_Some, slice_get-get_or, slice_get_cases}
use Rattle.pg_fold.specs.declared.rows.AddressRow.{AddressRow}
use Rattle.pg_fold.specs.declared.rows.JournaledRow.{JournaledRow}
use Rattle.pg_fold.specs.declared.rows.QueueRow.{QueueRow}
use Rattle.pg_fold.specs.Rows.{AreNumbered, has_address_named, has_queue_named}
use Rattle.pg_model.specs.Broker.{Address, Queue}
use Rattle.pg_model.specs.Broker.{address_named as broker_address_named}
use Rattle.pg_model.specs.Broker.{queue_named as broker_queue_named}
use Rattle.pg_model.specs.Routing.{queues_of}
use Rattle.pg_recover.specs.Denotation.{address_of, queue_of}
use Rattle.pg_routes.specs.Names.{AddressName, QueueName}
use Rattle.pg_engine.specs.Kept.{IsId, Trees, name_of_address, name_of_queue}

-- what is looked for in a mapped list is looked for in the list
prefix_len_map : {X Y : Type 0} (test : Y → Bool) (f : X → Y) (xs : List X) → prefix_len test (map f xs) ≡ prefix_len (λ x. test (f x)) xs
prefix_len_map test f [] = refl
prefix_len_map test f (x ∷ xs) = ap (λ (n : ℕ). cond (test (f x)) (1 + n) 0) (prefix_len_map test f xs)

position_map : {X Y : Type 0} (test : Y → Bool) (f : X → Y) (xs : List X) → position test (map f xs) ≡ position (λ x. test (f x)) xs
position_map test f xs = ap₂ (λ (n : ℕ) (l : ℕ). cond (ltb n l) (Some n) None) (prefix_len_map (λ y. not (test y)) f xs) (length-map xs f)

pub find_map : {X Y : Type 0} (test : Y → Bool) (f : X → Y) (xs : List X) → find test (map f xs) ≡ option_map f (find (λ x. test (f x)) xs)
find_map test f [] = refl
find_map test f (x ∷ xs) = ap (λ o. cond (test (f x)) (Some (f x)) o) (find_map test f xs) ∙ by (test (f x)) (find (λ y. test (f y)) xs)
  where
    by : (b : Bool) (o : Option _) → cond b (Some (f x)) (option_map f o) ≡ option_map f (cond b (Some x) o)
    by true o = refl
    by false o = refl

-- none was found, so none passes
pub none_found : {X : Type 0} (test : X → Bool) (xs : List X) → find test xs ≡ None → list_any test xs ≡ false
none_found test [] none = refl
none_found test (x ∷ xs) none =
    elim (cases_Bool (test x)) [
      | inl here ↦ absurd (none-some x (sym none ∙ ap (λ b. cond b (Some x) (find test xs)) here))
      | inr elsewhere ↦ or_from _ _ elsewhere (none_found test xs (sym (ap (λ b. cond b (Some x) (find test xs)) elsewhere) ∙ none))
    ]

-- one that was found passes any test that it passes
pub found_any : {X : Type 0} (test other : X → Bool) (xs : List X) (x : X) → find test xs ≡ Some x → other x ≡ true → list_any other xs ≡ true
found_any test other [] x none is = absurd (none-some x none)
found_any test other (y ∷ xs) x found is =
    elim (cases_Bool (test y)) [
      | inl here ↦
          let same : y ≡ x = same_Some y x (sym (ap (λ b. cond b (Some y) (find test xs)) here) ∙ found) in
          or_left _ _ (ap other same ∙ is)
      | inr elsewhere ↦ or_right _ _ (found_any test other xs x (sym (ap (λ b. cond b (Some y) (find test xs)) elsewhere) ∙ found) is)
    ]

-- what is true of each is so of the one that was found
pub row_of : {R : Type 0} (P : R → Type 0) (test : R → Bool) (rows : List R) (row : R) → AllByRecursion P rows → find test rows ≡ Some row → P row
row_of P test [] row all none = absurd (none-some row none)
row_of P test (r ∷ rows) row all found = elim (cases_Bool (test r)) [
  | inl here ↦ subst P (same_Some r row (sym (ap (λ (b : Bool). cond b (Some r) (find test rows)) here) ∙ found)) all.0
  | inr elsewhere ↦ row_of P test rows row all.1 (sym (ap (λ (b : Bool). cond b (Some r) (find test rows)) elsewhere) ∙ found)
]

-- two texts are compared from either side
turned : (a b : List ℕ) → bytes_eq a b ≡ bytes_eq b a
turned a b = same_from_decides (bytes_eq a b) (bytes_eq b a) (bytes_decides a b) (λ e. sym ((bytes_decides b a).0 e), λ e. (bytes_decides b a).1 (sym e))

any_agrees : {X : Type 0} (p q : X → Bool) → ((x : X) → p x ≡ q x) → (xs : List X) → list_any p xs ≡ list_any q xs
any_agrees p q same [] = refl
any_agrees p q same (x ∷ xs) = ap₂ (λ a b. a || b) (same x) (any_agrees p q same xs)

-- what was found, and that nothing was
pub some_id : (o : Option ℕ) → is_some o ≡ true → (id : ℕ) × (o ≡ Some id)
some_id None is = cc
some_id (Some id) is = (id, refl)

pub none_id : (o : Option ℕ) → is_some o ≡ false → o ≡ None
none_id None is = refl
none_id (Some id) is = cc

no_row : AddressRow
no_row = record { id = 0; name = []; max = 0; page = 0; ahead = 0; dup = 0; first = 0 }

-- ---- addresses
module _ (name : List ℕ) (rows : List AddressRow) where
  abbrev test : AddressRow → Bool
  test row = bytes_eq name row.name

  abbrev place : ℕ
  place = position_or_len test rows

  -- by its place
  at_place : broker_address_named (map address_of rows) name ≡ option_map (λ n. n + 1) (cond (ltb place (length rows)) (Some place) None)
  at_place = ap (option_map (λ n. n + 1)) (position_map (λ (a : Address). bytes_eq name a.name) address_of rows)

  pub address_id_within : (id : ℕ) → broker_address_named (map address_of rows) name ≡ Some id → IsId (length rows) id
  address_id_within id is = elim (cases_lt place (length rows)) [
    | inl within ↦
        let same = same_Some (place + 1) id (sym (at_place ∙ ap (option_map (λ n. n + 1)) (cond-true _ _ _ (lt-ltb place (length rows) within))) ∙ is) in
        (omega (arith, same), omega (arith, same, within))
    | inr past ↦ absurd (none-some id (sym (at_place ∙ ap (option_map (λ n. n + 1)) (cond-false _ _ _ (le-ltb place (length rows) past))) ∙ is))
  ]

  -- and by its id
  by_id : option_map (λ (a : AddressName). a.id) (find (λ (a : AddressName). bytes_eq name a.name) (map name_of_address rows)) ≡ option_map (λ (row : AddressRow). row.id) (slice_get rows place)
  by_id =
      ap (option_map (λ (a : AddressName). a.id)) (find_map (λ (a : AddressName). bytes_eq name a.name) name_of_address rows ∙ ap (option_map name_of_address) (find_at test rows))
      ∙ inside (slice_get rows place)
    where
      inside : (o : Option AddressRow) → option_map (λ (a : AddressName). a.id) (option_map name_of_address o) ≡ option_map (λ (row : AddressRow). row.id) o
      inside None = refl
      inside (Some row) = refl

  pub address_found : AreNumbered rows → option_map (λ (a : AddressName). a.id) (find (λ (a : AddressName). bytes_eq name a.name) (map name_of_address rows)) ≡ broker_address_named (map address_of rows) name
  address_found numbered = by_id ∙ elim (cases_lt place (length rows)) [
    | inl within ↦
        ap (option_map (λ (row : AddressRow). row.id)) (slice_get-get_or rows place no_row within) ∙ ap (λ (n : ℕ). Some n) (numbered place no_row within)
        ∙ sym (at_place ∙ ap (option_map (λ n. n + 1)) (cond-true _ _ _ (lt-ltb place (length rows) within)))
    | inr past ↦
        ap (option_map (λ (row : AddressRow). row.id)) (none_past past)
        ∙ sym (at_place ∙ ap (option_map (λ n. n + 1)) (cond-false _ _ _ (le-ltb place (length rows) past)))
  ]
    where
      none_past : length rows ≤ place → slice_get rows place ≡ None
      none_past past = elim (slice_get_cases rows place).1 [
        | inl found ↦ let within = found.1 in absurd (omega (arith, past))
        | inr none ↦ none.1
      ]

  pub address_new : AreNumbered rows → broker_address_named (map address_of rows) name ≡ None → has_address_named rows name ≡ false
  address_new numbered none =
      any_agrees (λ row. bytes_eq row.name name) test (λ row. turned row.name name) rows
      ∙ none_found test rows (find_at test rows ∙ no_id (slice_get rows place) (sym by_id ∙ address_found numbered ∙ none))
    where
      no_id : (o : Option AddressRow) → option_map (λ (row : AddressRow). row.id) o ≡ None → o ≡ None
      no_id None is = refl
      no_id (Some row) is = absurd (none-some row.id (sym is))

-- ---- queues
module _ (name : List ℕ) (messages : List JournaledRow) (rows : List QueueRow) where
  abbrev found : Option QueueRow
  found = find (λ row. bytes_eq name row.name) rows

  queue_is : broker_queue_named (map (queue_of messages) rows) name ≡ option_map (queue_of messages) found
  queue_is = find_map (λ (q : Queue). bytes_eq name q.name) (queue_of messages) rows

  pub queue_found : (trees : Trees) → option_map (λ (q : QueueName). q.id) (find (λ (q : QueueName). bytes_eq name q.name) (map (name_of_queue trees) rows)) ≡ option_map (λ (q : Queue). q.id) (broker_queue_named (map (queue_of messages) rows) name)
  queue_found trees =
      ap (option_map (λ (q : QueueName). q.id)) (find_map (λ (q : QueueName). bytes_eq name q.name) (name_of_queue trees) rows)
      ∙ inside found ∙ ap (option_map (λ (q : Queue). q.id)) (sym queue_is)
    where
      inside : (o : Option QueueRow) → option_map (λ (q : QueueName). q.id) (option_map (name_of_queue trees) o) ≡ option_map (λ (q : Queue). q.id) (option_map (queue_of messages) o)
      inside None = refl
      inside (Some row) = refl

  -- the row of a queue that was found
  a_row : (o : Option QueueRow) (id : ℕ) → option_map (λ (q : Queue). q.id) (option_map (queue_of messages) o) ≡ Some id → (row : QueueRow) × (row.id ≡ id) × (o ≡ Some row)
  a_row None id is = absurd (none-some id is)
  a_row (Some row) id is = (row, same_Some row.id id is, refl)

  pub queue_row : (id : ℕ) → option_map (λ (q : Queue). q.id) (broker_queue_named (map (queue_of messages) rows) name) ≡ Some id
      → (row : QueueRow) × (row.id ≡ id) × (broker_queue_named (map (queue_of messages) rows) name ≡ Some (queue_of messages row)) × (found ≡ Some row)
  queue_row id is =
      let row = a_row found id (ap (option_map (λ (q : Queue). q.id)) (sym queue_is) ∙ is) in
      (row.0, row.1, queue_is ∙ ap (option_map (queue_of messages)) row.2, row.2)

  pub queue_new : broker_queue_named (map (queue_of messages) rows) name ≡ None → has_queue_named rows name ≡ false
  queue_new none =
      any_agrees (λ row. bytes_eq row.name name) (λ row. bytes_eq name row.name) (λ row. turned row.name name) rows
      ∙ none_found (λ row. bytes_eq name row.name) rows (no_row_found found (sym queue_is ∙ none))
    where
      no_row_found : (o : Option QueueRow) → option_map (queue_of messages) o ≡ None → o ≡ None
      no_row_found None is = refl
      no_row_found (Some row) is = absurd (none-some (queue_of messages row) (sym is))

-- ---- the queues of an address
module _ (trees : Trees) (address : ℕ) (messages : List JournaledRow) where
  -- as the routes name them, and as the broker has them
  abbrev named_at : List QueueRow → List QueueName
  named_at rows = filter (λ (q : QueueName). q.address == address) (map (name_of_queue trees) rows)

  abbrev held_at : List QueueRow → List Queue
  held_at rows = queues_of address (map (queue_of messages) rows)

  abbrev ids : List QueueName → List ℕ
  ids queues = map (λ (q : QueueName). q.id) queues

  pub count_is : (rows : List QueueRow) → length (ids (named_at rows)) ≡ length (held_at rows)
  count_is [] = refl
  count_is (row ∷ rows) = by (row.address == address) (count_is rows)
    where
      by : (b : Bool) → length (ids (named_at rows)) ≡ length (held_at rows) → length (ids (cond b (name_of_queue trees row ∷ named_at rows) (named_at rows))) ≡ length (cond b (queue_of messages row ∷ held_at rows) (held_at rows))
      by true others = omega (arith, others)
      by false others = others
