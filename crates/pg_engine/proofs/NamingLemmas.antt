-- The names of a folded state after an address or a queue more, or a queue less.
use Rattle.std.proofs.Common.{◌≡◌, ◌≢◌, take, find, Some, None, Option, AllPairs, eq-eqb, refl, sym, ◌∙◌, ap, ap₂, subst, ℕ, ◌+◌, ◌<◌, Bool, true, false, not, cond, eqb, ne_eqb, ltb, List, [], ◌∷◌, ◌++◌, length, get_or, map, filter, arith}
use Rattle.std.specs.List.{All, AllByRecursion, list_any}
use Rattle.std.specs.Cmp.Lexicographic.{bytes_decides}
use Rattle.std.specs.Option.{option_map}
use Rattle.std.specs.Str.{bytes_eq}
use Rattle.std.proofs.lemmas.Bool.{cond-false, cond-true, false_from_ne_true, lt-ltb, le-ltb, or_from}
use Rattle.std.proofs.lemmas.List.{get_or-take, get_or_default, length-take-le, map-append, take_more}
use Rattle.std.proofs.lemmas.List.Elements.{All-filter, All-nil, All-push, recursion_from_All}
use Rattle.pg_fold.specs.declared.durable.Durable.{Durable}
use Rattle.pg_fold.specs.declared.rows.AddressRow.{AddressRow}
use Rattle.pg_fold.specs.declared.rows.QueueRow.{QueueRow}
use Rattle.pg_fold.specs.Rows.{AreAscending, AreNumbered}
use Rattle.pg_fold.specs.Rows.{without_queue as without_row}
use Rattle.pg_fold.specs.Sound.{IsSound}
use Rattle.pg_routes.specs.Names.{AddressName, QueueName, RouteNames, address_named, has_address, has_queue, queue_named, with_address, with_queue, without_queue}
use Rattle.pg_parse.specs.declared.tree.Tree.{Tree}
use Rattle.pg_parse.specs.FilterTexts.{ReadsAs}
use Rattle.pg_engine.specs.Kept.{AreNamed, AreRoutesOf, AreTreesOf, Trees, name_of_address, name_of_queue}

-- the names of these addresses and queues
abbrev pub names_of_rows : Trees → List AddressRow → List QueueRow → RouteNames
names_of_rows trees addresses queues = record { addresses = map name_of_address addresses; queues = map (name_of_queue trees) queues }

-- where each is below this, all are below and none is above
all_below : {X : Type 0} (id : X → ℕ) (next : ℕ) (xs : List X) → AllByRecursion (λ x. id x < next) xs → filter (λ x. ltb (id x) next) xs ≡ xs
all_below id next [] below = refl
all_below id next (x ∷ xs) below = ap₂ (λ (b : Bool) (l : List _). cond b (x ∷ l) l) (lt-ltb (id x) next below.0) (all_below id next xs below.1)

none_above : {X : Type 0} (id : X → ℕ) (next : ℕ) (xs : List X) → AllByRecursion (λ x. id x < next) xs → filter (λ x. ltb next (id x)) xs ≡ []
none_above id next [] below = refl
none_above id next (x ∷ xs) below = ap₂ (λ (b : Bool) (l : List _). cond b (x ∷ l) l) (le-ltb next (id x) (let less = below.0 in omega arith)) (none_above id next xs below.1)

-- so the next one stands behind them
behind : {X : Type 0} (id : X → ℕ) (x : X) (xs : List X) → AllByRecursion (λ y. id y < id x) xs → filter (λ y. ltb (id y) (id x)) xs ++ (x ∷ filter (λ y. ltb (id x) (id y)) xs) ≡ xs ++ (x ∷ [])
behind id x xs below = ap₂ (λ (l m : List _). l ++ (x ∷ m)) (all_below id (id x) xs below) (none_above id (id x) xs below)

addresses_below : (rows : List AddressRow) (next : ℕ) → All (λ row. row.id < next) rows → AllByRecursion (λ (a : AddressName). a.id < next) (map name_of_address rows)
addresses_below rows next all = by rows (recursion_from_All (λ (row : AddressRow). row.id < next) rows all)
  where
    by : (rs : List AddressRow) → AllByRecursion (λ (row : AddressRow). row.id < next) rs → AllByRecursion (λ (a : AddressName). a.id < next) (map name_of_address rs)
    by [] below = tt
    by (row ∷ rs) below = (below.0, by rs below.1)

queues_below : (trees : Trees) (rows : List QueueRow) (next : ℕ) → All (λ row. row.id < next) rows → AllByRecursion (λ (q : QueueName). q.id < next) (map (name_of_queue trees) rows)
queues_below trees rows next all = by rows (recursion_from_All (λ (row : QueueRow). row.id < next) rows all)
  where
    by : (rs : List QueueRow) → AllByRecursion (λ (row : QueueRow). row.id < next) rs → AllByRecursion (λ (q : QueueName). q.id < next) (map (name_of_queue trees) rs)
    by [] below = tt
    by (row ∷ rs) below = (below.0, by rs below.1)

-- An address more, whose id is behind those of the others.
pub names_of_address : (trees : Trees) (addresses : List AddressRow) (queues : List QueueRow) (new : AddressRow) → All (λ row. row.id < new.id) addresses
    → with_address (name_of_address new) (names_of_rows trees addresses queues) ≡ names_of_rows trees (addresses ++ (new ∷ [])) queues
names_of_address trees addresses queues new below =
    ap (λ (l : List AddressName). record { addresses = l; queues = map (name_of_queue trees) queues })
    (behind (λ (a : AddressName). a.id) (name_of_address new) (map name_of_address addresses) (addresses_below addresses new.id below)
    ∙ sym (map-append name_of_address addresses (new ∷ [])))

pub names_of_queue : (trees : Trees) (addresses : List AddressName) (queues : List QueueRow) (new : QueueRow) → All (λ row. row.id < new.id) queues
    → with_queue (name_of_queue trees new) (record { addresses = addresses; queues = map (name_of_queue trees) queues }) ≡ record { addresses = addresses; queues = map (name_of_queue trees) (queues ++ (new ∷ [])) }
names_of_queue trees addresses queues new below =
    ap (λ (l : List QueueName). record { addresses = addresses; queues = l })
    (behind (λ (q : QueueName). q.id) (name_of_queue trees new) (map (name_of_queue trees) queues) (queues_below trees queues new.id below)
    ∙ sym (map-append (name_of_queue trees) queues (new ∷ [])))

numbered_below : (rows : List AddressRow) → AreNumbered rows → All (λ row. row.id < length rows + 1) rows
numbered_below rows numbered k d within = let at = numbered k d within in omega (arith, at)

pub names_address : (d : Durable) (new : AddressRow) (old names : RouteNames) → IsSound d → new.id ≡ length d.addresses + 1 → AreRoutesOf d.addresses d.queues old → names ≡ with_address (name_of_address new) old → AreRoutesOf (d.addresses ++ (new ∷ [])) d.queues names
names_address d new old names sound is routes named = record {
  trees = routes.trees;
  named = named ∙ ap (with_address (name_of_address new)) routes.named
      ∙ names_of_address routes.trees d.addresses d.queues new (subst (λ (n : ℕ). All (λ (row : AddressRow). row.id < n) d.addresses) (sym is) (numbered_below d.addresses sound.addresses.numbered));
  read = routes.read;
}

-- the trees with one more, for the queue with this id
abbrev pub with_tree : ℕ → Option Tree → Trees → Trees
with_tree id tree trees = λ other. cond (eqb other id) tree (trees other)

tree_here : (id : ℕ) (tree : Option Tree) (trees : Trees) → with_tree id tree trees id ≡ tree
tree_here id tree trees = cond-true (eqb id id) tree (trees id) (eq-eqb id id refl)

tree_elsewhere : (id other : ℕ) (tree : Option Tree) (trees : Trees) → other ≢ id → with_tree id tree trees other ≡ trees other
tree_elsewhere id other tree trees differ = cond-false (eqb other id) tree (trees other) (ne_eqb other id differ)

-- those with lower ids keep theirs
same_names : (id : ℕ) (tree : Option Tree) (trees : Trees) (rows : List QueueRow) → AllByRecursion (λ row. row.id < id) rows → map (name_of_queue trees) rows ≡ map (name_of_queue (with_tree id tree trees)) rows
same_names id tree trees [] below = refl
same_names id tree trees (row ∷ rows) below =
    ap₂ (λ (t : Option Tree) (l : List QueueName). record { id = row.id; address = row.address; name = row.name; filter = t } ∷ l)
    (sym (tree_elsewhere id row.id tree trees (λ same. let less = below.0 in omega (arith, same)))) (same_names id tree trees rows below.1)

still_read : (id : ℕ) (tree : Option Tree) (trees : Trees) (rows : List QueueRow) → All (λ row. row.id < id) rows → AreTreesOf trees rows → AreTreesOf (with_tree id tree trees) rows
still_read id tree trees rows below read = λ k d within.
    subst (λ (t : Option Tree). ReadsAs (get_or rows k d).filter t)
    (sym (tree_elsewhere id (get_or rows k d).id tree trees (λ same. let less = below k d within in omega (arith, same)))) (read k d within)

-- no queue is named
pub none_named : (names : RouteNames) → names.queues ≡ [] → AreNamed names.addresses [] names
none_named names none = record {
  trees = λ id. None;
  named = ap (λ (l : List QueueName). record { addresses = names.addresses; queues = l }) none;
  read = All-nil (λ (row : QueueRow). ReadsAs row.filter None);
}

-- A queue more, whose id is above those of the others.
pub names_more : (addresses : List AddressName) (queues : List QueueRow) (new : QueueRow) (tree : Option Tree) (old names : RouteNames) → All (λ row. row.id < new.id) queues → AreNamed addresses queues old → ReadsAs new.filter tree
    → names ≡ with_queue (record { id = new.id; address = new.address; name = new.name; filter = tree }) old → AreNamed addresses (queues ++ (new ∷ [])) names
names_more addresses queues new tree old names below routes reads named =
    let trees = with_tree new.id tree routes.trees in
    let here : tree ≡ trees new.id = sym (tree_here new.id tree routes.trees) in
    record {
      trees = trees;
      named = named ∙ ap₂ (λ (t : Option Tree) (r : RouteNames). with_queue (record { id = new.id; address = new.address; name = new.name; filter = t }) r) here
          (routes.named ∙ ap (λ (l : List QueueName). record { addresses = addresses; queues = l }) (same_names new.id tree routes.trees queues (recursion_from_All (λ (row : QueueRow). row.id < new.id) queues below)))
          ∙ names_of_queue trees addresses queues new below;
      read = All-push (λ (row : QueueRow). ReadsAs row.filter (trees row.id)) queues new (still_read new.id tree routes.trees queues below routes.read) (subst (λ (t : Option Tree). ReadsAs new.filter t) here reads);
    }

pub names_queue : (d : Durable) (new : QueueRow) (tree : Option Tree) (old names : RouteNames) → IsSound d → new.id ≡ d.next → AreRoutesOf d.addresses d.queues old → ReadsAs new.filter tree
    → names ≡ with_queue (record { id = new.id; address = new.address; name = new.name; filter = tree }) old → AreRoutesOf d.addresses (d.queues ++ (new ∷ [])) names
names_queue d new tree old names sound is routes reads named =
    names_more (map name_of_address d.addresses) d.queues new tree old names (subst (λ (n : ℕ). All (λ (row : QueueRow). row.id < n) d.queues) (sym is) sound.queues.below) routes reads named

-- a queue less
rows_left : (trees : Trees) (queue : ℕ) (rows : List QueueRow) → filter (λ (q : QueueName). not (eqb q.id queue)) (map (name_of_queue trees) rows) ≡ map (name_of_queue trees) (without_row queue rows)
rows_left trees queue [] = refl
rows_left trees queue (row ∷ rows) = by (eqb row.id queue) (rows_left trees queue rows)
  where
    by : (b : Bool) → filter (λ (q : QueueName). not (eqb q.id queue)) (map (name_of_queue trees) rows) ≡ map (name_of_queue trees) (without_row queue rows)
        → cond (not b) (name_of_queue trees row ∷ filter (λ (q : QueueName). not (eqb q.id queue)) (map (name_of_queue trees) rows)) (filter (λ (q : QueueName). not (eqb q.id queue)) (map (name_of_queue trees) rows))
        ≡ map (name_of_queue trees) (cond (not b) (row ∷ without_row queue rows) (without_row queue rows))
    by true others = others
    by false others = ap (λ (l : List QueueName). name_of_queue trees row ∷ l) others

pub names_left : (d : Durable) (queue : ℕ) (old names : RouteNames) → AreRoutesOf d.addresses d.queues old → names ≡ without_queue queue old → AreRoutesOf d.addresses (without_row queue d.queues) names
names_left d queue old names routes named = record {
  trees = routes.trees;
  named = named ∙ ap (without_queue queue) routes.named ∙ ap (λ (l : List QueueName). record { addresses = map name_of_address d.addresses; queues = l }) (rows_left routes.trees queue d.queues);
  read = All-filter (λ (row : QueueRow). not (eqb row.id queue)) (λ (row : QueueRow). ReadsAs row.filter (routes.trees row.id)) d.queues routes.read;
}

-- no address has the next id, and no queue the id that the next one gets
not_among : {X : Type 0} (id : X → ℕ) (n : ℕ) (xs : List X) → AllByRecursion (λ x. id x < n) xs → list_any (λ x. eqb (id x) n) xs ≡ false
not_among id n [] below = refl
not_among id n (x ∷ xs) below = or_from _ _ (ne_eqb (id x) n (λ same. let less = below.0 in omega arith)) (not_among id n xs below.1)

pub no_address_id : (d : Durable) (id : ℕ) (names : RouteNames) → IsSound d → id ≡ length d.addresses + 1 → AreRoutesOf d.addresses d.queues names → has_address id names ≡ false
no_address_id d id names sound is routes =
    ap (has_address id) routes.named
    ∙ not_among (λ (a : AddressName). a.id) id (map name_of_address d.addresses) (addresses_below d.addresses id (subst (λ (n : ℕ). All (λ (row : AddressRow). row.id < n) d.addresses) (sym is) (numbered_below d.addresses sound.addresses.numbered)))

pub no_queue_id : (d : Durable) (names : RouteNames) → IsSound d → AreRoutesOf d.addresses d.queues names → has_queue d.next names ≡ false
no_queue_id d names sound routes =
    ap (has_queue d.next) routes.named ∙ not_among (λ (q : QueueName). q.id) d.next (map (name_of_queue routes.trees) d.queues) (queues_below routes.trees d.queues d.next sound.queues.below)

-- ---- the names of rows, one after the other
no_name : {X : Type 0} (name_of : X → List ℕ) (name : List ℕ) (xs : List X) → AllByRecursion (λ x. name_of x ≢ name) xs → find (λ x. bytes_eq name (name_of x)) xs ≡ None
no_name name_of name [] differ = refl
no_name name_of name (x ∷ xs) differ =
    cond-false (bytes_eq name (name_of x)) (Some x) (find (λ y. bytes_eq name (name_of y)) xs) (other_text name (name_of x) differ.0) ∙ no_name name_of name xs differ.1
  where
    other_text : (a b : List ℕ) → b ≢ a → bytes_eq a b ≡ false
    other_text a b apart = false_from_ne_true (bytes_eq a b) (λ same. apart (sym ((bytes_decides a b).0 same)))

-- the names of these addresses, and of no queue
abbrev pub addresses_alone : List AddressRow → RouteNames
addresses_alone rows = record { addresses = map name_of_address rows; queues = [] }

-- those in front of a place have lower ids and other names than the one there
module _ (rows : List AddressRow) (i : ℕ) (row : AddressRow) (within : i < length rows) (at : row ≡ get_or rows i row) where
  lower_addresses : AreNumbered rows → All (λ x. x.id < row.id) (take i rows)
  lower_addresses numbered = λ k d less.
      let short = length-take-le i rows (omega arith) in
      let before : k < i = omega arith in
      let low = ap (λ (x : AddressRow). x.id) (get_or-take i rows k d before) in
      let lower = numbered k d (omega (arith, before, within)) in
      let id = ap (λ (x : AddressRow). x.id) at in
      let higher = numbered i row within in
      omega (arith, low, lower, id, higher, before)

  other_addresses : AllPairs (λ x other. x.name ≢ other.name) rows → All (λ x. x.name ≢ row.name) (take i rows)
  other_addresses differ = λ k d less.
      let short = length-take-le i rows (omega arith) in
      let before : k < i = omega arith in
      subst (λ (x : AddressRow). x.name ≢ row.name) (sym (get_or-take i rows k d before))
      (subst (λ (x : AddressRow). (get_or rows k d).name ≢ x.name) (get_or_default rows i d row within ∙ sym at) (differ k i d before within))

  module _ (names : RouteNames) (named : names ≡ addresses_alone (take i rows)) where
    pub new_address_id : AreNumbered rows → has_address row.id names ≡ false
    new_address_id numbered = ap (has_address row.id) named ∙ not_among (λ (a : AddressName). a.id) row.id (map name_of_address (take i rows)) (addresses_below (take i rows) row.id (lower_addresses numbered))

    pub new_address_name : AllPairs (λ x other. x.name ≢ other.name) rows → (name : List ℕ) → name ≡ row.name → address_named name names ≡ None
    new_address_name differ name same =
        ap₂ address_named same named
        ∙ ap (option_map (λ (a : AddressName). a.id)) (no_name (λ (a : AddressName). a.name) row.name (map name_of_address (take i rows)) (names_apart (take i rows) (recursion_from_All (λ (x : AddressRow). x.name ≢ row.name) (take i rows) (other_addresses differ))))
      where
        names_apart : (rs : List AddressRow) → AllByRecursion (λ (x : AddressRow). x.name ≢ row.name) rs → AllByRecursion (λ (a : AddressName). a.name ≢ row.name) (map name_of_address rs)
        names_apart [] apart = tt
        names_apart (r ∷ rs) apart = (apart.0, names_apart rs apart.1)

    pub more_address : AreNumbered rows → (after : RouteNames) (name : List ℕ) → name ≡ row.name → after ≡ with_address (record { id = row.id; name = name }) names → after ≡ addresses_alone (take (i + 1) rows)
    more_address numbered after name same is =
        is ∙ ap₂ (λ (n : List ℕ) (r : RouteNames). with_address (record { id = row.id; name = n }) r) same named
        ∙ names_of_address (λ id. None) (take i rows) [] row (lower_addresses numbered)
        ∙ ap addresses_alone (ap (λ (x : AddressRow). take i rows ++ (x ∷ [])) at ∙ sym (take_more rows i row within))

module _ (rows : List QueueRow) (i : ℕ) (row : QueueRow) (within : i < length rows) (at : row ≡ get_or rows i row) where
  pub lower_queues : AreAscending rows → All (λ x. x.id < row.id) (take i rows)
  lower_queues ascending = λ k d less.
      let short = length-take-le i rows (omega arith) in
      let before : k < i = omega arith in
      subst (λ (x : QueueRow). x.id < row.id) (sym (get_or-take i rows k d before))
      (subst (λ (x : QueueRow). (get_or rows k d).id < x.id) (get_or_default rows i d row within ∙ sym at) (ascending k i d before within))

  other_queues : AllPairs (λ x other. x.name ≢ other.name) rows → All (λ x. x.name ≢ row.name) (take i rows)
  other_queues differ = λ k d less.
      let short = length-take-le i rows (omega arith) in
      let before : k < i = omega arith in
      subst (λ (x : QueueRow). x.name ≢ row.name) (sym (get_or-take i rows k d before))
      (subst (λ (x : QueueRow). (get_or rows k d).name ≢ x.name) (get_or_default rows i d row within ∙ sym at) (differ k i d before within))

  module _ (addresses : List AddressName) (names : RouteNames) (routes : AreNamed addresses (take i rows) names) where
    pub new_queue_id : AreAscending rows → has_queue row.id names ≡ false
    new_queue_id ascending =
        ap (has_queue row.id) routes.named ∙ not_among (λ (q : QueueName). q.id) row.id (map (name_of_queue routes.trees) (take i rows)) (queues_below routes.trees (take i rows) row.id (lower_queues ascending))

    pub new_queue_name : AllPairs (λ x other. x.name ≢ other.name) rows → (name : List ℕ) → name ≡ row.name → queue_named name names ≡ None
    new_queue_name differ name same =
        ap₂ queue_named same routes.named
        ∙ ap (option_map (λ (q : QueueName). q.id)) (no_name (λ (q : QueueName). q.name) row.name (map (name_of_queue routes.trees) (take i rows)) (names_apart (take i rows) (recursion_from_All (λ (x : QueueRow). x.name ≢ row.name) (take i rows) (other_queues differ))))
      where
        names_apart : (rs : List QueueRow) → AllByRecursion (λ (x : QueueRow). x.name ≢ row.name) rs → AllByRecursion (λ (q : QueueName). q.name ≢ row.name) (map (name_of_queue routes.trees) rs)
        names_apart [] apart = tt
        names_apart (r ∷ rs) apart = (apart.0, names_apart rs apart.1)

    pub more_queue : AreAscending rows → (after : RouteNames) (name : List ℕ) (tree : Option Tree) → name ≡ row.name → ReadsAs row.filter tree
        → after ≡ with_queue (record { id = row.id; address = row.address; name = name; filter = tree }) names → AreNamed addresses (take (i + 1) rows) after
    more_queue ascending after name tree same reads is =
        subst (λ (l : List QueueRow). AreNamed addresses l after) (ap (λ (x : QueueRow). take i rows ++ (x ∷ [])) at ∙ sym (take_more rows i row within))
        (names_more addresses (take i rows) row tree names after (lower_queues ascending) routes reads
        (is ∙ ap (λ (n : List ℕ). with_queue (record { id = row.id; address = row.address; name = n; filter = tree }) names) same))
