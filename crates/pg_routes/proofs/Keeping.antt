-- What is kept of the routes, as addresses and queues come and go.
use Rattle.std.proofs.Common.{◌≡◌, ◌==◌, ℕ, ◌⊎◌, true, false, not, if◌then◌else◌, List, map, refl, sym, ap, subst, ◌∙◌, inl, inr, arith, [], ◌∷◌}
use Rattle.std.proofs.lemmas.Grind.{common_steps}
use Rattle.std.proofs.lemmas.Bool.{cases_Bool, cases_eq}
use Rattle.std.proofs.lemmas.Bool.Decides.{nat_tests}
use Rattle.std.proofs.lemmas.Map.Text.{hash_map_updates_text}
use Rattle.std.proofs.lemmas.Slice.Eq.{bytes_eq-Decides}
use Rattle.std.specs.Prelude.{Some, None, String, string_bytes}
use Rattle.std.specs.List.{list_any}
use Rattle.std.specs.List.Sorted.{IsStrictlySortedBy}
use Rattle.std.specs.Map.{keys_of, lookup, remove_entry}
use Rattle.std.specs.Ordering.{nat_cmp}
use Rattle.std.specs.Str.{bytes_eq}
use Rattle.std.specs.String.{string_eq}
use Rattle.std.specs.declared.alloc.Global.{Global}
use Rattle.std.specs.HashMap as hash
use Rattle.std.specs.BTreeMap.{BTreeMap, get, IsOrdered, Updates, insert_entry, is_at}
use Rattle.indexmap.specs.IndexMap.{get_by_text}
use Rattle.pg_routes.specs.declared.routes.QueueEntry.{QueueEntry}
use Rattle.pg_routes.specs.Kept.{AreKept, Addresses, Ids, Queues, address_of, queue_of, seen}
use Rattle.pg_routes.specs.Lists.{Lists, ids_at, with_id, without_id}
use Rattle.pg_routes.specs.Names.{AreAscending, address_named, has_queue, ids_naming, queue_named}
use Rattle.pg_routes.proofs.Listing.{absent_named, named_ascend, naming_filter, naming_placed, not_named, queue_absent, queue_placed}
use Rattle.pg_routes.proofs.Naming.{LeadsTo, address_name, address_seen, new_name, queue_name, queue_seen}
use Rattle.pg_routes.proofs.Placing.{none_without, put_and_taken}
use Rattle.pg_routes.proofs.Rows.{map_filter, row_left}

-- ---- ids by names
pub told_name : (ids more : Ids) (key : String Global) (name : List ℕ) (id : ℕ) → string_bytes key ≡ name → hash.Updates string_eq ids more key (Some id)
    → (other : List ℕ) → get_by_text more other ≡ (if bytes_eq name other then Some id else get_by_text ids other)
told_name ids more key name id is updates other =
    subst (λ n. get_by_text more other ≡ (if bytes_eq n other then Some id else get_by_text ids other)) is (hash_map_updates_text (string_bytes key) ids more (Some id) updates other)

pub name_told : (ids more : Ids) (key : String Global) (name : List ℕ) (id : ℕ) → string_bytes key ≡ name → hash.Updates string_eq ids more key (Some id) → get_by_text more name ≡ Some id
name_told ids more key name id is updates =
    let itself : bytes_eq name name ≡ true = (bytes_eq-Decides name name).1 refl in
    grind (arith, common_steps, told_name ids more key name id is updates name, itself)

pub leads_on : {X : Type 0} (name_of : X → List ℕ) (ids more : Ids) (rows : BTreeMap ℕ X) (key : String Global) (name : List ℕ) (id : ℕ) → string_bytes key ≡ name
    → hash.Updates string_eq ids more key (Some id) → ((other : ℕ) (row : X) → get nat_cmp rows other ≡ Some row → bytes_eq name (name_of row) ≡ false)
    → LeadsTo name_of ids rows → LeadsTo name_of more rows
leads_on name_of ids more rows key name id is updates new leads =
    λ other row at. grind (arith, common_steps, told_name ids more key name id is updates (name_of row), new other row at, leads other row at)

pub leads_with : {X : Type 0} (name_of : X → List ℕ) (ids : Ids) (rows more : BTreeMap ℕ X) (id : ℕ) (row : X) → get_by_text ids (name_of row) ≡ Some id
    → Updates nat_cmp rows more id (Some row) → LeadsTo name_of ids rows → LeadsTo name_of ids more
leads_with name_of ids rows more id row its updates leads = λ other found at. by other found at (cases_eq id other)
  where
    by : (other : ℕ) (found : _) → get nat_cmp more other ≡ Some found → (id ≡ other) ⊎ (id ≡ other → ⊥) → get_by_text ids (name_of found) ≡ Some other
    by other found at (inl same) = grind (arith, common_steps, same, at, updates.0 other, its)
    by other found at (inr apart) = leads other found (grind (arith, common_steps, apart, at, updates.0 other))

-- ---- an address more
pub kept_told : (addresses : Addresses) (queues : Queues) (address_ids more queue_ids : Ids) (lists : Lists) (key : String Global) (name : List ℕ) (id : ℕ)
    → AreKept addresses queues address_ids queue_ids lists → address_named name (seen addresses queues) ≡ None → string_bytes key ≡ name
    → hash.Updates string_eq address_ids more key (Some id) → AreKept addresses queues more queue_ids lists
kept_told addresses queues address_ids more queue_ids lists key name id kept none is updates =
    record {
      addresses_ordered = kept.addresses_ordered;
      queues_ordered = kept.queues_ordered;
      addresses_found = leads_on address_name address_ids more addresses key name id is updates (new_name address_name name addresses.entries (address_seen name addresses.entries ∙ none)) kept.addresses_found;
      queues_found = kept.queues_found;
      listed = kept.listed;
    }

pub kept_address : (addresses with : Addresses) (queues : Queues) (address_ids queue_ids : Ids) (lists : Lists) (name : List ℕ) (id : ℕ)
    → AreKept addresses queues address_ids queue_ids lists → get_by_text address_ids name ≡ Some id → Updates nat_cmp addresses with id (Some name) → IsOrdered nat_cmp with
    → AreKept with queues address_ids queue_ids lists
kept_address addresses with queues address_ids queue_ids lists name id kept its updates ordered =
    record {
      addresses_ordered = ordered;
      queues_ordered = kept.queues_ordered;
      addresses_found = leads_with address_name address_ids addresses with id name its updates kept.addresses_found;
      queues_found = kept.queues_found;
      listed = kept.listed;
    }

-- the same rows, in another map
pub kept_same : (addresses again : Addresses) (queues : Queues) (address_ids queue_ids : Ids) (lists : Lists) → AreKept addresses queues address_ids queue_ids lists
    → again.entries ≡ addresses.entries → AreKept again queues address_ids queue_ids lists
kept_same addresses again queues address_ids queue_ids lists kept same =
    record {
      addresses_ordered = subst (λ (es : List (ℕ × List ℕ)). IsStrictlySortedBy nat_cmp (keys_of es)) (sym same) kept.addresses_ordered;
      queues_ordered = kept.queues_ordered;
      addresses_found = λ id name at. kept.addresses_found id name (ap (lookup (is_at (nat_cmp id))) (sym same) ∙ at);
      queues_found = kept.queues_found;
      listed = kept.listed;
    }

-- ---- a queue more
pub kept_queue_told : (addresses : Addresses) (queues : Queues) (address_ids queue_ids more : Ids) (lists again : Lists) (key : String Global) (name : List ℕ) (id : ℕ)
    → AreKept addresses queues address_ids queue_ids lists → queue_named name (seen addresses queues) ≡ None → string_bytes key ≡ name
    → hash.Updates string_eq queue_ids more key (Some id) → ((address : ℕ) → ids_at again address ≡ ids_at lists address) → AreKept addresses queues address_ids more again
kept_queue_told addresses queues address_ids queue_ids more lists again key name id kept none is updates same =
    record {
      addresses_ordered = kept.addresses_ordered;
      queues_ordered = kept.queues_ordered;
      addresses_found = kept.addresses_found;
      queues_found = leads_on queue_name queue_ids more queues key name id is updates (new_name queue_name name queues.entries (queue_seen name queues.entries ∙ none)) kept.queues_found;
      listed = λ address. same address ∙ kept.listed address;
    }

pub listed_ascend : (addresses : Addresses) (queues : Queues) (address_ids queue_ids : Ids) (lists : Lists) (address : ℕ) → AreKept addresses queues address_ids queue_ids lists
    → IsStrictlySortedBy nat_cmp (ids_at lists address)
listed_ascend addresses queues address_ids queue_ids lists address kept =
    subst (IsStrictlySortedBy nat_cmp) (sym (kept.listed address)) (named_ascend address queues.entries kept.queues_ordered)

pub not_listed : (addresses : Addresses) (queues : Queues) (address_ids queue_ids : Ids) (lists : Lists) (id address : ℕ) → AreKept addresses queues address_ids queue_ids lists
    → has_queue id (seen addresses queues) ≡ false → list_any (λ other. other == id) (ids_at lists address) ≡ false
not_listed addresses queues address_ids queue_ids lists id address kept new =
    subst (λ ids. list_any (λ other. other == id) ids ≡ false) (sym (kept.listed address)) (absent_named id address (map queue_of queues.entries) new)

pub kept_queue : (addresses : Addresses) (queues with : Queues) (address_ids queue_ids : Ids) (lists more : Lists) (queue : QueueEntry) (id : ℕ)
    → AreKept addresses queues address_ids queue_ids lists → has_queue id (seen addresses queues) ≡ false → get_by_text queue_ids queue.name ≡ Some id
    → Updates nat_cmp queues with id (Some queue) → IsOrdered nat_cmp with → with.entries ≡ insert_entry nat_cmp queues.entries id queue
    → ((other : ℕ) → ids_at more other ≡ (if other == queue.address then with_id id (ids_at lists other) else ids_at lists other))
    → AreKept addresses with address_ids queue_ids more
kept_queue addresses queues with address_ids queue_ids lists more queue id kept new its updates ordered entries put =
    record {
      addresses_ordered = kept.addresses_ordered;
      queues_ordered = ordered;
      addresses_found = kept.addresses_found;
      queues_found = leads_with queue_name queue_ids queues with id queue its updates kept.queues_found;
      listed = λ address. at address;
    }
  where
    at : (address : ℕ) → ids_at more address ≡ ids_naming address (map queue_of with.entries)
    at address =
        let rows = map queue_of queues.entries in
        let sorted = named_ascend address queues.entries kept.queues_ordered in
        let absent = absent_named id address rows new in
        put address
        ∙ ap (λ (ids : List ℕ). if address == queue.address then with_id id ids else ids) (kept.listed address)
        ∙ sym (naming_placed address (queue_of (id, queue)) rows sorted absent)
        ∙ ap (ids_naming address) (sym (queue_placed id queue queues.entries kept.queues_ordered (queue_absent id queues.entries new)))
        ∙ ap (λ (es : List (ℕ × QueueEntry)). ids_naming address (map queue_of es)) (sym entries)

-- the id that was put in is taken out again, and the rows are those of before
pub kept_again : (addresses : Addresses) (queues again : Queues) (address_ids queue_ids : Ids) (lists more less : Lists) (id at : ℕ)
    → AreKept addresses queues address_ids queue_ids lists → has_queue id (seen addresses queues) ≡ false → again.entries ≡ queues.entries
    → ((other : ℕ) → ids_at more other ≡ (if other == at then with_id id (ids_at lists other) else ids_at lists other))
    → ((other : ℕ) → ids_at less other ≡ (if other == at then without_id id (ids_at more other) else ids_at more other))
    → AreKept addresses again address_ids queue_ids less
kept_again addresses queues again address_ids queue_ids lists more less id at kept new same put taken =
    record {
      addresses_ordered = kept.addresses_ordered;
      queues_ordered = subst (λ (es : List (ℕ × QueueEntry)). IsStrictlySortedBy nat_cmp (keys_of es)) (sym same) kept.queues_ordered;
      addresses_found = kept.addresses_found;
      queues_found = λ other queue found. kept.queues_found other queue (ap (lookup (is_at (nat_cmp other))) (sym same) ∙ found);
      listed = λ address. undone address (cases_Bool (address == at)) ∙ kept.listed address ∙ ap (λ (es : List (ℕ × QueueEntry)). ids_naming address (map queue_of es)) (sym same);
    }
  where
    undone : (address : ℕ) → (address == at ≡ true) ⊎ (address == at ≡ false) → ids_at less address ≡ ids_at lists address
    undone address (inl here) =
        let ascending = listed_ascend addresses queues address_ids queue_ids lists address kept in
        let absent = not_listed addresses queues address_ids queue_ids lists id address kept new in
        grind (arith, common_steps, here, taken address, put address, put_and_taken id (ids_at lists address) ascending absent)
    undone address (inr other) = grind (arith, common_steps, other, taken address, put address)

-- ---- a queue less
pub kept_less : (addresses : Addresses) (queues less : Queues) (address_ids queue_ids fewer : Ids) (lists left : Lists) (queue : QueueEntry) (id : ℕ)
    → AreKept addresses queues address_ids queue_ids lists → get nat_cmp queues id ≡ Some queue
    → hash.UpdatesBy string_eq (λ key. bytes_eq queue.name (string_bytes key)) queue_ids fewer None
    → Updates nat_cmp queues less id None → IsOrdered nat_cmp less → less.entries ≡ remove_entry (is_at (nat_cmp id)) queues.entries
    → ((other : ℕ) → ids_at left other ≡ (if other == queue.address then without_id id (ids_at lists other) else ids_at lists other))
    → AreKept addresses less address_ids fewer left
kept_less addresses queues less address_ids queue_ids fewer lists left queue id kept its gone updates ordered entries taken =
    record {
      addresses_ordered = kept.addresses_ordered;
      queues_ordered = ordered;
      addresses_found = kept.addresses_found;
      queues_found = λ other found at. still other found at (cases_eq id other);
      listed = λ address. rest address (cases_eq address queue.address) ∙ sym (named address);
    }
  where
    still : (other : ℕ) (found : QueueEntry) → get nat_cmp less other ≡ Some found → (id ≡ other) ⊎ (id ≡ other → ⊥) → get_by_text fewer found.name ≡ Some other
    still other found at (inl same) = absurd (grind (arith, common_steps, same, at, updates.0 other))
    still other found at (inr apart) = by (cases_Bool (bytes_eq queue.name found.name))
      where
        before : get nat_cmp queues other ≡ Some found
        before = grind (arith, common_steps, apart, at, updates.0 other)

        told : get_by_text fewer found.name ≡ (if bytes_eq queue.name found.name then None else get_by_text queue_ids found.name)
        told = hash_map_updates_text queue.name queue_ids fewer None gone found.name

        by : (bytes_eq queue.name found.name ≡ true) ⊎ (bytes_eq queue.name found.name ≡ false) → get_by_text fewer found.name ≡ Some other
        by (inl equal) =
            let is : queue.name ≡ found.name = (bytes_eq-Decides queue.name found.name).0 equal in
            let one : get_by_text queue_ids found.name ≡ Some id = subst (λ n. get_by_text queue_ids n ≡ Some id) is (kept.queues_found id queue its) in
            absurd (grind (arith, common_steps, one, kept.queues_found other found before, apart))
        by (inr differs) = grind (arith, common_steps, differs, told, kept.queues_found other found before)

    named : (address : ℕ) → ids_naming address (map queue_of less.entries) ≡ without_id id (ids_naming address (map queue_of queues.entries))
    named address =
        ap (λ (es : List (ℕ × QueueEntry)). ids_naming address (map queue_of es)) (entries ∙ row_left id queues.entries kept.queues_ordered)
        ∙ ap (ids_naming address) (map_filter queue_of (λ other. not (other.id == id)) queues.entries)
        ∙ naming_filter (λ other. not (other == id)) address (map queue_of queues.entries)

    rest : (address : ℕ) → (address ≡ queue.address) ⊎ (address ≡ queue.address → ⊥) → ids_at left address ≡ without_id id (ids_naming address (map queue_of queues.entries))
    rest address (inl here) = grind (arith, common_steps, nat_tests, here, taken address, kept.listed address)
    rest address (inr other) =
        let absent = not_named id address queue queues.entries kept.queues_ordered its other in
        grind (arith, common_steps, nat_tests, other, taken address, kept.listed address, none_without id (ids_naming address (map queue_of queues.entries)) absent)

-- ---- the order of what is seen
address_ids_seen : (es : List (ℕ × List ℕ)) → keys_of es ≡ map (λ address. address.id) (map address_of es)
address_ids_seen [] = refl
address_ids_seen (e ∷ es) = ap (λ (ids : List ℕ). e.0 ∷ ids) (address_ids_seen es)

queue_ids_seen : (es : List (ℕ × QueueEntry)) → keys_of es ≡ map (λ queue. queue.id) (map queue_of es)
queue_ids_seen [] = refl
queue_ids_seen (e ∷ es) = ap (λ (ids : List ℕ). e.0 ∷ ids) (queue_ids_seen es)

pub all_ascend : (addresses : Addresses) (queues : Queues) (address_ids queue_ids : Ids) (lists : Lists) → AreKept addresses queues address_ids queue_ids lists → AreAscending (seen addresses queues)
all_ascend addresses queues address_ids queue_ids lists kept =
    record {
      addresses = subst (IsStrictlySortedBy nat_cmp) (address_ids_seen addresses.entries) kept.addresses_ordered;
      queues = subst (IsStrictlySortedBy nat_cmp) (queue_ids_seen queues.entries) kept.queues_ordered;
    }
