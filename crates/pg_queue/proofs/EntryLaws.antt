-- What the calls make of a list of entries, and of the messages of those that are journaled.
use Rattle.std.proofs.Common.{◌≡◌, Bool, true, false, not, ◌&&◌, List, [], ◌∷◌, ◌++◌, refl, ap, ap₂, ◌∙◌, subst, inl, inr, arith}
use Rattle.std.proofs.lemmas.Grind.{common_steps}
use Rattle.std.specs.Prelude.{Option, Some, None, filter}
use Rattle.std.proofs.lemmas.Bool.{cases_Bool, and_parts}
use Rattle.pg_page.specs.declared.place.Place.{Place}
use Rattle.pg_msg.specs.declared.message.MessageId.{MessageId}
use Rattle.pg_flight.specs.Ids.{same_id}
use Rattle.pg_queue.specs.Entries.{Entry, added, entry_at, first_waiting, has_entry, is_journaled, is_same, is_taken, marked, same_place, without_entry}
use Rattle.pg_queue.specs.Rows.{AreThoseOf, journaled_ids, without_id}

-- ---- one more
pub ids_behind : (before : List Entry) (others : List Entry) (id : MessageId)
    → journaled_ids (filter is_journaled before ++ (entry_at id None ∷ filter (λ entry. not (is_journaled entry)) others)) ≡ journaled_ids before ++ id ∷ []
ids_behind [] [] id = refl
ids_behind [] (other ∷ others) id = grind (arith, common_steps, ids_behind [] others id)
ids_behind (entry ∷ before) others id = grind (arith, common_steps, ids_behind before others id)

pub those_added : (ids : List MessageId) (entries : List Entry) (id : MessageId) → AreThoseOf ids entries → AreThoseOf (ids ++ id ∷ []) (added (entry_at id None) entries)
those_added ids entries id are = ids_behind entries entries id ∙ ap (λ others. others ++ id ∷ []) are

-- ---- a mark
pub ids_of_marked : (taken : Bool) (entry : Entry) (entries : List Entry) → journaled_ids (marked taken entry entries) ≡ journaled_ids entries
ids_of_marked taken entry [] = refl
ids_of_marked taken entry (other ∷ entries) =
    elim (cases_Bool (is_same other entry)) [
      | inl same ↦ grind (arith, common_steps, same, ids_of_marked taken entry entries)
      | inr apart ↦ grind (arith, common_steps, apart, ids_of_marked taken entry entries)
    ]

pub those_marked : (ids : List MessageId) (entries : List Entry) (taken : Bool) (entry : Entry) → AreThoseOf ids entries → AreThoseOf ids (marked taken entry entries)
those_marked ids entries taken entry are = ids_of_marked taken entry entries ∙ are

-- ---- one less
pub ids_without : (id : MessageId) (entries : List Entry) → journaled_ids (without_entry (entry_at id None) entries) ≡ without_id id (journaled_ids entries)
ids_without id [] = refl
ids_without id (other ∷ entries) = at_place (ids_without id entries) other.place refl
  where
    at_place : journaled_ids (without_entry (entry_at id None) entries) ≡ without_id id (journaled_ids entries) → (place : Option Place) → other.place ≡ place
        → journaled_ids (without_entry (entry_at id None) (other ∷ entries)) ≡ without_id id (journaled_ids (other ∷ entries))
    at_place others None is = grind (arith, common_steps, is, others)
    at_place others (Some place) is = grind (arith, common_steps, is, others)

pub those_left : (ids : List MessageId) (entries : List Entry) (id : MessageId) → AreThoseOf ids entries → AreThoseOf (without_id id ids) (without_entry (entry_at id None) entries)
those_left ids entries id are = ids_without id entries ∙ ap (without_id id) are

-- ---- which entries are marked
pub places_equal : (a b : Option Place) → same_place a b ≡ true → a ≡ b
places_equal None None same = refl
places_equal None (Some b) same = grind (arith, common_steps, same)
places_equal (Some a) None same = grind (arith, common_steps, same)
places_equal (Some a) (Some b) same = grind (arith, common_steps, same)

pub same_as_itself : (entry : Entry) → is_same entry entry ≡ true
same_as_itself entry = at_place entry.place refl
  where
    at_place : (place : Option Place) → entry.place ≡ place → is_same entry entry ≡ true
    at_place None is = grind (arith, common_steps, is)
    at_place (Some place) is = grind (arith, common_steps, is)

-- what is the same as one entry is the same as another exactly where these two are
pub same_through : (x entry other : Entry) → is_same x entry ≡ true → is_same x other ≡ is_same entry other
same_through x entry other same =
    let parts = and_parts (same_id x.id entry.id) (same_place x.place entry.place) same in
    let ids : x.id ≡ entry.id = grind (arith, common_steps, parts.0) in
    ap₂ (λ id place. same_id id other.id && same_place place other.place) ids (places_equal x.place entry.place parts.1)

pub marked_itself : (entries : List Entry) (entry : Entry) → is_taken (marked true entry entries) entry ≡ has_entry entries entry
marked_itself [] entry = refl
marked_itself (other ∷ entries) entry =
    elim (cases_Bool (is_same other entry)) [
      | inl same ↦ grind (arith, common_steps, same, marked_itself entries entry)
      | inr apart ↦ grind (arith, common_steps, apart, marked_itself entries entry)
    ]

pub marked_others : (entries : List Entry) (taken : Bool) (entry other : Entry) → is_same entry other ≡ false → is_taken (marked taken entry entries) other ≡ is_taken entries other
marked_others [] taken entry other differ = refl
marked_others (x ∷ entries) taken entry other differ =
    elim (cases_Bool (is_same x entry)) [
      | inl same ↦
          let no : is_same x other ≡ false = same_through x entry other same ∙ differ in
          grind (arith, common_steps, same, no, marked_others entries taken entry other differ)
      | inr apart ↦ grind (arith, common_steps, apart, marked_others entries taken entry other differ)
    ]

pub first_is_there : (entries : List Entry) (entry : Entry) → first_waiting entries ≡ Some entry → has_entry entries entry ≡ true
first_is_there [] entry is = grind (arith, common_steps, is)
first_is_there (other ∷ entries) entry is =
    elim (cases_Bool other.taken) [
      | inl taken ↦ let later : first_waiting entries ≡ Some entry = grind (arith, common_steps, taken, is) in
          grind (arith, common_steps, first_is_there entries entry later)
      | inr waits ↦ let same : other ≡ entry = grind (arith, common_steps, waits, is) in
          let it : is_same other entry ≡ true = subst (λ e. is_same other e ≡ true) same (same_as_itself other) in
          grind (arith, common_steps, it)
    ]
