-- What the holders that are kept hold, by their names.
use Rattle.std.proofs.Common.{◌≡◌, ℕ, true, false, List, [], ◌∷◌, refl, sym, ap, ◌∙◌, inl, inr, arith, subst}
use Rattle.std.proofs.lemmas.Grind.{common_steps}
use Rattle.std.specs.Prelude.{Option, String, map, cond, ◌⊎◌}
use Rattle.std.specs.Option.{unwrap_or}
use Rattle.std.specs.Str.{bytes_eq}
use Rattle.std.specs.String.{string_bytes, string_cmp}
use Rattle.std.specs.Ordering.{nat_cmp}
use Rattle.std.specs.Cmp.Lexicographic.{slice_cmp}
use Rattle.std.specs.Map.{lookup, update}
use Rattle.std.specs.BTreeMap.{UpdatesBy, get_by_text, is_at}
use Rattle.std.specs.declared.alloc.Global.{Global}
use Rattle.std.proofs.lemmas.Bool.{cases_Bool}
use Rattle.std.proofs.lemmas.Slice.Eq.{bytes_eq-Decides}
use Rattle.std.proofs.lemmas.Map.Text.{btree_map_updates_text, is_eq-slice_cmp, text_cmp}
use Rattle.pg_flight.specs.declared.delivery.Delivery.{Delivery}
use Rattle.pg_flight.specs.Flights.{ChangesAt, Holder, Kept, deliveries_of, seen}

abbrev pub holder_of : String Global × List Delivery → Holder
holder_of entry = record { consumer = string_bytes entry.0; deliveries = entry.1 }

pub seen_entries : (consumer : List ℕ) (entries : List (String Global × List Delivery))
    → deliveries_of (map holder_of entries) consumer ≡ unwrap_or (lookup (is_at (text_cmp consumer)) entries) []
seen_entries consumer [] = refl
seen_entries consumer (entry ∷ entries) = grind (arith, common_steps, is_eq-slice_cmp consumer (string_bytes entry.0), seen_entries consumer entries)

-- what is seen of a consumer is what is kept for it
pub seen_at : (kept : Kept) (consumer : List ℕ) → deliveries_of (seen kept) consumer ≡ unwrap_or (get_by_text kept consumer) []
seen_at kept consumer = seen_entries consumer kept.entries

-- the same where the list that is seen has a name of its own
pub held : (kept : Kept) (flights : List Holder) (consumer name : List ℕ) (own : Option (List Delivery)) → seen kept ≡ flights → name ≡ consumer → own ≡ get_by_text kept name
    → deliveries_of flights consumer ≡ unwrap_or own []
held kept flights consumer name own seen_is same found =
    ap (λ holders. deliveries_of holders consumer) (sym seen_is) ∙ seen_at kept consumer ∙ ap (λ o. unwrap_or o []) (ap (get_by_text kept) (sym same) ∙ sym found)

-- where one consumer's deliveries are changed, those of the others stay
pub changed : (old new : Kept) (flights : List Holder) (consumer name : List ℕ) (own : Option (List Delivery)) (change : List Delivery → List Delivery) → seen old ≡ flights → name ≡ consumer
    → UpdatesBy string_cmp (λ key. slice_cmp nat_cmp name (string_bytes key)) old new own → unwrap_or own [] ≡ change (deliveries_of flights consumer)
    → ChangesAt consumer change flights (seen new)
changed old new flights consumer name own change seen_is same updates is other = seen_at new other ∙ at_other (cases_Bool (bytes_eq consumer other))
  where
    after : get_by_text new other ≡ update bytes_eq (get_by_text old) consumer own other
    after = subst (λ bytes. get_by_text new other ≡ update bytes_eq (get_by_text old) bytes own other) same (btree_map_updates_text name old new own updates other)

    before : deliveries_of flights other ≡ unwrap_or (get_by_text old other) []
    before = held old flights other other (get_by_text old other) seen_is refl refl

    at_other : (bytes_eq consumer other ≡ true) ⊎ (bytes_eq consumer other ≡ false)
        → unwrap_or (get_by_text new other) [] ≡ cond (bytes_eq consumer other) (change (deliveries_of flights other)) (deliveries_of flights other)
    at_other (inl y) =
        let equal : consumer ≡ other = (bytes_eq-Decides consumer other).0 y in
        let its : unwrap_or own [] ≡ change (deliveries_of flights other) = subst (λ bytes. unwrap_or own [] ≡ change (deliveries_of flights bytes)) equal is in
        grind (arith, common_steps, y, after, its)
    at_other (inr n) = grind (arith, common_steps, n, after, before)

-- where nothing is kept for the consumer, nothing changes
pub unchanged : (flights : List Holder) (consumer : List ℕ) (change : List Delivery → List Delivery) → deliveries_of flights consumer ≡ [] → change [] ≡ []
    → ChangesAt consumer change flights flights
unchanged flights consumer change none empty other = at_other (cases_Bool (bytes_eq consumer other))
  where
    at_other : (bytes_eq consumer other ≡ true) ⊎ (bytes_eq consumer other ≡ false)
        → deliveries_of flights other ≡ cond (bytes_eq consumer other) (change (deliveries_of flights other)) (deliveries_of flights other)
    at_other (inl y) =
        let equal : consumer ≡ other = (bytes_eq-Decides consumer other).0 y in
        let here : deliveries_of flights other ≡ [] = subst (λ bytes. deliveries_of flights bytes ≡ []) equal none in
        grind (arith, common_steps, y, here, empty, ap change here)
    at_other (inr n) = grind (arith, common_steps, n)
