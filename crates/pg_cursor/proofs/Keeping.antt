-- Places by their keys.
use Rattle.std.proofs.Common.{◌≡◌, ◌==◌, ◌&&◌, ℕ, false, List, [], ◌∷◌, map, Option, Some, IsSome, refl, sym, ◌∙◌, ap, subst, inl, inr, arith}
use Rattle.std.proofs.lemmas.Grind.{common_steps}
use Rattle.std.specs.Map.{lookup}
use Rattle.std.specs.Ordering.{is_gt}
use Rattle.std.specs.BTreeMap.{BTreeMap, get, is_at, IsLowerBound, Updates}
use Rattle.pg_acks.specs.declared.position.Position.{Position}
use Rattle.pg_page.specs.declared.place.Place.{Place}
use Rattle.pg_cursor.specs.Kept.{Key, key_cmp, place_of, seen}
use Rattle.pg_cursor.specs.Places.{ChangesAt, IsBefore, IsFirstOf, is_same, offset_at}

abbrev pub key_of : Position → Key
key_of position = (position.page, position.index)

pub finds_key : (a b : Key) → is_at (key_cmp a) b ≡ ((b.0 == a.0) && (b.1 == a.1))
finds_key a b = grind (arith, common_steps)

-- the list tells of each position what the map does
pub found : (position : Position) (entries : List (Key × ℕ)) → offset_at (map place_of entries) position ≡ lookup (is_at (key_cmp (key_of position))) entries
found position [] = refl
found position (entry ∷ entries) = grind (arith, common_steps, finds_key (key_of position) entry.0, found position entries)

pub changes : (old new : BTreeMap Key ℕ) (seen_old : List Place) (key : Key) (position : Position) (offset : Option ℕ) → seen old ≡ seen_old → key ≡ key_of position → Updates key_cmp old new key offset
    → ChangesAt position offset seen_old (seen new)
changes old new seen_old key position offset view is updates other =
    let was : offset_at seen_old other ≡ get key_cmp old (key_of other) = ap (λ (l : List Place). offset_at l other) (sym view) ∙ found other old.entries in
    let at : is_at (key_cmp key) (key_of other) ≡ is_same position other = ap (λ (k : Key). is_at (key_cmp k) (key_of other)) is ∙ finds_key (key_of position) (key_of other) in
    found other new.entries ∙ updates.0 (key_of other) ∙ grind (arith, common_steps, was, at)

not_before : (a b : Position) → is_gt (key_cmp (key_of a) (key_of b)) ≡ false → IsBefore b a → ⊥
not_before a b least (inl before) = grind (arith, common_steps, least, before)
not_before a b least (inr before) = grind (arith, common_steps, least, before.0, before.1)

pub first_is : (old : BTreeMap Key ℕ) (seen_old : List Place) (position : Position) (offset : ℕ) → seen old ≡ seen_old → get key_cmp old (key_of position) ≡ Some offset → IsLowerBound key_cmp old (key_of position)
    → IsFirstOf seen_old (record { position = position; offset = offset })
first_is old seen_old position offset view value least =
    subst (λ (l : List Place). IsFirstOf l (record { position = position; offset = offset })) view (
      found position old.entries ∙ value,
      λ other some before. not_before position other (least (key_of other) (subst IsSome (found other old.entries) some)) before,
    )
