-- Places in the order of their positions, and where a cursor stands among them.
use Rattle.std.specs.Prelude.{◌≡◌, ◌⊎◌, ◌<◌, ◌≤◌, ◌+◌, ◌==◌, ◌&&◌, ℕ, Bool, List, [], ◌∷◌, Option, Some, None, IsSome}
use Rattle.std.specs.Prelude.{if◌then◌else◌}
use Rattle.pg_acks.specs.declared.position.Position.{Position}
use Rattle.pg_page.specs.declared.place.Place.{Place}
use Rattle.pg_cursor.specs.declared.tail.Tail.{Tail}
use Rattle.pg_cursor.specs.declared.tail.Tail.TheVariants.{Begin, Behind}

abbrev pub is_same : Position → Position → Bool
is_same a b = (b.page == a.page) && (b.index == a.index)

-- The offset of the place at the position, if one is among these. Of the places 3:0 at 9 and 3:2 at 71, the position 3:2
-- has 71, and 3:1 has none.
abbrev pub offset_at : List Place → Position → Option ℕ
offset_at [] position = None
offset_at (place ∷ places) position =
    if is_same position place.position then Some place.offset else offset_at places position

-- the place is among these
abbrev pub HasPlace : List Place → Place → Type 0
HasPlace places place = offset_at places place.position ≡ Some place.offset

-- by page, and then by index: 3:7 is before 4:0, and that before 4:1
abbrev pub IsBefore : Position → Position → Type 0
IsBefore a b = (a.page < b.page) ⊎ ((a.page ≡ b.page) × (a.index < b.index))

-- The page that a tail stands on, and how many frames of it are passed. Behind the place 3:1 these are 3 and 2.
abbrev pub page_of : Tail → ℕ
page_of (Begin page) = page
page_of (Behind place) = place.position.page

abbrev pub passed_of : Tail → ℕ
passed_of (Begin page) = 0
passed_of (Behind place) = place.position.index + 1

-- The tail has passed the position. Behind 3:1 it has passed 2:9, 3:0 and 3:1, and neither 3:2 nor 4:0.
abbrev pub IsPassed : Tail → Position → Type 0
IsPassed tail position =
    (position.page < page_of tail) ⊎ ((position.page ≡ page_of tail) × (position.index < passed_of tail))

-- The new tail has passed what the old one has: it stands on a later page, or on the page with no fewer frames passed.
abbrev pub IsNoEarlier : Tail → Tail → Type 0
IsNoEarlier old new = (page_of old < page_of new) ⊎ ((page_of old ≡ page_of new) × (passed_of old ≤ passed_of new))

-- a place at this position, or none, and at each other position what was there
abbrev pub ChangesAt : Position → Option ℕ → List Place → List Place → Type 0
ChangesAt position offset old new =
    (other : Position) → offset_at new other ≡ (if is_same position other then offset else offset_at old other)

-- the place was there, and no other position with a place is before it
abbrev pub IsFirstOf : List Place → Place → Type 0
IsFirstOf places place = HasPlace places place
    × ((other : Position) → IsSome (offset_at places other) → IsBefore other place.position → ⊥)
