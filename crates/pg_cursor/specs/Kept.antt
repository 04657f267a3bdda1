-- How places are kept: by page and index.
use Rattle.std.specs.Prelude.{ℕ, List, map}
use Rattle.std.specs.BTreeMap.{BTreeMap}
use Rattle.std.specs.declared.cmp.Ordering.{Ordering}
use Rattle.std.specs.Ordering.{nat_cmp, ordering_then}
use Rattle.pg_page.specs.declared.place.Place.{Place}

abbrev pub Key : Type 0
Key = ℕ × ℕ

abbrev pub key_cmp : Key → Key → Ordering
key_cmp a b = ordering_then (nat_cmp a.0 b.0) (nat_cmp a.1 b.1)

abbrev pub place_of : Key × ℕ → Place
place_of entry = record { position = record { page = entry.0.0; index = entry.0.1 }; offset = entry.1 }

abbrev pub seen : BTreeMap Key ℕ → List Place
seen places = map place_of places.entries
