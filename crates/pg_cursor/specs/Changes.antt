-- The pages of an address change, and a cursor goes on tracking its queue.
use Rattle.std.specs.Prelude.{ℕ, List, [], ◌∷◌, ◌++◌}
use Rattle.pg_acks.specs.declared.position.Position.{Position}
use Rattle.pg_page.specs.Pages.{AllEntriesFit, Entry, HasEntries, Pages}

-- From this page on the pages have what they had, and this payload behind all of it, at this position. The length of
-- each payload has a spelling of eight bytes, as that of each one that spells a frame has.
pub record IsAppended (first : ℕ) (position : Position) (payload : List ℕ) (old new : Pages) : Type 0 where
  pub entries : List Entry
  pub was : HasEntries first entries old
  pub is : HasEntries first (entries ++ (position, payload) ∷ []) new
  pub fit : AllEntriesFit (entries ++ (position, payload) ∷ [])
