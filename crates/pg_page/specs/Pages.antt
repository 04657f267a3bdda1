-- The pages of an address, and the frames in them by their positions.
use Rattle.std.specs.Prelude.{◌≡◌, ◌<◌, ◌≤◌, ◌+◌, ◌^◌, ℕ, List, [], ◌∷◌, ◌++◌, length, All, Option, None}
use Rattle.pg_acks.specs.declared.position.Position.{Position}
pub use Rattle.pg_acks.specs.Acked.{position_at}
use Rattle.pg_disk.specs.declared.file_id.FileId.{FileId}
use Rattle.pg_disk.specs.declared.file_id.Kind.TheVariants.{Page}
use Rattle.pg_disk.specs.Views.{Contents}
use Rattle.pg_gate.specs.Gated.{HasBatches}
use Rattle.pg_page.specs.declared.frame.Frame.{Frame}
use Rattle.pg_page.specs.Frames.{SpellsFrame}

-- the file of a page of an address
abbrev pub page_file : ℕ → ℕ → FileId
page_file address page = record { kind = Page; owner = address; number = page }

-- whose files the pages of an address are
abbrev pub IsPageOf : ℕ → FileId → Type 0
IsPageOf address file = (page : ℕ) × (file ≡ page_file address page)

-- what each page of an address has in it, by its number
abbrev pub Pages : Type 0
Pages = ℕ → Option (List ℕ)

abbrev pub pages_of : Contents → ℕ → Pages
pages_of contents address = λ page. contents (page_file address page)

-- From this number on there are so many pages, one behind the other without a gap, and these are the payloads of each.
-- Two pages from 3 on, of two payloads and of none: (a ∷ b ∷ []) ∷ [] ∷ [], where page 5 and those above aren't there.
abbrev pub HasPages : ℕ → List (List (List ℕ)) → Pages → Type 0
HasPages first [] pages = (page : ℕ) → first ≤ page → pages page ≡ None
HasPages first (payloads ∷ more) pages = HasBatches payloads (pages first) × HasPages (first + 1) more pages

-- a payload with its position
abbrev pub Entry : Type 0
Entry = Position × List ℕ

-- each payload's length has a spelling of eight bytes
abbrev pub AllEntriesFit : List Entry → Type 0
AllEntriesFit entries = All (λ (entry : Entry). length entry.1 < 2 ^ 64) entries

-- the payloads of a page with their positions, from this index on
abbrev pub positioned_in : ℕ → ℕ → List (List ℕ) → List Entry
positioned_in page index [] = []
positioned_in page index (payload ∷ payloads) =
    (position_at page index, payload) ∷ positioned_in page (index + 1) payloads

-- Those of all pages, by page and then by index. For the two pages above: (3:0, a) ∷ (3:1, b) ∷ [].
abbrev pub positioned : ℕ → List (List (List ℕ)) → List Entry
positioned first [] = []
positioned first (payloads ∷ more) = positioned_in first 0 payloads ++ positioned (first + 1) more

-- the payloads of the pages from this number on, each with its position; how many pages there are isn't seen
pub record HasEntries (first : ℕ) (entries : List Entry) (pages : Pages) : Type 0 where
  pub payloads : List (List (List ℕ))
  pub has : HasPages first payloads pages
  pub are : entries ≡ positioned first payloads

-- payload by payload, at the same positions
abbrev pub SpellFrames : List Entry → List (Position × Frame) → Type 0
SpellFrames [] frames = frames ≡ []
SpellFrames (entry ∷ entries) frames =
    (frame : Frame) × (more : List (Position × Frame)) × SpellsFrame entry.1 frame × SpellFrames entries more
    × (frames ≡ (entry.0, frame) ∷ more)

-- the frames of the pages from this number on, each with its position
pub record HasFrames (first : ℕ) (frames : List (Position × Frame)) (pages : Pages) : Type 0 where
  pub entries : List Entry
  pub has : HasEntries first entries pages
  pub spelled : SpellFrames entries frames
