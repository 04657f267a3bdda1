-- What the writer of a page stands for.
use Rattle.std.specs.Prelude.{◌≡◌, ◌⊎◌, ◌≤◌, ◌+◌, ℕ, List, ◌∷◌, ◌++◌, [], length, Option}
use Rattle.pg_acks.specs.declared.position.Position.{Position}
use Rattle.pg_disk.specs.Account.{FileState}
use Rattle.pg_disk.specs.declared.file_id.FileId.{FileId}
use Rattle.pg_gate.specs.Gated.{Batches, HasOldOrNew, StandsFor, file_of, counted_length}
use Rattle.pg_page.specs.declared.writer.PageWriter.{PageWriter}
use Rattle.pg_page.specs.Pages.{page_file}

-- the address of the page
abbrev pub address_of : PageWriter → ℕ
address_of writer = (file_of writer.rest).owner

-- its number
abbrev pub page_of : PageWriter → ℕ
page_of writer = (file_of writer.rest).number

-- its file
abbrev pub name_of : PageWriter → FileId
name_of writer = page_file (address_of writer) (page_of writer)

-- how many frames it has
abbrev pub frames_of : PageWriter → ℕ
frames_of writer = writer.frames

-- how many bytes of its file are counted: up to the closed gate, and with it
abbrev pub counted_of : PageWriter → ℕ
counted_of writer = counted_length writer.rest

-- the page is at rest, nothing of it is pending, and these are its payloads
pub record Writes (writer : PageWriter) (payloads : List (List ℕ)) (s : Option FileState) : Type 0 where
  pub stands : StandsFor writer.rest payloads s
  pub count : writer.frames ≡ length payloads

-- some payloads are
abbrev pub IsWritten : PageWriter → Option FileState → Type 0
IsWritten writer s = (payloads : List (List ℕ)) × Writes writer payloads s

-- where the next frame goes
abbrev pub next_position : PageWriter → Position
next_position writer = record { page = page_of writer; index = frames_of writer }

-- this payload is added behind those that are there
abbrev pub Adds : PageWriter → List ℕ → PageWriter → Option FileState → Option FileState → Type 0
Adds writer payload next s t =
    (payloads : List (List ℕ)) → Writes writer payloads s → Writes next (payloads ++ payload ∷ []) t

-- what a crash leaves has the payloads that are there, or this one behind them too
abbrev pub MayAdd : PageWriter → List ℕ → Option FileState → Option (List ℕ) → Type 0
MayAdd writer payload s left =
    (payloads : List (List ℕ)) → Writes writer payloads s → HasOldOrNew payloads payload left

-- the page has these bytes, and the writer goes on behind all of their payloads
abbrev pub OpensAs : PageWriter → List ℕ → Option FileState → Type 0
OpensAs writer bytes now = (payloads : List (List ℕ)) × Batches bytes payloads × Writes writer payloads now

-- The page has no frame, or the batch of such a payload ends within so many bytes of the file. At a limit of 100 a page
-- of 45 counted bytes has room for a payload of 46, and not for one of 47.
abbrev pub HasRoom : PageWriter → ℕ → ℕ → Type 0
HasRoom writer payload limit = (frames_of writer ≡ 0) ⊎ (counted_of writer + payload + 9 ≤ limit)
