-- What a cursor reads, and what it passes.
use Rattle.std.specs.Prelude.{◌≡◌, ◌⊎◌, ◌≤◌, ◌<◌, ◌^◌, ℕ, Option, Some, None, IfSome}
use Rattle.std.specs.FinMap.{FinMap}
use Rattle.pg_acks.specs.Acked.{AckSets}
use Rattle.pg_disk.specs.declared.disk.Disk.{Ghosts}
use Rattle.pg_disk.specs.declared.fault.Fault.{Fault}
use Rattle.pg_disk.specs.declared.fault.Fault.TheVariants.{Failed, Damaged, Spent, Memory}
use Rattle.pg_disk.specs.Account.{FileState}
use Rattle.pg_disk.specs.Files.{file_cmp}
use Rattle.pg_disk.specs.Image.{IsFileThere}
use Rattle.pg_disk.specs.Sites.{OnFiles}
use Rattle.pg_disk.specs.Views.{as_read}
use Rattle.pg_page.specs.declared.place.Place.{Place}
use Rattle.pg_page.specs.Faults.{BreaksOn, IsPageFault}
use Rattle.pg_page.specs.Pages.{Pages, page_file, pages_of}
use Rattle.pg_pagetx.specs.Standings.{Transactions}
use Rattle.pg_cursor.specs.declared.tail.Tail.{Tail}
use Rattle.pg_cursor.specs.declared.tail.Tail.TheVariants.{Begin, Behind}
use Rattle.pg_cursor.specs.declared.walking.Step.{Step}
use Rattle.pg_cursor.specs.declared.walking.Step.TheVariants.{Stays, Passes, Finds}
use Rattle.pg_cursor.specs.Entries.{IsLive, StandsOn}
use Rattle.pg_cursor.specs.Places.{IsPassed, page_of, passed_of}

-- where the disk is honest, this holds of the pages of the address as they are read
abbrev pub OnPages : {D : Type 0} → Ghosts D → D → ℕ → (Pages → Type 0) → Type 0
OnPages m now address P = OnFiles m now (λ files. P (pages_of (as_read files) address))

-- the pages of the address between these numbers, with both of them, are there
abbrev pub AreThere : ℕ → ℕ → ℕ → FinMap file_cmp FileState → Type 0
AreThere address from last files = (page : ℕ) → from ≤ page → page ≤ last → IsFileThere (page_file address page) files

-- a tail behind a place stands behind a batch
abbrev pub TailStands : Tail → Pages → Type 0
TailStands (Begin page) pages = Unit {0}
TailStands (Behind place) pages = StandsOn pages place

-- on the tail's page, and not before it
abbrev pub IsOnward : Tail → Place → Type 0
IsOnward tail place = (place.position.page ≡ page_of tail) × (passed_of tail ≤ place.position.index)

-- The first place behind the tail on its page. None: all places of the page are passed.
abbrev pub IsNext : Tail → Option Place → Pages → Type 0
IsNext tail None pages = (place : Place) → StandsOn pages place → place.position.page ≡ page_of tail
    → place.position.index < passed_of tail
IsNext tail (Some place) pages = StandsOn pages place × (place.position.page ≡ page_of tail)
    × (place.position.index ≡ passed_of tail)

-- From the old tail to the new one: of the places that name the queue, count and aren't acknowledged only the one that
-- is found is passed, and it is the last.
pub record Walks (queue : ℕ) (acks : AckSets) (txs : Transactions) (old new : Tail) (found : Option Place)
    (pages : Pages) : Type 0 where
  pub stands : TailStands new pages
  pub passed : (place : Place) → IsLive queue acks txs pages place → IsPassed new place.position
      → IsPassed old place.position ⊎ (found ≡ Some place)
  pub finds : IfSome found (λ place. (new ≡ Behind place) × IsLive queue acks txs pages place
      × (IsPassed old place.position → ⊥))

-- the tail has passed all of these up to the last page
abbrev pub IsAtEnd : ℕ → AckSets → Transactions → ℕ → Tail → Pages → Type 0
IsAtEnd queue acks txs last tail pages = (place : Place) → IsLive queue acks txs pages place
    → place.position.page ≤ last → IsPassed tail place.position

-- One step of a walk: to the end, where the tail stays; on behind a place, or to the next page; to a place that is found.
abbrev pub IsStep : ℕ → AckSets → Transactions → ℕ → Tail → Step → Pages → Type 0
IsStep queue acks txs last tail Stays pages = IsAtEnd queue acks txs last tail pages
IsStep queue acks txs last tail (Passes next) pages = Walks queue acks txs tail next None pages
IsStep queue acks txs last tail (Finds place) pages = Walks queue acks txs tail (Behind place) (Some place) pages

-- the new tail has passed more than the old one, and stands on no page behind the last one
pub record IsFarther (last : ℕ) (old new : Tail) : Type 0 where
  pub farther : (page_of old < page_of new) ⊎ ((page_of old ≡ page_of new) × (passed_of old < passed_of new))
  pub within : page_of new ≤ last
  pub few : passed_of new ≤ 2 ^ 32

abbrev pub StepsOn : ℕ → Tail → Step → Type 0
StepsOn last tail Stays = Unit {0}
StepsOn last tail (Passes next) = IsFarther last tail next
StepsOn last tail (Finds place) = IsFarther last tail (Behind place)

-- damage is in a page of the address between these numbers, which breaks a rule there
abbrev pub IsDamageIn : {D : Type 0} → Ghosts D → D → ℕ → ℕ → ℕ → Fault → Type 0
IsDamageIn m now address from last Failed = Unit {0}
IsDamageIn m now address from last (Damaged damage) = (page : ℕ) × (from ≤ page) × (page ≤ last)
    × IsPageFault (page_file address page) (BreaksOn m now (page_file address page)) (Damaged damage)
IsDamageIn m now address from last Spent = ⊥
IsDamageIn m now address from last Memory = Unit {0}
