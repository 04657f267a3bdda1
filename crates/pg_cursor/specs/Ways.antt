-- What a walk passes, and how many bytes it reads.
use Rattle.std.specs.Prelude.{◌≡◌, ◌⊎◌, ◌≤◌, ◌+◌, ◌-◌, ◌*◌, ℕ, List, [], ◌∷◌, ◌++◌, length, Some}
use Rattle.pg_disk.specs.declared.disk.Disk.{Ghosts}
use Rattle.pg_disk.specs.Account.{account, IsHonest}
use Rattle.pg_disk.specs.Views.{as_read}
use Rattle.pg_gate.specs.Gated.{AllFit}
use Rattle.pg_page.specs.declared.place.Place.{Place}
use Rattle.pg_page.specs.Pages.{Pages, pages_of}
use Rattle.pg_page.specs.Places.{IsAt}
use Rattle.pg_cursor.specs.declared.tail.Tail.{Tail}
use Rattle.pg_cursor.specs.declared.tail.Tail.TheVariants.{Behind}
use Rattle.pg_cursor.specs.declared.walking.Step.{Step}
use Rattle.pg_cursor.specs.declared.walking.Step.TheVariants.{Stays, Passes, Finds}
use Rattle.pg_cursor.specs.Entries.{StandsOn}
use Rattle.pg_cursor.specs.Places.{IsNoEarlier, IsPassed, page_of}

-- this payload stands at the place, and its length and those of the ones before it have a spelling of eight bytes
pub record HasPayload (pages : Pages) (place : Place) (payload : List ℕ) : Type 0 where
  pub bytes : List ℕ
  pub there : pages place.position.page ≡ Some bytes
  pub before : List (List ℕ)
  pub fit : AllFit (before ++ payload ∷ [])
  pub at : IsAt bytes place before payload

-- no place is passed by the new tail that the old one hasn't passed
pub record IsNothingBetween (pages : Pages) (old new : Tail) : Type 0 where
  pub later : IsNoEarlier old new
  pub nothing : (place : Place) → StandsOn pages place → IsPassed new place.position → IsPassed old place.position

-- this is the first place that the tail hasn't passed
pub record IsFirstBehind (pages : Pages) (tail : Tail) (place : Place) (payload : List ℕ) : Type 0 where
  pub has : HasPayload pages place payload
  pub behind : IsPassed tail place.position → ⊥
  pub first : (other : Place) → StandsOn pages other → IsPassed (Behind place) other.position
      → IsPassed tail other.position ⊎ (other ≡ place)

-- The places between two tails with their payloads, one behind the other, without a gap. From the beginning of page 3 to
-- behind 4:0, where page 3 has two: 3:0, 3:1, 4:0.
abbrev pub Way : Pages → Tail → List (Place × List ℕ) → Tail → Type 0
Way pages old [] new = IsNothingBetween pages old new
Way pages old (passed ∷ more) new =
    IsFirstBehind pages old passed.0 passed.1 × Way pages (Behind passed.0) more new

-- for each place the payload and 27 bytes: two gates with a length each, and those of the payload once more
abbrev pub way_bytes : List (Place × List ℕ) → ℕ
way_bytes [] = 0
way_bytes (passed ∷ more) = length passed.1 + 27 + way_bytes more

-- The walk from the old tail to the new one read no more than that for each place between them, 18 bytes for each page
-- that it entered, and so many bytes besides.
pub record ReadsAlong (most : ℕ) (old new : Tail) (pages : Pages) (before after : ℕ) : Type 0 where
  pub way : List (Place × List ℕ)
  pub passes : Way pages old way new
  pub few : after ≤ before + (way_bytes way + 18 * (page_of new - page_of old) + most)

-- the same of a step; one that stays reads up to 18 bytes
abbrev pub StepReads : Tail → Step → Pages → ℕ → ℕ → Type 0
StepReads tail Stays = ReadsAlong 18 tail tail
StepReads tail (Passes next) = ReadsAlong 0 tail next
StepReads tail (Finds place) = ReadsAlong 0 tail (Behind place)

-- at most the payload at this place and 9 bytes were read
abbrev pub ReadsAt : Place → Pages → ℕ → ℕ → Type 0
ReadsAt place pages before after = (payload : List ℕ) → HasPayload pages place payload → after ≤ before + length payload + 9

-- where the disk is honest at entry, this holds of the pages of the address and of how many bytes were read before and
-- after the call
abbrev pub OnReads : {D : Type 0} → Ghosts D → D → D → ℕ → (Pages → ℕ → ℕ → Type 0) → Type 0
OnReads m old new address P = IsHonest (m.tells old)
    → P (pages_of (as_read (account (m.tells old)).files) address) (account (m.tells old)).taken
    (account (m.tells new)).taken
