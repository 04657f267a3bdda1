-- The page files of an address as a disk tells of them, and how calls change them.
use Rattle.std.specs.Prelude.{◌≡◌, ◌⊎◌, ◌<◌, ◌≤◌, ◌+◌, ℕ, List, [], ◌∷◌, ◌++◌, Option, Some, None}
use Rattle.std.specs.FinMap.{FinMap, get}
use Rattle.pg_acks.specs.declared.position.Position.{Position}
use Rattle.pg_disk.specs.Account.{FileState, Account, IsQuietAt}
use Rattle.pg_disk.specs.Calls.{ChangesWhere, ReadsNone}
use Rattle.pg_disk.specs.Files.{file_cmp, Files}
use Rattle.pg_disk.specs.Image.{IsLeftAt, LeavesBeside}
use Rattle.pg_disk.specs.Views.{as_left}
use Rattle.pg_gate.specs.Gated.{HasBatches}
use Rattle.pg_page.specs.Pages.{Entry, HasEntries, IsPageOf, Pages, page_file, pages_of}

-- what a disk tells of each page of an address, by its number
abbrev pub States : Type 0
States = ℕ → Option FileState

-- the files of a disk
abbrev pub FilesNow : Type 0
FilesNow = FinMap file_cmp FileState

abbrev pub states_of : FilesNow → ℕ → States
states_of files address = λ page. get files (page_file address page)

-- No page is numbered at least this. Of an address with the pages 3 and 4 it holds from 5 on, and not from 4 on.
abbrev pub HasNoneFrom : ℕ → States → Type 0
HasNoneFrom first states = (page : ℕ) → first ≤ page → states page ≡ None

-- The page with the greatest number among those from the first one on, or none where there are none. Of the pages 2, 3
-- and 4 it is 4 where the first one is 2, 3 or 4, and none where the first one is 5.
abbrev pub IsLast : ℕ → Option ℕ → States → Type 0
IsLast first None states = HasNoneFrom first states
IsLast first (Some last) states =
    (first ≤ last) × ((s : FileState) × (states last ≡ Some s)) × HasNoneFrom (last + 1) states

-- whatever a crash leaves of the page, it has these payloads
abbrev pub SurelyHas : List (List ℕ) → Option FileState → Type 0
SurelyHas payloads s = (left : Option (List ℕ)) → IsLeftAt s left → HasBatches payloads left

-- the same of pages one behind the other, from this number on
abbrev pub SurelyHave : ℕ → List (List (List ℕ)) → States → Type 0
SurelyHave first [] states = Unit {0}
SurelyHave first (payloads ∷ more) states = SurelyHas payloads (states first) × SurelyHave (first + 1) more states

-- pages of the address change so, and nothing else
abbrev pub ChangesPages : ℕ → (States → States → Type 0) → Account → Account → Type 0
ChangesPages address R =
    ChangesWhere (IsPageOf address) ReadsNone (λ files now. R (states_of files address) (states_of now address))

-- they change anyhow
abbrev pub Somehow : States → States → Type 0
Somehow s t = Unit {0}

-- pages of the address may be left so, each other file as a crash may leave it
abbrev pub LeavesPages : ℕ → (States → Pages → Type 0) → Option Account → Files → List ℕ → Type 0
LeavesPages address P =
    LeavesBeside (IsPageOf address) (λ files c. P (states_of files address) (pages_of (as_left c) address))

-- The payloads are these, or this one stands behind them, at a position that pages have: at most 4,294,967,295 payloads
-- stand in one.
abbrev pub HasOldOrMore : ℕ → List Entry → List ℕ → Pages → Type 0
HasOldOrMore first entries payload pages = HasEntries first entries pages
    ⊎ ((position : Position) × (position.index < 4294967295)
    × HasEntries first (entries ++ (position, payload) ∷ []) pages)

-- each page of the address is as it was: these files are equal, one by one
abbrev pub SamePages : ℕ → FilesNow → FilesNow → Type 0
SamePages address files now = (page : ℕ) → get now (page_file address page) ≡ get files (page_file address page)

-- what is left of each page of the address is what a crash may leave of it
abbrev pub LeftPages : ℕ → FilesNow → Files → Type 0
LeftPages address files c =
    (page : ℕ) → IsLeftAt (get files (page_file address page)) (get c (page_file address page))

-- nothing is pending of any page before the last one
abbrev pub QuietBefore : Option ℕ → States → Type 0
QuietBefore None states = Unit {0}
QuietBefore (Some last) states = (page : ℕ) → page < last → IsQuietAt (states page)
