-- The frames that the payloads of stores spell, and the ids of the messages in them.
use Rattle.std.specs.Prelude.{◌≡◌, ◌≢◌, ◌⊎◌, ◌<◌, ◌==◌, if◌then◌else◌, ℕ, List, [], ◌∷◌, ◌++◌, All, slice_get, Some}
use Rattle.pg_acks.specs.declared.position.Position.{Position}
use Rattle.pg_msg.specs.declared.message.MessageId.{MessageId}
use Rattle.pg_page.specs.declared.frame.Frame.{Frame}
use Rattle.pg_page.specs.Pages.{Entry, HasFrames, Pages, SpellFrames}
use Rattle.pg_page.specs.Rules.{Known, MayStand, ids_of}
use Rattle.pg_store.specs.declared.store.Store.{Store}
use Rattle.pg_store.specs.Pages.{States}
use Rattle.pg_store.specs.Stores.{Stands}

-- frames, each with its position
abbrev pub Frames : Type 0
Frames = List (Position × Frame)

-- the payloads that the store stands for spell these frames, one by one at the same positions
pub record StandsForFrames (store : Store) (frames : Frames) (states : States) : Type 0 where
  pub entries : List Entry
  pub stands : Stands store entries states
  pub spelled : SpellFrames entries frames

-- the frames are these, or this one stands behind them, at a position that pages have
abbrev pub HasOldFramesOrMore : ℕ → Frames → Frame → Pages → Type 0
HasOldFramesOrMore first frames frame pages = HasFrames first frames pages
    ⊎ ((position : Position) × (position.index < 4294967295)
    × HasFrames first (frames ++ (position, frame) ∷ []) pages)

-- The frames may stand in pages of this address in a well formed directory. That pages are numbered without a gap, and
-- that each payload spells a frame, isn't said here, but by HasFrames.
pub record MayAllStand (known : Known) (address : ℕ) (frames : Frames) : Type 0 where
  pub may_stand : All (λ frame. MayStand known address frame.1) frames
  pub few : All (λ frame. frame.0.index < 4294967295) frames

-- the frames of each address, by its id
abbrev pub FramesOf : Type 0
FramesOf = ℕ → Frames

-- one address has one frame more, behind the others
abbrev pub with_frame : ℕ → Position × Frame → FramesOf → FramesOf
with_frame address frame frames other = if other == address then frames other ++ frame ∷ [] else frames other

-- this is the id of no message in the frames of any address
abbrev pub IsNewId : MessageId → FramesOf → Type 0
IsNewId id frames = (address : ℕ) → All (λ other. other ≢ id) (ids_of (frames address))

-- no id stands twice in the frames of all addresses
abbrev pub StandOnce : FramesOf → Type 0
StandOnce frames = (a b i j : ℕ) (id : MessageId) → slice_get (ids_of (frames a)) i ≡ Some id
    → slice_get (ids_of (frames b)) j ≡ Some id → (a ≡ b) × (i ≡ j)
