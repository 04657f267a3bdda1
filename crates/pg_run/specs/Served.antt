-- What a run of the broker over a site does: its replies, and what a crash at any moment leaves.
use Rattle.std.specs.Prelude.{◌≡◌, ◌⊎◌, ◌≤◌, ◌+◌, ℕ, List, ◌++◌, length, take, drop, Option}
use Rattle.pg_disk.specs.declared.disk.Disk.{Ghosts}
use Rattle.pg_disk.specs.Account.{Account, account, IsHonest}
use Rattle.pg_disk.specs.Files.{Files}
use Rattle.pg_disk.specs.Image.{OnceQuiet}
use Rattle.pg_disk.specs.Moments.{Within}
use Rattle.pg_msg.specs.declared.command.Command.{Command}
use Rattle.pg_msg.specs.declared.reply.Reply.{Reply}
use Rattle.pg_text.specs.Spelling.{ReadAs}
use Rattle.pg_text.specs.Replies.{reply_bytes, BeginsNext}
use Rattle.pg_disk.specs.Views.{as_left, as_read}
use Rattle.pg_engine.specs.declared.engine.Engine.{Engine}
use Rattle.pg_model.specs.Broker.{Durable, Broker}
use Rattle.pg_model.specs.Steps.{Run, last_state}
use Rattle.pg_recover.specs.Denotation.{Denotes}
use Rattle.pg_recover.specs.Staying.{LeavesWell, StaysWell}
use Rattle.pg_recover.specs.WellFormed.{WellFormed}
use Rattle.pg_engine.specs.Executed.{StandsAt}
use Rattle.pg_run.specs.Sights.{HasSamePages, IsSeenBeside}

-- the first n replies are told whole, and of the next one a part that isn't the whole
pub record Tells (replies : List Reply) (n : ℕ) (told : List ℕ) : Type 0 where
  pub part : List ℕ
  pub within : n ≤ length replies
  pub bytes : told ≡ reply_bytes (take n replies) ++ part
  pub begun : BeginsNext part (drop n replies)

-- At a moment within a run: where n replies are told whole, the files denote the state after n lines or after n + 1.
pub record IsBetween (first : Broker) (replies : List Reply) (states : List Broker) (before : List ℕ) (image : Files)
    (told : List ℕ) : Type 0 where
  pub n : ℕ
  pub k : ℕ
  pub close : (k ≡ n) ⊎ (k ≡ n + 1)
  pub within : k ≤ length states
  pub more : List ℕ
  pub bytes : told ≡ before ++ more
  pub tells : Tells replies n more
  pub denoted : Denotes (as_left image) (last_state first (take k states)).durable

-- what a crash leaves within a run that began where this was told; well formed files stay so
pub record LeavesBetween (first : Broker) (replies : List Reply) (states : List Broker) (entry : Option Account)
    (image : Files) (told : List ℕ) : Type 0 where
  pub honest : IsHonest entry
  pub between : IsBetween first replies states (account entry).told image told
  pub well : LeavesWell entry image

-- What a crash leaves within a run that began with opening, where nothing was pending: what was denoted and nothing
-- told, or a moment of the run. Well formed files stay so.
pub record LeavesRun (first : Broker) (replies : List Reply) (states : List Broker) (entry : Option Account)
    (image : Files) (told : List ℕ) : Type 0 where
  pub honest : IsHonest entry
  pub moment : ((told ≡ (account entry).told)
      × ((d : Durable) → Denotes (as_read (account entry).files) d → Denotes (as_left image) d))
      ⊎ IsBetween first replies states (account entry).told image told
  pub well : WellFormed (as_read (account entry).files) → WellFormed (as_left image)

-- The same whatever was pending: until nothing is, a crash leaves what one at the beginning may leave, and nothing
-- told.
abbrev pub LeavesOpenedRun : Broker → List Reply → List Broker → Option Account → Files → List ℕ → Type 0
LeavesOpenedRun first replies states = OnceQuiet (LeavesRun first replies states)

-- One run over the first of the lines, beside the pages that are there at entry, with every moment in it. The last line
-- of the run may have been interrupted: its reply was then not told, or not the whole of it.
pub record Serves {D : Type 0} (leaving : Broker → List Reply → List Broker → Option Account → Files → List ℕ → Type 0)
    (m : Ghosts D) (first : Broker) (lines : List (List ℕ)) (old new : D) : Type 0 where
  pub items : List (Option Command)
  pub replies : List Reply
  pub states : List Broker
  pub read : ReadAs lines items
  pub run : Run (IsSeenBeside (as_read (account (m.tells old)).files)) first items replies states
  pub moments : Within m old new (leaving first replies states)
  pub kept : IsHonest (m.tells new)
  pub n : ℕ
  pub last : (length replies ≡ n) ⊎ (length replies ≡ n + 1)
  pub more : List ℕ
  pub bytes : (account (m.tells new)).told ≡ (account (m.tells old)).told ++ more
  pub told : Tells replies n more

-- All lines were served: each reply is told whole, the engine stands for the last state, and the pages are as at entry.
pub record ServesAll {D : Type 0} (m : Ghosts D) (first : Broker) (lines : List (List ℕ)) (old new : D)
    (engine : Engine) : Type 0 where
  pub items : List (Option Command)
  pub replies : List Reply
  pub states : List Broker
  pub read : ReadAs lines items
  pub all : length items ≡ length lines
  pub run : Run (IsSeenBeside (as_read (account (m.tells old)).files)) first items replies states
  pub moments : Within m old new (LeavesBetween first replies states)
  pub told : (account (m.tells new)).told ≡ (account (m.tells old)).told ++ reply_bytes replies
  pub stands : StandsAt engine (last_state first states) (m.tells new)
  pub stays : StaysWell (m.tells old) (m.tells new)
  pub pages : HasSamePages (as_read (account (m.tells old)).files) (as_read (account (m.tells new)).files)
