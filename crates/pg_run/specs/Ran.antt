-- What a run over a source and a site owes, at each of its statuses.
use Rattle.std.specs.Prelude.{◌≡◌, ◌≢◌, ◌⊎◌, ◌≤◌, ◌+◌, ℕ, List, [], ◌∷◌, ◌++◌, length, take, drop, Option, Some}
use Rattle.pg_disk.specs.declared.disk.Disk.{Ghosts}
use Rattle.pg_disk.specs.declared.source.Source.{Ghosts as SourceGhosts}
use Rattle.pg_disk.specs.Account.{Account, account, IsHonest, AllQuiet}
use Rattle.pg_disk.specs.Calls.{Changes}
use Rattle.pg_disk.specs.Files.{Files}
use Rattle.pg_disk.specs.Image.{AnyFile, IsImage}
use Rattle.pg_disk.specs.Moments.{WithinFrom}
use Rattle.pg_disk.specs.Reads.{reads, TakesFrom}
use Rattle.pg_disk.specs.Views.{as_left, as_read}
use Rattle.pg_msg.specs.declared.command.Command.{Command}
use Rattle.pg_msg.specs.declared.limits.Limits.{Limits}
use Rattle.pg_msg.specs.declared.reply.Reply.{Reply}
use Rattle.pg_lines.specs.Lines.{IsCut, lines_of}
use Rattle.pg_lines.specs.Reading.{IsAtEnd}
use Rattle.pg_text.specs.Spelling.{ReadsAs, ReadAs}
use Rattle.pg_text.specs.Replies.{reply_bytes}
use Rattle.pg_model.specs.Broker.{Broker, Durable, opened_from}
use Rattle.pg_model.specs.Steps.{Run, last_state}
use Rattle.pg_recover.specs.Denotation.{Denotes}
use Rattle.pg_recover.specs.Recovered.{HasNoEpoch, KeepsFiles}
use Rattle.pg_recover.specs.Staying.{StaysWell}
use Rattle.pg_recover.specs.WellFormed.{WellFormed}
use Rattle.pg_engine.specs.declared.engine.Engine.{Engine}
use Rattle.pg_engine.specs.Executed.{StandsAt, MeetsLimit}
use Rattle.pg_run.specs.declared.status.Status.TheVariants as ended
use Rattle.pg_run.specs.Served.{LeavesBetween, LeavesOpenedRun, LeavesRun, Serves}
use Rattle.pg_run.specs.Sights.{IsSeenBeside}
use Rattle.pg_run.specs.Statuses.{Faults, IsAnyBut, IsInputServed, NoneFailed, code_of}

-- an input: what was left of it at entry and at exit, where that is told, and how many bytes of it are read at most
pub record Input : Type 0 where
  pub old : Option (List ℕ)
  pub new : Option (List ℕ)
  pub limit : ℕ

abbrev pub input_of : {R : Type 0} → SourceGhosts R → R → R → ℕ → Input
input_of s old new limit = record { old = s.rest old; new = s.rest new; limit = limit }

-- The bytes that were read, cut into lines up to the limit, and those lines that are served: the whole lines, and at
-- the end of the input the last one too.
pub record ReadsInput (input : Input) (status : ℕ) : Type 0 where
  pub read : List ℕ
  pub source : TakesFrom input.old input.new read
  pub within : status ≢ code_of ended.InputTooLong → length read ≤ input.limit
  pub past : status ≡ code_of ended.InputTooLong → length read ≡ input.limit + 1
  pub at_end : status ≡ code_of ended.Served → IsAtEnd input.old input.new
  pub whole : List (List ℕ)
  pub behind : List ℕ
  pub cut : IsCut (take input.limit read) whole behind
  pub lines : List (List ℕ)
  pub which : (lines ≡ whole) ⊎ ((lines ≡ lines_of whole behind) × IsAtEnd input.old input.new)
  pub to_end : status ≡ code_of ended.Served → lines ≡ lines_of whole behind
  pub to_place : (status ≡ code_of ended.InputFailed) ⊎ (status ≡ code_of ended.InputTooLong) → lines ≡ whole

-- What a run owes at its status: where the input ended, failed or met its limit, all lines before that place are
-- served, and the files denote the last state whatever a crash leaves of them.
pub record Ends {D : Type 0} {leaving : Broker → List Reply → List Broker → Option Account → Files → List ℕ → Type 0}
    {m : Ghosts D} {first : Broker} {lines : List (List ℕ)} {old new : D}
    (serves : Serves leaving m first lines old new) (status : ℕ) : Type 0 where
  pub in_part : status ≢ code_of ended.OutputFailed → serves.told.part ≡ []
  pub all : IsInputServed status → (length serves.items ≡ length lines) × (serves.n ≡ length lines)
  pub at_rest : IsInputServed status → (image : Files) → IsImage (account (m.tells new)).files image
      → Denotes (as_left image) (last_state first serves.states).durable
  pub stays : IsInputServed status → StaysWell (m.tells old) (m.tells new)

-- The line is a command that meets a limit in this state: no queue id is left for it, or the journal would grow past
-- its own.
pub record IsFull {D : Type 0} (m : Ghosts D) (state : Broker) (line : List ℕ) (new : D) : Type 0 where
  pub engine : Engine
  pub stands : StandsAt engine state (m.tells new)
  pub command : Command
  pub reads : ReadsAs line (Some command)
  pub limit : MeetsLimit engine command

-- the first of these lines is one
pub record IsFullBehind {D : Type 0} (m : Ghosts D) (state : Broker) (lines : List (List ℕ)) (new : D) : Type 0 where
  pub line : List ℕ
  pub others : List (List ℕ)
  pub next : lines ≡ line ∷ others
  pub full : IsFull m state line new

-- the run over these lines, beside the pages that are there at entry, comes to such a line
pub record ComesToLimit {D : Type 0} (m : Ghosts D) (first : Broker) (lines : List (List ℕ)) (old new : D)
    : Type 0 where
  pub items : List (Option Command)
  pub replies : List Reply
  pub states : List Broker
  pub read : ReadAs lines items
  pub run : Run (IsSeenBeside (as_read (account (m.tells old)).files)) first items replies states
  pub full : IsFullBehind m (last_state first states) (drop (length items) lines) new

-- A run that served all its items stopped at such a line.
pub record StopsAtLimit {D : Type 0} {leaving : Broker → List Reply → List Broker → Option Account → Files → List ℕ → Type 0}
    {m : Ghosts D} {first : Broker} {lines : List (List ℕ)} {old new : D} (serves : Serves leaving m first lines old new)
    : Type 0 where
  pub all : length serves.items ≡ serves.n
  pub full : IsFullBehind m (last_state first serves.states) (drop serves.n lines) new

-- What was read is cut into lines, and these are served in order. Where a limit ended it, that was met by the first
-- line that wasn't served.
pub record Ran {D : Type 0} (m : Ghosts D) (first : Broker) (input : Input) (old new : D) (status : ℕ) : Type 0 where
  pub reading : ReadsInput input status
  pub serves : IsHonest (m.tells old) → Serves LeavesBetween m first reading.lines old new
  pub ends : (honest : IsHonest (m.tells old)) → Ends (serves honest) status
  pub full : (honest : IsHonest (m.tells old)) → status ≡ code_of ended.LimitReached → StopsAtLimit (serves honest)

-- no epoch was left, and the files are kept
pub record IsUnopened (epochs : ℕ) (old new : Option Account) : Type 0 where
  pub none : HasNoEpoch epochs (account old).files
  pub kept : Changes old new KeepsFiles

-- The same of a run that begins with opening, from what the files denote, whatever of them was pending. Behind an
-- opening that came to its end there is a disk between where nothing of any file is, where as much is told and read as
-- at the beginning, and from which on each crash leaves a moment of the run: at these statuses it came to its end.
pub record RanOpened {D : Type 0} (m : Ghosts D) (limits : Limits) (input : Input) (old new : D)
    (status : ℕ) : Type 0 where
  pub reading : ReadsInput input status
  pub serves : (durable : Durable) → IsHonest (m.tells old) → Denotes (as_read (account (m.tells old)).files) durable
      → Serves LeavesOpenedRun m (opened_from limits.ids durable) reading.lines old new
  pub ends : (durable : Durable) (honest : IsHonest (m.tells old))
      (denoted : Denotes (as_read (account (m.tells old)).files) durable)
      → Ends (serves durable honest denoted) status
  pub full : (durable : Durable) (honest : IsHonest (m.tells old))
      (denoted : Denotes (as_read (account (m.tells old)).files) durable) → status ≡ code_of ended.LimitReached
      → IsUnopened limits.epochs (m.tells old) (m.tells new) ⊎ StopsAtLimit (serves durable honest denoted)
  pub late : (durable : Durable) (honest : IsHonest (m.tells old))
      (denoted : Denotes (as_read (account (m.tells old)).files) durable)
      → IsAnyBut (ended.Damaged ∷ ended.DiskFailed ∷ ended.OutOfMemory ∷ ended.LimitReached ∷ []) status
      → WithinFrom m AnyFile old new (LeavesRun (opened_from limits.ids durable) (serves durable honest denoted).replies
      (serves durable honest denoted).states)

-- An input that was told is served to its end: each of its lines is one step, beside the pages that are there at entry,
-- the replies are told and nothing else, and the files read as the last state's durable part.
pub record ServesInput (first : Broker) (input : List ℕ) (old new : Account) : Type 0 where
  pub whole : List (List ℕ)
  pub behind : List ℕ
  pub cut : IsCut input whole behind
  pub items : List (Option Command)
  pub replies : List Reply
  pub states : List Broker
  pub read : ReadAs (lines_of whole behind) items
  pub all : length items ≡ length (lines_of whole behind)
  pub run : Run (IsSeenBeside (as_read old.files)) first items replies states
  pub told : new.told ≡ old.told ++ reply_bytes replies
  pub denoted : Denotes (as_left (reads new.files)) (last_state first states).durable

-- The same from the state that is opened from what the files denote. Well formed files stay so.
pub record ServesOpened (ids : ℕ) (input : List ℕ) (old new : Account) : Type 0 where
  pub durable : Durable
  pub denoted : Denotes (as_read old.files) durable
  pub serves : ServesInput (opened_from ids durable) input old new
  pub well : AllQuiet old.files → WellFormed (as_read old.files) → WellFormed (as_read new.files)

-- The site is honest, its files are well formed and leave a next epoch, no device failed, the input was told and is no
-- longer than its limit, and no line of the run over it meets a limit.
pub record IsSpared {D : Type 0} (m : Ghosts D) (limits : Limits) (input : Input) (old new : D)
    (f : Faults) : Type 0 where
  pub honest : IsHonest (m.tells old)
  pub well : WellFormed (as_read (account (m.tells old)).files)
  pub epoch : HasNoEpoch limits.epochs (account (m.tells old)).files → ⊥
  pub faults : NoneFailed f
  pub bytes : List ℕ
  pub told : input.old ≡ Some bytes
  pub short : length bytes ≤ input.limit
  pub room : (durable : Durable) → Denotes (as_read (account (m.tells old)).files) durable
      → (whole : List (List ℕ)) (behind : List ℕ) → IsCut bytes whole behind
      → ComesToLimit m (opened_from limits.ids durable) (lines_of whole behind) old new → ⊥
