-- What the engine's own files denote, and a command that appends one batch to the journal.
use Rattle.std.proofs.Common.{◌≡◌, ◌≢◌, ◌⊎◌, inl, inr, ⊎_elim, ℕ, ◌+◌, ◌-◌, ◌<◌, ◌≤◌, ◌^◌, Bool, true, map, slice_get, option_map, List, [], ◌∷◌, ◌++◌, length, Option, Some, None, Result, Ok, Err, refl, sym, ◌∙◌, ap, subst, arith}
use Rattle.std.specs.Prelude.{IfOk, OnOk, IsErr}
use Rattle.std.specs.FinMap.{FinMap, get}
use Rattle.std.proofs.lemmas.Option.{get_or_from_slice_get, none-some, same_Some, slice_get-map, slice_get_within}
use Rattle.pg_disk.specs.declared.file_id.FileId.{FileId}
use Rattle.pg_disk.specs.declared.disk.Disk.{Ghosts}
use Rattle.pg_disk.specs.declared.fault.Fault.{Fault}
use Rattle.pg_disk.specs.declared.fault.Fault.TheVariants.{Failed, Damaged, Spent, Memory}
use Rattle.pg_disk.specs.Account.{AllQuiet, FileState, Account, account, IsHonest}
use Rattle.pg_disk.specs.Calls.{Changes, ChangesFile, OnlyReads}
use Rattle.pg_disk.specs.Files.{file_cmp, Files}
use Rattle.pg_disk.specs.Image.{IsImage, Leaves}
use Rattle.pg_disk.specs.Meanings.{Decides, Either, LeavesMeaning}
use Rattle.pg_disk.specs.Moments.{Within}
use Rattle.pg_disk.proofs.Composing.{changes_none, changes_weaker}
use Rattle.pg_disk.proofs.MeaningLemmas.{quiet_from, quiet_is_deciding, quiet_none}
use Rattle.pg_gate.specs.Gated.{Anyhow}
use Rattle.pg_msg.specs.declared.command.Command.{Command}
use Rattle.pg_msg.specs.declared.reply.Reply.{Reply}
use Rattle.pg_msg.specs.declared.reply.Refusal.TheVariants.{Line}
use Rattle.pg_msg.specs.declared.reply.Reply.TheVariants.{No}
use Rattle.pg_model.specs.Actions.{Action}
use Rattle.pg_model.specs.Steps.{Step, asked}
use Rattle.pg_records.specs.declared.entry.Entry.{Entry}
use Rattle.pg_records.specs.Entries.{batch_bytes, HasFields, SpellsBatch, SpellBatches}
use Rattle.pg_fold.specs.declared.durable.Durable.{Durable as Folded}
use Rattle.pg_fold.specs.Fold.{Folds, fresh}
use Rattle.pg_fold.proofs.FoldLaws.{folds_applied}
use Rattle.pg_fold.proofs.SoundLaws.{sound_folded}
use Rattle.pg_journal.specs.declared.journal.Journal.{Journal}
use Rattle.pg_journal.specs.Generations.{JournalOf}
use Rattle.pg_disk.specs.Views.{Contents, as_left, as_read, bytes_of}
use Rattle.pg_journal.specs.Looks.{LeavesOldOrNew}
use Rattle.pg_journal.specs.Stands.{Stands, counted, name_of}
use Rattle.pg_journal.proofs.Saying.{stands_reads, stands_says}
use Rattle.pg_model.specs.Broker.{Address, Durable}
use Rattle.pg_recover.specs.Denotation.{Denotes, FoldsTo, address_of, durable_part, weight_at}
use Rattle.pg_recover.specs.Recovered.{KeepsOthers, Owns as OwnsJournal}
use Rattle.pg_fold.specs.declared.rows.AddressRow.{AddressRow}
use Rattle.pg_fold.specs.Rows.{AreNumbered, has_address}
use Rattle.pg_recover.specs.Viewing.{ArePaged, Shows}
use Rattle.pg_recover.specs.WellFormed.{AreRoomy, IsThere, page_file}
use Rattle.pg_recover.proofs.WellLemmas.{image_well}
use Rattle.pg_recover.proofs.EpochLemmas.{spelled_push}
use Rattle.pg_engine.specs.declared.engine.Engine.{Engine}
use Rattle.pg_engine.specs.declared.state.Outcome.{Outcome}
use Rattle.pg_engine.specs.declared.state.Outcome.TheVariants.{Changed, Unchanged}
use Rattle.pg_engine.specs.Executed.{state_of, seen_by, IsBounded, Owns, OwnsPages, Keeps, Executes, MeetsLimit, WritesFor}
use Rattle.pg_engine.specs.Kept.{Kept, broker_of, view_of}
use Rattle.pg_engine.specs.Outcomes.{Adds, IsAccepted, IsAsBefore, HasEntries, IsNoOutcome, IsOutcome, MeetsNoQueueId, Records, RecordsAsked, WantsQueueId}
use Rattle.pg_engine.proofs.BatchLemmas.{added_by, one_batch}
use Rattle.pg_engine.proofs.WellEngine.{Grows, grown, have_fields, left_well, owned_folds, owned_sound, pages_grown, pages_known, read_well, still_quiet}

-- an answer that isn't Ok owes nothing of it
not_ok : {T E : Type 0} (P : T → Type 0) (result : Result T E) → IsErr result → IfOk result P
not_ok P (Ok x) failed = cc
not_ok P (Err e) failed = tt

on_not_ok : {T E : Type 0} (P : Type 0) (result : Result T E) → IsErr result → OnOk result P
on_not_ok P (Ok x) failed = cc
on_not_ok P (Err e) failed = tt

-- batches that spell entries which give a state fold to it, and denote what it stands for
spelled_fold : (contents : Contents) (batches : List (List ℕ)) (entries : List Entry) (d : Folded) → SpellBatches batches entries → Folds fresh entries d → JournalOf contents batches → FoldsTo contents d
spelled_fold contents batches entries d spelled folded says = record { batches = batches; entries = entries; says = says; spelled = spelled; folded = folded }

pub spelled_denote : (contents : Contents) (batches : List (List ℕ)) (entries : List Entry) (d : Folded) → SpellBatches batches entries → Folds fresh entries d → JournalOf contents batches → Denotes contents (durable_part d)
spelled_denote contents batches entries d spelled folded says = record { state = d; folds = spelled_fold contents batches entries d spelled folded says; is = refl }

-- whatever a crash leaves of the engine's files denotes its state
pub owned_denote : (engine : Engine) (files : FinMap file_cmp FileState) (image : Files) → Owns engine files → IsImage files image → Denotes (as_left image) (state_of engine).durable
owned_denote engine files image owns is =
    let own = owns.journal in
    spelled_denote (as_left image) own.batches own.entries engine.state.durable own.spelled own.folded
    (stands_says engine.journal own.batches files own.stands image (is (name_of engine.journal)) (λ file kind other. inl (is file)))

-- and they show what it tells of the addresses
pub owned_shown : (engine : Engine) (files : FinMap file_cmp FileState) → Owns engine files → Shows (as_read files) (state_of engine).durable (seen_by engine)
owned_shown engine files owns = record {
  state = engine.state.durable;
  folds = owned_folds engine.journal engine.state.durable files owns.journal;
  is = refl;
  each = λ k d within. record { resident = refl; paged = owns.pages.paged.each k d within };
}

-- What it tells of each address keeps the bound.
bounded_by : (d : Folded) → AreNumbered d.addresses → AreRoomy d → (id : ℕ) (address : Address) → 1 ≤ id → slice_get (map address_of d.addresses) (id - 1) ≡ Some address → weight_at id d.journaled < address.settings.max + 102400
bounded_by d numbered roomy id address low at = by (slice_get d.addresses (id - 1)) refl (sym (slice_get-map address_of d.addresses (id - 1)) ∙ at)
  where
    by : (o : Option AddressRow) → slice_get d.addresses (id - 1) ≡ o → option_map address_of o ≡ Some address → weight_at id d.journaled < address.settings.max + 102400
    by None none is = absurd (none-some address is)
    by (Some row) found is =
        let within = slice_get_within d.addresses (id - 1) row found in
        let here = get_or_from_slice_get d.addresses (id - 1) row row found in
        let number : row.id ≡ id = (let k = numbered (id - 1) row within in let same = ap (λ (r : AddressRow). r.id) here in omega (arith, k, same, low)) in
        let room : weight_at row.id d.journaled < row.max + 102400 = subst (λ (r : AddressRow). weight_at r.id d.journaled < r.max + 102400) here (roomy (id - 1) row within) in
        let weight = ap (λ (n : ℕ). weight_at n d.journaled) number in
        let limit = ap (λ (a : Address). a.settings.max) (same_Some (address_of row) address is) in
        omega (arith, room, weight, limit)

pub owned_bounded : (engine : Engine) (files : FinMap file_cmp FileState) → Owns engine files → IsBounded (state_of engine) (seen_by engine)
owned_bounded engine files owns = bounded_by engine.state.durable (owned_sound engine.journal engine.state.durable files owns.journal).addresses.numbered owns.roomy

-- an entry alone is a batch
pub spells_one : (payload : List ℕ) (entry : Entry) → payload ≡ batch_bytes (entry ∷ []) → HasFields entry → SpellsBatch payload (entry ∷ [])
spells_one payload entry is fields = record { bytes = is; some = λ e. cc; fields = (fields, tt) }

-- what a command changed, or didn't, is a step of the broker on every site
pub kept_steps : (s t : Kept) (command : Command) (reply : Reply) (outcome : Outcome) → outcome ≡ Unchanged t reply → IsOutcome s (asked (Some command)) outcome → Step (view_of s) (broker_of s) (Some command) reply (broker_of t)
kept_steps s t command reply outcome is what =
    let now : IsOutcome s (asked (Some command)) (Unchanged t reply) = subst (IsOutcome s (asked (Some command))) is what in
    now.1

pub changed_steps : (s t : Kept) (command : Command) (batch : List ℕ) (reply : Reply) (outcome : Outcome) → outcome ≡ Changed t batch reply → IsOutcome s (asked (Some command)) outcome → Step (view_of s) (broker_of s) (Some command) reply (broker_of t)
changed_steps s t command batch reply outcome is what = let now : IsOutcome s (asked (Some command)) (Changed t batch reply) = subst (IsOutcome s (asked (Some command))) is what in now.0

-- an action whose batch was recorded was asked for
pub record Recorded (s : Kept) (asks : Option Action) (batch : List ℕ) (t : Kept) : Type 0 where
  pub action : Action
  pub is : asks ≡ Some action
  pub records : Records s action batch t

pub recorded_by : (s t : Kept) (asks : Option Action) (batch : List ℕ) → RecordsAsked s asks batch t → Recorded s asks batch t
recorded_by s t None batch none = absurd none
recorded_by s t (Some action) batch records = record { action = action; is = refl; records = records }

-- where nothing is added to the journal, nothing is written
pub kept_writes : (engine : Engine) (tells : Option Account) (t : Kept) (command : Command) (reply : Reply) (outcome : Outcome) → outcome ≡ Unchanged t reply → IsOutcome engine.state (asked (Some command)) outcome
    → Changes tells tells (WritesFor engine command engine.journal)
kept_writes engine tells t command reply outcome is what =
    let now : IsOutcome engine.state (asked (Some command)) (Unchanged t reply) = subst (IsOutcome engine.state (asked (Some command))) is what in
    changes_weaker tells tells OnlyReads (WritesFor engine command engine.journal) (changes_none tells OnlyReads (λ h. record { files = refl; told = refl; taken = omega arith })) (λ h a. ([], now.2.nothing, a))

-- the journal gets the batch of the command
pub changed_writes : (engine : Engine) (next : Journal) (old new : Option Account) (t : Kept) (command : Command) (payload : List ℕ) (reply : Reply) (outcome : Outcome) → outcome ≡ Changed t payload reply
    → IsOutcome engine.state (asked (Some command)) outcome → Changes old new (ChangesFile (name_of engine.journal) Anyhow)
    → (IsHonest old → (batches : List (List ℕ)) → Stands engine.journal batches (account old).files → Stands next (batches ++ payload ∷ []) (account new).files)
    → Changes old new (WritesFor engine command next)
changed_writes engine next old new t command payload reply outcome is what change stands =
    let now : IsOutcome engine.state (asked (Some command)) (Changed t payload reply) = subst (IsOutcome engine.state (asked (Some command))) is what in
    let done = recorded_by engine.state t (asked (Some command)) payload now.1 in
    let records = done.records in
    let adds : Adds engine.state (asked (Some command)) (records.entry ∷ []) = subst (λ (a : Option Action). Adds engine.state a (records.entry ∷ [])) (sym done.is) (None, records.accepted, records.has_entry) in
    changes_weaker old new (ChangesFile (name_of engine.journal) Anyhow) (WritesFor engine command next) change (λ h a. (
      records.entry ∷ [],
      adds,
      record {
        told = a.told;
        taken = omega (arith, a.taken);
        others = a.others;
        change = λ batches before. subst (λ (l : List ℕ). Stands next (batches ++ l ∷ []) (account new).files) records.bytes (stands h batches before);
      },
    ))

-- a command that was executed met no limit
no_queue_id : (s : Kept) (asks : Option Action) (action : Action) → asks ≡ Some action → IsAccepted s action → WantsQueueId s action → MeetsNoQueueId s asks
no_queue_id s asks action is accepted wants = subst (MeetsNoQueueId s) (sym is) (accepted, wants)

nothing_added : (s : Kept) (asks : Option Action) (action : Action) (batch : List Entry) → asks ≡ Some action → IsAccepted s action → HasEntries s action batch → Adds s asks [] → batch ≡ []
nothing_added s asks action batch is accepted has adds = one_batch s action batch [] has (added_by s action [] accepted (subst (λ (a : Option Action). Adds s a []) is adds))

pub kept_within : (engine : Engine) (t : Kept) (command : Command) (reply : Reply) (outcome : Outcome) → outcome ≡ Unchanged t reply → IsOutcome engine.state (asked (Some command)) outcome → MeetsLimit engine command → ⊥
kept_within engine t command reply outcome is what meets =
    let now : IsOutcome engine.state (asked (Some command)) (Unchanged t reply) = subst (IsOutcome engine.state (asked (Some command))) is what in
    ⊎_elim (λ none. now.2.queue_id (no_queue_id engine.state (asked (Some command)) meets.action meets.asks meets.accepted none))
    (λ full. full.some (nothing_added engine.state (asked (Some command)) meets.action full.batch meets.asks meets.accepted full.has now.2.nothing)) meets.full

pub changed_within : (engine : Engine) (t : Kept) (command : Command) (payload : List ℕ) (reply : Reply) (outcome : Outcome) → outcome ≡ Changed t payload reply → IsOutcome engine.state (asked (Some command)) outcome
    → (2 ^ 62 < counted engine.journal + length payload + 9 → ⊥) → MeetsLimit engine command → ⊥
changed_within engine t command payload reply outcome is what room meets =
    let now : IsOutcome engine.state (asked (Some command)) (Changed t payload reply) = subst (IsOutcome engine.state (asked (Some command))) is what in
    let done = recorded_by engine.state t (asked (Some command)) payload now.1 in
    let same : done.action ≡ meets.action = same_Some done.action meets.action (sym done.is ∙ meets.asks) in
    let records : Records engine.state meets.action payload t = subst (λ (a : Action). Records engine.state a payload t) same done.records in
    ⊎_elim records.queue_id
    (λ full.
    let bytes : length (batch_bytes full.batch) ≡ length payload = ap (λ (b : List Entry). length (batch_bytes b)) (one_batch engine.state meets.action full.batch (records.entry ∷ []) full.has records.has_entry) ∙ sym (ap length records.bytes) in
    room (omega (arith, full.past, bytes))) meets.full

-- where a limit is told it was met
pub spent_meets : (engine : Engine) (asks : Option Action) (command : Command) → asked (Some command) ≡ asks → MeetsNoQueueId engine.state asks → MeetsLimit engine command
spent_meets engine None command is none = absurd none
spent_meets engine (Some action) command is meets = record { action = action; asks = is; accepted = meets.0; full = inl meets.1 }

pub full_meets : (engine : Engine) (t : Kept) (command : Command) (payload : List ℕ) (reply : Reply) (outcome : Outcome) → outcome ≡ Changed t payload reply → IsOutcome engine.state (asked (Some command)) outcome
    → 2 ^ 62 < counted engine.journal + length payload + 9 → MeetsLimit engine command
full_meets engine t command payload reply outcome is what full =
    let now : IsOutcome engine.state (asked (Some command)) (Changed t payload reply) = subst (IsOutcome engine.state (asked (Some command))) is what in
    let done = recorded_by engine.state t (asked (Some command)) payload now.1 in
    let bytes : length (batch_bytes (done.records.entry ∷ [])) ≡ length payload = sym (ap length done.records.bytes) in
    record {
      action = done.action;
      asks = done.is;
      accepted = done.records.accepted;
      full = inr (record { batch = done.records.entry ∷ []; has = done.records.has_entry; some = some_entry done.records.entry; past = omega (arith, full, bytes) });
    }
  where
    some_entry : (e : Entry) → e ∷ [] ≡ [] → ⊥
    some_entry e is = cc

-- of the other errors it is want of memory
pub spent_or_memory : (s : Kept) (asks : Option Action) (fault : Fault) → IsNoOutcome s asks fault → (fault ≡ Spent) ⊎ (fault ≡ Memory)
spent_or_memory s asks Failed none = absurd none
spent_or_memory s asks (Damaged damage) none = absurd none
spent_or_memory s asks Spent none = inl refl
spent_or_memory s asks Memory none = inr refl

module _ {D : Type 0} (m : Ghosts D) (old : D) (law : (c : Files) (b : List ℕ) → m.left_since old (m.moment old) c b → Leaves (m.tells old) c b)
    (engine : Engine) (owns : Owns engine (account (m.tells old)).files) where
  -- before anything is done
  pub nothing_left : (next : Durable) → Decides m (Keeps (state_of engine).durable) (Keeps next) old old
  nothing_left next = quiet_is_deciding m old old (Keeps (state_of engine).durable) (Keeps next)
      (quiet_none m old (Keeps (state_of engine).durable) law (λ c b left. record {
        denoted = owned_denote engine (account (m.tells old)).files c owns left.image;
        well = λ quiet. image_well (account (m.tells old)).files c quiet left.image;
      }))

  -- a line that asks for nothing leaves all as it was
  pub unread : IsHonest (m.tells old) → Executes m (state_of engine) None old old (Ok (engine, No Line))
  unread honest = record {
    view = seen_by engine;
    shown = owned_shown engine (account (m.tells old)).files owns;
    bounded = owned_bounded engine (account (m.tells old)).files owns;
    reply = No Line;
    next = state_of engine;
    step = (refl, refl);
    moments = nothing_left (state_of engine).durable;
    kept = honest;
    told = refl;
    others = λ file kind. refl;
    ok = (refl, record { kept = honest; stands = refl; owns = owns });
    stays = record { quiet = λ quiet. quiet; well = λ quiet well. well };
  }

  -- what is as before is owned as before
  owned_still : (state : Kept) → IsAsBefore engine.state state → Owns (record { journal = engine.journal; state = state }) (account (m.tells old)).files
  owned_still state same = record {
    journal = subst (λ (d : Folded). OwnsJournal engine.journal d (account (m.tells old)).files) (sym same.durable) owns.journal;
    pages = record {
      paged = subst (λ (d : Folded). ArePaged (as_read (account (m.tells old)).files) d.addresses state.paged) (sym same.durable)
          (subst (λ (p : List Bool). ArePaged (as_read (account (m.tells old)).files) engine.state.durable.addresses p) (sym same.paged) owns.pages.paged);
      known = subst (λ (d : Folded). (address number : ℕ) → IsThere (as_read (account (m.tells old)).files) (page_file address number) → has_address d.addresses address ≡ true) (sym same.durable) owns.pages.known;
    };
    roomy = subst AreRoomy (sym same.durable) owns.roomy;
  }

  -- so does a command that changes nothing but what ends with the run
  pub unchanged : IsHonest (m.tells old) → (command : Command) (outcome : Outcome) (state : Kept) (reply : Reply) → outcome ≡ Unchanged state reply → IsOutcome engine.state (asked (Some command)) outcome
      → Executes m (state_of engine) (Some command) old old (Ok (record { journal = engine.journal; state = state }, reply))
  unchanged honest command outcome state reply is what =
      let now : IsOutcome engine.state (asked (Some command)) (Unchanged state reply) = subst (λ o. IsOutcome engine.state (asked (Some command)) o) is what in
      record {
        view = seen_by engine;
        shown = owned_shown engine (account (m.tells old)).files owns;
        bounded = owned_bounded engine (account (m.tells old)).files owns;
        reply = reply;
        next = broker_of state;
        step = now.1;
        moments = nothing_left (broker_of state).durable;
        kept = honest;
        told = refl;
        others = λ file kind. refl;
        ok = (refl, record { kept = honest; stands = refl; owns = owned_still state now.0 });
        stays = record { quiet = λ quiet. quiet; well = λ quiet well. well };
      }

  -- a batch that is appended
  module _ (command : Command) (payload : List ℕ) (next : Kept) (action : Action) (records : Records engine.state action payload next) where
    abbrev own : OwnsJournal engine.journal engine.state.durable (account (m.tells old)).files
    own = owns.journal

    spelled_now : SpellBatches (own.batches ++ payload ∷ []) (own.entries ++ records.entry ∷ [])
    spelled_now = spelled_push own.batches own.entries payload (records.entry ∷ []) own.spelled (spells_one payload records.entry records.bytes records.fields)

    folded_now : Folds fresh (own.entries ++ records.entry ∷ []) next.durable
    folded_now = folds_applied fresh engine.state.durable next.durable own.entries records.entry own.folded records.applied

    grows : Grows engine.state.durable.addresses next.durable.addresses
    grows = grown engine.state.durable.addresses next.durable.addresses engine.state.paged next.paged records.grows

    either_left : (c : Files) (b : List ℕ) → LeavesOldOrNew engine.journal payload (m.tells old) c b
        → LeavesMeaning (Either (Keeps (state_of engine).durable) (Keeps (broker_of next).durable)) (m.tells old) c b
    either_left c b left = record {
      honest = left.honest;
      nothing = left.told;
      means =
          let kept = λ (quiet : AllQuiet (account (m.tells old)).files) (e : Folded). left_well engine.journal engine.state.durable (account (m.tells old)).files own c e quiet left.others in
          ⊎_elim
          (λ says. inl (record {
            denoted = spelled_denote (as_left c) own.batches own.entries engine.state.durable own.spelled own.folded says;
            well = λ quiet. kept quiet engine.state.durable (spelled_fold (as_left c) own.batches own.entries engine.state.durable own.spelled own.folded says) (inl refl) (λ roomy. roomy);
          }))
          (λ says. inr (record {
            denoted = spelled_denote (as_left c) (own.batches ++ payload ∷ []) (own.entries ++ records.entry ∷ []) next.durable spelled_now folded_now says;
            well = λ quiet. kept quiet next.durable (spelled_fold (as_left c) (own.batches ++ payload ∷ []) (own.entries ++ records.entry ∷ []) next.durable spelled_now folded_now says) grows (λ roomy. records.roomy);
          }))
          (left.left own.batches own.stands);
    }

    -- where the journal's file alone is another one, no file of another kind is
    others_kept : (files : FinMap file_cmp FileState) → ((file : FileId) → file ≢ name_of engine.journal → get files file ≡ get (account (m.tells old)).files file) → KeepsOthers (account (m.tells old)).files files
    others_kept files others file kind = ap bytes_of (others file (λ is. kind (ap (λ (f : FileId). f.kind) is ∙ own.stands.kind)))

    appending : (new : D) → Within m old new (LeavesOldOrNew engine.journal payload) → Decides m (Keeps (state_of engine).durable) (Keeps (broker_of next).durable) old new
    appending new run = quiet_from m old new (LeavesOldOrNew engine.journal payload) (Either (Keeps (state_of engine).durable) (Keeps (broker_of next).durable)) run either_left

    pub append_failed : IsHonest (m.tells old) → (reply : Reply) → Step (seen_by engine) (state_of engine) (Some command) reply (broker_of next) → (new : D) (result : Result (Engine × Reply) Fault) → IsErr result
        → Within m old new (LeavesOldOrNew engine.journal payload) → Changes (m.tells old) (m.tells new) (ChangesFile (name_of engine.journal) (λ _ _. Unit {0}))
        → Executes m (state_of engine) (Some command) old new result
    append_failed honest reply step new result failed run changes = record {
      view = seen_by engine;
      shown = owned_shown engine (account (m.tells old)).files owns;
      bounded = owned_bounded engine (account (m.tells old)).files owns;
      reply = reply;
      next = broker_of next;
      step = step;
      moments = appending new run;
      kept = changes.kept honest;
      told = (changes.step honest).told;
      others = others_kept (account (m.tells new)).files (changes.step honest).others;
      ok = not_ok _ result failed;
      stays = on_not_ok _ result failed;
    }

    -- what is known of pages in the files that there are then
    pages_now : (files : FinMap file_cmp FileState) → ((file : FileId) → file ≢ name_of engine.journal → get files file ≡ get (account (m.tells old)).files file) → OwnsPages next files
    pages_now files others =
        let before = (account (m.tells old)).files in
        let same = λ (file : FileId) (other : file ≢ name_of engine.journal). ap bytes_of (others file other) in
        let sound = owned_sound engine.journal engine.state.durable before own in
        let sound_now = sound_folded next.durable (own.entries ++ records.entry ∷ []) (have_fields (own.batches ++ payload ∷ []) (own.entries ++ records.entry ∷ []) spelled_now) folded_now in
        record {
          paged = pages_grown (as_read before) (as_read files) (name_of engine.journal) own.stands.kind same engine.state.durable.addresses next.durable.addresses engine.state.paged next.paged records.grows
              sound.addresses.numbered sound_now.addresses.numbered owns.pages.known owns.pages.paged;
          known = pages_known (as_read before) (as_read files) (name_of engine.journal) own.stands.kind same engine.state.durable.addresses next.durable.addresses grows owns.pages.known;
        }

    pub appended : IsHonest (m.tells old) → (reply : Reply) → Step (seen_by engine) (state_of engine) (Some command) reply (broker_of next) → (new : D) (journal : Journal) → name_of journal ≡ name_of engine.journal
        → Within m old new (LeavesOldOrNew engine.journal payload) → Changes (m.tells old) (m.tells new) (ChangesFile (name_of engine.journal) (λ _ _. Unit {0}))
        → (IsHonest (m.tells old) → (batches : List (List ℕ)) → Stands engine.journal batches (account (m.tells old)).files → Stands journal (batches ++ payload ∷ []) (account (m.tells new)).files)
        → Executes m (state_of engine) (Some command) old new (Ok (record { journal = journal; state = next }, reply))
    appended honest reply step new journal same run changes stands =
        let change = changes.step honest in
        let files = (account (m.tells old)).files in
        let after = (account (m.tells new)).files in
        let batches = own.batches ++ payload ∷ [] in
        let stood : Stands journal batches after = stands honest own.batches own.stands in
        record {
          view = seen_by engine;
          shown = owned_shown engine files owns;
          bounded = owned_bounded engine files owns;
          reply = reply;
          next = broker_of next;
          step = step;
          moments = appending new run;
          kept = changes.kept honest;
          told = change.told;
          others = others_kept after change.others;
          ok = (
            refl,
            record {
              kept = changes.kept honest;
              stands = refl;
              owns = record {
                journal = record {
                  batches = batches;
                  entries = own.entries ++ records.entry ∷ [];
                  stands = stood;
                  spelled = spelled_now;
                  folded = folded_now;
                  alone = λ file kind other. let apart = subst (λ f. file ≢ f) same other in change.others file apart ∙ own.alone file kind apart;
                };
                pages = pages_now after change.others;
                roomy = records.roomy;
              };
            },
          );
          stays = record {
            quiet = still_quiet engine.journal engine.state.durable files own journal batches after same stood change.others;
            well = λ quiet. read_well engine.journal engine.state.durable files own journal batches after same stood change.others next.durable
                (spelled_fold (as_read after) batches (own.entries ++ records.entry ∷ []) next.durable spelled_now folded_now (stands_reads journal batches after stood)) grows (λ roomy. records.roomy);
          };
        }
