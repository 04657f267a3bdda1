-- A run that begins with opening.
use Rattle.std.proofs.Common.{zero, suc, ◌≡◌, inl, inr, ⊎_elim, ℕ, List, [], ◌∷◌, ◌++◌, length, take, drop, Option, Some, None, refl, sym, ◌∙◌, ap, subst, arith, append_assoc, length-append}
use Rattle.std.proofs.lemmas.List.{append-nil, take_all}
use Rattle.std.specs.Option.{option_map}
use Rattle.std.specs.FinMap.{FinMap, get}
use Rattle.pg_disk.specs.declared.disk.Disk.{Ghosts}
use Rattle.pg_disk.specs.declared.fault.Fault.{Fault}
use Rattle.pg_disk.specs.declared.fault.Fault.TheVariants as fault
use Rattle.pg_disk.specs.declared.file_id.FileId.{FileId}
use Rattle.pg_disk.specs.declared.fault.SiteFault.TheVariants as site
use Rattle.pg_disk.specs.Account.{FileState, Account, account, IsSound, IsHonest, AllQuiet}
use Rattle.pg_disk.specs.Files.{file_cmp, Files}
use Rattle.pg_disk.specs.Image.{AnyFile, IsLeftAt, IsImage, OnceQuiet}
use Rattle.pg_disk.specs.Calls.{Changes, IsSettled}
use Rattle.pg_disk.specs.Moments.{Within, WithinFrom}
use Rattle.pg_disk.specs.Reads.{reads}
use Rattle.pg_disk.proofs.ReadLemmas.{get-reads}
use Rattle.pg_disk.proofs.Composing.{once_since, once_weaker, then_run, weaker}
use Rattle.pg_msg.specs.declared.limits.Limits.{Limits}
use Rattle.pg_msg.specs.declared.reply.Reply.{Reply}
use Rattle.pg_lines.specs.declared.read_error.ReadError.TheVariants as reading
use Rattle.pg_lines.specs.Lines.{IsCut, ended, lines_of}
use Rattle.pg_lines.proofs.CutLemmas.{cut_then, has_cut}
use Rattle.pg_text.specs.Spelling.{ReadAs}
use Rattle.pg_text.proofs.ReadingLemmas.{read_more}
use Rattle.pg_text.specs.Replies.{reply_line, reply_bytes, BeginsNext}
use Rattle.pg_engine.specs.declared.engine.Engine.{Engine}
use Rattle.pg_disk.specs.Views.{Contents, as_read, bytes_of}
use Rattle.pg_model.specs.Broker.{Durable, Broker, opened_from}
use Rattle.pg_model.specs.Steps.{last_state}
use Rattle.pg_recover.specs.Denotation.{Denotes, durable_part}
use Rattle.pg_recover.specs.Recovered.{AreIllFormed, AreKept, IsSpentAt, OpensFiles}
use Rattle.pg_recover.specs.WellFormed.{WellFormed}
use Rattle.pg_engine.specs.Executed.{state_of}
use Rattle.pg_engine.specs.Opened.{LeavesEpoch, OpensAt}
use Rattle.pg_engine.proofs.OpeningLemmas.{one_denoted}
use Rattle.pg_run.specs.declared.run.Stop.{Stop}
use Rattle.pg_run.specs.declared.run.Stop.TheVariants.{Site, Source}
use Rattle.pg_run.specs.declared.status.Status.TheVariants as ended
use Rattle.pg_run.specs.Ran.{ComesToLimit, Ends, Input, IsFullBehind, IsSpared, IsUnopened, StopsAtLimit, Ran, RanOpened, ReadsInput, ServesOpened}
use Rattle.pg_run.specs.Statuses.{Faults, IsAnyBut, IsDamagedStop, IsInputServed, StopCounts, code_of, status_of_fault, status_of_stop}
use Rattle.pg_run.specs.Served.{Tells, IsBetween, LeavesBetween, LeavesOpenedRun, LeavesRun, Serves}
use Rattle.pg_run.specs.Sights.{HasSamePages, IsSeenBeside}
use Rattle.pg_run.proofs.Ending.{takes_nothing}
use Rattle.pg_run.proofs.RunLemmas.{line_some, run_lengths}
use Rattle.pg_run.proofs.SightLemmas.{kept_pages, run_beside}

-- nothing is told yet
begins_none : (replies : List Reply) → BeginsNext [] replies
begins_none [] = refl
begins_none (r ∷ replies) = (reply_line r, line_some r, refl)

tells_none : (replies : List Reply) → Tells replies 0 []
tells_none replies = record { part = []; within = omega arith; bytes = refl; begun = begins_none replies }

-- where nothing of it is pending any more, a file reads as before
settled_bytes : (s t : Option FileState) → IsSettled s t → bytes_of t ≡ bytes_of s
settled_bytes None t settled = ap bytes_of settled
settled_bytes (Some s) None settled = absurd settled
settled_bytes (Some s) (Some t) settled = ap Some settled.1

settled_reads : (old now : FinMap file_cmp FileState) → ((file : FileId) → AnyFile file → IsSettled (get old file) (get now file)) → as_read now ≡ as_read old
settled_reads old now settled = λ i file. (settled_bytes (get old file) (get now file) (settled file tt)) i

-- while the broker is opened
pub opening_left : (ids : ℕ) (durable : Durable) (replies : List Reply) (states : List Broker) (entry : Option Account) → Denotes (as_read (account entry).files) durable → (image : Files) (told : List ℕ)
    → LeavesEpoch entry image told → LeavesRun (opened_from ids durable) replies states entry image told
opening_left ids durable replies states entry denoted image told left = record {
  honest = left.honest;
  moment = ⊎_elim
      (λ before. inl (left.nothing, before.denoted))
      (λ after. inr (record {
        n = 0;
        k = 0;
        close = inl refl;
        within = omega arith;
        more = [];
        bytes = left.nothing ∙ sym (append-nil (account entry).told);
        tells = tells_none replies;
        denoted = after.denoted durable denoted;
      }))
      left.means;
  well = ⊎_elim (λ before. before.well) (λ after. after.well) left.means;
}

-- after it
pub running_left : (first : Broker) (replies : List Reply) (states : List Broker) (entry mid : Option Account) → IsHonest entry → (account mid).told ≡ (account entry).told → AllQuiet (account mid).files
    → (WellFormed (as_read (account entry).files) → WellFormed (as_read (account mid).files)) → (image : Files) (told : List ℕ)
    → LeavesBetween first replies states mid image told → LeavesRun first replies states entry image told
running_left first replies states entry mid honest same quiet stays image told left = record {
  honest = honest;
  moment = inr (subst (λ (before : List ℕ). IsBetween first replies states before image told) same left.between);
  well = λ was. left.well quiet (stays was);
}

module _ {D : Type 0} (m : Ghosts D) (old : D) (limits : Limits) where
  module _ (durable : Durable) (honest : IsHonest (m.tells old)) (denoted : Denotes (as_read (account (m.tells old)).files) durable) (mid : D) (same : (account (m.tells mid)).told ≡ (account (m.tells old)).told)
      (quiet : AllQuiet (account (m.tells mid)).files) (stays : WellFormed (as_read (account (m.tells old)).files) → WellFormed (as_read (account (m.tells mid)).files))
      (pages : HasSamePages (as_read (account (m.tells old)).files) (as_read (account (m.tells mid)).files)) where
    abbrev first : Broker
    first = opened_from limits.ids durable

    -- the moments of opening come before those of the run
    opened_moments : (new : D) (replies : List Reply) (states : List Broker) → Within m old mid (OnceQuiet LeavesEpoch) → Within m mid new (LeavesBetween first replies states)
        → Within m old new (LeavesOpenedRun first replies states)
    opened_moments new replies states opening run = then_run m old mid new (LeavesOpenedRun first replies states) (LeavesBetween first replies states)
        (weaker m old mid (OnceQuiet LeavesEpoch) (LeavesOpenedRun first replies states) opening
        (λ c b. once_weaker LeavesEpoch (LeavesRun first replies states) (m.tells old) c b (opening_left limits.ids durable replies states (m.tells old) denoted c b)))
        run
        (λ c b left. once_since (LeavesRun first replies states) (m.tells old) c b (running_left first replies states (m.tells old) (m.tells mid) honest same quiet stays c b left))

    -- and so do those from the one on at which nothing is pending
    late_moments : (new : D) (replies : List Reply) (states : List Broker) → WithinFrom m AnyFile old mid LeavesEpoch → Within m mid new (LeavesBetween first replies states)
        → WithinFrom m AnyFile old new (LeavesRun first replies states)
    late_moments new replies states opening run =
        let at = opening.at in
        let one = opening.settled.step honest in
        let reads : as_read (account (m.tells at)).files ≡ as_read (account (m.tells old)).files = settled_reads (account (m.tells old)).files (account (m.tells at)).files one.change in
        let here = opening.settled.kept honest in
        record {
          at = at;
          settled = opening.settled;
          first = opening.first;
          run = then_run m at mid new (LeavesRun first replies states) (LeavesBetween first replies states)
              (weaker m at mid LeavesEpoch (LeavesRun first replies states) opening.run
              (opening_left limits.ids durable replies states (m.tells at) (subst (λ (contents : Contents). Denotes contents durable) (sym reads) denoted)))
              run
              (running_left first replies states (m.tells at) (m.tells mid) here (same ∙ sym one.told) quiet (λ well. stays (subst WellFormed reads well)));
        }

    abbrev opened_serves : {lines : List (List ℕ)} {new : D} → Within m old mid (OnceQuiet LeavesEpoch) → Serves LeavesBetween m first lines mid new → Serves LeavesOpenedRun m first lines old new
    opened_serves {lines} {new} opening s = record {
      items = s.items;
      replies = s.replies;
      states = s.states;
      read = s.read;
      run = run_beside (as_read (account (m.tells old)).files) (as_read (account (m.tells mid)).files) pages first s.items s.replies s.states s.run;
      moments = opened_moments new s.replies s.states opening s.moments;
      kept = s.kept;
      n = s.n;
      last = s.last;
      more = s.more;
      bytes = s.bytes ∙ ap (λ (b : List ℕ). b ++ s.more) same;
      told = s.told;
    }

    opened_ends : {lines : List (List ℕ)} {new : D} (status : ℕ) (opening : Within m old mid (OnceQuiet LeavesEpoch)) (s : Serves LeavesBetween m first lines mid new) → Ends s status → Ends (opened_serves opening s) status
    opened_ends status opening s ends = record {
      in_part = ends.in_part;
      all = ends.all;
      at_rest = ends.at_rest;
      stays = λ is. record { quiet = λ _. (ends.stays is).quiet quiet; well = λ _ was. (ends.stays is).well quiet (stays was) };
    }

  -- the state that the engine stands for
  stands_opened : (mid : D) (engine : Engine) → OpensAt limits.ids (m.tells old) (m.tells mid) engine → (durable : Durable) → Denotes (as_read (account (m.tells old)).files) durable → state_of engine ≡ opened_from limits.ids durable
  stands_opened mid engine opens durable denoted =
      opens.stands.stands ∙ (opens.opened.opened ∙ ap (opened_from limits.ids) (one_denoted (as_read (account (m.tells old)).files) opens.opened.durable durable opens.opened.denoted denoted))

  module _ (engine : Engine) (input : Input) (mid new : D) (status : ℕ) (opens : IsHonest (m.tells old) → OpensAt limits.ids (m.tells old) (m.tells mid) engine) (stays : Changes (m.tells old) (m.tells mid) OpensFiles)
      (ran : Ran m (state_of engine) input mid new status) where
    -- what is owed of the run behind the opening, by the state that it begins with
    abbrev Owed : Broker → Type 0
    Owed first = (serves : Serves LeavesBetween m first ran.reading.lines mid new) × Ends serves status × (status ≡ code_of ended.LimitReached → StopsAtLimit serves)

    owed : (durable : Durable) → IsHonest (m.tells old) → Denotes (as_read (account (m.tells old)).files) durable → Owed (opened_from limits.ids durable)
    owed durable honest denoted =
        let here = stays.kept honest in
        subst Owed (stands_opened mid engine (opens honest) durable denoted) (ran.serves here, ran.ends here, ran.full here)

    -- the opening leaves the pages
    same_pages : IsHonest (m.tells old) → HasSamePages (as_read (account (m.tells old)).files) (as_read (account (m.tells mid)).files)
    same_pages honest = kept_pages (account (m.tells old)).files (account (m.tells mid)).files (stays.step honest).change

    pub opened_ran : Within m old mid (OnceQuiet LeavesEpoch) → WithinFrom m AnyFile old mid LeavesEpoch → RanOpened m limits input old new status
    opened_ran opening once = record {
      reading = ran.reading;
      serves = λ durable honest denoted. opened_serves durable honest denoted mid (stays.step honest).told (opens honest).quiet (opens honest).well (same_pages honest) opening (owed durable honest denoted).0;
      ends = λ durable honest denoted.
          let is = owed durable honest denoted in
          opened_ends durable honest denoted mid (stays.step honest).told (opens honest).quiet (opens honest).well (same_pages honest) status opening is.0 is.1;
      full = λ durable honest denoted is.
          let o = owed durable honest denoted in
          let stops = o.2 is in
          inr (record { all = stops.all; full = stops.full });
      late = λ durable honest denoted other.
          let serves = (owed durable honest denoted).0 in
          late_moments durable honest denoted mid (stays.step honest).told (opens honest).quiet (opens honest).well (same_pages honest) new serves.replies serves.states once serves.moments;
    }

  not_served : (fault : Fault) → IsInputServed (status_of_fault fault) → ⊥
  not_served fault.Failed is = ⊎_elim (λ a. omega (arith, a)) (λ other. ⊎_elim (λ b. omega (arith, b)) (λ c. omega (arith, c)) other) is
  not_served (fault.Damaged damage) is = ⊎_elim (λ a. omega (arith, a)) (λ other. ⊎_elim (λ b. omega (arith, b)) (λ c. omega (arith, c)) other) is
  not_served fault.Spent is = ⊎_elim (λ a. omega (arith, a)) (λ other. ⊎_elim (λ b. omega (arith, b)) (λ c. omega (arith, c)) other) is
  not_served fault.Memory is = ⊎_elim (λ a. omega (arith, a)) (λ other. ⊎_elim (λ b. omega (arith, b)) (λ c. omega (arith, c)) other) is

  is_spent : (cause : Fault) → status_of_fault cause ≡ 8 → cause ≡ fault.Spent
  is_spent fault.Failed is = absurd (omega (arith, is))
  is_spent (fault.Damaged damage) is = absurd (omega (arith, is))
  is_spent fault.Spent is = refl
  is_spent fault.Memory is = absurd (omega (arith, is))

  opening_failed : (cause : Fault) → IsAnyBut (ended.Damaged ∷ ended.DiskFailed ∷ ended.OutOfMemory ∷ ended.LimitReached ∷ []) (status_of_fault cause) → ⊥
  opening_failed fault.Failed other = other.1.0 refl
  opening_failed (fault.Damaged damage) other = other.0 refl
  opening_failed fault.Spent other = other.1.1.1.0 refl
  opening_failed fault.Memory other = other.1.1.0 refl

  -- the broker wasn't opened
  pub unopened_ran : (rest : Option (List ℕ)) (new : D) (cause : Fault) → (IsHonest (m.tells old) → cause ≡ fault.Spent → IsUnopened limits.epochs (m.tells old) (m.tells new)) → Changes (m.tells old) (m.tells new) OpensFiles
      → Within m old new (OnceQuiet LeavesEpoch)
      → RanOpened m limits (record { old = rest; new = rest; limit = limits.input }) old new (status_of_fault cause)
  unopened_ran rest new cause spent stays opening = record {
    reading = record {
      read = [];
      source = takes_nothing rest;
      within = λ _. omega arith;
      past = λ is. absurd (not_served cause (inr (inr is)));
      at_end = λ is. absurd (not_served cause (inl is));
      whole = [];
      behind = [];
      cut = subst (λ (l : List ℕ). IsCut l [] []) (sym (take_all limits.input [] (omega arith))) (record { joined = refl; whole_lines = tt; last_line = tt });
      lines = [];
      which = inl refl;
      to_end = λ is. absurd (not_served cause (inl is));
      to_place = λ _. refl;
    };
    serves = λ durable honest denoted. record {
      items = [];
      replies = [];
      states = [];
      read = tt;
      run = tt;
      moments = weaker m old new (OnceQuiet LeavesEpoch) (LeavesOpenedRun (opened_from limits.ids durable) [] []) opening
          (λ c b. once_weaker LeavesEpoch (LeavesRun (opened_from limits.ids durable) [] []) (m.tells old) c b (opening_left limits.ids durable [] [] (m.tells old) denoted c b));
      kept = stays.kept honest;
      n = 0;
      last = inl refl;
      more = [];
      bytes = (stays.step honest).told ∙ sym (append-nil (account (m.tells old)).told);
      told = record { part = []; within = omega arith; bytes = refl; begun = refl };
    };
    ends = λ durable honest denoted. record {
      in_part = λ _. refl;
      all = λ is. absurd (not_served cause is);
      at_rest = λ is. absurd (not_served cause is);
      stays = λ is. absurd (not_served cause is);
    };
    full = λ durable honest denoted is. inl (spent honest (is_spent cause is));
    late = λ durable honest denoted other. absurd (opening_failed cause other);
  }

some_same : (xs ys : List ℕ) → Some xs ≡ Some ys → xs ≡ ys
some_same xs ys e = cc

-- of a file a read gives what a crash may leave
read_left : (files : FinMap file_cmp FileState) → ((f : FileId) (s : FileState) → get files f ≡ Some s → IsSound s) → IsImage files (reads files)
read_left files sound f = subst (λ (left : Option (List ℕ)). IsLeftAt (get files f) left) (sym (get-reads files f)) (by (get files f) (sound f))
  where
    by : (s : Option FileState) → ((t : FileState) → s ≡ Some t → IsSound t) → IsLeftAt s (option_map (λ t. t.bytes) s)
    by None sound = tt
    by (Some t) sound = record { no_shorter = (sound t refl).no_shorter; no_longer = (sound t refl).no_longer; as_read = λ i lt outside. refl }

-- an input that was told is served to its end
pub input_served : {D : Type 0} (m : Ghosts D) (limits : Limits) (input : Input) (old new : D) → RanOpened m limits input old new 0 → IsHonest (m.tells old) → (durable : Durable) → Denotes (as_read (account (m.tells old)).files) durable
    → (bytes : List ℕ) → input.old ≡ Some bytes → (input.new ≡ Some []) × ServesOpened limits.ids bytes (account (m.tells old)) (account (m.tells new))
input_served m limits input old new ran honest durable denoted bytes is =
    let reading = ran.reading in
    let end : input.new ≡ Some [] = reading.at_end refl bytes is in
    let given = reading.source bytes is in
    let none : given.0 ≡ [] = some_same given.0 [] (sym given.1 ∙ end) in
    let whole_input : take input.limit reading.read ≡ bytes = take_all input.limit reading.read (reading.within (λ e. omega (arith, e))) ∙ (sym (append-nil reading.read) ∙ (ap (λ (ys : List ℕ). reading.read ++ ys) (sym none) ∙ sym given.2)) in
    let s = ran.serves durable honest denoted in
    let e = ran.ends durable honest denoted in
    let all = e.all (inl refl) in
    let sizes = run_lengths (IsSeenBeside (as_read (account (m.tells old)).files)) (opened_from limits.ids durable) s.items s.replies s.states s.run in
    let to_end = reading.to_end refl in (
      end,
      record {
        durable = durable;
        denoted = denoted;
        serves = record {
          whole = reading.whole;
          behind = reading.behind;
          cut = subst (λ (text : List ℕ). IsCut text reading.whole reading.behind) whole_input reading.cut;
          items = s.items;
          replies = s.replies;
          states = s.states;
          read = subst (λ (lines : List (List ℕ)). ReadAs lines s.items) to_end s.read;
          all = all.0 ∙ ap length to_end;
          run = s.run;
          told = s.bytes ∙ ap (λ (b : List ℕ). (account (m.tells old)).told ++ b)
              (s.told.bytes ∙ (ap (λ (part : List ℕ). reply_bytes (take s.n s.replies) ++ part) (e.in_part (λ e. omega (arith, e))) ∙ (append-nil (reply_bytes (take s.n s.replies)) ∙ ap reply_bytes (take_all s.n s.replies (omega (arith, all.0, all.1, sizes.1))))));
          denoted = e.at_rest (inl refl) (reads (account (m.tells new)).files) (read_left (account (m.tells new)).files s.kept.sound);
        };
        well = (e.stays (inl refl)).well;
      },
    )

-- a line that stands behind the first ones stands there too where more lines follow
drop_more : (n : ℕ) (lines more others : List (List ℕ)) (line : List ℕ) → drop n lines ≡ line ∷ others → drop n (lines ++ more) ≡ line ∷ (others ++ more)
drop_more zero lines more others line is = ap (λ (ls : List (List ℕ)). ls ++ more) is
drop_more (suc n) [] more others line is = cc
drop_more (suc n) (l ∷ lines) more others line is = drop_more n lines more others line is

limit_longer : {D : Type 0} (m : Ghosts D) (first : Broker) (lines more : List (List ℕ)) (old new : D) → ComesToLimit m first lines old new → ComesToLimit m first (lines ++ more) old new
limit_longer m first lines more old new comes = record {
  items = comes.items;
  replies = comes.replies;
  states = comes.states;
  read = read_more lines more comes.items comes.read;
  run = comes.run;
  full = record {
    line = comes.full.line;
    others = comes.full.others ++ more;
    next = drop_more (length comes.items) lines more comes.full.others comes.full.line comes.full.next;
    full = comes.full.full;
  };
}

-- the lines of a text begin with those of its front
lines_longer : (whole more : List (List ℕ)) (behind : List ℕ) → lines_of (whole ++ more) behind ≡ whole ++ lines_of more behind
lines_longer whole more [] = refl
lines_longer whole more (byte ∷ behind) = append_assoc whole more ((byte ∷ behind) ∷ [])

-- where nothing fails and no limit is met a run ends early only for want of memory
module _ {D : Type 0} (m : Ghosts D) (limits : Limits) (input : Input) (old new : D) (f : Faults) (spared : IsSpared m limits input old new f) where
  abbrev durable : Durable
  durable = durable_part spared.well.state

  abbrev opened : Broker
  opened = opened_from limits.ids durable

  denotes_well : Denotes (as_read (account (m.tells old)).files) durable
  denotes_well = record { state = spared.well.state; folds = spared.well.folds; is = refl }

  -- no line of a front of the input is one that meets a limit
  not_full : (status : ℕ) (reading : ReadsInput input status) → (status ≡ 7 → ⊥) → ComesToLimit m opened reading.lines old new → ⊥
  not_full status reading short comes =
      let given = reading.source spared.bytes spared.told in
      let all_read : take input.limit reading.read ≡ reading.read = take_all input.limit reading.read (reading.within short) in
      ⊎_elim
      (λ is.
      let more = has_cut (reading.behind ++ given.0) in
      let joined : spared.bytes ≡ ended reading.whole ++ (reading.behind ++ given.0)
      = given.2 ∙ (ap (λ (l : List ℕ). l ++ given.0) (sym all_read ∙ reading.cut.joined) ∙ append_assoc (ended reading.whole) reading.behind given.0) in
      spared.room durable denotes_well (reading.whole ++ more.whole) more.behind
      (subst (λ (text : List ℕ). IsCut text (reading.whole ++ more.whole) more.behind) (sym joined) (cut_then reading.whole (reading.behind ++ given.0) more.whole more.behind reading.cut.whole_lines more.cut))
      (subst (λ (lines : List (List ℕ)). ComesToLimit m opened lines old new) (sym (lines_longer reading.whole more.whole more.behind))
      (limit_longer m opened reading.whole (lines_of more.whole more.behind) old new (subst (λ (lines : List (List ℕ)). ComesToLimit m opened lines old new) is comes))))
      (λ is.
      let none : given.0 ≡ [] = some_same given.0 [] (sym given.1 ∙ is.1 spared.bytes spared.told) in
      let same : take input.limit reading.read ≡ spared.bytes = all_read ∙ (sym (append-nil reading.read) ∙ (ap (λ (ys : List ℕ). reading.read ++ ys) (sym none) ∙ sym given.2)) in
      spared.room durable denotes_well reading.whole reading.behind (subst (λ (text : List ℕ). IsCut text reading.whole reading.behind) same reading.cut)
      (subst (λ (lines : List (List ℕ)). ComesToLimit m opened lines old new) is.0 comes))
      reading.which

  pub completes : (stop : Stop) → StopCounts stop f → (IsDamagedStop stop → AreIllFormed (m.tells old)) → RanOpened m limits input old new (status_of_stop stop) → status_of_stop stop ≡ 6
  completes (Site (site.Disk fault.Failed)) counts damaged ran = absurd (spared.faults.disk counts.0.disk)
  completes (Site (site.Disk (fault.Damaged damage))) counts damaged ran = absurd (damaged tt spared.honest spared.well)
  completes (Site (site.Disk fault.Spent)) counts damaged ran =
      let r = ran.serves durable spared.honest denotes_well in
      absurd (⊎_elim (λ unopened. spared.epoch unopened.none)
      (λ stops. not_full 8 ran.reading (λ is. omega (arith, is)) (record {
        items = r.items;
        replies = r.replies;
        states = r.states;
        read = r.read;
        run = r.run;
        full = subst (λ (n : ℕ). IsFullBehind m (last_state opened r.states) (drop n ran.reading.lines) new) (sym stops.all) stops.full;
      }))
      (ran.full durable spared.honest denotes_well refl))
  completes (Site (site.Disk fault.Memory)) counts damaged ran = refl
  completes (Site site.Sink) counts damaged ran = absurd (spared.faults.output counts.0.output)
  completes (Source reading.Failed) counts damaged ran = absurd (spared.faults.source counts.1)
  completes (Source reading.TooLong) counts damaged ran =
      let given = ran.reading.source spared.bytes spared.told in
      absurd (omega (arith, ran.reading.past refl, spared.short, ap length given.2, length-append ran.reading.read given.0))
  completes (Source reading.Memory) counts damaged ran = refl

-- an opening that failed, but for Failed, Damaged and Memory, found a state
pub failed_denoted : {D : Type 0} (tells : D → Option Account) (old : D) (epochs : ℕ) (cause : Fault) → IsSpentAt epochs (tells old) cause → IsAnyBut (ended.Damaged ∷ ended.DiskFailed ∷ ended.OutOfMemory ∷ []) (status_of_fault cause) → IsHonest (tells old)
    → (durable : Durable) × Denotes (as_read (account (tells old)).files) durable
failed_denoted tells old epochs fault.Failed spent other honest = absurd (other.1.0 refl)
failed_denoted tells old epochs (fault.Damaged damage) spent other honest = absurd (other.0 refl)
failed_denoted tells old epochs fault.Spent spent other honest = let none = spent honest in (durable_part none.state, record { state = none.state; folds = none.folds; is = refl })
failed_denoted tells old epochs fault.Memory spent other honest = absurd (other.1.1.0 refl)

-- where it is spent there is no next epoch, and the files are kept
pub spent_unopened : {D : Type 0} (tells : D → Option Account) (old new : D) (epochs : ℕ) (cause : Fault) → IsSpentAt epochs (tells old) cause → AreKept (tells old) (tells new) cause → IsHonest (tells old) → cause ≡ fault.Spent → IsUnopened epochs (tells old) (tells new)
spent_unopened tells old new epochs fault.Failed spent kept honest is = cc
spent_unopened tells old new epochs (fault.Damaged damage) spent kept honest is = cc
spent_unopened tells old new epochs fault.Spent spent kept honest is = record { none = spent honest; kept = kept }
spent_unopened tells old new epochs fault.Memory spent kept honest is = cc

pub opens_denoted : (ids : ℕ) (old new : Option Account) (engine : Engine) → OpensAt ids old new engine → (durable : Durable) × Denotes (as_read (account old).files) durable
opens_denoted ids old new engine opens = (opens.opened.durable, opens.opened.denoted)
