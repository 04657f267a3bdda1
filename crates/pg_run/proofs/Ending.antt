-- The lines that were read and served so far, and what stands at each end of a run.
use Rattle.std.proofs.Common.{◌≡◌, ◌≢◌, ◌⊎◌, inl, inr, ⊎_elim, ℕ, suc, ◌+◌, ◌≤◌, Bool, true, false, List, [], ◌∷◌, ◌++◌, length, take, drop, Option, Some, Result, Ok, Err, refl, sym, ◌∙◌, ap, subst, arith, append_assoc, length-append}
use Rattle.std.proofs.lemmas.List.{append-nil, take_all}
use Rattle.std.proofs.Math.Seq.{drop-append_seam, take-append-add}
use Rattle.std.specs.Prelude.{IsErr, IsErrAnd, ◌==◌}
use Rattle.std.proofs.lemmas.Bool.Decides.{nat_tests}
use Rattle.pg_disk.specs.declared.disk.Disk.{Ghosts}
use Rattle.pg_disk.specs.declared.fault.Fault.TheVariants as fault
use Rattle.pg_disk.specs.declared.fault.SiteFault.{SiteFault}
use Rattle.pg_disk.specs.declared.fault.SiteFault.TheVariants as site
use Rattle.pg_disk.specs.Account.{account, IsHonest}
use Rattle.pg_disk.specs.Files.{Files}
use Rattle.pg_disk.specs.Image.{Leaves}
use Rattle.pg_disk.specs.Reads.{TakesFrom}
use Rattle.pg_msg.specs.declared.command.Command.{Command}
use Rattle.pg_lines.specs.declared.reader.LineReader.{LineReader}
use Rattle.pg_lines.specs.declared.read_error.ReadError.{ReadError}
use Rattle.pg_lines.specs.declared.read_error.ReadError.TheVariants as reading
use Rattle.pg_lines.specs.Lines.{HaveNoLineEnd, ended, IsCut, lines_of, longest_line}
use Rattle.pg_lines.specs.Reading.{pending_of, left_of, IsAtEnd, TookLine, StoppedReading}
use Rattle.pg_lines.proofs.CutLemmas.{ended-push, HaveNoLineEnd-append, has_cut, cut_then, cut_last, cut_line, lines_of-some}
use Rattle.pg_lines.proofs.LineLemmas.{TakesFrom-then}
use Rattle.pg_text.specs.Spelling.{ReadsAs}
use Rattle.pg_text.proofs.ReadingLemmas.{kept_reads}
use Rattle.pg_engine.specs.declared.engine.Engine.{Engine}
use Rattle.pg_model.specs.Broker.{Broker}
use Rattle.pg_engine.specs.Executed.{state_of, Owns, StandsAt, MeetsLimit}
use Rattle.pg_run.specs.declared.run.Stop.{Stop}
use Rattle.pg_run.specs.declared.run.Stop.TheVariants.{Site, Source}
use Rattle.pg_run.specs.Answered.{IsPartOf}
use Rattle.pg_run.specs.Ran.{Ends, Input, ReadsInput, Ran, StopsAtLimit}
use Rattle.pg_run.specs.Served.{LeavesBetween, Serves, ServesAll}
use Rattle.pg_run.specs.Statuses.{IsInputServed, status_of_stop, status_of}
use Rattle.pg_run.proofs.Running.{none_served, kept_served, kept_begun, longer, as_run, reply_count, rests, all_then, run_more}

-- nothing was read
pub takes_nothing : (rest : Option (List ℕ)) → TakesFrom rest rest []
takes_nothing rest xs is = (xs, is, refl)

not_served_2 : IsInputServed 2 → ⊥
not_served_2 is = ⊎_elim (λ a. omega (arith, a)) (λ other. ⊎_elim (λ b. omega (arith, b)) (λ c. omega (arith, c)) other) is

not_served_3 : IsInputServed 3 → ⊥
not_served_3 is = ⊎_elim (λ a. omega (arith, a)) (λ other. ⊎_elim (λ b. omega (arith, b)) (λ c. omega (arith, c)) other) is

not_served_4 : IsInputServed 4 → ⊥
not_served_4 is = ⊎_elim (λ a. omega (arith, a)) (λ other. ⊎_elim (λ b. omega (arith, b)) (λ c. omega (arith, c)) other) is

not_served_6 : IsInputServed 6 → ⊥
not_served_6 is = ⊎_elim (λ a. omega (arith, a)) (λ other. ⊎_elim (λ b. omega (arith, b)) (λ c. omega (arith, c)) other) is

not_served_8 : IsInputServed 8 → ⊥
not_served_8 is = ⊎_elim (λ a. omega (arith, a)) (λ other. ⊎_elim (λ b. omega (arith, b)) (λ c. omega (arith, c)) other) is

-- where the site failed the input isn't served as far as it was read
not_served : (fault : SiteFault) → IsInputServed (status_of_stop (Site fault)) → ⊥
not_served (site.Disk fault.Failed) is = not_served_3 is
not_served (site.Disk (fault.Damaged damage)) is = not_served_2 is
not_served (site.Disk fault.Spent) is = not_served_8 is
not_served (site.Disk fault.Memory) is = not_served_6 is
not_served site.Sink is = not_served_4 is

none_kept : (n : ℕ) (line : List ℕ) → take (n + 1) line ≡ [] → line ≡ []
none_kept n [] none = refl
none_kept n (b ∷ line) none = let e : n + 1 ≡ suc n = omega arith in let some : take (suc n) (b ∷ line) ≡ [] = subst (λ (m : ℕ). take m (b ∷ line) ≡ []) e none in cc

-- of what was read within the limit the limit takes all
within_limit : (limit : ℕ) (read : List ℕ) → length read ≤ limit → take limit read ≡ read
within_limit limit read le = take_all limit read le

module _ {D : Type 0} (m : Ghosts D) (first : Broker) (limit : ℕ) (old : D) (rest_old : Option (List ℕ)) where
  -- the whole lines of what was read are served, and the rest is pending
  pub record SoFar (now : D) (rest : Option (List ℕ)) (reader : LineReader) (engine : Engine) : Type 0 where
    pub read : List ℕ
    pub whole : List (List ℕ)
    pub source : TakesFrom rest_old rest read
    pub count : left_of reader + length read ≡ limit
    pub bytes : read ≡ ended whole ++ pending_of reader
    pub no_end : HaveNoLineEnd whole
    pub back : IsHonest (m.tells now) → IsHonest (m.tells old)
    pub served : IsHonest (m.tells old) → ServesAll m first whole old now engine

  -- the input, of which this is left
  abbrev over : Option (List ℕ) → Input
  over rest = record { old = rest_old; new = rest; limit = limit }

  -- these lines are served, and what of it is owed at this status
  record Owed (lines : List (List ℕ)) (new : D) (status : ℕ) : Type 0 where
    serves : Serves LeavesBetween m first lines old new
    ends : Ends serves status
    full : status ≡ 8 → StopsAtLimit serves

  ran_of : (rest : Option (List ℕ)) (new : D) (status : ℕ) (reading : ReadsInput (over rest) status) → (IsHonest (m.tells old) → Owed reading.lines new status) → Ran m first (over rest) old new status
  ran_of rest new status reading owed = record { reading = reading; serves = λ honest. (owed honest).serves; ends = λ honest. (owed honest).ends; full = λ honest. (owed honest).full }

  pub so_far_first : ((c : Files) (b : List ℕ) → m.left_since old (m.moment old) c b → Leaves (m.tells old) c b) → (reader : LineReader) (engine : Engine) → pending_of reader ≡ [] → left_of reader ≡ limit → (IsHonest (m.tells old) → StandsAt engine first (m.tells old)) → SoFar old rest_old reader engine
  so_far_first law reader engine pending left stands = record {
    read = [];
    whole = [];
    source = takes_nothing rest_old;
    count = omega (arith, left);
    bytes = sym pending;
    no_end = tt;
    back = λ honest. honest;
    served = λ honest. none_served m first old law engine (stands honest);
  }

  module _ (now : D) (rest : Option (List ℕ)) (reader : LineReader) (engine : Engine) (s : SoFar now rest reader engine) where
    -- what is read with a further piece
    more_bytes : (taken rest_bytes : List ℕ) → pending_of reader ++ taken ≡ rest_bytes → s.read ++ taken ≡ ended s.whole ++ rest_bytes
    more_bytes taken rest_bytes is = ap (λ (l : List ℕ). l ++ taken) s.bytes ∙ (append_assoc (ended s.whole) (pending_of reader) taken ∙ ap (λ (l : List ℕ). ended s.whole ++ l) is)

    -- one line more is served
    pub one_more : (next_reader : LineReader) (next_rest : Option (List ℕ)) (line : List ℕ) → TookLine reader next_reader rest next_rest line true → (new : D) (next : Engine)
        → (IsHonest (m.tells new) → IsHonest (m.tells now)) → (IsHonest (m.tells now) → ServesAll m (state_of engine) (line ∷ []) now new next) → SoFar new next_rest next_reader next
    one_more next_reader next_rest line took new next back answered = record {
      read = s.read ++ took.taken;
      whole = s.whole ++ (took.whole ∷ []);
      source = TakesFrom-then rest_old rest next_rest s.read took.taken s.source took.source;
      count = omega (arith, s.count, took.count, length-append s.read took.taken);
      bytes = more_bytes took.taken (took.whole ++ (10 ∷ pending_of next_reader)) (took.bytes ∙ ap (λ (l : List ℕ). took.whole ++ l) took.ends) ∙ ended-push s.whole took.whole (pending_of next_reader);
      no_end = HaveNoLineEnd-append s.whole (took.whole ∷ []) s.no_end (took.no_end, tt);
      back = λ honest. s.back (back honest);
      served = λ honest.
          let before = s.served honest in
          all_then m first old s.whole now engine honest before (took.whole ∷ []) new next
          (kept_served m (state_of engine) now line took.whole took.kept new next (answered before.stands.kept));
    }

    -- the engine owns the files
    pub owns_now : IsHonest (m.tells now) → Owns engine (account (m.tells now)).files
    owns_now honest = (s.served (s.back honest)).stands.owns

    -- a status at which the input isn't served as far as it was read
    abbrev pub IsStopped : ℕ → Type 0
    IsStopped status = (IsInputServed status → ⊥) × ((status ≡ 8) → ⊥)

    -- the input failed, or its limit was met
    placed : (status : ℕ) → (status ≡ 5) ⊎ (status ≡ 7) → IsHonest (m.tells old) → Owed s.whole now status
    placed status place honest =
        let all = s.served honest in
        record {
          serves = as_run m first old s.whole now engine all;
          ends = record {
            in_part = λ _. refl;
            all = λ _. (all.all, reply_count m first old s.whole now engine all);
            at_rest = λ _ image is. rests m first old s.whole now engine all image is;
            stays = λ _. all.stays;
          };
          full = λ is. absurd (⊎_elim (λ five. omega (arith, is, five)) (λ seven. omega (arith, is, seven)) place);
        }

    -- no memory for a further line
    forgotten : (whole : List (List ℕ)) → IsHonest (m.tells old) → Owed (s.whole ++ whole) now 6
    forgotten whole honest =
        let all = s.served honest in
        record {
          serves = longer m first old s.whole whole now (as_run m first old s.whole now engine all);
          ends = record {
            in_part = λ _. refl;
            all = λ is. absurd (not_served_6 is);
            at_rest = λ is. absurd (not_served_6 is);
            stays = λ is. absurd (not_served_6 is);
          };
          full = λ is. absurd (omega (arith, is));
        }

    -- the reader stopped
    pub stopped_reading : (next_rest : Option (List ℕ)) (error : ReadError) → StoppedReading reader rest next_rest error → Ran m first (over next_rest) old now (status_of_stop (Source error))
    stopped_reading next_rest reading.Failed stopped = ran_of next_rest now 5
        (record {
          read = s.read ++ stopped.taken;
          source = TakesFrom-then rest_old rest next_rest s.read stopped.taken s.source stopped.source;
          within = λ _. omega (arith, s.count, stopped.stops.0, length-append s.read stopped.taken);
          past = λ is. absurd (omega (arith, is));
          at_end = λ is. absurd (omega (arith, is));
          whole = s.whole;
          behind = pending_of reader ++ stopped.taken;
          cut = subst (λ (l : List ℕ). IsCut l s.whole (pending_of reader ++ stopped.taken))
              (sym (within_limit limit (s.read ++ stopped.taken) (omega (arith, s.count, stopped.stops.0, length-append s.read stopped.taken)) ∙ more_bytes stopped.taken (pending_of reader ++ stopped.taken) refl))
              (cut_last s.whole (pending_of reader ++ stopped.taken) s.no_end stopped.stops.1);
          lines = s.whole;
          which = inl refl;
          to_end = λ is. absurd (omega (arith, is));
          to_place = λ _. refl;
        })
        (placed 5 (inl refl))
    stopped_reading next_rest reading.TooLong stopped =
        let kept = take (left_of reader) stopped.taken in
        let size : limit ≡ length s.read + left_of reader = omega (arith, s.count) in
        let front : take limit (s.read ++ stopped.taken) ≡ s.read ++ kept = ap (λ (n : ℕ). take n (s.read ++ stopped.taken)) size ∙ take-append-add s.read stopped.taken (left_of reader) in
        ran_of next_rest now 7
        (record {
          read = s.read ++ stopped.taken;
          source = TakesFrom-then rest_old rest next_rest s.read stopped.taken s.source stopped.source;
          within = λ no. absurd (no refl);
          past = λ _. omega (arith, s.count, stopped.stops.0, length-append s.read stopped.taken);
          at_end = λ is. absurd (omega (arith, is));
          whole = s.whole;
          behind = pending_of reader ++ kept;
          cut = subst (λ (l : List ℕ). IsCut l s.whole (pending_of reader ++ kept)) (sym (front ∙ more_bytes kept (pending_of reader ++ kept) refl)) (cut_last s.whole (pending_of reader ++ kept) s.no_end stopped.stops.1);
          lines = s.whole;
          which = inl refl;
          to_end = λ is. absurd (omega (arith, is));
          to_place = λ _. refl;
        })
        (placed 7 (inr refl))
    stopped_reading next_rest reading.Memory stopped =
        let text = pending_of reader ++ stopped.taken in
        let more = has_cut text in
        ran_of next_rest now 6
        (record {
          read = s.read ++ stopped.taken;
          source = TakesFrom-then rest_old rest next_rest s.read stopped.taken s.source stopped.source;
          within = λ _. omega (arith, s.count, stopped.stops, length-append s.read stopped.taken);
          past = λ is. absurd (omega (arith, is));
          at_end = λ is. absurd (omega (arith, is));
          whole = s.whole ++ more.whole;
          behind = more.behind;
          cut = subst (λ (l : List ℕ). IsCut l (s.whole ++ more.whole) more.behind)
              (sym (within_limit limit (s.read ++ stopped.taken) (omega (arith, s.count, stopped.stops, length-append s.read stopped.taken)) ∙ more_bytes stopped.taken text refl))
              (cut_then s.whole text more.whole more.behind s.no_end more.cut);
          lines = s.whole ++ more.whole;
          which = inl refl;
          to_end = λ is. absurd (omega (arith, is));
          to_place = λ _. refl;
        })
        (forgotten more.whole)

    -- the end of the input, seen from the first read
    end_from : (next_rest : Option (List ℕ)) → IsAtEnd rest next_rest → IsAtEnd rest_old next_rest
    end_from next_rest ends xs is = let given = s.source xs is in ends given.0 given.1

    -- what was read with a line more, which ended or not
    module _ (next_reader : LineReader) (next_rest : Option (List ℕ)) (line : List ℕ) where
      size_more : (ended_line : Bool) → (took : TookLine reader next_reader rest next_rest line ended_line) → length (s.read ++ took.taken) ≤ limit
      size_more ended_line took = omega (arith, s.count, took.count, length-append s.read took.taken)

      all_within : (ended_line : Bool) → (took : TookLine reader next_reader rest next_rest line ended_line) → take limit (s.read ++ took.taken) ≡ ended s.whole ++ (took.whole ++ took.behind)
      all_within ended_line took = within_limit limit (s.read ++ took.taken) (size_more ended_line took) ∙ more_bytes took.taken (took.whole ++ took.behind) took.bytes

      -- where the input ends, it is cut into the lines that were served and the last one
      cut_at_end : (took : TookLine reader next_reader rest next_rest line false) → IsCut (take limit (s.read ++ took.taken)) s.whole took.whole
      cut_at_end took = subst (λ (l : List ℕ). IsCut l s.whole took.whole)
          (sym (all_within false took ∙ ap (λ (l : List ℕ). ended s.whole ++ l) (ap (λ (l : List ℕ). took.whole ++ l) took.ends.0 ∙ append-nil took.whole))) (cut_last s.whole took.whole s.no_end took.no_end)

      -- all lines up to the end are served
      served_to_end : (took : TookLine reader next_reader rest next_rest line false) → (new : D) → (IsHonest (m.tells old) → (next : Engine) × ServesAll m first (lines_of s.whole took.whole) old new next)
          → Ran m first (over next_rest) old new 0
      served_to_end took new served = ran_of next_rest new 0
          (record {
            read = s.read ++ took.taken;
            source = TakesFrom-then rest_old rest next_rest s.read took.taken s.source took.source;
            within = λ _. size_more false took;
            past = λ is. absurd (omega (arith, is));
            at_end = λ _. end_from next_rest took.ends.2;
            whole = s.whole;
            behind = took.whole;
            cut = cut_at_end took;
            lines = lines_of s.whole took.whole;
            which = inr (refl, end_from next_rest took.ends.2);
            to_end = λ _. refl;
            to_place = λ is. absurd (⊎_elim (λ b. omega (arith, b)) (λ c. omega (arith, c)) is);
          })
          (λ honest.
          let all = served honest in
          record {
            serves = as_run m first old (lines_of s.whole took.whole) new all.0 all.1;
            ends = record {
              in_part = λ _. refl;
              all = λ _. (all.1.all, reply_count m first old (lines_of s.whole took.whole) new all.0 all.1);
              at_rest = λ _ image is. rests m first old (lines_of s.whole took.whole) new all.0 all.1 image is;
              stays = λ _. all.1.stays;
            };
            full = λ is. absurd (omega (arith, is));
          })

      -- nothing stands behind the last line end
      pub ended_empty : TookLine reader next_reader rest next_rest line false → line ≡ [] → Ran m first (over next_rest) old now 0
      ended_empty took empty = served_to_end took now (λ honest. (engine, subst (λ (ls : List (List ℕ)). ServesAll m first ls old now engine) (ap (λ (l : List ℕ). lines_of s.whole l) (sym (none_kept longest_line took.whole (sym took.kept ∙ empty)))) (s.served honest)))

      -- the last line is served
      pub ended_served : TookLine reader next_reader rest next_rest line false → line ≢ [] → (new : D) (next : Engine) → (IsHonest (m.tells now) → ServesAll m (state_of engine) (line ∷ []) now new next) → Ran m first (over next_rest) old new 0
      ended_served took some new next answered = served_to_end took new (λ honest.
          let before = s.served honest in (
            next,
            subst (λ (ls : List (List ℕ)). ServesAll m first ls old new next) (sym (lines_of-some s.whole took.whole (λ none. some (took.kept ∙ ap (λ (l : List ℕ). take (longest_line + 1) l) none))))
                (all_then m first old s.whole now engine honest before (took.whole ∷ []) new next
                (kept_served m (state_of engine) now line took.whole took.kept new next (answered before.stands.kept))),
          ))

      -- a line that was read and not served: the lines are those before it, it, and more
      module _ (ended_line : Bool) (took : TookLine reader next_reader rest next_rest line ended_line) (more : List (List ℕ)) where
        broken : (status : ℕ) → IsStopped status → (new : D) → (given : Serves LeavesBetween m (state_of engine) (line ∷ []) now new) → (status ≢ 4 → given.told.part ≡ []) → IsHonest (m.tells old)
            → Owed (s.whole ++ (took.whole ∷ more)) new status
        broken status stopped new given quiet honest = record {
          serves = run_more m first old s.whole now engine honest (s.served honest) (took.whole ∷ more) new
              (longer m (state_of engine) now (took.whole ∷ []) more new (kept_begun m (state_of engine) now line took.whole took.kept new given));
          ends = record {
            in_part = quiet;
            all = λ is. absurd (stopped.0 is);
            at_rest = λ is. absurd (stopped.0 is);
            stays = λ is. absurd (stopped.0 is);
          };
          full = λ is. absurd (stopped.1 is);
        }

        -- a limit is met
        spent : (command : Command) → ReadsAs line (Some command) → MeetsLimit engine command → IsHonest (m.tells old) → Owed (s.whole ++ (took.whole ∷ more)) now 8
        spent command reads meets honest =
            let all = s.served honest in
            record {
              serves = longer m first old s.whole (took.whole ∷ more) now (as_run m first old s.whole now engine all);
              ends = record {
                in_part = λ _. refl;
                all = λ is. absurd (not_served_8 is);
                at_rest = λ is. absurd (not_served_8 is);
                stays = λ is. absurd (not_served_8 is);
              };
              full = λ _. record {
                all = all.all ∙ sym (reply_count m first old s.whole now engine all);
                full = record {
                  line = took.whole;
                  others = more;
                  next = subst (λ (n : ℕ). drop n (s.whole ++ (took.whole ∷ more)) ≡ took.whole ∷ more) (sym (reply_count m first old s.whole now engine all)) (drop-append_seam s.whole (took.whole ∷ more));
                  full = record {
                    engine = engine;
                    stands = all.stands;
                    command = command;
                    reads = kept_reads took.whole (Some command) (subst (λ (l : List ℕ). ReadsAs l (Some command)) took.kept reads);
                    limit = meets;
                  };
                };
              };
            }

        -- the answer to the line gave up
        gave_up : (cause : SiteFault) (new : D)
            → (IsHonest (m.tells now) → (given : Serves LeavesBetween m (state_of engine) (line ∷ []) now new) × IsPartOf cause given.told.part)
            → (cause ≡ site.Disk fault.Spent → new ≡ now) → (cause ≡ site.Disk fault.Spent → (command : Command) × ReadsAs line (Some command) × MeetsLimit engine command)
            → IsHonest (m.tells old) → Owed (s.whole ++ (took.whole ∷ more)) new (status_of_stop (Site cause))
        gave_up (site.Disk fault.Failed) new given same full honest = let g = given (s.served honest).stands.kept in broken 3 (not_served_3, λ is. omega (arith, is)) new g.0 (λ _. g.1) honest
        gave_up (site.Disk (fault.Damaged damage)) new given same full honest = let g = given (s.served honest).stands.kept in broken 2 (not_served_2, λ is. omega (arith, is)) new g.0 (λ _. g.1) honest
        gave_up (site.Disk fault.Spent) new given same full honest =
            let f = full refl in
            subst (λ (d : D). Owed (s.whole ++ (took.whole ∷ more)) d 8) (sym (same refl)) (spent f.0 f.1 f.2 honest)
        gave_up (site.Disk fault.Memory) new given same full honest = let g = given (s.served honest).stands.kept in broken 6 (not_served_6, λ is. omega (arith, is)) new g.0 (λ _. g.1) honest
        gave_up site.Sink new given same full honest = let g = given (s.served honest).stands.kept in broken 4 (not_served_4, λ is. omega (arith, is)) new g.0 (λ no. absurd (no refl)) honest

      -- in the midst of the lines
      pub broken_line : (took : TookLine reader next_reader rest next_rest line true) → (cause : SiteFault) (new : D)
          → (IsHonest (m.tells now) → (given : Serves LeavesBetween m (state_of engine) (line ∷ []) now new) × IsPartOf cause given.told.part)
          → (cause ≡ site.Disk fault.Spent → new ≡ now) → (cause ≡ site.Disk fault.Spent → (command : Command) × ReadsAs line (Some command) × MeetsLimit engine command)
          → Ran m first (over next_rest) old new (status_of_stop (Site cause))
      broken_line took cause new given same full =
          let more = has_cut (pending_of next_reader) in
          ran_of next_rest new (status_of_stop (Site cause))
          (record {
            read = s.read ++ took.taken;
            source = TakesFrom-then rest_old rest next_rest s.read took.taken s.source took.source;
            within = λ _. size_more true took;
            past = λ is. absurd (not_served cause (inr (inr is)));
            at_end = λ is. absurd (not_served cause (inl is));
            whole = s.whole ++ (took.whole ∷ more.whole);
            behind = more.behind;
            cut = subst (λ (l : List ℕ). IsCut l (s.whole ++ (took.whole ∷ more.whole)) more.behind)
                (sym (all_within true took ∙ ap (λ (l : List ℕ). ended s.whole ++ (took.whole ++ l)) took.ends))
                (cut_then s.whole (took.whole ++ (10 ∷ pending_of next_reader)) (took.whole ∷ more.whole) more.behind s.no_end (cut_line took.whole (pending_of next_reader) more.whole more.behind took.no_end more.cut));
            lines = s.whole ++ (took.whole ∷ more.whole);
            which = inl refl;
            to_end = λ is. absurd (not_served cause (inl is));
            to_place = λ _. refl;
          })
          (gave_up true took more.whole cause new given same full)

      -- at the last line
      pub broken_last : (took : TookLine reader next_reader rest next_rest line false) → line ≢ [] → (cause : SiteFault) (new : D)
          → (IsHonest (m.tells now) → (given : Serves LeavesBetween m (state_of engine) (line ∷ []) now new) × IsPartOf cause given.told.part)
          → (cause ≡ site.Disk fault.Spent → new ≡ now) → (cause ≡ site.Disk fault.Spent → (command : Command) × ReadsAs line (Some command) × MeetsLimit engine command)
          → Ran m first (over next_rest) old new (status_of_stop (Site cause))
      broken_last took some cause new given same full = ran_of next_rest new (status_of_stop (Site cause))
          (record {
            read = s.read ++ took.taken;
            source = TakesFrom-then rest_old rest next_rest s.read took.taken s.source took.source;
            within = λ _. size_more false took;
            past = λ is. absurd (not_served cause (inr (inr is)));
            at_end = λ is. absurd (not_served cause (inl is));
            whole = s.whole;
            behind = took.whole;
            cut = cut_at_end took;
            lines = s.whole ++ (took.whole ∷ []);
            which = inr (sym (lines_of-some s.whole took.whole (λ none. some (took.kept ∙ ap (λ (l : List ℕ). take (longest_line + 1) l) none))), end_from next_rest took.ends.2);
            to_end = λ is. absurd (not_served cause (inl is));
            to_place = λ is. absurd (not_served cause (inr is));
          })
          (gave_up false took [] cause new given same full)

  -- there is no memory for a reader
  pub no_reader : ((c : Files) (b : List ℕ) → m.left_since old (m.moment old) c b → Leaves (m.tells old) c b) → (engine : Engine) → (IsHonest (m.tells old) → StandsAt engine first (m.tells old)) → Ran m first (over rest_old) old old 6
  no_reader law engine stands = ran_of rest_old old 6
      (record {
        read = [];
        source = takes_nothing rest_old;
        within = λ _. omega arith;
        past = λ is. absurd (omega (arith, is));
        at_end = λ is. absurd (omega (arith, is));
        whole = [];
        behind = [];
        cut = subst (λ (l : List ℕ). IsCut l [] []) (sym (take_all limit [] (omega arith))) (record { joined = refl; whole_lines = tt; last_line = tt });
        lines = [];
        which = inl refl;
        to_end = λ is. absurd (omega (arith, is));
        to_place = λ _. refl;
      })
      (λ honest. record {
        serves = as_run m first old [] old engine (none_served m first old law engine (stands honest));
        ends = record {
          in_part = λ _. refl;
          all = λ is. absurd (not_served_6 is);
          at_rest = λ is. absurd (not_served_6 is);
          stays = λ is. absurd (not_served_6 is);
        };
        full = λ is. absurd (omega (arith, is));
      })

-- the status of an Err
pub status_err : (result : Result (Unit {0}) Stop) (stop : Stop) → IsErr result → IsErrAnd result (λ e. e ≡ stop) → status_of_stop stop ≡ status_of result
status_err (Ok done) stop failed is = cc
status_err (Err e) stop failed is = ap status_of_stop (sym is)

-- what the test of an empty line tells
pub no_line : (line : List ℕ) (len : ℕ) (test : Bool) → len ≡ length line → test ≡ (len == 0) → test ≡ true → line ≡ []
no_line [] len test size is holds = refl
no_line (b ∷ line) len test size is holds = grind (arith, nat_tests)

pub some_line : (line : List ℕ) (len : ℕ) (test : Bool) → len ≡ length line → test ≡ (len == 0) → test ≡ false → line ≢ []
some_line [] len test size is fails = grind (arith, nat_tests)
some_line (b ∷ line) len test size is fails = λ e. cc
