-- A run so far, and each way in which it ends.
use Rattle.std.proofs.Common.{◌≡◌, inl, inr, ⊎_elim, ℕ, ◌+◌, List, [], ◌∷◌, ◌++◌, length, take, Option, refl, sym, ◌∙◌, ap, subst, arith, append_assoc, length-append}
use Rattle.std.proofs.lemmas.List.{append-nil, take_all}
use Rattle.std.proofs.Math.Seq.{drop-length}
use Rattle.pg_disk.specs.declared.disk.Disk.{Ghosts}
use Rattle.pg_disk.specs.Account.{account, IsHonest}
use Rattle.pg_disk.specs.Files.{Files}
use Rattle.pg_disk.specs.Image.{Leaves, IsImage}
use Rattle.pg_disk.proofs.Composing.{started, weaker, then_run}
use Rattle.pg_msg.specs.declared.command.Command.{Command}
use Rattle.pg_msg.specs.declared.reply.Reply.{Reply}
use Rattle.pg_lines.specs.Lines.{longest_line}
use Rattle.pg_text.specs.Replies.{reply_bytes, BeginsNext}
use Rattle.pg_text.proofs.ReadingLemmas.{read_more, kept_one}
use Rattle.pg_disk.specs.Views.{Contents, as_left, as_read}
use Rattle.pg_engine.specs.declared.engine.Engine.{Engine}
use Rattle.pg_model.specs.Broker.{Broker}
use Rattle.pg_model.specs.Refusals.{View}
use Rattle.pg_model.specs.Steps.{Run, last_state}
use Rattle.pg_recover.specs.Denotation.{Denotes}
use Rattle.pg_recover.proofs.WellLemmas.{image_well}
use Rattle.pg_engine.specs.Executed.{state_of, StandsAt}
use Rattle.pg_engine.proofs.Executing.{owned_denote}
use Rattle.pg_run.specs.Served.{LeavesBetween, Serves, ServesAll}
use Rattle.pg_run.specs.Sights.{IsSeenBeside}
use Rattle.pg_run.proofs.RunLemmas.{reply_bytes-append, tells_then, tells_all, last_state-append, run_then, run_lengths, read_then, between_more, between_then}
use Rattle.pg_run.proofs.SightLemmas.{run_beside}

module _ {D : Type 0} (m : Ghosts D) (first : Broker) (old : D) where
  -- what the files have in them at entry, and what is seen beside the pages among them
  abbrev at_entry : Contents
  at_entry = as_read (account (m.tells old)).files

  abbrev Sees : Broker → View → Type 0
  Sees = IsSeenBeside at_entry

  -- nothing is served yet
  pub none_served : ((c : Files) (b : List ℕ) → m.left_since old (m.moment old) c b → Leaves (m.tells old) c b) → (engine : Engine) → StandsAt engine first (m.tells old) → ServesAll m first [] old old engine
  none_served law engine stands = record {
    items = [];
    replies = [];
    states = [];
    read = tt;
    all = refl;
    run = tt;
    moments = started m old _ (λ c b left.
        let now = law c b left in
        record {
          honest = now.honest;
          between = record {
            n = 0;
            k = 0;
            close = inl refl;
            within = omega arith;
            more = [];
            bytes = now.told ∙ sym (append-nil (account (m.tells old)).told);
            tells = tells_all [];
            denoted = subst (λ (s : Broker). Denotes (as_left c) s.durable) stands.stands (owned_denote engine (account (m.tells old)).files c stands.owns now.image);
          };
          well = λ quiet. image_well (account (m.tells old)).files c quiet now.image;
        });
    told = sym (append-nil (account (m.tells old)).told);
    stands = stands;
    stays = record { quiet = λ quiet. quiet; well = λ quiet was. was };
    pages = λ address number. refl;
  }

  -- the same lines, of which only so much was kept
  pub kept_served : (kept line : List ℕ) → kept ≡ take (longest_line + 1) line → (new : D) (engine : Engine) → ServesAll m first (kept ∷ []) old new engine → ServesAll m first (line ∷ []) old new engine
  kept_served kept line is new engine s = record { items = s.items; replies = s.replies; states = s.states; read = kept_one kept line s.items is s.read; all = s.all; run = s.run; moments = s.moments; told = s.told; stands = s.stands; stays = s.stays; pages = s.pages }

  abbrev pub kept_begun : (kept line : List ℕ) → kept ≡ take (longest_line + 1) line → (new : D) → Serves LeavesBetween m first (kept ∷ []) old new → Serves LeavesBetween m first (line ∷ []) old new
  kept_begun kept line is new s = record { items = s.items; replies = s.replies; states = s.states; read = kept_one kept line s.items is s.read; run = s.run; moments = s.moments; kept = s.kept; n = s.n; last = s.last; more = s.more; bytes = s.bytes; told = s.told }

  -- a run over the first of more lines
  abbrev pub longer : (lines more : List (List ℕ)) (new : D) → Serves LeavesBetween m first lines old new → Serves LeavesBetween m first (lines ++ more) old new
  longer lines more new s = record { items = s.items; replies = s.replies; states = s.states; read = read_more lines more s.items s.read; run = s.run; moments = s.moments; kept = s.kept; n = s.n; last = s.last; more = s.more; bytes = s.bytes; told = s.told }

  -- all lines were served, as a run with nothing interrupted
  abbrev pub as_run : (lines : List (List ℕ)) (new : D) (engine : Engine) → ServesAll m first lines old new engine → Serves LeavesBetween m first lines old new
  as_run lines new engine s = record {
    items = s.items;
    replies = s.replies;
    states = s.states;
    read = s.read;
    run = s.run;
    moments = s.moments;
    kept = s.stands.kept;
    n = length s.replies;
    last = inl refl;
    more = reply_bytes s.replies;
    bytes = s.told;
    told = record { part = []; within = (tells_all s.replies).within; bytes = ap reply_bytes (sym (take_all (length s.replies) s.replies (omega arith))) ∙ sym (append-nil _); begun = subst (λ (rs : List Reply). BeginsNext [] rs) (sym (drop-length s.replies)) refl };
  }

  pub reply_count : (lines : List (List ℕ)) (new : D) (engine : Engine) (s : ServesAll m first lines old new engine) → length s.replies ≡ length lines
  reply_count lines new engine s = sym (run_lengths Sees first s.items s.replies s.states s.run).1 ∙ s.all

  -- whatever a crash leaves after it denotes the last state
  pub rests : (lines : List (List ℕ)) (new : D) (engine : Engine) (s : ServesAll m first lines old new engine) (image : Files) → IsImage (account (m.tells new)).files image → Denotes (as_left image) (last_state first s.states).durable
  rests lines new engine s image is = subst (λ (b : Broker). Denotes (as_left image) b.durable) s.stands.stands (owned_denote engine (account (m.tells new)).files image s.stands.owns is)

  -- more lines behind those that were served
  module _ (lines : List (List ℕ)) (mid : D) (engine : Engine) (honest : IsHonest (m.tells old)) (s : ServesAll m first lines old mid engine) where
    abbrev at_mid : Contents
    at_mid = as_read (account (m.tells mid)).files

    -- what is seen beside the pages that are there then is seen beside those at entry
    pub same_run : (items : List (Option Command)) (replies : List Reply) (states : List Broker) → Run (IsSeenBeside at_mid) (last_state first s.states) items replies states → Run Sees (last_state first s.states) items replies states
    same_run = run_beside at_entry at_mid s.pages (last_state first s.states)

    pub all_then : (more : List (List ℕ)) (new : D) (next : Engine) → ServesAll m (state_of engine) more mid new next → ServesAll m first (lines ++ more) old new next
    all_then more new next given =
        let t : ServesAll m (last_state first s.states) more mid new next = subst (λ (b : Broker). ServesAll m b more mid new next) s.stands.stands given in
        record {
          items = s.items ++ t.items;
          replies = s.replies ++ t.replies;
          states = s.states ++ t.states;
          read = read_then lines more s.items t.items s.read s.all t.read;
          all = omega (arith, s.all, t.all, length-append s.items t.items, length-append lines more);
          run = run_then Sees first s.items t.items s.replies t.replies s.states t.states s.run (same_run t.items t.replies t.states t.run);
          moments = then_run m old mid new _ _ (weaker m old mid _ _ s.moments (between_more first s.replies t.replies s.states t.states (m.tells old))) t.moments
              (λ c b. between_then first s.replies t.replies s.states t.states (m.tells old) (m.tells mid) c b honest (run_lengths Sees first s.items s.replies s.states s.run).0 s.told s.stays);
          told = t.told ∙ (ap (λ (b : List ℕ). b ++ reply_bytes t.replies) s.told ∙ (append_assoc (account (m.tells old)).told (reply_bytes s.replies) (reply_bytes t.replies)
              ∙ ap (λ (b : List ℕ). (account (m.tells old)).told ++ b) (sym (reply_bytes-append s.replies t.replies))));
          stands = subst (λ (b : Broker). StandsAt next b (m.tells new)) (sym (last_state-append first s.states t.states)) t.stands;
          stays = record { quiet = λ quiet. t.stays.quiet (s.stays.quiet quiet); well = λ quiet was. t.stays.well (s.stays.quiet quiet) (s.stays.well quiet was) };
          pages = λ address number. t.pages address number ∙ s.pages address number;
        }

    -- the same where the last one was interrupted
    abbrev pub run_more : (more : List (List ℕ)) (new : D) → Serves LeavesBetween m (state_of engine) more mid new → Serves LeavesBetween m first (lines ++ more) old new
    run_more more new t = record {
      items = s.items ++ t.items;
      replies = s.replies ++ t.replies;
      states = s.states ++ t.states;
      read = read_then lines more s.items t.items s.read s.all t.read;
      run = run_then Sees first s.items t.items s.replies t.replies s.states t.states s.run (same_run t.items t.replies t.states (subst (λ (b : Broker). Run (IsSeenBeside at_mid) b t.items t.replies t.states) s.stands.stands t.run));
      moments = then_run m old mid new _ _ (weaker m old mid _ _ s.moments (between_more first s.replies t.replies s.states t.states (m.tells old))) t.moments
          (λ c b left. between_then first s.replies t.replies s.states t.states (m.tells old) (m.tells mid) c b honest (run_lengths Sees first s.items s.replies s.states s.run).0 s.told s.stays
          (subst (λ (x : Broker). LeavesBetween x t.replies t.states (m.tells mid) c b) s.stands.stands left));
      kept = t.kept;
      n = length s.replies + t.n;
      last = ⊎_elim (λ is. inl (omega (arith, is, length-append s.replies t.replies))) (λ is. inr (omega (arith, is, length-append s.replies t.replies))) t.last;
      more = reply_bytes s.replies ++ t.more;
      bytes = t.bytes ∙ (ap (λ (b : List ℕ). b ++ t.more) s.told ∙ append_assoc (account (m.tells old)).told (reply_bytes s.replies) t.more);
      told = tells_then s.replies t.replies t.n t.more t.told;
    }
