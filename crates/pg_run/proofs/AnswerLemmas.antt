-- One line: what it does, what is told of its reply, and what a crash within it leaves.
use Rattle.std.proofs.Common.{◌≡◌, ◌⊎◌, inl, inr, ⊎_elim, ℕ, ◌+◌, ◌≤◌, ◌<◌, List, [], ◌∷◌, ◌++◌, length, take, drop, Bool, true, Option, Result, Ok, Err, refl, sym, ◌∙◌, ap, subst, arith, length-drop, take-append-drop}
use Rattle.std.proofs.lemmas.List.{append-nil, take_all}
use Rattle.std.specs.Prelude.{IfErr, IsErr, IsErrAnd, IsErrOf, MatchResult}
use Rattle.pg_disk.specs.declared.disk.Disk.{Ghosts}
use Rattle.pg_disk.specs.declared.fault.Fault.{Fault}
use Rattle.pg_disk.specs.declared.fault.SiteFault.{SiteFault}
use Rattle.pg_disk.specs.declared.fault.SiteFault.TheVariants.{Disk, Sink}
use Rattle.pg_disk.specs.Account.{Account, account, IsHonest, AllQuiet}
use Rattle.pg_disk.specs.Calls.{Changes, Emits}
use Rattle.pg_disk.specs.Files.{Files}
use Rattle.pg_disk.specs.Image.{Leaves, LeavesPrefix}
use Rattle.pg_disk.specs.Elapsing.{Elapses}
use Rattle.pg_disk.specs.Meanings.{Decides, Either, LeavesMeaning}
use Rattle.pg_disk.specs.Moments.{Within}
use Rattle.pg_disk.proofs.Composing.{started, goes_on, weaker, then_run}
use Rattle.pg_msg.specs.declared.command.Command.{Command}
use Rattle.pg_msg.specs.declared.reply.Reply.{Reply}
use Rattle.pg_text.specs.Spelling.{ReadsAs}
use Rattle.pg_text.specs.Replies.{reply_line, reply_bytes}
use Rattle.pg_disk.specs.Views.{Contents, as_left, as_read}
use Rattle.pg_engine.specs.declared.engine.Engine.{Engine}
use Rattle.pg_model.specs.Broker.{Broker}
use Rattle.pg_model.specs.Steps.{StepSeen, last_state}
use Rattle.pg_recover.specs.Denotation.{Denotes}
use Rattle.pg_recover.specs.Staying.{LeavesWell, StaysWell}
use Rattle.pg_recover.specs.WellFormed.{WellFormed}
use Rattle.pg_recover.proofs.WellLemmas.{image_well}
use Rattle.pg_engine.specs.Executed.{state_of, Owns, Keeps, StandsAt, Executes}
use Rattle.pg_disk.specs.Views.{as_read}
use Rattle.pg_engine.proofs.Executing.{owned_denote}
use Rattle.pg_run.specs.Answered.{Answers, IsPartOf}
use Rattle.pg_run.specs.Served.{Tells, LeavesBetween, Serves, ServesAll}
use Rattle.pg_run.specs.Sights.{HasSamePages, IsSeenBeside}
use Rattle.pg_run.proofs.RunLemmas.{line_some, tells_all}
use Rattle.pg_run.proofs.SightLemmas.{kept_pages}

-- of one reply nothing is told yet
abbrev none_told : (reply : Reply) → Tells (reply ∷ []) 0 []
none_told reply = record { part = []; within = omega arith; bytes = refl; begun = (reply_line reply, line_some reply, refl) }

one_bytes : (reply : Reply) → reply_bytes (reply ∷ []) ≡ reply_line reply
one_bytes reply = append-nil (reply_line reply)

all_told : (reply : Reply) → Tells (reply ∷ []) 1 (reply_line reply)
all_told reply = subst (λ (bytes : List ℕ). Tells (reply ∷ []) 1 bytes) (one_bytes reply) (tells_all (reply ∷ []))

-- how much of a reply's line is told: a part that isn't the whole, or the whole
pub record ToldOf (reply : Reply) (bytes : List ℕ) : Type 0 where
  pub n : ℕ
  pub few : (n ≡ 0) ⊎ (n ≡ 1)
  pub told : Tells (reply ∷ []) n bytes

pub told_of : (reply : Reply) (count : ℕ) → count ≤ length (reply_line reply) → ToldOf reply (take count (reply_line reply))
told_of reply count within = elim (less_or_all count (length (reply_line reply)) within) [
  | inl less ↦ record {
    n = 0;
    few = inl refl;
    told = record {
      part = take count (reply_line reply);
      within = omega arith;
      bytes = refl;
      begun = (drop count (reply_line reply), (λ e. absurd (omega (arith, less, length-drop count (reply_line reply), ap length e))), sym (take-append-drop count (reply_line reply)));
    };
  }
  | inr all ↦ record { n = 1; few = inr refl; told = subst (λ (bytes : List ℕ). Tells (reply ∷ []) 1 bytes) (sym (take_all count (reply_line reply) (omega (arith, all)))) (all_told reply) }
]
  where
    less_or_all : (a b : ℕ) → a ≤ b → (a < b) ⊎ (a ≡ b)
    less_or_all a b le = grind arith

module _ (first : Broker) (item : Option Command) (reply : Reply) (next : Broker) (entry : Option Account) where
  -- before anything of the reply is told
  pub either_between : (image : Files) (told : List ℕ) → LeavesMeaning (Either (Keeps first.durable) (Keeps next.durable)) entry image told → LeavesBetween first (reply ∷ []) (next ∷ []) entry image told
  either_between image told left = elim left.means [
    | inl before ↦ between 0 (inl refl) (omega arith) before.denoted before.well
    | inr after ↦ between 1 (inr refl) (omega arith) after.denoted after.well
  ]
    where
      between : (k : ℕ) → (k ≡ 0) ⊎ (k ≡ 0 + 1) → k ≤ 1 → Denotes (as_left image) (last_state first (take k (next ∷ []))).durable → LeavesWell entry image → LeavesBetween first (reply ∷ []) (next ∷ []) entry image told
      between k close within denoted well = record {
        honest = left.honest;
        between = record { n = 0; k = k; close = close; within = within; more = []; bytes = left.nothing ∙ sym (append-nil (account entry).told); tells = none_told reply; denoted = denoted };
        well = well;
      }

  -- while the reply is told
  pub prefix_between : (mid : Option Account) (engine : Engine) → IsHonest entry → (account mid).told ≡ (account entry).told → StandsAt engine next mid → StaysWell entry mid → (image : Files) (told : List ℕ) → LeavesPrefix (reply_line reply) mid image told
      → LeavesBetween first (reply ∷ []) (next ∷ []) entry image told
  prefix_between mid engine honest same stands stays image told left =
      let part = told_of reply left.count left.within in
      record {
        honest = honest;
        between = record {
          n = part.n;
          k = 1;
          close = ⊎_elim (λ none. inr (omega (arith, none))) (λ one. inl (sym one)) part.few;
          within = omega arith;
          more = take left.count (reply_line reply);
          bytes = left.told ∙ ap (λ (bytes : List ℕ). bytes ++ take left.count (reply_line reply)) same;
          tells = part.told;
          denoted = subst (λ (s : Broker). Denotes (as_left image) s.durable) stands.stands (owned_denote engine (account mid).files image stands.owns left.image);
        };
        well = λ quiet was. image_well (account mid).files image (stays.quiet quiet) left.image (stays.well quiet was);
      }

-- a command that was executed is a step under the view of the files that there were
seen_step : {D : Type 0} (m : Ghosts D) (first : Broker) (item : Option Command) (old new : D) (result : Result (Engine × Reply) Fault) → (executes : Executes m first item old new result) → StepSeen (IsSeenBeside (as_read (account (m.tells old)).files)) first item executes.reply executes.next
seen_step m first item old new result executes = (executes.view, record { contents = as_read (account (m.tells old)).files; beside = λ address number. refl; shown = executes.shown; bounded = executes.bounded }, executes.step)

-- what holds of an error holds of a result that is one
at_err : {T E : Type 0} (P : T → Type 0) (Q : E → Type 0) (result : Result T E) → IsErr result → ((e : E) → Q e) → MatchResult result P Q
at_err P Q (Ok x) failed is = cc
at_err P Q (Err e) failed is = is e

at_err_of : {T E : Type 0} (P : T → Type 0) (Q : E → Type 0) (result : Result T E) (e : E) → IsErrOf result e → Q e → MatchResult result P Q
at_err_of P Q result e failed is = subst (λ r. MatchResult r P Q) (sym failed) is

-- an error that was handed on is the one that it was
pub of_residual : {T E : Type 0} (result : Result T E) (e f : E) → IsErr result → IsErrAnd result (λ x. x ≡ e) → e ≡ f → IsErrOf result f
of_residual (Ok x) e f failed is same = cc
of_residual (Err x) e f failed is same = ap Err (is ∙ same)

-- what holds of an error holds less strictly
pub err_weaker : {T E : Type 0} (P Q : E → Type 0) → ((e : E) → P e → Q e) → (result : Result T E) → IfErr result P → IfErr result Q
err_weaker P Q weaker (Ok x) is = tt
err_weaker P Q weaker (Err e) is = weaker e is

-- no part is told
no_part : (fault : SiteFault) (part : List ℕ) → part ≡ [] → IsPartOf fault part
no_part (Disk fault) part none = none
no_part Sink part none = tt

-- of no reply nothing is told
abbrev nothing_told : Tells [] 0 []
nothing_told = record { part = []; within = omega arith; bytes = refl; begun = refl }

module _ {D : Type 0} (m : Ghosts D) (old : D) (first : Broker) (line : List ℕ) (honest : IsHonest (m.tells old)) where
  -- what the files have in them at entry
  abbrev at_entry : Contents
  at_entry = as_read (account (m.tells old)).files

  -- the line wasn't begun
  pub unanswered : (engine : Engine) → ((c : Files) (b : List ℕ) → m.left_since old (m.moment old) c b → Leaves (m.tells old) c b) → state_of engine ≡ first → Owns engine (account (m.tells old)).files
      → (serves : Serves LeavesBetween m first (line ∷ []) old old) × (serves.told.part ≡ [])
  unanswered engine law stands owns = let serves : Serves LeavesBetween m first (line ∷ []) old old = record {
    items = [];
    replies = [];
    states = [];
    read = tt;
    run = tt;
    moments = started m old _ (λ c b left.
        let now = law c b left in
        record {
          honest = now.honest;
          between = record {
            n = 0;
            k = 0;
            close = inl refl;
            within = omega arith;
            more = [];
            bytes = now.told ∙ sym (append-nil (account (m.tells old)).told);
            tells = nothing_told;
            denoted = subst (λ (s : Broker). Denotes (as_left c) s.durable) stands (owned_denote engine (account (m.tells old)).files c owns now.image);
          };
          well = λ quiet. image_well (account (m.tells old)).files c quiet now.image;
        });
    kept = honest;
    n = 0;
    last = inl refl;
    more = [];
    bytes = sym (append-nil (account (m.tells old)).told);
    told = nothing_told;
  } in (serves, refl)

  module _ (item : Option Command) (reads : ReadsAs line item) (reply : Reply) (next : Broker) (step : StepSeen (IsSeenBeside at_entry) first item reply next) (mid : D)
      (moments : Decides m (Keeps first.durable) (Keeps next.durable) old mid) (told : (account (m.tells mid)).told ≡ (account (m.tells old)).told) where
    -- the line was interrupted, and nothing is told of its reply
    pub interrupted : IsHonest (m.tells mid) → (serves : Serves LeavesBetween m first (line ∷ []) old mid) × (serves.told.part ≡ [])
    interrupted kept = let serves : Serves LeavesBetween m first (line ∷ []) old mid = record {
      items = item ∷ [];
      replies = reply ∷ [];
      states = next ∷ [];
      read = (reads, tt);
      run = (step, tt);
      moments = weaker m old mid _ _ moments (either_between first item reply next (m.tells old));
      kept = kept;
      n = 0;
      last = inr refl;
      more = [];
      bytes = told ∙ sym (append-nil (account (m.tells old)).told);
      told = none_told reply;
    } in (serves, refl)

    module _ (engine : Engine) (stands : StandsAt engine next (m.tells mid)) (stays : StaysWell (m.tells old) (m.tells mid)) (new : D) (telling : Within m mid new (LeavesPrefix (reply_line reply))) where
      all_moments : Within m old new (LeavesBetween first (reply ∷ []) (next ∷ []))
      all_moments = then_run m old mid new _ _ (weaker m old mid _ _ moments (either_between first item reply next (m.tells old))) telling
          (prefix_between first item reply next (m.tells old) (m.tells mid) engine honest told stands stays)

      -- its reply was told in part
      pub half_told : (ok : Bool) → Changes (m.tells mid) (m.tells new) (Emits (reply_line reply) ok) → Serves LeavesBetween m first (line ∷ []) old new
      half_told ok changes =
          let emits = changes.step stands.kept in
          let part = told_of reply emits.count emits.within in
          record {
            items = item ∷ [];
            replies = reply ∷ [];
            states = next ∷ [];
            read = (reads, tt);
            run = (step, tt);
            moments = all_moments;
            kept = changes.kept stands.kept;
            n = part.n;
            last = ⊎_elim (λ none. inr (omega (arith, none))) (λ one. inl (sym one)) part.few;
            more = take emits.count (reply_line reply);
            bytes = emits.told ∙ ap (λ (bytes : List ℕ). bytes ++ take emits.count (reply_line reply)) told;
            told = part.told;
          }

      -- its reply was told
      pub answered : HasSamePages at_entry (as_read (account (m.tells mid)).files) → Changes (m.tells mid) (m.tells new) (Emits (reply_line reply) true) → ServesAll m first (line ∷ []) old new engine
      answered pages changes =
          let emits = changes.step stands.kept in
          record {
            items = item ∷ [];
            replies = reply ∷ [];
            states = next ∷ [];
            read = (reads, tt);
            all = refl;
            run = (step, tt);
            moments = all_moments;
            told = emits.told ∙ (ap (λ (bytes : List ℕ). bytes ++ take emits.count (reply_line reply)) told
                ∙ ap (λ (bytes : List ℕ). (account (m.tells old)).told ++ bytes) (take_all emits.count (reply_line reply) (omega (arith, emits.all refl)) ∙ sym (one_bytes reply)));
            stands = record {
              kept = changes.kept stands.kept;
              stands = stands.stands;
              owns = subst (λ files. Owns engine files) (sym emits.files) stands.owns;
            };
            stays = record {
              quiet = λ quiet. subst AllQuiet (sym emits.files) (stays.quiet quiet);
              well = λ quiet was. subst (λ files. WellFormed (as_read files)) (sym emits.files) (stays.well quiet was);
            };
            pages = subst (λ files. HasSamePages at_entry (as_read files)) (sym emits.files) pages;
          }

  -- an Err owes what was served so far
  pub answers_err : (new : D) (result : Result Engine SiteFault) → IsErr result → (serves : Serves LeavesBetween m first (line ∷ []) old new) → serves.told.part ≡ [] → Answers m first line old new result
  answers_err new result failed serves quiet = at_err _ _ result failed (λ fault. (serves, no_part fault serves.told.part quiet))

  -- where the output failed a part of the reply may be told
  pub answers_sink : (new : D) (result : Result Engine SiteFault) → IsErrOf result Sink → Serves LeavesBetween m first (line ∷ []) old new → Answers m first line old new result
  answers_sink new result failed serves = at_err_of _ _ result Sink failed (serves, tt)

  -- what an execution that gave up leaves
  pub gave_up : (engine : Engine) → ((c : Files) (b : List ℕ) → m.left_since old (m.moment old) c b → Leaves (m.tells old) c b) → state_of engine ≡ first → Owns engine (account (m.tells old)).files
      → (mid : D) (result : Result (Engine × Reply) Fault) → (IsErr result × (mid ≡ old)) ⊎ ((item : Option Command) × ReadsAs line item × Executes m first item old mid result)
      → (serves : Serves LeavesBetween m first (line ∷ []) old mid) × (serves.told.part ≡ [])
  gave_up engine law stands owns mid result outcome = elim outcome [
    | inl none ↦ subst (λ d. (serves : Serves LeavesBetween m first (line ∷ []) old d) × (serves.told.part ≡ [])) (sym none.1) (unanswered engine law stands owns)
    | inr some ↦ interrupted some.0 some.1 some.2.reply some.2.next (seen_step m first some.0 old mid result some.2) mid some.2.moments some.2.told some.2.kept
  ]

  no_err : (result : Result (Engine × Reply) Fault) (done : Engine × Reply) → result ≡ Ok done → IsErr result → ⊥
  no_err result done ok err = cc

  abbrev pub done_of : Engine → Reply → Result (Engine × Reply) Fault
  done_of engine reply = Ok (engine, reply)

  -- what was executed, and the reply that goes with it
  pub record Executed (mid : D) (engine : Engine) (reply : Reply) : Type 0 where
    pub item : Option Command
    pub reads : ReadsAs line item
    pub next : Broker
    pub step : StepSeen (IsSeenBeside at_entry) first item reply next
    pub moments : Decides m (Keeps first.durable) (Keeps next.durable) old mid
    pub told : (account (m.tells mid)).told ≡ (account (m.tells old)).told
    pub stands : StandsAt engine next (m.tells mid)
    pub stays : StaysWell (m.tells old) (m.tells mid)
    pub pages : HasSamePages at_entry (as_read (account (m.tells mid)).files)

  pub executed : (mid : D) (engine : Engine) (reply : Reply) → (IsErr (done_of engine reply) × (mid ≡ old)) ⊎ ((item : Option Command) × ReadsAs line item × Executes m first item old mid (Ok (engine, reply)))
      → Executed mid engine reply
  executed mid engine reply outcome = elim outcome [
    | inl none ↦ absurd (no_err _ (engine, reply) refl none.0)
    | inr some ↦ record {
      item = some.0;
      reads = some.1;
      next = some.2.next;
      step = subst (λ r. StepSeen (IsSeenBeside at_entry) first some.0 r some.2.next) (sym some.2.ok.0) (seen_step m first some.0 old mid (Ok (engine, reply)) some.2);
      moments = some.2.moments;
      told = some.2.told;
      stands = some.2.ok.1;
      stays = some.2.stays;
      pages = kept_pages (account (m.tells old)).files (account (m.tells mid)).files some.2.others;
    }
  ]

-- the moments of one emit
pub told_within : {D : Type 0} (m : Ghosts D) (old : D) → ((c : Files) (b : List ℕ) → m.left_since old (m.moment old) c b → Leaves (m.tells old) c b) → (piece : List ℕ) (new : D)
    → Elapses (m.moment old) (m.moment new) (m.left_since old) (m.left_since new) (LeavesPrefix piece (m.tells old)) → Within m old new (LeavesPrefix piece)
told_within m old law piece new time = goes_on m old old new _ _
    (started m old _ (λ c b left. let now = law c b left in record { honest = now.honest; image = now.image; count = 0; within = omega arith; told = now.told ∙ sym (append-nil (account (m.tells old)).told) })) time (λ c b left. left)
