-- Opening over files of which nothing is pending.
use Rattle.std.proofs.Common.{◌≡◌, ◌⊎◌, inl, inr, ⊎_elim, ℕ, ◌+◌, ◌^◌, ◌≤◌, ◌<◌, List, length, get_or, Option, Some, None, Result, Ok, Err, refl, sym, ◌∙◌, ap, subst, arith}
use Rattle.std.specs.Prelude.{IfOk, IfErr}
use Rattle.std.specs.FinMap.{FinMap, get, keys}
use Rattle.std.specs.List.{All, Contains}
use Rattle.pg_disk.specs.declared.fault.Fault.{Fault}
use Rattle.pg_disk.specs.declared.fault.Fault.TheVariants.{Failed, Damaged, Spent, Memory}
use Rattle.pg_disk.specs.declared.file_id.FileId.{FileId}
use Rattle.pg_disk.specs.declared.file_id.Kind.TheVariants.{Journal as OfJournal}
use Rattle.pg_disk.specs.Files.{file_cmp, Files}
use Rattle.pg_disk.specs.Account.{FileState, Account, account, IsHonest, AllQuiet}
use Rattle.pg_disk.specs.Calls.{Changes, ChangesFile, ChangesWhere, ReadsNone, ReadsSome}
use Rattle.pg_disk.specs.Image.{AnyFile, IsFileThere, Only}
use Rattle.pg_disk.proofs.Composing.{changes_then, changes_weaker, where_then}
use Rattle.pg_gate.specs.Gated.{opened}
use Rattle.pg_gate.proofs.Unique.{stands_length}
use Rattle.pg_fold.specs.declared.durable.Durable.{Durable}
use Rattle.pg_fold.specs.Sound.{IsSound}
use Rattle.pg_journal.specs.declared.journal.Journal.{Journal}
use Rattle.pg_journal.specs.Generations.{JournalOf}
use Rattle.pg_disk.specs.Views.{Contents, as_read, as_left, bytes_of}
use Rattle.pg_journal.specs.Looks.{IsOfJournal, MendsGenerations, ReadsGenerations}
use Rattle.pg_journal.specs.Stands.{StaysOrComesToRest, counted, name_of}
use Rattle.pg_journal.proofs.Law.{journal_unique}
use Rattle.pg_journal.proofs.Scanned.{stays_away, stays_there}
use Rattle.pg_recover.specs.declared.recovering.Parts.{Parts}
use Rattle.pg_recover.specs.Damaging.{IsBrokenFile, IsBrokenThere, OnDamage}
use Rattle.pg_recover.specs.Denotation.{FoldsTo, raised}
use Rattle.pg_recover.specs.Listing.{AreListed}
use Rattle.pg_recover.specs.Raising.{IsFailedOrMemory, IsReady, IsUnfit, LeavesRaised}
use Rattle.pg_recover.specs.Recovered.{AreKept, HasNoEpoch, IsBegun, IsSpentAt, KeepsOthers, LeavesOpened, OpensFiles, Owns}
use Rattle.pg_recover.specs.Removing.{AllStayOrGo, IsOther, RemovesOthers}
use Rattle.pg_recover.specs.Said.{IsReadFrom, LeavesSaid}
use Rattle.pg_recover.specs.WellFormed.{IsGapless, IsNamed, IsThere}
use Rattle.pg_recover.proofs.DamagingLemmas.{no_room}
use Rattle.pg_recover.proofs.OneState.{folds_to, state_is}
use Rattle.pg_recover.proofs.OrderLemmas.{all_there, ascend_apart, listing_ascends, listing_names, shown_gapless, shown_named, there_listed}
use Rattle.pg_recover.proofs.WellLemmas.{keeps_then, well_still}

-- where the journal says what it said the state is the same
said_folds : (old new : Contents) (d : Durable) → ((batches : List (List ℕ)) → JournalOf old batches → JournalOf new batches) → FoldsTo old d → FoldsTo new d
said_folds old new d says folds = record { batches = folds.batches; entries = folds.entries; says = says folds.batches folds.says; spelled = folds.spelled; folded = folds.folded }

-- while the journal is read
pub said_leaves : (old : Option Account) (c : Files) (b : List ℕ) → LeavesSaid old c b → LeavesOpened old c b
said_leaves old c b left = record {
  honest = left.honest;
  nothing = left.nothing;
  means = inl (record {
    folds = λ d folds. said_folds (as_read (account old).files) (as_left c) d left.says folds;
    well = λ well. well_still (as_read (account old).files) (as_left c) left.keeps well (inl (said_folds (as_read (account old).files) (as_left c) well.state left.says well.folds));
  });
}

-- there was no damage, and no limit was met
pub kept_otherwise : (old new : Option Account) (result : Result Parts Fault) → IfErr result IsFailedOrMemory → IfErr result (AreKept old new)
kept_otherwise old new (Ok parts) only = tt
kept_otherwise old new (Err e) only = ⊎_elim (λ is. subst (AreKept old new) (sym is) tt) (λ is. subst (AreKept old new) (sym is) tt) only

-- what is done to generations alone opens the files
abbrev Anything : FinMap file_cmp FileState → FinMap file_cmp FileState → Type 0
Anything files now = Unit {0}

generations_open : (own : FileId → Type 0) (reads : ℕ → ℕ → Type 0) (R : FinMap file_cmp FileState → FinMap file_cmp FileState → Type 0) (old new : Account) → ((f : FileId) → own f → f.kind ≡ OfJournal) → (reads old.taken new.taken → old.taken ≤ new.taken)
    → ChangesWhere own reads R old new → OpensFiles old new
generations_open own reads R old new of_journal more a = record {
  told = a.told;
  taken = more a.taken;
  others = λ f out. absurd (out tt);
  change = λ f kind. ap bytes_of (a.others f (λ is. kind (of_journal f is)));
}

not_less : (m n : ℕ) → n ≡ m → m ≤ n
not_less m n same = omega (arith, same)

pub reads_open : (old mid : Option Account) → Changes old mid ReadsGenerations → Changes old mid OpensFiles
reads_open old mid stays = changes_weaker old mid ReadsGenerations OpensFiles stays (λ h a. generations_open IsOfJournal ReadsSome MendsGenerations (account old) (account mid) (λ f kind. kind) (λ more. more) a)

-- so they are where other generations are removed, and where a batch is added to one
pub removed_opens : (keep : FileId) (old mid : Option Account) → Changes old mid (RemovesOthers keep) → Changes old mid OpensFiles
removed_opens keep old mid removed =
    changes_weaker old mid (RemovesOthers keep) OpensFiles removed (λ h a. generations_open (IsOther keep) ReadsNone AllStayOrGo (account old) (account mid) (λ f other. other.0) (not_less (account old).taken (account mid).taken) a)

opens_both : (a b c : Account) → OpensFiles a b → OpensFiles b c → OpensFiles a c
opens_both a b c first second =
    where_then AnyFile ReadsSome ReadsSome ReadsSome KeepsOthers KeepsOthers KeepsOthers a b c first second (λ p q. omega (arith, p, q)) (λ p q f kind. q f kind ∙ p f kind)

pub added_opens : (own : FileId) (old mid new : Option Account) → Changes old mid OpensFiles → (IsHonest old → own.kind ≡ OfJournal) → Changes mid new (ChangesFile own (λ _ _. Unit {0})) → Changes old new OpensFiles
added_opens own old mid new first of_journal added =
    changes_then old mid new OpensFiles (ChangesFile own (λ _ _. Unit {0})) OpensFiles first added (λ h a b.
    opens_both (account old) (account mid) (account new) a
    (generations_open (Only own) ReadsNone Anything (account mid) (account new) (λ f same. ap (λ (x : FileId). x.kind) same ∙ of_journal h) (not_less (account mid).taken (account new).taken) b))

pub opens_then : (old mid new : Option Account) → Changes old mid OpensFiles → Changes mid new OpensFiles → Changes old new OpensFiles
opens_then old mid new first second = changes_then old mid new OpensFiles OpensFiles OpensFiles first second (λ h a b. opens_both (account old) (account mid) (account new) a b)

-- the journal was read
module _ (old mid : Option Account) (stays : Changes old mid ReadsGenerations) (journal : Journal) (d : Durable) (read : IsHonest old → IsReadFrom journal d (account old).files (account mid).files) where
  pub raised_leaves : (c : Files) (b : List ℕ) → LeavesRaised journal d mid c b → LeavesOpened old c b
  raised_leaves c b left =
      let honest = stays.back left.honest in
      let is = read honest in
      record {
        honest = honest;
        nothing = left.nothing ∙ (stays.step honest).told;
        means =
            let same = λ (e : Durable) (folds : FoldsTo (as_read (account old).files) e). sym (state_is (as_read (account old).files) is.batches d e is.says is.folds folds) in
            let still = well_still (as_read (account old).files) (as_left c) (keeps_then (as_read (account old).files) (as_read (account mid).files) (as_left c) is.keeps left.keeps) in
            ⊎_elim
            (λ one. inl (record {
              folds = λ e folds. subst (FoldsTo (as_left c)) (same e folds) one;
              well = λ well. still well (inl (subst (FoldsTo (as_left c)) (same well.state well.folds) one));
            }))
            (λ other. inr (record {
              folds = λ e folds. subst (λ s. FoldsTo (as_left c) (raised s)) (same e folds) other;
              well = λ well. still well (inr (subst (λ s. FoldsTo (as_left c) (raised s)) (same well.state well.folds) other));
            }))
            (left.denotes is.batches is.stands is.folds);
      }

  pub read_folds : (honest : IsHonest old) → FoldsTo (as_read (account old).files) d
  read_folds honest = let is = read honest in folds_to (as_read (account old).files) is.batches d is.says is.folds

  module _ (ids : List FileId) (listed : IsHonest old → ids ≡ keys (account old).files) where
    there_still : (honest : IsHonest old) (file : FileId) → IsOther (name_of journal) file → IsFileThere file (account old).files → IsFileThere file (account mid).files
    there_still honest file other there =
        stays_there there.0 (get (account mid).files file) (subst (λ s. StaysOrComesToRest s (get (account mid).files file)) there.1 ((read honest).others file other.0 other.1))

    all_others : (honest : IsHonest old) (file : FileId) → IsOther (name_of journal) file → (o : Option FileState) → get (account old).files file ≡ o → Contains ids file ⊎ (get (account mid).files file ≡ None)
    all_others honest file other None is = inr (stays_away (get (account old).files file) (get (account mid).files file) is ((read honest).others file other.0 other.1))
    all_others honest file other (Some s) is = inl (there_listed (account old).files ids (listed honest) file (s, is))

    pub ready : IsHonest mid → IsReady journal d ids (account mid).files
    ready after =
        let honest = stays.back after in
        let is = read honest in
        record {
          batches = is.batches;
          stands = is.stands;
          folds = is.folds;
          listed = record {
            distinct = ascend_apart ids (listing_ascends (account old).files ids (listed honest));
            there = λ k f lt other. there_still honest (get_or ids k f) other (all_there (account old).files ids (listed honest) k f lt);
            all = λ file other. all_others honest file other (get (account old).files file) refl;
          };
          quiet = is.quiet;
        }

    -- what the state can't stand beside is broken
    pub check_broken : (epochs : ℕ) (e : Fault) → IsUnfit ids journal d epochs e → OnDamage (λ damage. IsHonest old → IsBrokenThere (as_read (account old).files) damage) e
    check_broken epochs Failed unfit = tt
    check_broken epochs (Damaged damage) (inl unlisted) = λ honest. listing_names (account old).files ids (listed honest) d (read_folds honest) damage unlisted
    check_broken epochs (Damaged damage) (inr full) = λ honest.
        let is = read honest in
        let room = no_room (as_read (account old).files) (name_of journal) is.batches d is.goes_on is.says is.folds full.breaks.1 in
        inr (inr (full.offset, subst (λ f. IsBrokenFile (as_read (account old).files) f damage.rule) (sym full.of_file) (inr (inr (full.breaks.0, room)))))
    check_broken epochs Spent unfit = tt
    check_broken epochs Memory unfit = tt

    no_epoch : (epochs : ℕ) → (epochs ≤ d.epoch + 1) ⊎ (2 ^ 62 < counted journal + 14) → IsHonest old → HasNoEpoch epochs (account old).files
    no_epoch epochs none honest =
        let is = read honest in
        record {
          state = d;
          folds = record { batches = is.batches; entries = is.folds.entries; says = is.says; spelled = is.folds.spelled; folded = is.folds.folded };
          spent = ⊎_elim (λ past. inl past) (λ full. inr (omega (arith, full, stands_length journal.rest is.batches (get (account mid).files (name_of journal)) is.stands.stands))) none;
        }

    -- and where there is one, it isn't so that there is none
    pub has_epoch : (epochs : ℕ) → d.epoch + 1 < epochs → counted journal + 14 ≤ 2 ^ 62 → IsHonest old → HasNoEpoch epochs (account old).files → ⊥
    has_epoch epochs next room honest none =
        let is = read honest in
        let same : none.state ≡ d = state_is (as_read (account old).files) is.batches d none.state is.says is.folds none.folds in
        let batches : none.folds.batches ≡ is.batches = journal_unique (as_read (account old).files) none.folds.batches is.batches none.folds.says is.says in
        ⊎_elim (λ past. let epoch : none.state.epoch ≡ d.epoch = ap (λ (s : Durable). s.epoch) same in omega (arith, past, next, epoch))
        (λ full.
        let size : length (opened none.folds.batches) ≡ length (opened is.batches) = ap (λ bs. length (opened bs)) batches in
        omega (arith, full, room, size, stands_length journal.rest is.batches (get (account mid).files (name_of journal)) is.stands.stands))
        none.spent

    pub check_spent : (epochs : ℕ) (e : Fault) → IsUnfit ids journal d epochs e → IsSpentAt epochs old e
    check_spent epochs Failed unfit = tt
    check_spent epochs (Damaged damage) unfit = tt
    check_spent epochs Spent unfit = no_epoch epochs unfit
    check_spent epochs Memory unfit = tt

  -- the state that is begun behind a sound one
  pub all_begun : IsSound d → (result : Result Parts Fault) → IfOk result (λ parts. parts.durable ≡ raised d) → IfOk result (λ parts. IsBegun parts.durable)
  all_begun sound (Ok parts) is = record { before = d; sound = sound; is = is }
  all_begun sound (Err e) is = tt

  -- what was seen of the files stands beside the state that is begun
  module _ (ids : List FileId) (listed : IsHonest old → ids ≡ keys (account old).files) (are : AreListed d.addresses None ids) where
    pub all_named : (result : Result Parts Fault) → IfOk result (λ parts. parts.durable ≡ raised d)
        → IfOk result (λ parts. IsHonest old → (file : FileId) → IsThere (as_read (account old).files) file → IsNamed parts.durable.addresses file)
    all_named (Ok parts) is = λ honest file there. subst (λ (s : Durable). IsNamed s.addresses file) (sym is) (shown_named (account old).files ids (listed honest) d.addresses are file there)
    all_named (Err e) is = tt

    pub all_gapless : (result : Result Parts Fault) → IfOk result (λ parts. parts.durable ≡ raised d) → IfOk result (λ parts. IsHonest old → All (IsGapless (as_read (account old).files)) parts.durable.addresses)
    all_gapless (Ok parts) is = λ honest. subst (λ (s : Durable). All (IsGapless (as_read (account old).files)) s.addresses) (sym is) (shown_gapless (account old).files ids (listed honest) d.addresses are)
    all_gapless (Err e) is = tt

  -- what an opening comes to
  pub all_recovered : (new : Option Account) (result : Result Parts Fault) → IfOk result (λ parts. parts.durable ≡ raised d)
      → IfOk result (λ parts. IsHonest mid → Owns parts.journal parts.durable (account new).files × AllQuiet (account new).files)
      → IfOk result (λ parts. IsHonest old → (e : Durable) × FoldsTo (as_read (account old).files) e × (parts.durable ≡ raised e) × Owns parts.journal parts.durable (account new).files × AllQuiet (account new).files)
  all_recovered new (Ok parts) is owned = λ honest. let own = owned (stays.kept honest) in (d, read_folds honest, is, own.0, own.1)
  all_recovered new (Err e) is owned = tt
