-- The files are listed and synced, and then opened.
use Rattle.std.proofs.Common.{◌≡◌, inl, inr, ⊎_elim, ℕ, List, Option, Some, None, Result, Ok, Err, refl, sym, ◌∙◌, ap, subst, arith}
use Rattle.std.specs.Prelude.{IfOk, IfErr, OnOk, is_some}
use Rattle.std.specs.FinMap.{FinMap, get, keys}
use Rattle.std.specs.List.{All}
use Rattle.pg_disk.specs.declared.disk.Disk.{Ghosts}
use Rattle.pg_disk.specs.declared.fault.Fault.{Fault}
use Rattle.pg_disk.specs.declared.fault.Fault.TheVariants.{Failed, Damaged, Spent, Memory}
use Rattle.pg_disk.specs.declared.file_id.FileId.{FileId}
use Rattle.pg_disk.specs.Files.{file_cmp, Files}
use Rattle.pg_disk.specs.Account.{FileState, Account, account, IsHonest, IsQuietAt, AllQuiet}
use Rattle.pg_disk.specs.Calls.{Changes, IsSettled, Reads, ReadsSome, Settles}
use Rattle.pg_disk.specs.Image.{AnyFile, IsFileThere, Leaves, OnceQuiet}
use Rattle.pg_disk.specs.Moments.{Within, WithinFrom}
use Rattle.pg_disk.proofs.Composing.{changes_then, where_then, once_before, once_since, then_run, weaker}
use Rattle.pg_gate.proofs.Reading.{reads_leave}
use Rattle.pg_fold.specs.declared.durable.Durable.{Durable}
use Rattle.pg_journal.specs.Generations.{JournalOf}
use Rattle.pg_disk.specs.Views.{Contents, as_read, bytes_of}
use Rattle.pg_journal.proofs.Saying.{left_keeps, quiet_says}
use Rattle.pg_recover.specs.declared.recovering.Parts.{Parts}
use Rattle.pg_model.specs.Broker.{next_epoch}
use Rattle.pg_model.specs.Broker.{Durable as BrokerDurable}
use Rattle.pg_recover.specs.Damaging.{IsBrokenThere, OnDamage}
use Rattle.pg_recover.specs.Denotation.{Denotes, FoldsTo, durable_part, raised}
use Rattle.pg_recover.specs.Recovered.{AreKept, Gives, HasNoEpoch, IsKeptGeneration, IsSpentAt, KeepsBytes, KeepsFiles, KeepsOthers, LeavesOpened, OpensFiles, Owns}
use Rattle.pg_recover.specs.Syncing.{NarrowsAt, SyncsFiles}
use Rattle.pg_recover.specs.WellFormed.{WellFormed}
use Rattle.pg_recover.proofs.OneState.{one_folded}
use Rattle.pg_recover.proofs.OrderLemmas.{all_quiet, all_there, same_keys}
use Rattle.pg_recover.proofs.WellLemmas.{image_well, owned_folds}

-- where nothing is pending, what a crash leaves gives the same state
pub quiet_leaves : (old : Option Account) (c : Files) (b : List ℕ) → AllQuiet (account old).files → Leaves old c b → LeavesOpened old c b
quiet_leaves old c b quiet left = record {
  honest = left.honest;
  nothing = left.told;
  means = inl (record {
    folds = λ d folds. record {
      batches = folds.batches;
      entries = folds.entries;
      says = quiet_says (account old).files c (λ file kind. quiet file) (λ file kind. left_keeps (get (account old).files file) (get c file) (left.image file)) folds.batches folds.says;
      spelled = folds.spelled;
      folded = folds.folded;
    };
    well = λ well. image_well (account old).files c quiet left.image well;
  });
}

narrows_bytes : (s t : Option FileState) → NarrowsAt s t → bytes_of t ≡ bytes_of s
narrows_bytes None None narrows = refl
narrows_bytes None (Some t) narrows = absurd narrows
narrows_bytes (Some s) None narrows = absurd narrows
narrows_bytes (Some s) (Some t) narrows = ap Some narrows.bytes

narrows_there : (s t : Option FileState) → NarrowsAt s t → is_some t ≡ is_some s
narrows_there None None narrows = refl
narrows_there None (Some t) narrows = absurd narrows
narrows_there (Some s) None narrows = absurd narrows
narrows_there (Some s) (Some t) narrows = refl

-- the files after the listing, and after the sync
module _ (old mid now : Option Account) (same : Changes old mid (Reads 0)) (synced : Changes mid now SyncsFiles) where
  there_as_before : (honest : IsHonest old) (file : FileId) → is_some (get (account now).files file) ≡ is_some (get (account old).files file)
  there_as_before honest file =
      narrows_there (get (account mid).files file) (get (account now).files file) ((synced.step (same.kept honest)).change file) ∙ ap (λ m. is_some (get m file)) (same.step honest).files

  reads_as : IsHonest old → as_read (account now).files ≡ as_read (account old).files
  reads_as honest = λ i file. (is file) i
    where
      is : (file : FileId) → as_read (account now).files file ≡ as_read (account old).files file
      is file = narrows_bytes (get (account mid).files file) (get (account now).files file) ((synced.step (same.kept honest)).change file) ∙ ap (λ m. bytes_of (get m file)) (same.step honest).files

  pub sync_opens : Changes old now OpensFiles
  sync_opens = changes_then old mid now (Reads 0) SyncsFiles OpensFiles same synced (λ h a b. record {
    told = b.told ∙ a.told;
    taken = omega (arith, a.taken, b.taken);
    others = λ f out. absurd (out tt);
    change = λ f kind. ap (λ (contents : Contents). contents f) (reads_as h);
  })

  honest_before : IsHonest now → IsHonest old
  honest_before honest = same.back (synced.back honest)

  pub sync_leaves : (c : Files) (b : List ℕ) → Leaves mid c b → Leaves old c b
  sync_leaves c b left = reads_leave old mid 0 same c b left

  gives_before : (change : Durable → Durable) (honest : IsHonest old) (c : Files) → Gives change now c → Gives change old c
  gives_before change honest c gives = record {
    folds = λ d folds. gives.folds d (subst (λ contents. FoldsTo contents d) (sym (reads_as honest)) folds);
    well = λ well. gives.well (subst WellFormed (sym (reads_as honest)) well);
  }

  pub opened_leaves : (c : Files) (b : List ℕ) → LeavesOpened now c b → LeavesOpened old c b
  opened_leaves c b left =
      let honest = honest_before left.honest in
      record {
        honest = honest;
        nothing = left.nothing ∙ (sync_opens.step honest).told;
        means = ⊎_elim (λ one. inl (gives_before (λ d. d) honest c one)) (λ other. inr (gives_before raised honest c other)) left.means;
      }

  pub opened_broken : (e : Fault) → OnDamage (λ damage. IsHonest now → IsBrokenThere (as_read (account now).files) damage) e → OnDamage (λ damage. IsHonest old → IsBrokenThere (as_read (account old).files) damage) e
  opened_broken Failed is = tt
  opened_broken (Damaged damage) is = λ honest. subst (λ contents. IsBrokenThere contents damage) (reads_as honest) (is (sync_opens.kept honest))
  opened_broken Spent is = tt
  opened_broken Memory is = tt

  -- that there is no next epoch is said of the files before as of those after
  still_none : (epochs : ℕ) → IsHonest old → HasNoEpoch epochs (account old).files → HasNoEpoch epochs (account now).files
  still_none epochs honest none =
      let folds = none.folds in
      record {
        state = none.state;
        folds = record { batches = folds.batches; entries = folds.entries; says = subst (λ contents. JournalOf contents folds.batches) (sym (reads_as honest)) folds.says; spelled = folds.spelled; folded = folds.folded };
        spent = none.spent;
      }

  pub has_epoch_before : (epochs : ℕ) → (IsHonest now → HasNoEpoch epochs (account now).files → ⊥) → IsHonest old → HasNoEpoch epochs (account old).files → ⊥
  has_epoch_before epochs has honest none = has (sync_opens.kept honest) (still_none epochs honest none)

  pub opened_spent : (epochs : ℕ) (e : Fault) → IsSpentAt epochs now e → IsSpentAt epochs old e
  opened_spent epochs Failed is = tt
  opened_spent epochs (Damaged damage) is = tt
  opened_spent epochs Spent is = λ honest.
      let none = is (sync_opens.kept honest) in
      let folds = none.folds in
      record {
        state = none.state;
        folds = record { batches = folds.batches; entries = folds.entries; says = subst (λ contents. JournalOf contents folds.batches) (reads_as honest) folds.says; spelled = folds.spelled; folded = folds.folded };
        spent = none.spent;
      }
  opened_spent epochs Memory is = tt

  -- the files read as before, and are kept then
  kept_bytes : IsHonest old → (files : FinMap file_cmp FileState) → KeepsBytes (account now).files files → KeepsBytes (account old).files files
  kept_bytes h files keeps = record {
    others = λ f kind. keeps.others f kind ∙ ap (λ (contents : Contents). contents f) (reads_as h);
    generations = λ f kind. subst (λ contents. IsKeptGeneration contents (as_read files) f) (reads_as h) (keeps.generations f kind);
  }

  keeps_first : (new : Option Account) → Changes now new KeepsFiles → Changes old new KeepsFiles
  keeps_first new keeps = changes_then old now new OpensFiles KeepsFiles KeepsFiles sync_opens keeps (λ h a b.
      where_then AnyFile ReadsSome ReadsSome ReadsSome KeepsOthers KeepsBytes KeepsBytes (account old) (account now) (account new) a b (λ p q. omega (arith, p, q)) (λ first second. kept_bytes h (account new).files second))

  pub opened_kept : (new : Option Account) (e : Fault) → AreKept now new e → AreKept old new e
  opened_kept new Failed is = tt
  opened_kept new (Damaged damage) is = keeps_first new is
  opened_kept new Spent is = keeps_first new is
  opened_kept new Memory is = tt

  pub seen_first : (P : Contents → Type 0) → (IsHonest now → P (as_read (account now).files)) → IsHonest old → P (as_read (account old).files)
  seen_first P is honest = subst P (reads_as honest) (is (sync_opens.kept honest))

  pub recovered_first : (new : Option Account) (parts : Parts)
      → (IsHonest now → (d : Durable) × FoldsTo (as_read (account now).files) d × (parts.durable ≡ raised d) × Owns parts.journal parts.durable (account new).files × AllQuiet (account new).files)
      → IsHonest old → (d : Durable) × FoldsTo (as_read (account old).files) d × (parts.durable ≡ raised d) × Owns parts.journal parts.durable (account new).files × AllQuiet (account new).files
  recovered_first new parts recovered honest =
      let is = recovered (sync_opens.kept honest) in
      (is.0, subst (λ contents. FoldsTo contents is.0) (reads_as honest) is.1, is.2, is.3, is.4)

  module _ (ids : List FileId) (listed : IsHonest old → ids ≡ keys (account old).files) where
    pub listed_now : IsHonest now → ids ≡ keys (account now).files
    listed_now honest = let before = honest_before honest in listed before ∙ same_keys (account old).files (account now).files (there_as_before before)

    pub quiet_now : (IsHonest mid → All (λ file. IsQuietAt (get (account now).files file)) ids) → IsHonest now → AllQuiet (account now).files
    quiet_now quiet honest = let before = honest_before honest in all_quiet (account old).files (account now).files ids (listed before) (there_as_before before) (quiet (same.kept before))

-- the files that are to be synced are there
pub can_sync : (old mid : Option Account) → Changes old mid (Reads 0) → (ids : List FileId) → (IsHonest old → ids ≡ keys (account old).files) → IsHonest mid → All (λ file. IsFileThere file (account mid).files) ids
can_sync old mid same ids listed honest =
    let before = same.back honest in
    subst (λ files. All (λ file. IsFileThere file files) ids) (sym (same.step before).files) (all_there (account old).files ids (listed before))

-- the answers, seen from the start
module _ (old mid now : Option Account) (same : Changes old mid (Reads 0)) (synced : Changes mid now SyncsFiles) (result : Result Parts Fault) where
  pub all_broken : IfErr result (OnDamage (λ damage. IsHonest now → IsBrokenThere (as_read (account now).files) damage)) → IfErr result (OnDamage (λ damage. IsHonest old → IsBrokenThere (as_read (account old).files) damage))
  all_broken = by result
    where
      by : (r : Result Parts Fault) → IfErr r (OnDamage (λ damage. IsHonest now → IsBrokenThere (as_read (account now).files) damage)) → IfErr r (OnDamage (λ damage. IsHonest old → IsBrokenThere (as_read (account old).files) damage))
      by (Ok parts) is = tt
      by (Err e) is = opened_broken old mid now same synced e is

  pub all_spent : (epochs : ℕ) → IfErr result (IsSpentAt epochs now) → IfErr result (IsSpentAt epochs old)
  all_spent epochs = by result
    where
      by : (r : Result Parts Fault) → IfErr r (IsSpentAt epochs now) → IfErr r (IsSpentAt epochs old)
      by (Ok parts) is = tt
      by (Err e) is = opened_spent old mid now same synced epochs e is

  pub all_kept : (new : Option Account) → IfErr result (AreKept now new) → IfErr result (AreKept old new)
  all_kept new = by result
    where
      by : (r : Result Parts Fault) → IfErr r (AreKept now new) → IfErr r (AreKept old new)
      by (Ok parts) is = tt
      by (Err e) is = opened_kept old mid now same synced new e is

  -- what is said of the contents and the parts
  pub all_seen : (P : Contents → Parts → Type 0) → IfOk result (λ parts. IsHonest now → P (as_read (account now).files) parts) → IfOk result (λ parts. IsHonest old → P (as_read (account old).files) parts)
  all_seen P = by result
    where
      by : (r : Result Parts Fault) → IfOk r (λ parts. IsHonest now → P (as_read (account now).files) parts) → IfOk r (λ parts. IsHonest old → P (as_read (account old).files) parts)
      by (Ok parts) is = seen_first old mid now same synced (λ contents. P contents parts) is
      by (Err e) is = tt

  pub all_next : (epochs : ℕ) → OnOk result (IsHonest now → HasNoEpoch epochs (account now).files → ⊥) → OnOk result (IsHonest old → HasNoEpoch epochs (account old).files → ⊥)
  all_next epochs = by result
    where
      by : (r : Result Parts Fault) → OnOk r (IsHonest now → HasNoEpoch epochs (account now).files → ⊥) → OnOk r (IsHonest old → HasNoEpoch epochs (account old).files → ⊥)
      by (Ok parts) has = has_epoch_before old mid now same synced epochs has
      by (Err e) has = tt

  pub all_recovered : (new : Option Account)
      → IfOk result (λ parts. IsHonest now → (d : Durable) × FoldsTo (as_read (account now).files) d × (parts.durable ≡ raised d) × Owns parts.journal parts.durable (account new).files × AllQuiet (account new).files)
      → IfOk result (λ parts. IsHonest old → (d : Durable) × FoldsTo (as_read (account old).files) d × (parts.durable ≡ raised d) × Owns parts.journal parts.durable (account new).files × AllQuiet (account new).files)
  all_recovered new = by result
    where
      by : (r : Result Parts Fault)
          → IfOk r (λ parts. IsHonest now → (d : Durable) × FoldsTo (as_read (account now).files) d × (parts.durable ≡ raised d) × Owns parts.journal parts.durable (account new).files × AllQuiet (account new).files)
          → IfOk r (λ parts. IsHonest old → (d : Durable) × FoldsTo (as_read (account old).files) d × (parts.durable ≡ raised d) × Owns parts.journal parts.durable (account new).files × AllQuiet (account new).files)
      by (Ok parts) is = recovered_first old mid now same synced new parts is
      by (Err e) is = tt

-- what was denoted is denoted in the next epoch
next_denoted : (old new : Option Account) (parts : Parts) (d : Durable) → FoldsTo (as_read (account old).files) d → parts.durable ≡ raised d → Owns parts.journal parts.durable (account new).files
    → (durable : BrokerDurable) → Denotes (as_read (account old).files) durable → Denotes (as_read (account new).files) (next_epoch durable)
next_denoted old new parts d folds raises owns durable denotes = record {
  state = raised d;
  folds = subst (FoldsTo (as_read (account new).files)) raises (owned_folds parts.journal parts.durable (account new).files owns);
  is = ap next_epoch (denotes.is ∙ ap durable_part (one_folded (as_read (account old).files) denotes.state d denotes.folds folds));
}

pub all_denoted : (old new : Option Account) (result : Result Parts Fault)
    → IfOk result (λ parts. IsHonest old → (d : Durable) × FoldsTo (as_read (account old).files) d × (parts.durable ≡ raised d) × Owns parts.journal parts.durable (account new).files × AllQuiet (account new).files)
    → OnOk result (IsHonest old → (durable : BrokerDurable) → Denotes (as_read (account old).files) durable → Denotes (as_read (account new).files) (next_epoch durable))
all_denoted old new (Ok parts) recovered = λ honest durable denotes. let is = recovered honest in next_denoted old new parts is.0 is.1 is.2 is.3 durable denotes
all_denoted old new (Err e) recovered = tt

-- what a crash leaves before all is synced
leaves_before : (old : Option Account) (c : Files) (b : List ℕ) → Leaves old c b → OnceQuiet LeavesOpened old c b
leaves_before old c b left = once_before LeavesOpened old c b (λ quiet. quiet_leaves old c b quiet left) left

narrows_settled : (s t : Option FileState) → NarrowsAt s t → IsQuietAt t → IsSettled s t
narrows_settled None None narrows quiet = refl
narrows_settled None (Some t) narrows quiet = absurd narrows
narrows_settled (Some s) None narrows quiet = absurd narrows
narrows_settled (Some s) (Some t) narrows quiet = (quiet, narrows.bytes)

-- the moments, seen from the start
module _ {D : Type 0} (m : Ghosts D) (old mid : D) (listing : Within m old mid Leaves) where
  pub listing_moments : Within m old mid (OnceQuiet LeavesOpened)
  listing_moments = weaker m old mid Leaves (OnceQuiet LeavesOpened) listing (leaves_before (m.tells old))

  module _ (same : Changes (m.tells old) (m.tells mid) (Reads 0)) (now : D) (syncing : Within m mid now Leaves) where
    sync_run : Within m old now Leaves
    sync_run = then_run m old mid now Leaves Leaves listing syncing (reads_leave (m.tells old) (m.tells mid) 0 same)

    pub sync_moments : Within m old now (OnceQuiet LeavesOpened)
    sync_moments = weaker m old now Leaves (OnceQuiet LeavesOpened) sync_run (leaves_before (m.tells old))

    module _ (synced : Changes (m.tells mid) (m.tells now) SyncsFiles) (new : D) (opening : Within m now new LeavesOpened) where
      pub all_moments : Within m old new (OnceQuiet LeavesOpened)
      all_moments =
          then_run m old now new (OnceQuiet LeavesOpened) LeavesOpened sync_moments opening
          (λ c b left. once_since LeavesOpened (m.tells old) c b (opened_leaves (m.tells old) (m.tells mid) (m.tells now) same synced c b left))

      settled : (IsHonest (m.tells now) → AllQuiet (account (m.tells now)).files) → Changes (m.tells old) (m.tells now) (Settles AnyFile)
      settled quiet = changes_then (m.tells old) (m.tells mid) (m.tells now) (Reads 0) SyncsFiles (Settles AnyFile) same synced (λ h a b. record {
        told = b.told ∙ a.told;
        taken = omega (arith, a.taken, b.taken);
        others = λ file out. absurd (out tt);
        change = λ file own.
            subst (λ (files : FinMap file_cmp FileState). IsSettled (get files file) (get (account (m.tells now)).files file)) a.files
            (narrows_settled (get (account (m.tells mid)).files file) (get (account (m.tells now)).files file) (b.change file) (quiet (synced.kept (same.kept h)) file));
      })

      -- from the moment on at which all is synced
      pub moments_once_synced : (IsHonest (m.tells now) → AllQuiet (account (m.tells now)).files) → WithinFrom m AnyFile old new LeavesOpened
      moments_once_synced quiet = record { at = now; settled = settled quiet; first = sync_run; run = opening }

pub on_ok : {T E : Type 0} (r : Result T E) (P : Type 0) → P → OnOk r P
on_ok (Ok x) P is = is
on_ok (Err e) P is = tt
