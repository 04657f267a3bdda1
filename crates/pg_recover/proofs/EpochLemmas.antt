-- The next epoch is begun.
use Rattle.std.proofs.Common.{◌≡◌, ◌≢◌, ◌⊎◌, inl, inr, ⊎_elim, ℕ, ◌+◌, ◌^◌, ◌<◌, cond, List, [], ◌∷◌, ◌++◌, Option, Some, None, refl, sym, ◌∙◌, ap, subst, arith, append_assoc}
use Rattle.std.specs.FinMap.{get}
use Rattle.std.proofs.lemmas.Bool.{lt-ltb}
use Rattle.std.proofs.lemmas.List.{append-nil}
use Rattle.pg_disk.specs.declared.fault.Rule.TheVariants.{Repeat}
use Rattle.pg_disk.specs.declared.file_id.FileId.{FileId}
use Rattle.pg_disk.specs.declared.file_id.Kind.TheVariants.{Journal as OfJournal}
use Rattle.pg_disk.specs.Files.{Files}
use Rattle.pg_disk.specs.Account.{FileState, Account, account, IsHonest, IsQuietAt, AllQuiet}
use Rattle.pg_disk.specs.Calls.{Changes, ChangesFile}
use Rattle.pg_disk.specs.Image.{IsLeftAt, Leaves, MayBeRemoved}
use Rattle.pg_gate.specs.Gated.{RestsAt}
use Rattle.pg_records.specs.declared.entry.Entry.{Entry}
use Rattle.pg_records.specs.declared.entry.Entry.TheVariants.{Epoch}
use Rattle.pg_records.specs.Entries.{batch_bytes, SpellsBatch, SpellBatches}
use Rattle.pg_fold.specs.declared.durable.Durable.{Durable}
use Rattle.pg_fold.specs.Fold.{fresh, IsApplied}
use Rattle.pg_fold.proofs.FoldLaws.{folds_applied}
use Rattle.pg_journal.specs.declared.journal.Journal.{Journal}
use Rattle.pg_journal.specs.Generations.{JournalOf}
use Rattle.pg_disk.specs.Views.{as_left, as_read}
use Rattle.pg_journal.specs.Looks.{LeavesOldOrNew}
use Rattle.pg_journal.specs.Stands.{Stands, name_of}
use Rattle.pg_journal.proofs.Order.{same_or_not}
use Rattle.pg_journal.proofs.Saying.{stands_kept, stands_says}
use Rattle.pg_recover.specs.Denotation.{raised}
use Rattle.pg_recover.specs.Folding.{FoldsFrom}
use Rattle.pg_recover.specs.Raising.{IsReady, LeavesRaised}
use Rattle.pg_recover.specs.Recovered.{Owns}
use Rattle.pg_recover.specs.Removing.{HasNoOther, LeavesOthersGone, RemovesOthers}
use Rattle.pg_recover.specs.Said.{KeepsWhole}
use Rattle.pg_recover.proofs.OneState.{folds_to}
use Rattle.pg_recover.proofs.RemovingLemmas.{all_left}
use Rattle.pg_recover.proofs.WellLemmas.{added_keeps, adding_keeps, gone_keeps}

-- a batch more
pub spelled_push : (batches : List (List ℕ)) (entries : List Entry) (payload : List ℕ) (more : List Entry) → SpellBatches batches entries → SpellsBatch payload more → SpellBatches (batches ++ payload ∷ []) (entries ++ more)
spelled_push [] entries payload more none spells = (more, [], spells, refl, ap (λ es. es ++ more) none ∙ sym (append-nil more))
spelled_push (p ∷ batches) entries payload more spelled spells = (
  spelled.0,
  spelled.1 ++ more,
  spelled.2,
  spelled_push batches spelled.1 payload more spelled.3 spells,
  ap (λ es. es ++ more) spelled.4 ∙ append_assoc spelled.0 spelled.1 more,
)

-- the batch of the next epoch
module _ (d : Durable) (payload : List ℕ) (is : payload ≡ batch_bytes (Epoch (d.epoch + 1) ∷ [])) (fits : d.epoch + 1 < 2 ^ 32) where
  epoch_applied : IsApplied d (Epoch (d.epoch + 1)) (raised d)
  epoch_applied = record { condition = ap (λ b. cond b None (Some Repeat)) (lt-ltb d.epoch (d.epoch + 1) (omega arith)); readable = tt; effect = refl }

  pub raised_folds : (batches : List (List ℕ)) → FoldsFrom fresh batches d → FoldsFrom fresh (batches ++ payload ∷ []) (raised d)
  raised_folds batches folds = record {
    entries = folds.entries ++ Epoch (d.epoch + 1) ∷ [];
    spelled = spelled_push batches folds.entries payload (Epoch (d.epoch + 1) ∷ []) folds.spelled (record { bytes = is; some = λ e. cc; fields = (fits, tt) });
    folded = folds_applied fresh d (raised d) folds.entries (Epoch (d.epoch + 1)) folds.folded epoch_applied;
  }

  module _ (journal : Journal) (old : Option Account) (list : List FileId) (ready : IsHonest old → IsReady journal d list (account old).files) where
    left_or_gone : (s : Option FileState) (left : Option (List ℕ)) → MayBeRemoved s left → IsLeftAt s left ⊎ (left ≡ None)
    left_or_gone s left (inl gone) = inr gone
    left_or_gone s left (inr is) = inl is

    -- while nothing is added, and other generations may be gone
    pub gone_leaves : (c : Files) (b : List ℕ) → LeavesOthersGone (name_of journal) old c b → LeavesRaised journal d old c b
    gone_leaves c b left = record {
      honest = left.honest;
      nothing = left.told;
      denotes = λ batches stands folds. inl (folds_to (as_left c) batches d
          (stands_says journal batches (account old).files stands c (left.others (name_of journal) (λ other. other.1 refl)) (λ file kind other. left_or_gone (get (account old).files file) (get c file) (left.left file))) folds);
      keeps = gone_keeps (name_of journal) old (ready left.honest).quiet c b left;
    }

    pub nothing_leaves : (c : Files) (b : List ℕ) → Leaves old c b → LeavesRaised journal d old c b
    nothing_leaves c b left = gone_leaves c b (all_left (name_of journal) old c b left)

    module _ (mid : Option Account) (removed : Changes old mid (RemovesOthers (name_of journal))) where
      pub stands_still : IsHonest old → (batches : List (List ℕ)) → Stands journal batches (account old).files → Stands journal batches (account mid).files
      stands_still honest batches stands =
          let a = removed.step honest in
          stands_kept journal batches (account old).files (account mid).files stands (a.others (name_of journal) (λ other. other.1 refl)) (λ file kind other. a.change file)

      module _ (alone : IsHonest old → HasNoOther (name_of journal) (account mid).files) where
        kept_beside : IsHonest old → (file : FileId) → file.kind ≢ OfJournal → get (account mid).files file ≡ get (account old).files file
        kept_beside honest file kind = (removed.step honest).others file (λ other. kind other.0)

        adding_whole : IsHonest old → (c : Files) (b : List ℕ) → LeavesOldOrNew journal payload mid c b → KeepsWhole (as_read (account old).files) (as_left c)
        adding_whole honest c b left =
            let is = ready honest in
            let keeps : (said : List (List ℕ)) → JournalOf (as_left c) said → KeepsWhole (as_read (account old).files) (as_left c)
            = adding_keeps journal is.batches (account old).files (account mid).files is.stands (alone honest) (kept_beside honest) is.quiet c left.others in
            ⊎_elim (keeps is.batches) (keeps (is.batches ++ payload ∷ [])) (left.left is.batches (stands_still honest is.batches is.stands))

        -- while the batch is added
        pub adding_leaves : (c : Files) (b : List ℕ) → LeavesOldOrNew journal payload mid c b → LeavesRaised journal d old c b
        adding_leaves c b left =
            let honest = removed.back left.honest in
            record {
              honest = honest;
              nothing = left.told ∙ (removed.step honest).told;
              denotes = λ batches stands folds. ⊎_elim (λ says. inl (folds_to (as_left c) batches d says folds)) (λ says. inr (folds_to (as_left c) (batches ++ payload ∷ []) (raised d) says (raised_folds batches folds)))
                  (left.left batches (stands_still honest batches stands));
              keeps = adding_whole honest c b left;
            }

        -- once it is added
        module _ (new : Option Account) (next : Journal) (same : name_of next ≡ name_of journal) (stands : IsHonest mid → (batches : List (List ℕ)) → Stands journal batches (account mid).files → Stands next (batches ++ payload ∷ []) (account new).files)
            (changed : Changes mid new (ChangesFile (name_of journal) (λ _ _. Unit {0}))) where
          rests_quiet : (gate : ℕ) (batches : List (List ℕ)) (s : Option FileState) → RestsAt gate batches s → IsQuietAt s
          rests_quiet gate batches None rests = absurd rests
          rests_quiet gate batches (Some s) rests = rests.quiet

          quiet_or_gone : (s t : Option FileState) → IsQuietAt s → (t ≡ s) ⊎ (t ≡ None) → IsQuietAt t
          quiet_or_gone s t quiet (inl same) = subst IsQuietAt (sym same) quiet
          quiet_or_gone s t quiet (inr gone) = subst IsQuietAt (sym gone) tt

          stands_next : (honest : IsHonest old) → Stands next ((ready honest).batches ++ payload ∷ []) (account new).files
          stands_next honest = stands (removed.kept honest) (ready honest).batches (stands_still honest (ready honest).batches (ready honest).stands)

          pub added_whole : IsHonest old → KeepsWhole (as_read (account old).files) (as_read (account new).files)
          added_whole honest =
              let is = ready honest in
              added_keeps journal is.batches (account old).files (account mid).files is.stands (alone honest) (kept_beside honest) next (is.batches ++ payload ∷ []) (account new).files same (stands_next honest)
              (changed.step (removed.kept honest)).others

          pub owned : IsHonest old → Owns next (raised d) (account new).files × AllQuiet (account new).files
          owned honest =
              let is = ready honest in
              let a = removed.step honest in
              let b = changed.step (removed.kept honest) in
              let stand = stands_next honest in
              let folds = raised_folds is.batches is.folds in (
                record {
                  batches = is.batches ++ payload ∷ [];
                  entries = folds.entries;
                  stands = stand;
                  spelled = folds.spelled;
                  folded = folds.folded;
                  alone = λ file kind other. let apart = subst (λ f. file ≢ f) same other in b.others file apart ∙ alone honest file (kind, apart);
                },
                λ file. ⊎_elim
                    (λ own. subst (λ f. IsQuietAt (get (account new).files f)) (sym own) (rests_quiet next.rest.gate (is.batches ++ payload ∷ []) (get (account new).files (name_of next)) stand.stands))
                    (λ other. subst IsQuietAt (sym (b.others file (subst (λ f. file ≢ f) same other))) (quiet_or_gone (get (account old).files file) (get (account mid).files file) (is.quiet file) (a.change file)))
                    (same_or_not file (name_of next)),
              )
