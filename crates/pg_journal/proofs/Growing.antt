-- What the journal says while a batch is added.
use Rattle.std.proofs.Common.{◌≡◌, ◌≢◌, ◌⊎◌, inl, inr, ⊎_elim, ℕ, ◌+◌, ◌^◌, ◌≤◌, ◌<◌, List, [], ◌∷◌, ◌++◌, length, Option, refl, sym, subst, arith}
use Rattle.std.proofs.lemmas.List.Elements.{All-push}
use Rattle.std.specs.FinMap.{get}
use Rattle.pg_disk.specs.declared.disk.Disk.{Ghosts}
use Rattle.pg_disk.specs.declared.file_id.FileId.{FileId}
use Rattle.pg_disk.specs.declared.file_id.Kind.TheVariants.{Journal as OfJournal}
use Rattle.pg_disk.specs.Files.{Files}
use Rattle.pg_disk.specs.Account.{Account, account, IsHonest}
use Rattle.pg_disk.specs.Calls.{Changes, ChangesFile}
use Rattle.pg_disk.specs.Image.{Leaves, LeavesAt, OthersLeft}
use Rattle.pg_disk.specs.Moments.{Within}
use Rattle.pg_disk.proofs.Composing.{started, weaker}
use Rattle.pg_gate.specs.Gated.{HasNone, MayGrow, StandsClosed, StandsFor, file_of}
use Rattle.pg_gate.specs.declared.at_rest.Rest.{Rest}
use Rattle.pg_gate.proofs.Unique.{closed_stands, stands_fit}
use Rattle.pg_journal.specs.declared.journal.Journal.{Journal}
use Rattle.pg_journal.specs.Generations.{IsBefore}
use Rattle.pg_disk.specs.Views.{as_left}
use Rattle.pg_journal.specs.Looks.{LeavesOldOrNew}
use Rattle.pg_journal.specs.Stands.{name_of, IsIdle, Stands}
use Rattle.pg_journal.proofs.Order.{not_itself_by}
use Rattle.pg_journal.proofs.Saying.{idle_left, says_of, stands_says}

some_pushed : (batches : List (List ℕ)) (batch : List ℕ) → batches ++ batch ∷ [] ≡ [] → batches ≡ []
some_pushed [] batch e = refl
some_pushed (p ∷ ps) batch e = cc

module _ (journal : Journal) (batch : List ℕ) where
  still_old : (tells : Option Account) (c : Files) (b : List ℕ) → Leaves tells c b → LeavesOldOrNew journal batch tells c b
  still_old tells c b left = record {
    honest = left.honest;
    told = left.told;
    others = λ file other. left.image file;
    left = λ batches stands. inl (stands_says journal batches (account tells).files stands c (left.image (name_of journal)) (λ file kind other. inl (left.image file)));
  }

  -- a crash leaves no batch of another generation that is idle
  still : (tells : Option Account) (c : Files) → OthersLeft (name_of journal) (account tells).files c → (file : FileId) → file.kind ≡ OfJournal → file ≢ name_of journal → IsIdle (get (account tells).files file) → HasNone (get c file)
  still tells c others file kind other idle = idle_left (get (account tells).files file) (get c file) idle (others file other)

  old_or_new : (tells : Option Account) → length batch < 2 ^ 64 → (c : Files) (b : List ℕ) → LeavesAt (name_of journal) (MayGrow journal.rest batch) tells c b → LeavesOldOrNew journal batch tells c b
  old_or_new tells short c b left = record {
    honest = left.honest;
    told = left.told;
    others = left.others;
    left = λ batches stands.
        let fit = stands_fit journal.rest batches (get (account tells).files (name_of journal)) stands.stands in
        ⊎_elim (λ has. inl (says_of journal batches (account tells).files stands (as_left c) batches (λ e. e) fit has (still tells c left.others)))
        (λ has. inr (says_of journal batches (account tells).files stands (as_left c) (batches ++ batch ∷ []) (some_pushed batches batch) (All-push (λ payload. length payload < 2 ^ 64) batches batch fit short) has (still tells c left.others)))
        (left.left batches stands.stands);
  }

  module _ {D : Type 0} (m : Ghosts D) (old : D) (law : (c : Files) (b : List ℕ) → m.left_since old (m.moment old) c b → Leaves (m.tells old) c b) where
    abbrev P : Option Account → Files → List ℕ → Type 0
    P = LeavesOldOrNew journal batch

    -- where the batch is too long nothing happens
    pub in_append : (new : D) (n : ℕ) → (2 ^ 62 < n + length batch + 9 → new ≡ old) → Within m old new (LeavesAt (name_of journal) (MayGrow journal.rest batch)) → Within m old new P
    in_append new n untouched run = elim (short_or_long (n + length batch + 9) (2 ^ 62)) [
      | inl short ↦ weaker m old new (LeavesAt (name_of journal) (MayGrow journal.rest batch)) P run (old_or_new (m.tells old) (omega (arith, short)))
      | inr long ↦ subst (λ d. Within m old d P) (sym (untouched long)) (started m old P (λ c b left. still_old (m.tells old) c b (law c b left)))
    ]
      where
        short_or_long : (a b : ℕ) → (a ≤ b) ⊎ (b < a)
        short_or_long a b = grind arith

  -- once it is added
  pub all_grown : (old new : Option Account) (next : Rest) → file_of next ≡ name_of journal
      → Changes old new (ChangesFile (name_of journal) (λ s t. (batches : List (List ℕ)) → StandsFor journal.rest batches s → StandsClosed next (batches ++ batch ∷ []) t)) → IsHonest old → (batches : List (List ℕ)) → Stands journal batches (account old).files
      → Stands (record { rest = next }) (batches ++ batch ∷ []) (account new).files
  all_grown old new next same change honest batches stands =
      let step = change.step honest in
      record {
        kind = subst (λ (f : FileId). f.kind ≡ OfJournal) (sym same) stands.kind;
        stands = subst (λ f. StandsFor next (batches ++ batch ∷ []) (get (account new).files f)) (sym same) (closed_stands next (batches ++ batch ∷ []) (get (account new).files (name_of journal)) (step.change batches stands.stands));
        last = λ file kind before.
            let before_own = subst (λ f. IsBefore f file) same before in
            subst IsIdle (sym (step.others file (λ own. not_itself_by (name_of journal) file own before_own))) (stands.last file kind before_own);
        alone = λ none file kind other. let other_own = subst (λ f. file ≢ f) same other in subst IsIdle (sym (step.others file other_own)) (stands.alone (some_pushed batches batch none) file kind other_own);
      }
