-- The journal is found: the generations are listed, then scanned, and the first one is laid where none is there.
use Rattle.std.proofs.Common.{◌≡◌, ◌≢◌, inl, inr, ⊎_elim, ℕ, List, [], Option, Some, None, Result, Ok, Err, OnErr, refl, sym, ◌∙◌, ap, subst, arith}
use Rattle.std.specs.Prelude.{MatchOption}
use Rattle.std.specs.FinMap.{get}
use Rattle.pg_disk.specs.declared.fault.Fault.{Fault}
use Rattle.pg_disk.specs.declared.fault.Fault.TheVariants.{Failed, Damaged, Spent, Memory}
use Rattle.pg_disk.specs.declared.disk.Disk.{Ghosts}
use Rattle.pg_disk.specs.declared.file_id.FileId.{FileId}
use Rattle.pg_disk.specs.declared.file_id.Kind.TheVariants.{Journal as OfJournal}
use Rattle.pg_disk.specs.Files.{Files}
use Rattle.pg_disk.specs.Account.{FileState, Account, account, IsHonest}
use Rattle.pg_disk.specs.Calls.{Changes, ChangesFile, Reads}
use Rattle.pg_disk.specs.Image.{IsLeftAt, Leaves, LeavesAt}
use Rattle.pg_disk.specs.Moments.{Within}
use Rattle.pg_disk.proofs.Composing.{changes_then, changes_weaker, weaker, then_run}
use Rattle.pg_gate.specs.Gated.{HasNone, IsLaid, StandsFor, file_of}
use Rattle.pg_gate.specs.Spans.{StaysOrMends}
use Rattle.pg_gate.specs.declared.at_rest.Rest.{Rest}
use Rattle.pg_gate.specs.declared.spans.Span.{Span}
use Rattle.pg_journal.specs.declared.journal.Journal.{Journal}
use Rattle.pg_journal.specs.Generations.{first_generation, HasNoneThere, JournalOf}
use Rattle.pg_disk.specs.Views.{as_read, bytes_of}
use Rattle.pg_journal.specs.Looks.{IsCutAt, IsCutGeneration, IsFound, KeepsAtDamage, KeepsDamaged, KeepsGeneration, LeavesJournal, ReadsGenerations, TakesWithin}
use Rattle.pg_journal.specs.Stands.{IsIdle, Stands}
use Rattle.pg_journal.proofs.Leaving.{gone_left, leaves_journal, left_now, no_change}
use Rattle.pg_journal.proofs.Order.{same_or_not, not_itself_by}

-- what is said where nothing was found
pub none_found : {T : Type 0} (o : Option T) (P : Type 0) (Q : T → Type 0) → o ≡ None → MatchOption o P Q → P
none_found None P Q e is = is
none_found (Some x) P Q e is = cc

absent_of : (o : Option FileState) → bytes_of o ≡ None → o ≡ None
absent_of None e = refl
absent_of (Some s) e = cc

-- a listing is a change of no generation
pub listed_stays : (old mid : Option Account) → Changes old mid (Reads 0) → Changes old mid ReadsGenerations
listed_stays old mid same = changes_weaker old mid (Reads 0) ReadsGenerations same (λ h a. record {
  told = a.told;
  taken = omega (arith, a.taken);
  others = λ file kind. ap (λ m. get m file) a.files;
  change = record {
    generations = λ file kind. subst (λ m. StaysOrMends (get (account old).files file) (get m file)) (sym a.files) (((no_change old).step h).change.generations file kind);
    made = λ file kind absent. inl (ap (λ m. get m file) a.files ∙ absent);
  };
})

-- what a crash leaves after the listing, seen from before it
seen_before : (old mid : Option Account) → Changes old mid (Reads 0) → (c : Files) (b : List ℕ) → LeavesJournal mid c b → LeavesJournal old c b
seen_before old mid same c b left =
    let honest = same.back left.honest in
    let a = same.step honest in
    leaves_journal old c b honest (left.told ∙ a.told) (λ file kind. subst (λ m. IsLeftAt (get m file) (get c file)) a.files (left.others file kind))
    (λ file kind. subst (λ m. KeepsGeneration (get m file) (get c file)) a.files (left.left.generations file kind)) (λ file kind absent. left.left.made file kind (ap (λ m. get m file) a.files ∙ absent))

-- after the listing the generations are scanned
pub listed_then : (old mid new : Option Account) → Changes old mid (Reads 0) → Changes mid new ReadsGenerations → Changes old new ReadsGenerations
listed_then old mid new same stays = changes_then old mid new (Reads 0) ReadsGenerations ReadsGenerations same stays (λ h a b. record {
  told = b.told ∙ a.told;
  taken = omega (arith, a.taken, b.taken);
  others = λ file kind. b.others file kind ∙ ap (λ m. get m file) a.files;
  change = record {
    generations = λ file kind. subst (λ m. StaysOrMends (get m file) (get (account new).files file)) a.files (b.change.generations file kind);
    made = λ file kind absent. b.change.made file kind (ap (λ m. get m file) a.files ∙ absent);
  };
})

pub none_before : (old mid : Option Account) → Changes old mid (Reads 0) → (IsHonest mid → HasNoneThere (as_read (account mid).files)) → IsHonest old → HasNoneThere (as_read (account old).files)
none_before old mid same none honest = subst (λ m. HasNoneThere (as_read m)) (same.step honest).files (none (same.kept honest))

module _ {D : Type 0} (m : Ghosts D) (old mid : D) (listing : Within m old mid Leaves) where
  pub in_listing : Within m old mid LeavesJournal
  in_listing = weaker m old mid Leaves LeavesJournal listing (left_now (m.tells old) (m.tells old) (no_change (m.tells old)) (λ honest file kind. inl refl))

  module _ (same : Changes (m.tells old) (m.tells mid) (Reads 0)) where
    pub in_scans : (new : D) → Within m mid new LeavesJournal → Within m old new LeavesJournal
    in_scans new run = then_run m old mid new LeavesJournal LeavesJournal in_listing run (seen_before (m.tells old) (m.tells mid) same)

-- where no generation is there
module _ (old mid : Option Account) (stays : Changes old mid ReadsGenerations) (before : IsHonest old → HasNoneThere (as_read (account old).files)) (now : IsHonest old → HasNoneThere (as_read (account mid).files)) where
  absent_before : IsHonest old → (file : FileId) → file.kind ≡ OfJournal → get (account old).files file ≡ None
  absent_before honest file kind = absent_of (get (account old).files file) (before honest file kind)

  absent_now : IsHonest old → (file : FileId) → file.kind ≡ OfJournal → get (account mid).files file ≡ None
  absent_now honest file kind = absent_of (get (account mid).files file) (now honest file kind)

  pub can_lay : IsHonest mid → get (account mid).files first_generation ≡ None
  can_lay honest = absent_now (stays.back honest) first_generation refl

  not_first : (file : FileId) → file.kind ≢ OfJournal → file ≢ first_generation
  not_first file kind same = kind (ap (λ (f : FileId). f.kind) same)

  -- while the first one is laid
  pub laying_leaves : (c : Files) (b : List ℕ) → LeavesAt first_generation (λ _. HasNone) mid c b → LeavesJournal old c b
  laying_leaves c b left =
      let honest = stays.back left.honest in
      let a = stays.step honest in
      let none : (file : FileId) → file.kind ≡ OfJournal → file ≢ first_generation → get c file ≡ None = λ file kind other. gone_left (get (account mid).files file) (get c file) (absent_now honest file kind) (left.others file other) in
      leaves_journal old c b honest (left.told ∙ a.told)
      (λ file kind. subst (λ s. IsLeftAt s (get c file)) (a.others file kind) (left.others file (not_first file kind)))
      (λ file kind. subst (λ s. KeepsGeneration s (get c file)) (sym (absent_before honest file kind))
      (⊎_elim (λ same. subst (λ f. HasNone (get c f)) (sym same) left.left) (λ other. subst HasNone (sym (none file kind other)) tt) (same_or_not file first_generation)))
      (λ file kind absent. ⊎_elim (λ same. inr same) (λ other. inl (none file kind other)) (same_or_not file first_generation))

  pub then_laid : (new : Option Account) (R : Option FileState → Option FileState → Type 0) → Changes mid new (ChangesFile first_generation R) → Changes old new ReadsGenerations
  then_laid new R laid = changes_then old mid new ReadsGenerations (ChangesFile first_generation R) ReadsGenerations stays laid (λ h a b. record {
    told = b.told ∙ a.told;
    taken = omega (arith, a.taken, b.taken);
    others = λ file kind. b.others file (not_first file kind) ∙ a.others file kind;
    change = record {
      generations = λ file kind. subst (λ s. StaysOrMends s (get (account new).files file)) (sym (absent_before h file kind)) tt;
      made = λ file kind absent. ⊎_elim (λ same. inr same) (λ other. inl (b.others file other ∙ absent_now h file kind)) (same_or_not file first_generation);
    };
  })

  pub all_laid : (new : Option Account) (rest : Rest) → file_of rest ≡ first_generation → Changes mid new (ChangesFile first_generation (λ _ s. IsLaid s × StandsFor rest [] s)) → IsHonest old
      → JournalOf (as_read (account old).files) [] × Stands (record { rest = rest }) [] (account new).files
  all_laid new rest own laid honest =
      let b = laid.step (stays.kept honest) in
      let idle : (file : FileId) → file.kind ≡ OfJournal → file ≢ first_generation → IsIdle (get (account new).files file) = λ file kind other. subst IsIdle (sym (b.others file other ∙ absent_now honest file kind)) tt in (
        inr (λ file kind. subst HasNone (sym (before honest file kind)) tt, refl),
        record {
          kind = ap (λ (f : FileId). f.kind) own;
          stands = subst (λ f. StandsFor rest [] (get (account new).files f)) (sym own) b.change.1;
          last = λ file kind behind. idle file kind (λ same. not_itself_by (file_of rest) file (same ∙ sym own) behind);
          alone = λ none file kind other. idle file kind (λ same. other (same ∙ sym own));
        },
      )

-- what is said where something was found
pub some_found : {T : Type 0} (o : Option T) (x : T) (P : Type 0) (Q : T → Type 0) → o ≡ Some x → MatchOption o P Q → Q x
some_found None x P Q e is = cc
some_found (Some y) x P Q e is = let same : y ≡ x = cc in subst Q same is

-- what is said of the files behind the listing is said of them before it
module _ (old mid : Option Account) (same : Changes old mid (Reads 0)) where
  pub listed_found : (new : Option Account) (journal : Journal) (spans : List Span) → (IsHonest mid → IsFound journal spans (account mid).files (account new).files) → IsHonest old → IsFound journal spans (account old).files (account new).files
  listed_found new journal spans found h = subst (λ m. IsFound journal spans m (account new).files) (same.step h).files (found (same.kept h))

  pub listing_taken : {T E : Type 0} (r : Result T E) → OnErr r (IsHonest old → TakesWithin 0 (account old) (account mid))
  listing_taken (Ok x) = tt
  listing_taken (Err e) = λ h. omega (arith, (same.step h).taken)

  -- a fault of the listing
  pub listing_kept : (e : Fault) → IsCutGeneration old e → KeepsAtDamage old mid e
  listing_kept Failed is = tt
  listing_kept (Damaged damage) is = λ h. record {
    bytes = ap (λ m. bytes_of (get m damage.file)) (same.step h).files;
    others = λ file kind other. inl (ap (λ m. get m file) (same.step h).files);
    made = λ file kind absent. ap (λ m. get m file) (same.step h).files ∙ absent;
  }
  listing_kept Spent is = absurd is
  listing_kept Memory is = tt

  -- a fault behind it
  pub cut_listed : (e : Fault) → IsCutGeneration mid e → IsCutGeneration old e
  cut_listed Failed is = tt
  cut_listed (Damaged damage) is = (is.0, is.1, λ h. subst (λ m. IsCutAt m damage.file damage.at) (same.step h).files (is.2 (same.kept h)))
  cut_listed Spent is = absurd is
  cut_listed Memory is = tt

  pub kept_listed : (new : Option Account) (e : Fault) → KeepsAtDamage mid new e → KeepsAtDamage old new e
  kept_listed new Failed is = tt
  kept_listed new (Damaged damage) is = λ h. subst (λ m. KeepsDamaged damage.file m (account new).files) (same.step h).files (is (same.kept h))
  kept_listed new Spent is = absurd is
  kept_listed new Memory is = tt
