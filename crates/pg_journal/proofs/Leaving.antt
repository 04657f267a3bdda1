-- What a crash leaves while the generations are scanned, and what is changed.
use Rattle.std.proofs.Common.{◌≡◌, ◌≢◌, ◌⊎◌, inl, inr, ⊎_elim, ℕ, List, [], Option, Some, None, refl, sym, ◌∙◌, subst, arith}
use Rattle.std.specs.FinMap.{get}
use Rattle.pg_disk.specs.declared.file_id.FileId.{FileId}
use Rattle.pg_disk.specs.declared.file_id.Kind.TheVariants.{Journal as OfJournal}
use Rattle.pg_disk.specs.Files.{Files}
use Rattle.pg_disk.specs.Account.{FileState, Account, account, IsHonest}
use Rattle.pg_disk.specs.Calls.{Changes}
use Rattle.pg_disk.specs.Image.{IsFileThere, IsLeftAt, Leaves, LeavesAt}
use Rattle.pg_disk.proofs.Composing.{changes_none, changes_then}
use Rattle.pg_gate.specs.Gated.{Batches, HasBatches}
use Rattle.pg_gate.specs.Spans.{AsRead, IsCut, IsMendable, KeepsAtRest, ReadsAndChanges, StaysOrMends}
use Rattle.pg_gate.proofs.KeepsAsRead.{rest_left}
use Rattle.pg_journal.specs.Generations.{first_generation}
use Rattle.pg_journal.specs.Looks.{IsCutAt, KeepsGeneration, LeavesJournal, ReadsGenerations}
use Rattle.pg_journal.specs.Stands.{StaysOrComesToRest}
use Rattle.pg_journal.proofs.Law.{none_alone}
use Rattle.pg_journal.proofs.Order.{same_or_not}
use Rattle.pg_journal.proofs.Saying.{left_keeps, idle_left, quiet_says}
use Rattle.pg_journal.proofs.Scanned.{rests_none, settles_idle, stays_away}

-- of a file that had no batch each list of batches is empty
none_kept : (s : FileState) (left : Option (List ℕ)) → Batches s.bytes [] → HasBatches [] left → (batches : List (List ℕ)) → Batches s.bytes batches → HasBatches batches left
none_kept s left none has batches are = subst (λ bs. HasBatches bs left) (sym (none_alone s.bytes batches none are)) has

-- what a crash leaves of a generation as it is now, seen from the start
pub stays_keeps : (s t : Option FileState) (left : Option (List ℕ)) → StaysOrComesToRest s t → IsLeftAt t left → KeepsGeneration s left
stays_keeps s t left (inl same) is = left_keeps s left (subst (λ o. IsLeftAt o left) same is)
stays_keeps None t left (inr settles) is = idle_left t left (settles_idle None t settles) is
stays_keeps (Some s) None left (inr settles) is = absurd settles.1
stays_keeps (Some s) (Some u) left (inr settles) is = λ quiet. none_kept s left settles.0 (rest_left (Some u) left settles.1.quiet is [] (rests_none 0 u settles.1))

-- the same within its scan
scan_keeps : (s t : Option FileState) (left : Option (List ℕ)) → StaysOrComesToRest s t → KeepsAtRest t left → KeepsGeneration s left
scan_keeps s None left stays keeps = absurd keeps
scan_keeps s (Some u) left (inl same) keeps = subst (λ o. KeepsGeneration o left) same keeps
scan_keeps None (Some u) left (inr settles) keeps = cc
scan_keeps (Some s) (Some u) left (inr settles) keeps = λ quiet. none_kept s left settles.0 (keeps settles.1.quiet [] (rests_none 0 u settles.1))

pub gone_left : (s : Option FileState) (left : Option (List ℕ)) → s ≡ None → IsLeftAt s left → left ≡ None
gone_left None None e is = refl
gone_left None (Some bytes) e is = absurd is
gone_left (Some s) left e is = cc

there_keeps : (s : Option FileState) (left : Option (List ℕ)) → s ≡ None → KeepsAtRest s left → left ≡ None
there_keeps None left e keeps = absurd keeps
there_keeps (Some s) left e keeps = cc

-- what is left of each file, and so what the journal says
pub leaves_journal : (tells : Option Account) (image : Files) (told : List ℕ) → IsHonest tells → told ≡ (account tells).told
    → ((file : FileId) → file.kind ≢ OfJournal → IsLeftAt (get (account tells).files file) (get image file))
    → ((file : FileId) → file.kind ≡ OfJournal → KeepsGeneration (get (account tells).files file) (get image file))
    → ((file : FileId) → file.kind ≡ OfJournal → get (account tells).files file ≡ None → (get image file ≡ None) ⊎ (file ≡ first_generation)) → LeavesJournal tells image told
leaves_journal tells image told honest nothing others generations made = record {
  honest = honest;
  others = others;
  left = record { generations = generations; made = made; says = λ quiet. quiet_says (account tells).files image quiet generations };
  told = nothing;
}

-- what a crash leaves now
module _ (old mid : Option Account) (stays : Changes old mid ReadsGenerations) (each : IsHonest old → (file : FileId) → file.kind ≡ OfJournal → StaysOrComesToRest (get (account old).files file) (get (account mid).files file)) where
  pub left_now : (c : Files) (b : List ℕ) → Leaves mid c b → LeavesJournal old c b
  left_now c b left =
      let honest = stays.back left.honest in
      let step = stays.step honest in
      leaves_journal old c b honest (left.told ∙ step.told)
      (λ file kind. subst (λ s. IsLeftAt s (get c file)) (step.others file kind) (left.image file))
      (λ file kind. stays_keeps (get (account old).files file) (get (account mid).files file) (get c file) (each honest file kind) (left.image file))
      (λ file kind absent. inl (gone_left (get (account mid).files file) (get c file) (stays_away (get (account old).files file) (get (account mid).files file) absent (each honest file kind)) (left.image file)))

  -- and within the scan of a generation
  pub left_scan : (scanned : FileId) → scanned.kind ≡ OfJournal → (c : Files) (b : List ℕ) → LeavesAt scanned KeepsAtRest mid c b → LeavesJournal old c b
  left_scan scanned is c b left =
      let honest = stays.back left.honest in
      let step = stays.step honest in
      leaves_journal old c b honest (left.told ∙ step.told)
      (λ file kind. subst (λ s. IsLeftAt s (get c file)) (step.others file kind) (left.others file (λ same. kind (subst (λ (f : FileId). f.kind ≡ OfJournal) (sym same) is))))
      (λ file kind. ⊎_elim (λ same. subst (λ f. KeepsGeneration (get (account old).files f) (get c f)) (sym same) (scan_keeps (get (account old).files scanned) (get (account mid).files scanned) (get c scanned) (each honest scanned is) left.left))
      (λ ne. stays_keeps (get (account old).files file) (get (account mid).files file) (get c file) (each honest file kind) (left.others file ne)) (same_or_not file scanned))
      (λ file kind absent.
      let away = stays_away (get (account old).files file) (get (account mid).files file) absent (each honest file kind) in
      inl (⊎_elim (λ same. subst (λ f. get c f ≡ None) (sym same) (there_keeps (get (account mid).files scanned) (get c scanned) (subst (λ f. get (account mid).files f ≡ None) same away) left.left))
      (λ ne. gone_left (get (account mid).files file) (get c file) away (left.others file ne)) (same_or_not file scanned)))

-- nothing was done yet
pub no_change : (tells : Option Account) → Changes tells tells ReadsGenerations
no_change tells = changes_none tells ReadsGenerations (λ h. record {
  told = refl;
  taken = omega arith;
  others = λ file kind. refl;
  change = record { generations = λ file kind. mends_none (get (account tells).files file); made = λ file kind absent. inl absent };
})
  where
    mends_none : (s : Option FileState) → StaysOrMends s s
    mends_none None = tt
    mends_none (Some s) = λ not. (s, refl, refl)

-- what is kept twice is kept
pub mends_then : (s t u : Option FileState) → StaysOrMends s t → StaysOrMends t u → StaysOrMends s u
mends_then None t u first second = tt
mends_then (Some s) t u first second = λ not.
    let one = first not in
    let two = subst (λ o. StaysOrMends o u) one.1 second (λ mends. not (subst IsMendable one.2 mends)) in
    (two.0, two.1, two.2 ∙ one.2)

-- one generation more is scanned
pub then_scanned : (old mid new : Option Account) (scanned : FileId) → scanned.kind ≡ OfJournal → (IsHonest old → IsFileThere scanned (account old).files) → Changes old mid ReadsGenerations → Changes mid new (ReadsAndChanges scanned StaysOrMends)
    → Changes old new ReadsGenerations
then_scanned old mid new scanned is there first second = changes_then old mid new ReadsGenerations (ReadsAndChanges scanned StaysOrMends) ReadsGenerations first second (λ h a b. record {
  told = b.told ∙ a.told;
  taken = omega (arith, a.taken, b.taken);
  others = λ file kind. b.others file (λ same. kind (subst (λ (f : FileId). f.kind ≡ OfJournal) (sym same) is)) ∙ a.others file kind;
  change = record {
    generations = λ file kind. mends_then (get (account old).files file) (get (account mid).files file) (get (account new).files file) (a.change.generations file kind)
        (⊎_elim (λ same. subst (λ f. StaysOrMends (get (account mid).files f) (get (account new).files f)) (sym same) b.change)
        (λ ne. subst (λ t. StaysOrMends (get (account mid).files file) t) (sym (b.others file ne)) (kept (get (account mid).files file))) (same_or_not file scanned));
    made = λ file kind absent. ⊎_elim (λ same. absurd (away (get (account old).files scanned) (there h).0 (there h).1 (subst (λ f. get (account old).files f ≡ None) same absent)))
        (λ ne. subst (λ t. (t ≡ None) ⊎ (file ≡ first_generation)) (sym (b.others file ne)) (a.change.made file kind absent)) (same_or_not file scanned);
  };
})
  where
    kept : (s : Option FileState) → StaysOrMends s s
    kept None = tt
    kept (Some s) = λ not. (s, refl, refl)

    away : (o : Option FileState) (s : FileState) → o ≡ Some s → o ≡ None → ⊥
    away o s there absent = cc

-- what is cut now was cut at first
cut_first : (s : Option FileState) (u : FileState) (at : ℕ) → StaysOrComesToRest s (Some u) → IsCut u.bytes at → s ≡ Some u
cut_first s u at (inl same) cut = sym same
cut_first None u at (inr settles) cut = cc
cut_first (Some s) u at (inr settles) cut = absurd (cut.none [] (rests_none 0 u settles.1))

pub was_cut : (old mid : Option Account) (scanned : FileId) → Changes old mid ReadsGenerations → (IsHonest old → StaysOrComesToRest (get (account old).files scanned) (get (account mid).files scanned)) → (IsHonest old → IsFileThere scanned (account mid).files)
    → (at : ℕ) → AsRead scanned mid (λ bytes. IsCut bytes at) → IsHonest old → IsCutAt (account old).files scanned at
was_cut old mid scanned stays each there at cut honest =
    let is = there honest in
    let now = cut (stays.kept honest) is.0 is.1 in
    record { state = is.0; there = cut_first (get (account old).files scanned) is.0 at (subst (λ t. StaysOrComesToRest (get (account old).files scanned) t) is.1 (each honest)) now; cut = now }
