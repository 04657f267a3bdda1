-- The journal is found and read.
use Rattle.std.proofs.Common.{◌≡◌, inl, inr, ⊎_elim, ℕ, List, ◌∷◌, [], length, Option, Some, None, refl, sym, ◌∙◌, ap, subst, arith}
use Rattle.std.specs.FinMap.{FinMap, get}
use Rattle.pg_disk.specs.declared.fault.Damage.{Damage}
use Rattle.pg_disk.specs.declared.file_id.FileId.{FileId}
use Rattle.pg_disk.specs.declared.file_id.Kind.TheVariants.{Journal as OfJournal}
use Rattle.pg_disk.specs.Files.{file_cmp, Files}
use Rattle.pg_disk.specs.Account.{FileState, Account, account, IsHonest, IsQuietAt, AllQuiet}
use Rattle.pg_disk.specs.Calls.{Changes, Holds, Reads, ReadsSome}
use Rattle.pg_disk.specs.Image.{IsFileThere, Leaves}
use Rattle.pg_disk.proofs.Composing.{changes_then, where_then}
use Rattle.pg_disk.proofs.Bytes.{holds_front}
use Rattle.pg_gate.specs.declared.spans.Span.{Span}
use Rattle.pg_gate.specs.Gated.{opened, StandsFor}
use Rattle.pg_gate.specs.Spans.{AsRead, spans_of}
use Rattle.pg_fold.specs.declared.durable.Durable.{Durable}
use Rattle.pg_fold.specs.Fold.{fresh}
use Rattle.pg_journal.specs.declared.journal.Journal.{Journal}
use Rattle.pg_journal.specs.Generations.{GoesOn, JournalOf}
use Rattle.pg_disk.specs.Views.{as_read, as_left}
use Rattle.pg_journal.specs.Looks.{IsOfJournal, LeavesJournal, MendsGenerations, ReadsGenerations}
use Rattle.pg_journal.specs.Stands.{Stands, StaysOrComesToRest, name_of}
use Rattle.pg_journal.proofs.Law.{journal_unique}
use Rattle.pg_journal.proofs.Order.{generation_or_not}
use Rattle.pg_journal.proofs.Saying.{found_quiet, stands_says}
use Rattle.pg_recover.specs.Damaging.{IsBrokenThere}
use Rattle.pg_recover.specs.Folding.{FoldsFrom, IsBrokenAmong}
use Rattle.pg_gate.specs.Payloads.{AreInside, payload_at, payloads_at}
use Rattle.pg_recover.specs.Said.{IsReadFrom, KeepsWhole, LeavesSaid}
use Rattle.pg_recover.proofs.DamagingLemmas.{placed_broken}
use Rattle.pg_gate.proofs.Payloads.{placed, placed_inside}
use Rattle.pg_recover.proofs.WellLemmas.{finding_keeps, found_keeps, image_as_read}

-- what a crash leaves while the journal is found, where nothing is pending
pub finding_leaves : (old : Option Account) → (IsHonest old → AllQuiet (account old).files) → (c : Files) (b : List ℕ) → LeavesJournal old c b → LeavesSaid old c b
finding_leaves old quiet c b left = record { honest = left.honest; nothing = left.told; says = left.left.says (λ file kind. quiet left.honest file); keeps = finding_keeps old (quiet left.honest) c b left }

-- the generations were read, and then bytes of files
abbrev Same : FinMap file_cmp FileState → FinMap file_cmp FileState → Type 0
Same files now = now ≡ files

pub then_reads : (old mid new : Option Account) (n : ℕ) → Changes old mid ReadsGenerations → Changes mid new (Reads n) → Changes old new ReadsGenerations
then_reads old mid new n stays reads = changes_then old mid new ReadsGenerations (Reads n) ReadsGenerations stays reads (λ h a b.
    where_then IsOfJournal ReadsSome ReadsSome ReadsSome MendsGenerations Same MendsGenerations (account old) (account mid) (account new) a
    (record { told = b.told; taken = omega (arith, b.taken); others = λ f out. ap (λ m. get m f) b.files; change = b.files })
    (λ p q. omega (arith, p, q)) (λ mends same. subst (MendsGenerations (account old).files) (sym same) mends))

-- the batches stand at the front of the journal's file
pub held_in : (journal : Journal) (batches : List (List ℕ)) (files : FinMap file_cmp FileState) → Stands journal batches files → (s : FileState) × (get files (name_of journal) ≡ Some s) × Holds s.bytes 0 (opened batches)
held_in journal batches files stands = there (get files (name_of journal)) refl stands.stands
  where
    there : (o : Option FileState) → get files (name_of journal) ≡ o → StandsFor journal.rest batches o → (s : FileState) × (get files (name_of journal) ≡ Some s) × Holds s.bytes 0 (opened batches)
    there None e is = absurd is
    there (Some s) e is = (s, e, holds_front s.bytes (opened batches) (is.front.closed ∷ []) 0 is.front.holds)

-- what the search found
abbrev pub IsFoundIn : Journal → List Span → Option Account → Option Account → Type 0
IsFoundIn journal spans old mid =
    (batches : List (List ℕ)) × JournalOf (as_read (account old).files) batches × Stands journal batches (account mid).files × (spans ≡ spans_of 0 batches)

module _ (old mid : Option Account) (stays : Changes old mid ReadsGenerations) (journal : Journal) (spans : List Span) (found : IsHonest old → IsFoundIn journal spans old mid) where
  pub found_there : IsHonest mid → IsFileThere (name_of journal) (account mid).files
  found_there honest =
      let is = found (stays.back honest) in
      let held = held_in journal is.0 (account mid).files is.2 in
      (held.0, held.1)

  -- the payloads are those of the batches
  payloads_are : (is : IsFoundIn journal spans old mid) (s : FileState) → get (account mid).files (name_of journal) ≡ Some s → AreInside (length s.bytes) spans × (payloads_at s.bytes spans ≡ is.0)
  payloads_are is s there =
      let held = held_in journal is.0 (account mid).files is.2 in
      let same = one_file (sym held.1 ∙ there) in
      let holds = subst (λ (t : FileState). Holds t.bytes 0 (opened is.0)) same held.2 in
      (subst (AreInside (length s.bytes)) (sym is.3) (placed_inside s.bytes 0 is.0 holds), ap (payloads_at s.bytes) is.3 ∙ placed s.bytes 0 is.0 holds)
    where
      one_file : {a b : FileState} → ◌≡◌ {A = Option FileState} (Some a) (Some b) → a ≡ b
      one_file e = cc

  pub found_folds : (d : Durable) → AsRead (name_of journal) mid (λ bytes. AreInside (length bytes) spans → FoldsFrom fresh (payloads_at bytes spans) d) → (honest : IsHonest old) → FoldsFrom fresh (found honest).0 d
  found_folds d folds honest =
      let is = found honest in
      let held = held_in journal is.0 (account mid).files is.2 in
      let are = payloads_are is held.0 held.1 in
      subst (λ ps. FoldsFrom fresh ps d) are.1 (folds (stays.kept honest) held.0 held.1 are.0)

  -- damage of one of the payloads
  module _ (goes_on : IsHonest old → GoesOn (as_read (account old).files) (name_of journal)) where
    pub found_names : (damage : Damage) → AsRead (name_of journal) mid (λ bytes. AreInside (length bytes) spans → IsBrokenAmong (payload_at bytes) (name_of journal) fresh spans damage)
        → IsHonest old → IsBrokenThere (as_read (account old).files) damage
    found_names damage broken honest =
        let is = found honest in
        let held = held_in journal is.0 (account mid).files is.2 in
        let are = payloads_are is held.0 held.1 in
        inr (inl (placed_broken (as_read (account old).files) (name_of journal) held.0.bytes is.0 damage is.1 (goes_on honest) (sym (ap (payloads_at held.0.bytes) is.3) ∙ are.1)
        (subst (λ l. IsBrokenAmong (payload_at held.0.bytes) (name_of journal) fresh l damage) is.3 (broken (stays.kept honest) held.0 held.1 are.0))))

  module _ (others : IsHonest old → (file : FileId) → file.kind ≡ OfJournal → (file ≡ name_of journal → ⊥) → StaysOrComesToRest (get (account old).files file) (get (account mid).files file)) (quiet : IsHonest old → AllQuiet (account old).files) where
    found_still : IsHonest old → AllQuiet (account mid).files
    found_still honest file =
        let is = found honest in
        ⊎_elim (λ kind. found_quiet journal is.0 (account old).files (account mid).files (λ f k. quiet honest f) is.2 (others honest) file kind)
        (λ kind. subst IsQuietAt (sym ((stays.step honest).others file kind)) (quiet honest file)) (generation_or_not file.kind)

    found_whole : (honest : IsHonest old) → KeepsWhole (as_read (account old).files) (as_read (account mid).files)
    found_whole honest = found_keeps (account old) (account mid) (stays.step honest) journal (found honest).0 (found honest).2 (others honest)

    -- what a crash leaves once it is found
    pub found_leaves : (c : Files) (b : List ℕ) → Leaves mid c b → LeavesSaid old c b
    found_leaves c b left =
        let honest = stays.back left.honest in
        let is = found honest in
        record {
          honest = honest;
          nothing = left.told ∙ (stays.step honest).told;
          says = λ batches says. subst (JournalOf (as_left c)) (journal_unique (as_read (account old).files) is.0 batches is.1 says)
              (stands_says journal is.0 (account mid).files is.2 c (left.image (name_of journal)) (λ file kind other. inl (left.image file)));
          keeps = subst (KeepsWhole (as_read (account old).files)) (sym (image_as_read (account mid).files c (found_still honest) left.image)) (found_whole honest);
        }

    -- what was read
    pub read_from : (goes_on : IsHonest old → GoesOn (as_read (account old).files) (name_of journal)) (new : Option Account) (n : ℕ) → Changes mid new (Reads n) → (d : Durable) → AsRead (name_of journal) mid (λ bytes. AreInside (length bytes) spans → FoldsFrom fresh (payloads_at bytes spans) d)
        → IsHonest old → IsReadFrom journal d (account old).files (account new).files
    read_from goes_on new n reads d folds honest =
        let is = found honest in
        let same = (reads.step (stays.kept honest)).files in
        record {
          batches = is.0;
          says = is.1;
          goes_on = goes_on honest;
          stands = subst (Stands journal is.0) (sym same) is.2;
          folds = found_folds d folds honest;
          others = λ file kind other. subst (λ m. StaysOrComesToRest (get (account old).files file) (get m file)) (sym same) (others honest file kind other);
          quiet = subst AllQuiet (sym same) (found_still honest);
          keeps = subst (λ m. KeepsWhole (as_read (account old).files) (as_read m)) (sym same) (found_whole honest);
        }

-- the same under the names that the code has
abbrev pub Folds : FileId → Option Account → List Span → Durable → Durable → Type 0
Folds file tells spans start d = AsRead file tells (λ bytes. AreInside (length bytes) spans → FoldsFrom start (payloads_at bytes spans) d)

abbrev pub Breaks : FileId → Option Account → List Span → Durable → Damage → Type 0
Breaks file tells spans start damage = AsRead file tells (λ bytes. AreInside (length bytes) spans → IsBrokenAmong (payload_at bytes) file start spans damage)

module _ (file name : FileId) (tells : Option Account) (here spans : List Span) (start : Durable) (is : file ≡ name) (are : here ≡ spans) (begins : start ≡ fresh) where
  pub folds_named : (d : Durable) → Folds file tells here start d → Folds name tells spans fresh d
  folds_named d folds = subst (λ f. Folds f tells spans fresh d) is (subst (λ l. Folds file tells l fresh d) are (subst (λ s. Folds file tells here s d) begins folds))

  pub breaks_named : (damage : Damage) → Breaks file tells here start damage → Breaks name tells spans fresh damage
  breaks_named damage breaks = subst (λ f. Breaks f tells spans fresh damage) is (subst (λ l. Breaks file tells l fresh damage) are (subst (λ s. Breaks file tells here s damage) begins breaks))
