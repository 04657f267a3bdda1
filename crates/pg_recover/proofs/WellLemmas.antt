-- Files that are well formed stay so, where each file that is no generation keeps what it has, no generation is cut, and the journal gives the state.
use Rattle.std.proofs.Common.{◌≡◌, ◌≢◌, ◌⊎◌, inl, inr, ⊎_elim, List, [], ℕ, get_or, Option, Some, None, Result, Ok, Err, refl, sym, ◌∙◌, ap, subst, arith}
use Rattle.std.specs.Prelude.{IfOk, OnOk}
use Rattle.std.specs.FinMap.{FinMap, get}
use Rattle.std.specs.List.{All}
use Rattle.std.proofs.lemmas.List.{ext_get_or}
use Rattle.pg_disk.specs.declared.fault.Fault.{Fault}
use Rattle.pg_disk.specs.declared.file_id.FileId.{FileId}
use Rattle.pg_disk.specs.declared.file_id.Kind.TheVariants.{Journal as OfJournal, Large}
use Rattle.pg_disk.specs.Account.{FileState, Account, account, IsHonest, IsQuiet, IsQuietAt, AllQuiet}
use Rattle.pg_disk.specs.Files.{file_cmp, Files}
use Rattle.pg_disk.specs.Image.{IsImage, IsIn, IsLeft, IsLeftAt, MayBeRemoved}
use Rattle.pg_gate.specs.Gated.{Batches, HasBatches, HasNone}
use Rattle.pg_gate.proofs.Sealing.{batches_from}
use Rattle.pg_fold.specs.declared.durable.Durable.{Durable}
use Rattle.pg_fold.specs.declared.rows.AddressRow.{AddressRow}
use Rattle.pg_journal.specs.declared.journal.Journal.{Journal}
use Rattle.pg_journal.specs.Generations.{first_generation, JournalOf}
use Rattle.pg_disk.specs.Views.{Contents, as_left, as_read, bytes_of}
use Rattle.pg_journal.specs.Looks.{KeepsGeneration, LeavesJournal, ReadsGenerations}
use Rattle.pg_journal.specs.Stands.{ComesToRest, Stands, StaysOrComesToRest, name_of}
use Rattle.pg_journal.proofs.Order.{generation_or_not, same_or_not}
use Rattle.pg_journal.proofs.Saying.{stands_reads, stands_there}
use Rattle.pg_recover.specs.declared.recovering.Parts.{Parts}
use Rattle.pg_recover.specs.Denotation.{FoldsTo, raised}
use Rattle.pg_recover.specs.Recovered.{Owns}
use Rattle.pg_recover.specs.Removing.{HasNoOther, LeavesOthersGone}
use Rattle.pg_recover.specs.Said.{IsWhole, KeepsWhole}
use Rattle.pg_recover.specs.WellFormed.{IsGapless, IsNamed, IsThere, WellFormed, page_file}
use Rattle.pg_recover.proofs.OneState.{one_folded}

left_bytes : (s : FileState) (left : List ℕ) → IsQuiet s → IsLeft s left → left ≡ s.bytes
left_bytes s left quiet is = ext_get_or 0 left s.bytes (omega (arith, is.no_shorter, is.no_longer, quiet.synced, quiet.greatest))
    (λ i lt. is.as_read i (omega (arith, lt, is.no_longer, quiet.synced, quiet.greatest)) (λ within. subst (λ rs. IsIn rs i) quiet.ranges within))

pub left_as_read : (s : Option FileState) (left : Option (List ℕ)) → IsQuietAt s → IsLeftAt s left → left ≡ bytes_of s
left_as_read None None quiet is = refl
left_as_read None (Some bytes) quiet is = absurd is
left_as_read (Some s) None quiet is = absurd is
left_as_read (Some s) (Some bytes) quiet is = ap Some (left_bytes s bytes quiet is)

-- What is left of files of which nothing is pending is what they read as.
pub image_as_read : (files : FinMap file_cmp FileState) (image : Files) → AllQuiet files → IsImage files image → as_left image ≡ as_read files
image_as_read files image quiet is = λ i file. (left_as_read (get files file) (get image file) (quiet file) (is file)) i

-- so it is well formed where they are
pub image_well : (files : FinMap file_cmp FileState) (image : Files) → AllQuiet files → IsImage files image → WellFormed (as_read files) → WellFormed (as_left image)
image_well files image quiet is well = subst WellFormed (sym (image_as_read files image quiet is)) well

-- a file that isn't there is whole, and so is one with batches or without
whole_none : (left : Option (List ℕ)) → HasNone left → IsWhole left
whole_none None none = tt
whole_none (Some bytes) none = ([], none)

whole_has : (batches : List (List ℕ)) (left : Option (List ℕ)) → HasBatches batches left → IsWhole left
whole_has batches None has = tt
whole_has batches (Some bytes) has = (batches, has)

none_there : (s : Option FileState) → bytes_of s ≡ None → s ≡ None
none_there None none = refl
none_there (Some s) none = cc

not_there : (bytes : List ℕ) → ◌≡◌ {A = Option (List ℕ)} (Some bytes) None → ⊥
not_there bytes e = cc

-- the first generation has a right name
first_named : (file : FileId) (contents : Contents) (well : WellFormed contents) → file ≡ first_generation → IsNamed well.state.addresses file
first_named file contents well is = subst (IsNamed well.state.addresses) (sym is) (refl, (omega arith, omega arith))

-- what the files have in them later
module _ (old new : Contents) (keeps : KeepsWhole old new) (well : WellFormed old) where
  was_whole : (file : FileId) → file.kind ≡ OfJournal → (o : Option (List ℕ)) → old file ≡ o → IsWhole o
  was_whole file kind None is = tt
  was_whole file kind (Some bytes) is = well.whole file (λ large. apart (sym kind ∙ large)) bytes is
    where
      apart : OfJournal ≡ Large → ⊥
      apart e = cc

  still_whole : (file : FileId) → file.kind ≢ Large → (bytes : List ℕ) → new file ≡ Some bytes → (batches : List (List ℕ)) × Batches bytes batches
  still_whole file gated bytes is =
      ⊎_elim (λ kind. subst IsWhole is (keeps.whole file kind (was_whole file kind (old file) refl))) (λ kind. well.whole file gated bytes (sym (keeps.others file kind) ∙ is)) (generation_or_not file.kind)

  generation_named : (file : FileId) → file.kind ≡ OfJournal → IsThere new file → (o : Option (List ℕ)) → old file ≡ o → IsNamed well.state.addresses file
  generation_named file kind there None is = ⊎_elim (λ gone. absurd (not_there there.0 (sym there.1 ∙ gone))) (λ first. first_named file old well first) (keeps.made file kind is)
  generation_named file kind there (Some bytes) is = well.named file (bytes, is)

  still_named : (file : FileId) → IsThere new file → IsNamed well.state.addresses file
  still_named file there = ⊎_elim (λ kind. generation_named file kind there (old file) refl) (λ kind. well.named file (there.0, sym (keeps.others file kind) ∙ there.1)) (generation_or_not file.kind)

  page_same : (address number : ℕ) → new (page_file address number) ≡ old (page_file address number)
  page_same address number = keeps.others (page_file address number) (λ e. cc)

  gapless_row : (row : AddressRow) → IsGapless old row → IsGapless new row
  gapless_row row gapless = λ number there other from to.
      let was = gapless number (there.0, sym (page_same row.id number) ∙ there.1) other from to in
      (was.0, page_same row.id other ∙ was.1)

  still_gapless : All (IsGapless new) well.state.addresses
  still_gapless = λ k row lt. gapless_row (get_or well.state.addresses k row) (well.gapless k row lt)

  -- are well formed, where the journal gives the state, or that in the next epoch
  pub well_still : FoldsTo new well.state ⊎ FoldsTo new (raised well.state) → WellFormed new
  well_still (inl folds) = record { state = well.state; folds = folds; whole = still_whole; named = still_named; gapless = still_gapless; roomy = well.roomy }
  well_still (inr folds) = record { state = raised well.state; folds = folds; whole = still_whole; named = still_named; gapless = still_gapless; roomy = well.roomy }

-- step after step
pub keeps_then : (old mid new : Contents) → KeepsWhole old mid → KeepsWhole mid new → KeepsWhole old new
keeps_then old mid new first second = record {
  others = λ file kind. second.others file kind ∙ first.others file kind;
  whole = λ file kind whole. second.whole file kind (first.whole file kind whole);
  made = λ file kind none. ⊎_elim (λ still. second.made file kind still) (λ is. inr is) (first.made file kind none);
}

-- while the journal is found
whole_kept : (s : Option FileState) (left : Option (List ℕ)) → IsQuietAt s → KeepsGeneration s left → IsWhole (bytes_of s) → IsWhole left
whole_kept None left quiet keeps whole = whole_none left keeps
whole_kept (Some s) left quiet keeps whole = whole_has whole.0 left (keeps quiet whole.0 whole.1)

pub finding_keeps : (old : Option Account) → AllQuiet (account old).files → (c : Files) (b : List ℕ) → LeavesJournal old c b → KeepsWhole (as_read (account old).files) (as_left c)
finding_keeps old quiet c b left = record {
  others = λ file kind. left_as_read (get (account old).files file) (get c file) (quiet file) (left.others file kind);
  whole = λ file kind whole. whole_kept (get (account old).files file) (get c file) (quiet file) (left.left.generations file kind) whole;
  made = λ file kind none. left.left.made file kind (none_there (get (account old).files file) none);
}

-- the journal's file is there, and whole
whole_own : (journal : Journal) (batches : List (List ℕ)) (files : FinMap file_cmp FileState) → Stands journal batches files → IsWhole (bytes_of (get files (name_of journal)))
whole_own journal batches files stands = let there = stands_there journal batches files stands in subst (λ s. IsWhole (bytes_of s)) (sym there.1) (batches, there.2)

own_there : (journal : Journal) (batches : List (List ℕ)) (files : FinMap file_cmp FileState) → Stands journal batches files → bytes_of (get files (name_of journal)) ≡ None → ⊥
own_there journal batches files stands none = let there = stands_there journal batches files stands in not_there there.0.bytes (sym (ap bytes_of there.1) ∙ none)

-- once it is found
whole_settles : (s t : Option FileState) → ComesToRest s t → IsWhole (bytes_of t)
whole_settles None t settles = subst (λ o. IsWhole (bytes_of o)) (sym settles) tt
whole_settles (Some s) None settles = absurd settles.1
whole_settles (Some s) (Some t) settles = ([], batches_from t.bytes [] settles.1.front.closed settles.1.front.shut settles.1.front.holds)

whole_stays : (s t : Option FileState) → StaysOrComesToRest s t → IsWhole (bytes_of s) → IsWhole (bytes_of t)
whole_stays s t (inl same) whole = subst (λ o. IsWhole (bytes_of o)) (sym same) whole
whole_stays s t (inr settles) whole = whole_settles s t settles

pub found_keeps : (old mid : Account) → ReadsGenerations old mid → (journal : Journal) (batches : List (List ℕ)) → Stands journal batches mid.files
    → ((file : FileId) → file.kind ≡ OfJournal → file ≢ name_of journal → StaysOrComesToRest (get old.files file) (get mid.files file)) → KeepsWhole (as_read old.files) (as_read mid.files)
found_keeps old mid reads journal batches stands others = record {
  others = λ file kind. ap bytes_of (reads.others file kind);
  whole = λ file kind whole. ⊎_elim (λ own. subst (λ f. IsWhole (bytes_of (get mid.files f))) (sym own) (whole_own journal batches mid.files stands))
      (λ other. whole_stays (get old.files file) (get mid.files file) (others file kind other) whole) (same_or_not file (name_of journal));
  made = λ file kind none. ⊎_elim (λ gone. inl (ap bytes_of gone)) (λ first. inr first) (reads.change.made file kind (none_there (get old.files file) none));
}

-- while other generations are removed
left_or_none : (s : Option FileState) (left : Option (List ℕ)) → IsQuietAt s → MayBeRemoved s left → (left ≡ bytes_of s) ⊎ (left ≡ None)
left_or_none s left quiet (inl gone) = inr gone
left_or_none s left quiet (inr is) = inl (left_as_read s left quiet is)

same_or_gone : (o left : Option (List ℕ)) → (left ≡ o) ⊎ (left ≡ None) → IsWhole o → IsWhole left
same_or_gone o left (inl same) whole = subst IsWhole (sym same) whole
same_or_gone o left (inr gone) whole = subst IsWhole (sym gone) tt

none_still : (o left : Option (List ℕ)) → (left ≡ o) ⊎ (left ≡ None) → o ≡ None → left ≡ None
none_still o left (inl same) none = same ∙ none
none_still o left (inr gone) none = gone

pub gone_keeps : (keep : FileId) (old : Option Account) → AllQuiet (account old).files → (c : Files) (b : List ℕ) → LeavesOthersGone keep old c b → KeepsWhole (as_read (account old).files) (as_left c)
gone_keeps keep old quiet c b left =
    let each : (file : FileId) → (get c file ≡ bytes_of (get (account old).files file)) ⊎ (get c file ≡ None) = λ file. left_or_none (get (account old).files file) (get c file) (quiet file) (left.left file) in
    record {
      others = λ file kind. left_as_read (get (account old).files file) (get c file) (quiet file) (left.others file (λ other. kind other.0));
      whole = λ file kind whole. same_or_gone (bytes_of (get (account old).files file)) (get c file) (each file) whole;
      made = λ file kind none. inl (none_still (bytes_of (get (account old).files file)) (get c file) (each file) none);
    }

-- while the batch is added to the journal, which is alone
none_left : (s : Option FileState) (left : Option (List ℕ)) → s ≡ None → IsLeftAt s left → left ≡ None
none_left s None none is = refl
none_left s (Some bytes) none is = absurd (subst (λ o. IsLeftAt o (Some bytes)) none is)

said_whole : (contents : Contents) (own : FileId) → own.kind ≡ OfJournal → ((file : FileId) → file.kind ≡ OfJournal → file ≢ own → contents file ≡ None) → (batches : List (List ℕ)) → JournalOf contents batches → IsWhole (contents own)
said_whole contents own kind alone batches (inl found) = ⊎_elim (λ same. whole_has batches (contents own) (subst (λ f. HasBatches batches (contents f)) same found.1.has))
    (λ other. absurd (subst (HasBatches batches) (alone found.0 found.1.kind other) found.1.has)) (same_or_not found.0 own)
said_whole contents own kind alone batches (inr none) = whole_none (contents own) (none.0 own kind)

module _ (journal : Journal) (batches : List (List ℕ)) (old mid : FinMap file_cmp FileState) (stands : Stands journal batches old) (alone : HasNoOther (name_of journal) mid) where
  apart_by_kind : (file : FileId) → file.kind ≢ OfJournal → file ≢ name_of journal
  apart_by_kind file kind own = kind (subst (λ (f : FileId). f.kind ≡ OfJournal) (sym own) stands.kind)

  -- where every other generation is gone, what the journal's own file has tells
  own_alone : (new : Contents) → ((file : FileId) → file.kind ≢ OfJournal → new file ≡ as_read old file) → ((file : FileId) → file.kind ≡ OfJournal → file ≢ name_of journal → new file ≡ None) → IsWhole (new (name_of journal))
      → KeepsWhole (as_read old) new
  own_alone new others none whole = record {
    others = others;
    whole = λ file kind was. ⊎_elim (λ own. subst (λ f. IsWhole (new f)) (sym own) whole) (λ other. subst IsWhole (sym (none file kind other)) tt) (same_or_not file (name_of journal));
    made = λ file kind was. ⊎_elim (λ own. absurd (own_there journal batches old stands (subst (λ f. as_read old f ≡ None) own was))) (λ other. inl (none file kind other)) (same_or_not file (name_of journal));
  }

  module _ (kept : (file : FileId) → file.kind ≢ OfJournal → get mid file ≡ get old file) where
    pub adding_keeps : AllQuiet old → (c : Files) → ((file : FileId) → file ≢ name_of journal → IsLeftAt (get mid file) (get c file)) → (said : List (List ℕ)) → JournalOf (as_left c) said → KeepsWhole (as_read old) (as_left c)
    adding_keeps quiet c left said says =
        let none : (file : FileId) → file.kind ≡ OfJournal → file ≢ name_of journal → get c file ≡ None = λ file kind other. none_left (get mid file) (get c file) (alone file (kind, other)) (left file other) in
        own_alone (as_left c) (λ file kind. left_as_read (get old file) (get c file) (quiet file) (subst (λ s. IsLeftAt s (get c file)) (kept file kind) (left file (apart_by_kind file kind)))) none
        (said_whole (as_left c) (name_of journal) stands.kind none said says)

    -- once it is added
    pub added_keeps : (next : Journal) (more : List (List ℕ)) (new : FinMap file_cmp FileState) → name_of next ≡ name_of journal → Stands next more new
        → ((file : FileId) → file ≢ name_of journal → get new file ≡ get mid file) → KeepsWhole (as_read old) (as_read new)
    added_keeps next more new same stand beside =
        own_alone (as_read new) (λ file kind. ap bytes_of (beside file (apart_by_kind file kind) ∙ kept file kind)) (λ file kind other. ap bytes_of (beside file other ∙ alone file (kind, other)))
        (subst (λ f. IsWhole (bytes_of (get new f))) same (whole_own next more new stand))

-- what a journal that owns the files denotes
pub owned_folds : (journal : Journal) (d : Durable) (files : FinMap file_cmp FileState) → Owns journal d files → FoldsTo (as_read files) d
owned_folds journal d files owns = record {
  batches = owns.batches;
  entries = owns.entries;
  says = stands_reads journal owns.batches files owns.stands;
  spelled = owns.spelled;
  folded = owns.folded;
}

-- at Ok
pub well_at_ok : (old mid new : Option Account) → (IsHonest old → IsHonest mid) → (IsHonest old → KeepsWhole (as_read (account old).files) (as_read (account mid).files)) → (result : Result Parts Fault)
    → OnOk result (IsHonest mid → KeepsWhole (as_read (account mid).files) (as_read (account new).files))
    → IfOk result (λ parts. IsHonest old → (d : Durable) × FoldsTo (as_read (account old).files) d × (parts.durable ≡ raised d) × Owns parts.journal parts.durable (account new).files × AllQuiet (account new).files)
    → OnOk result (IsHonest old → WellFormed (as_read (account old).files) → WellFormed (as_read (account new).files))
well_at_ok old mid new kept first (Ok parts) second recovered = λ honest well.
    let is = recovered honest in
    let folds : FoldsTo (as_read (account new).files) (raised is.0) = subst (FoldsTo (as_read (account new).files)) is.2 (owned_folds parts.journal parts.durable (account new).files is.3) in
    well_still (as_read (account old).files) (as_read (account new).files) (keeps_then (as_read (account old).files) (as_read (account mid).files) (as_read (account new).files) (first honest) (second (kept honest))) well
    (inr (subst (λ d. FoldsTo (as_read (account new).files) (raised d)) (one_folded (as_read (account old).files) is.0 well.state is.1 well.folds) folds))
well_at_ok old mid new kept first (Err e) second recovered = tt
