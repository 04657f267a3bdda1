-- What the journal says, as it stands and after a crash.
use Rattle.std.proofs.Common.{◌≡◌, ◌≢◌, ◌⊎◌, inl, inr, ⊎_elim, ℕ, List, [], ◌∷◌, Option, Some, None, refl, sym, subst}
use Rattle.std.specs.FinMap.{FinMap, get}
use Rattle.pg_disk.specs.declared.file_id.FileId.{FileId}
use Rattle.pg_disk.specs.declared.file_id.Kind.TheVariants.{Journal as OfJournal}
use Rattle.pg_disk.specs.Files.{file_cmp, Files}
use Rattle.pg_disk.specs.Account.{FileState, IsQuietAt}
use Rattle.pg_disk.specs.Image.{IsLeftAt}
use Rattle.pg_gate.specs.Gated.{AllFit, Batches, HasBatches, HasNone, RestsAt, StandsFor}
use Rattle.pg_gate.proofs.KeepsAsRead.{at_rest_left, rest_left}
use Rattle.pg_gate.proofs.Sealing.{batches_from}
use Rattle.pg_gate.proofs.Unique.{stands_fit, stands_left}
use Rattle.pg_journal.specs.declared.journal.Journal.{Journal}
use Rattle.pg_journal.specs.Generations.{JournalOf}
use Rattle.pg_disk.specs.Views.{Contents, as_read, as_left, bytes_of}
use Rattle.pg_journal.specs.Looks.{KeepsGeneration}
use Rattle.pg_journal.specs.Stands.{name_of, IsIdle, Stands, StaysOrComesToRest, AreQuiet}
use Rattle.pg_journal.proofs.Order.{same_or_not, not_itself_by}

-- what a crash leaves of a generation keeps its batches
pub left_keeps : (s : Option FileState) (left : Option (List ℕ)) → IsLeftAt s left → KeepsGeneration s left
left_keeps None None is = tt
left_keeps None (Some bytes) is = absurd is
left_keeps (Some s) left is = at_rest_left (Some s) s left refl is

-- a generation of which nothing is pending keeps what it has
keeps_has : (s : Option FileState) (left : Option (List ℕ)) (batches : List (List ℕ)) → IsQuietAt s → KeepsGeneration s left → HasBatches batches (bytes_of s) → HasBatches batches left
keeps_has None left batches quiet keeps has = absurd has
keeps_has (Some s) left batches quiet keeps has = keeps quiet batches has

has_none : (left : Option (List ℕ)) → HasBatches [] left → HasNone left
has_none None has = absurd has
has_none (Some bytes) has = has

keeps_none : (s : Option FileState) (left : Option (List ℕ)) → IsQuietAt s → KeepsGeneration s left → HasNone (bytes_of s) → HasNone left
keeps_none None left quiet keeps none = keeps
keeps_none (Some s) left quiet keeps none = has_none left (keeps quiet [] none)

-- so the journal says what it said
pub quiet_says : (files : FinMap file_cmp FileState) (image : Files) → AreQuiet files → ((file : FileId) → file.kind ≡ OfJournal → KeepsGeneration (get files file) (get image file))
    → (batches : List (List ℕ)) → JournalOf (as_read files) batches → JournalOf (as_left image) batches
quiet_says files image quiet keeps batches (inl found) = inl (
  found.0,
  record {
    kind = found.1.kind;
    has = keeps_has (get files found.0) (get image found.0) batches (quiet found.0 found.1.kind) (keeps found.0 found.1.kind) found.1.has;
    fit = found.1.fit;
    some = found.1.some;
    last = λ other kind before. keeps_none (get files other) (get image other) (quiet other kind) (keeps other kind) (found.1.last other kind before);
  },
)
quiet_says files image quiet keeps batches (inr none) = inr (λ file kind. keeps_none (get files file) (get image file) (quiet file kind) (keeps file kind) (none.0 file kind), none.1)

-- nothing is left of a generation that is idle
pub idle_left : (s : Option FileState) (left : Option (List ℕ)) → IsIdle s → IsLeftAt s left → HasNone left
idle_left None None idle is = tt
idle_left None (Some bytes) idle is = absurd is
idle_left (Some s) left idle is = has_none left (rest_left (Some s) left idle.0 is [] idle.1)

-- it is as a crash may leave it, or it is gone
abbrev pub IsLeftOrGone : Option FileState → Option (List ℕ) → Type 0
IsLeftOrGone s left = IsLeftAt s left ⊎ (left ≡ None)

idle_or_gone : (s : Option FileState) (left : Option (List ℕ)) → IsIdle s → IsLeftOrGone s left → HasNone left
idle_or_gone s left idle (inl is) = idle_left s left idle is
idle_or_gone s left idle (inr gone) = subst HasNone (sym gone) tt

-- Where a journal's file has some batches and each other generation that is idle has none, the journal says the batches.
pub says_of : (journal : Journal) (batches : List (List ℕ)) (files : FinMap file_cmp FileState) → Stands journal batches files → (contents : Contents) (said : List (List ℕ)) → (said ≡ [] → batches ≡ []) → AllFit said
    → HasBatches said (contents (name_of journal)) → ((file : FileId) → file.kind ≡ OfJournal → file ≢ name_of journal → IsIdle (get files file) → HasNone (contents file)) → JournalOf contents said
says_of journal batches files stands contents [] as_before fit has others = inr (λ file kind. none file kind (same_or_not file (name_of journal)), refl)
  where
    none : (file : FileId) → file.kind ≡ OfJournal → (file ≡ name_of journal) ⊎ (file ≢ name_of journal) → HasNone (contents file)
    none file kind (inl own) = subst (λ f. HasNone (contents f)) (sym own) (has_none (contents (name_of journal)) has)
    none file kind (inr other) = others file kind other (stands.alone (as_before refl) file kind other)
says_of journal batches files stands contents (p ∷ ps) as_before fit has others = inl (
  name_of journal,
  record {
    kind = stands.kind;
    has = has;
    fit = fit;
    some = λ e. cc;
    last = λ file kind before. others file kind (λ own. not_itself_by (name_of journal) file own before) (stands.last file kind before);
  },
)

-- What a crash leaves says what the journal stands for, also where other generations are gone by then.
pub stands_says : (journal : Journal) (batches : List (List ℕ)) (files : FinMap file_cmp FileState) → Stands journal batches files → (image : Files) → IsLeftAt (get files (name_of journal)) (get image (name_of journal))
    → ((file : FileId) → file.kind ≡ OfJournal → file ≢ name_of journal → IsLeftOrGone (get files file) (get image file)) → JournalOf (as_left image) batches
stands_says journal batches files stands image own others =
    says_of journal batches files stands (as_left image) batches (λ e. e) (stands_fit journal.rest batches (get files (name_of journal)) stands.stands)
    (stands_left journal.rest batches (get files (name_of journal)) (get image (name_of journal)) stands.stands own) (λ file kind other idle. idle_or_gone (get files file) (get image file) idle (others file kind other))

-- And so do the files as they read.
pub stands_reads : (journal : Journal) (batches : List (List ℕ)) (files : FinMap file_cmp FileState) → Stands journal batches files → JournalOf (as_read files) batches
stands_reads journal batches files stands =
    says_of journal batches files stands (as_read files) batches (λ e. e) (stands_fit journal.rest batches (get files (name_of journal)) stands.stands) (reads (get files (name_of journal)) stands.stands) (λ file kind other. none (get files file))
  where
    reads : (s : Option FileState) → StandsFor journal.rest batches s → HasBatches batches (bytes_of s)
    reads None is = absurd is
    reads (Some s) is = batches_from s.bytes batches is.front.closed is.front.shut is.front.holds

    none : (s : Option FileState) → IsIdle s → HasNone (bytes_of s)
    none None idle = tt
    none (Some s) idle = idle.1

-- Its file is there, and has the batches.
pub stands_there : (journal : Journal) (batches : List (List ℕ)) (files : FinMap file_cmp FileState) → Stands journal batches files → (s : FileState) × (get files (name_of journal) ≡ Some s) × Batches s.bytes batches
stands_there journal batches files stands = there (get files (name_of journal)) refl stands.stands
  where
    there : (o : Option FileState) → get files (name_of journal) ≡ o → StandsFor journal.rest batches o → (s : FileState) × (get files (name_of journal) ≡ Some s) × Batches s.bytes batches
    there None e is = absurd is
    there (Some s) e is = (s, e, batches_from s.bytes batches is.front.closed is.front.shut is.front.holds)

-- Once it is found nothing of any generation is pending, where nothing was.
pub found_quiet : (journal : Journal) (batches : List (List ℕ)) (old now : FinMap file_cmp FileState) → AreQuiet old → Stands journal batches now
    → ((file : FileId) → file.kind ≡ OfJournal → file ≢ name_of journal → StaysOrComesToRest (get old file) (get now file)) → AreQuiet now
found_quiet journal batches old now quiet stands others file kind = ⊎_elim (λ own. subst (λ f. IsQuietAt (get now f)) (sym own) (rests journal.rest.gate batches (get now (name_of journal)) stands.stands))
    (λ other. stays (get old file) (get now file) (quiet file kind) (others file kind other)) (same_or_not file (name_of journal))
  where
    rests : (gate : ℕ) (bs : List (List ℕ)) (s : Option FileState) → RestsAt gate bs s → IsQuietAt s
    rests gate bs None is = absurd is
    rests gate bs (Some s) is = is.quiet

    stays : (s t : Option FileState) → IsQuietAt s → StaysOrComesToRest s t → IsQuietAt t
    stays s t is (inl same) = subst IsQuietAt (sym same) is
    stays None t is (inr settles) = subst IsQuietAt (sym settles) tt
    stays (Some s) t is (inr settles) = rests 0 [] t settles.1

-- A journal stands for what it stood for while its file is as it was and each other generation is as it was or gone.
pub stands_kept : (journal : Journal) (batches : List (List ℕ)) (old new : FinMap file_cmp FileState) → Stands journal batches old → get new (name_of journal) ≡ get old (name_of journal)
    → ((file : FileId) → file.kind ≡ OfJournal → file ≢ name_of journal → (get new file ≡ get old file) ⊎ (get new file ≡ None)) → Stands journal batches new
stands_kept journal batches old new stands own others = record {
  kind = stands.kind;
  stands = subst (λ s. StandsFor journal.rest batches s) (sym own) stands.stands;
  last = λ file kind before. idle (get old file) (get new file) (stands.last file kind before) (others file kind (λ same. not_itself_by (name_of journal) file same before));
  alone = λ none file kind other. idle (get old file) (get new file) (stands.alone none file kind other) (others file kind other);
}
  where
    idle : (s t : Option FileState) → IsIdle s → (t ≡ s) ⊎ (t ≡ None) → IsIdle t
    idle s t is (inl same) = subst IsIdle (sym same) is
    idle s t is (inr gone) = subst IsIdle (sym gone) tt

-- and while only files change that are no generations
pub stands_beside : (journal : Journal) (batches : List (List ℕ)) (old new : FinMap file_cmp FileState) → Stands journal batches old → ((file : FileId) → file.kind ≡ OfJournal → get new file ≡ get old file) → Stands journal batches new
stands_beside journal batches old new stands same = stands_kept journal batches old new stands (same (name_of journal) stands.kind) (λ file kind other. inl (same file kind))
