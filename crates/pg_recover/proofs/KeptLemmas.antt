-- What damage and a limit leave of the files.
use Rattle.std.proofs.Common.{◌≡◌, ◌≢◌, ◌⊎◌, inl, inr, ⊎_elim, ℕ, List, [], ◌∷◌, length, Option, Some, None, refl, sym, ◌∙◌, ap, subst, arith}
use Rattle.std.specs.FinMap.{FinMap, get}
use Rattle.pg_disk.specs.declared.fault.Fault.{Fault}
use Rattle.pg_disk.specs.declared.fault.Fault.TheVariants.{Failed, Damaged, Spent, Memory}
use Rattle.pg_disk.specs.declared.file_id.FileId.{FileId}
use Rattle.pg_disk.specs.declared.file_id.Kind.TheVariants.{Journal as OfJournal}
use Rattle.pg_disk.specs.Files.{file_cmp}
use Rattle.pg_disk.specs.Account.{FileState, Account, account, IsHonest}
use Rattle.pg_disk.specs.Calls.{Changes, Reads, ReadsSome}
use Rattle.pg_disk.specs.Image.{AnyFile}
use Rattle.pg_disk.proofs.Composing.{changes_then, changes_weaker, where_wider}
use Rattle.pg_gate.specs.Gated.{Batches, HasBatches, HasNone, RestsAt}
use Rattle.pg_gate.specs.Spans.{IsMendable, StaysOrMends}
use Rattle.pg_journal.specs.declared.journal.Journal.{Journal}
use Rattle.pg_journal.specs.Generations.{GoesOn, HasNoGeneration, HasNoneThere, JournalOf}
use Rattle.pg_disk.specs.Views.{as_read, bytes_of}
use Rattle.pg_journal.specs.Looks.{IsOfJournal, KeepsAtDamage, KeepsDamaged, MendsGenerations, ReadsGenerations}
use Rattle.pg_journal.specs.Stands.{Stands, StaysOrComesToRest, name_of}
use Rattle.pg_journal.proofs.Law.{journal_unique, none_alone}
use Rattle.pg_journal.proofs.Order.{same_or_not}
use Rattle.pg_journal.proofs.Scanned.{rests_none}
use Rattle.pg_recover.specs.Recovered.{AreKept, IsKeptGeneration, IsMended, KeepsBytes, KeepsFiles}

one_or_not : (n : ℕ) → (n ≡ 1) ⊎ (n ≢ 1)
one_or_not n = grind arith

-- a file is to be mended, or it isn't
mendable_or_not : (bytes : List ℕ) → IsMendable bytes ⊎ (IsMendable bytes → ⊥)
mendable_or_not [] = inl (inl refl)
mendable_or_not (x ∷ []) = ⊎_elim (λ one. inl (inr (ap (λ (v : ℕ). v ∷ []) one))) (λ other. inr (two x other)) (one_or_not x)
  where
    two : (x : ℕ) → x ≢ 1 → IsMendable (x ∷ []) → ⊥
    two x other (inl e) = cc
    two x other (inr e) = other (first e)
      where
        first : x ∷ [] ≡ 1 ∷ [] → x ≡ 1
        first e = cc
mendable_or_not (x ∷ (y ∷ ys)) = inr long
  where
    long : IsMendable (x ∷ (y ∷ ys)) → ⊥
    long (inl e) = cc
    long (inr e) = cc

-- one that is has no batch
pub mendable_none : (bytes : List ℕ) → IsMendable bytes → Batches bytes []
mendable_none bytes (inl e) = inl (omega (arith, ap length e), refl)
mendable_none bytes (inr e) = inl (omega (arith, ap length e), refl)

-- so a generation that was mended had none
pub mended_none : (was now : Option (List ℕ)) → IsMended was now → HasBatches [] was
mended_none None now is = absurd is
mended_none (Some bytes) now is = mendable_none bytes is.0

rests_has : (gate : ℕ) (t : Option FileState) → RestsAt gate [] t → HasBatches [] (bytes_of t)
rests_has gate None rests = absurd rests
rests_has gate (Some t) rests = rests_none gate t rests

-- the bytes are as they were, or the file was mended
abbrev StaysOrMended : Option FileState → Option FileState → Type 0
StaysOrMended s t = (bytes_of t ≡ bytes_of s) ⊎ IsMended (bytes_of s) (bytes_of t)

-- a file that has no batch now
none_now : (s : FileState) (t : Option FileState) → StaysOrMends (Some s) t → HasBatches [] (bytes_of t) → StaysOrMended (Some s) t
none_now s t stays has = ⊎_elim (λ mends. inr (mends, has)) (λ solid. let u = stays solid in inl (ap bytes_of u.1 ∙ ap Some u.2)) (mendable_or_not s.bytes)

settled : (s t : Option FileState) → StaysOrMends s t → StaysOrComesToRest s t → StaysOrMended s t
settled s t stays (inl same) = inl (ap bytes_of same)
settled None t stays (inr settles) = inl (ap bytes_of settles)
settled (Some s) t stays (inr settles) = none_now s t stays (rests_has 0 t settles.1)

-- a file that had a batch
some_before : (s t : Option FileState) (batches : List (List ℕ)) → StaysOrMends s t → HasBatches batches (bytes_of s) → batches ≢ [] → bytes_of t ≡ bytes_of s
some_before None t batches stays has some = absurd has
some_before (Some s) t batches stays has some =
    let u = stays (λ mends. some (none_alone s.bytes batches (mendable_none s.bytes mends) has)) in
    ap bytes_of u.1 ∙ ap Some u.2

-- one that had none and was there
none_before : (s t : Option FileState) → StaysOrMends s t → (bytes : List ℕ) × (bytes_of s ≡ Some bytes) → HasBatches [] (bytes_of t) → StaysOrMended s t
none_before None t stays there has = cc
none_before (Some s) t stays there has = none_now s t stays has

none_there : (files : FinMap file_cmp FileState) → HasNoneThere (as_read files) → HasNoGeneration (as_read files)
none_there files none file kind = subst HasNone (sym (none file kind)) tt

-- what is said of generations alone
where_kept : (old new : Account) → ReadsGenerations old new → ((file : FileId) → file.kind ≡ OfJournal → IsKeptGeneration (as_read old.files) (as_read new.files) file) → KeepsFiles old new
where_kept old new a kept = where_wider IsOfJournal AnyFile ReadsSome ReadsSome MendsGenerations KeepsBytes old new a (λ f kind. tt) (λ more. more)
    (λ mends. record { others = λ f kind. ap bytes_of (a.others f kind); generations = kept })

-- where damage was found in a generation
module _ (old new : Option Account) (stays : Changes old new ReadsGenerations) where
  damaged_keeps : (damaged : FileId) → (IsHonest old → KeepsDamaged damaged (account old).files (account new).files) → Changes old new KeepsFiles
  damaged_keeps damaged keeps = changes_weaker old new ReadsGenerations KeepsFiles stays (λ h a. where_kept (account old) (account new) a (λ file kind.
      let k = keeps h in
      ⊎_elim (λ same. inl (subst (λ f. bytes_of (get (account new).files f) ≡ bytes_of (get (account old).files f)) (sym same) k.bytes))
      (λ other. ⊎_elim (λ is. inl is) (λ is. inr (inl is)) (settled (get (account old).files file) (get (account new).files file) (a.change.generations file kind) (k.others file kind other)))
      (same_or_not file damaged)))

  pub find_kept : (e : Fault) → KeepsAtDamage old new e → AreKept old new e
  find_kept Failed keeps = tt
  find_kept (Damaged damage) keeps = damaged_keeps damage.file keeps
  find_kept Spent keeps = absurd keeps
  find_kept Memory keeps = tt

-- where the journal was found
module _ (old mid : Option Account) (stays : Changes old mid ReadsGenerations) (journal : Journal)
    (found : IsHonest old → (batches : List (List ℕ)) × JournalOf (as_read (account old).files) batches × Stands journal batches (account mid).files)
    (goes_on : IsHonest old → GoesOn (as_read (account old).files) (name_of journal))
    (others : IsHonest old → (file : FileId) → file.kind ≡ OfJournal → (file ≡ name_of journal → ⊥) → StaysOrComesToRest (get (account old).files file) (get (account mid).files file)) where
  -- a journal without a batch has a file without one
  own_none : (honest : IsHonest old) → HasNoGeneration (as_read (account old).files) → HasBatches [] (bytes_of (get (account mid).files (name_of journal)))
  own_none honest none =
      let is = found honest in
      let batches : is.0 ≡ [] = journal_unique (as_read (account old).files) is.0 [] is.1 (inr (none, refl)) in
      rests_has journal.rest.gate (get (account mid).files (name_of journal)) (subst (λ bs. RestsAt journal.rest.gate bs (get (account mid).files (name_of journal))) batches is.2.stands)

  own_kept : (honest : IsHonest old) → (name_of journal).kind ≡ OfJournal → GoesOn (as_read (account old).files) (name_of journal) → IsKeptGeneration (as_read (account old).files) (as_read (account mid).files) (name_of journal)
  own_kept honest kind (inl has) =
      inl (some_before (get (account old).files (name_of journal)) (get (account mid).files (name_of journal)) has.0 ((stays.step honest).change.generations (name_of journal) kind) has.1.has has.1.some)
  own_kept honest kind (inr (inl last)) = ⊎_elim (λ is. inl is) (λ is. inr (inl is))
      (none_before (get (account old).files (name_of journal)) (get (account mid).files (name_of journal)) ((stays.step honest).change.generations (name_of journal) kind) last.1.there (own_none honest last.0))
  own_kept honest kind (inr (inr none)) = inr (inr (record { first = none.1; none = none.0; empty = own_none honest (none_there (account old).files none.0) }))

  found_keeps : Changes old mid KeepsFiles
  found_keeps = changes_weaker old mid ReadsGenerations KeepsFiles stays (λ h a. where_kept (account old) (account mid) a (λ file kind.
      ⊎_elim (λ same. subst (λ f. IsKeptGeneration (as_read (account old).files) (as_read (account mid).files) f) (sym same) (own_kept h (subst (λ (f : FileId). f.kind ≡ OfJournal) same kind) (goes_on h)))
      (λ other. ⊎_elim (λ is. inl is) (λ is. inr (inl is)) (settled (get (account old).files file) (get (account mid).files file) (a.change.generations file kind) (others h file kind other)))
      (same_or_not file (name_of journal))))

  -- and then read
  pub read_keeps : (new : Option Account) (n : ℕ) → Changes mid new (Reads n) → Changes old new KeepsFiles
  read_keeps new n reads = changes_then old mid new KeepsFiles (Reads n) KeepsFiles found_keeps reads (λ h a b. record {
    told = b.told ∙ a.told;
    taken = omega (arith, a.taken, b.taken);
    others = λ f out. absurd (out tt);
    change = subst (KeepsBytes (account old).files) (sym b.files) a.change;
  })

pub kept_at : (old new : Option Account) → Changes old new KeepsFiles → (e : Fault) → AreKept old new e
kept_at old new keeps Failed = tt
kept_at old new keeps (Damaged damage) = keeps
kept_at old new keeps Spent = keeps
kept_at old new keeps Memory = tt
