-- The generations are looked at from the last one back.
use Rattle.std.proofs.Common.{◌≡◌, ◌≢◌, ◌⊎◌, inl, inr, ⊎_elim, ℕ, true, false, List, [], ◌∷◌, ◌++◌, length, get_or, Option, sym, ◌∙◌, subst, arith, length-append}
use Rattle.std.specs.Prelude.{◌==◌}
use Rattle.std.specs.FinMap.{FinMap}
use Rattle.std.specs.List.{All, Contains, AllPairs}
use Rattle.std.proofs.Math.Seq.{get_or-append_seam}
use Rattle.std.proofs.lemmas.List.{get_or_append_left}
use Rattle.std.proofs.lemmas.List.Elements.{All-contains, Contains-append_left, Contains-push, Contains-push_cases}
use Rattle.pg_disk.specs.declared.file_id.FileId.{FileId}
use Rattle.pg_disk.specs.declared.file_id.Kind.TheVariants.{Journal as OfJournal}
use Rattle.pg_disk.specs.Files.{file_cmp}
use Rattle.pg_disk.specs.Account.{FileState, Account, account, IsHonest}
use Rattle.pg_disk.specs.Calls.{Changes, Reads}
use Rattle.pg_disk.specs.Image.{IsFileThere}
use Rattle.pg_gate.specs.Gated.{AllFit, Batches, HasBatches, HasNone}
use Rattle.pg_gate.specs.Spans.{AsRead, HasSpans, IsCut, spans_of}
use Rattle.pg_gate.specs.declared.spans.Span.{Span}
use Rattle.pg_gate.proofs.Reading.{as_read_before}
use Rattle.pg_journal.specs.Generations.{IsAscending, IsBefore, IsGeneration}
use Rattle.pg_disk.specs.Views.{as_read, bytes_of}
use Rattle.pg_journal.specs.Looks.{AreGenerations, IsCutAt}
use Rattle.pg_journal.proofs.Cuts.{none_placed, some_placed}
use Rattle.pg_journal.proofs.Order.{not_itself_by}

module _ (R : FileId → FileId → Type 0) (files : List FileId) (file : FileId) (pairs : AllPairs R (files ++ file ∷ [])) where
  -- the generations without the last one
  pub front_pairs : AllPairs R files
  front_pairs i j d lt within =
      subst (λ f. R f (get_or files j d)) (get_or_append_left files (file ∷ []) d i (omega (arith, lt, within)))
      (subst (λ f. R (get_or (files ++ file ∷ []) i d) f) (get_or_append_left files (file ∷ []) d j within) (pairs i j d lt (omega (arith, within, length-append files (file ∷ [])))))

  -- and each of them with the last one
  pub with_last : (other : FileId) → Contains files other → R other file
  with_last other front =
      subst (λ f. R f file) (get_or_append_left files (file ∷ []) other front.0 front.1 ∙ front.2)
      (subst (λ f. R (get_or (files ++ file ∷ []) front.0 other) f) (get_or-append_seam files file [] other) (pairs front.0 (length files) other front.1 (omega (arith, length-append files (file ∷ [])))))

abbrev pub InOrder : FileId → FileId → Type 0
InOrder a b = IsBefore b a → ⊥

-- none of the generations comes behind the last one
pub none_behind : (files : List FileId) (file other : FileId) → IsAscending (files ++ file ∷ []) → Contains (files ++ file ∷ []) other → IsBefore file other → ⊥
none_behind files file other up is_in before =
    ⊎_elim (λ front. with_last InOrder files file up other front before) (λ own. not_itself_by file other (sym own) before) (Contains-push_cases files file other is_in)

-- the last of the generations is one
pub last_kind : (files : List FileId) (file : FileId) → All (λ f. f.kind ≡ OfJournal) (files ++ file ∷ []) → file.kind ≡ OfJournal
last_kind files file all = All-contains (λ f. f.kind ≡ OfJournal) (files ++ file ∷ []) file all (Contains-push files file)

-- These generations are left to be looked at, and each other one has no batch.
pub record IsPeekedTo (left : List FileId) (files : FinMap file_cmp FileState) : Type 0 where
  pub ascending : IsAscending left
  pub there : (file : FileId) → Contains left file → (file.kind ≡ OfJournal) × IsFileThere file files
  pub behind : (file : FileId) → file.kind ≡ OfJournal → Contains left file ⊎ HasNone (as_read files file)

pub none_peeked : (generations : List FileId) (files : FinMap file_cmp FileState) → AreGenerations generations files → IsPeekedTo generations files
none_peeked generations files are = record {
  ascending = are.ascending;
  there = are.there;
  behind = λ file kind. ⊎_elim inl (λ absent. inr (subst (λ o. HasNone (bytes_of o)) (sym absent) tt)) (are.all file kind);
}

module _ (files : FinMap file_cmp FileState) (left : List FileId) (file : FileId) (so_far : IsPeekedTo (left ++ file ∷ []) files) where
  pub last_there : (file.kind ≡ OfJournal) × IsFileThere file files
  last_there = so_far.there file (Contains-push left file)

  -- the last one has no batch either
  pub one_peeked : HasNone (as_read files file) → IsPeekedTo left files
  one_peeked none = record {
    ascending = front_pairs InOrder left file so_far.ascending;
    there = λ other is_in. so_far.there other (Contains-append_left left (file ∷ []) other is_in);
    behind = λ other kind. ⊎_elim (λ is_in. ⊎_elim inl (λ own. inr (subst (λ f. HasNone (as_read files f)) own none)) (Contains-push_cases left file other is_in)) inr (so_far.behind other kind);
  }

  -- or it has one
  pub one_found : (batches : List (List ℕ)) → HasBatches batches (as_read files file) → AllFit batches → batches ≢ [] → IsGeneration (as_read files) file batches
  one_found batches has fit some = record {
    kind = last_there.0;
    has = has;
    fit = fit;
    some = some;
    last = λ other kind before. ⊎_elim (λ is_in. absurd (none_behind left file other so_far.ascending is_in before)) (λ none. none) (so_far.behind other kind);
  }

pub contains_none : {X : Type 0} (x : X) → Contains [] x → ⊥
contains_none x is_in = absurd (omega arith)

-- one more is peeked, at a site whose files are as they were
module _ (old mid : Option Account) (count : ℕ) (same : Changes old mid (Reads count)) (left : List FileId) (file : FileId) (so_far : IsHonest old → IsPeekedTo (left ++ file ∷ []) (account old).files)
    (spans : List Span) (n : ℕ) (size : n ≡ length spans) (places : AsRead file mid (λ bytes. HasSpans bytes spans)) where
  peeked : (honest : IsHonest old) → HasSpans (last_there (account old).files left file (so_far honest)).1.0.bytes spans
  peeked honest = let there = last_there (account old).files left file (so_far honest) in as_read_before file old mid count (λ bytes. HasSpans bytes spans) same places honest there.1.0 there.1.1

  pub still_peeked : true ≡ (n == 0) → IsHonest old → IsPeekedTo left (account old).files
  still_peeked none honest =
      let there = last_there (account old).files left file (so_far honest) in
      let has = peeked honest in
      one_peeked (account old).files left file (so_far honest)
      (subst (λ o. HasNone (bytes_of o)) (sym there.1.1) (subst (λ batches. Batches there.1.0.bytes batches) (none_placed spans n has.batches has.places size none) has.are))

  pub now_found : false ≡ (n == 0) → IsHonest old → (batches : List (List ℕ)) × IsGeneration (as_read (account old).files) file batches × (spans ≡ spans_of 0 batches)
  now_found some honest =
      let there = last_there (account old).files left file (so_far honest) in
      let has = peeked honest in (
        has.batches,
        one_found (account old).files left file (so_far honest) has.batches (subst (λ o. HasBatches has.batches (bytes_of o)) (sym there.1.1) has.are) has.fit (some_placed spans n has.batches has.places size some),
        has.places,
      )

-- what is cut was cut at first
pub was_cut : (old mid : Option Account) (count : ℕ) → Changes old mid (Reads count) → (file : FileId) → (IsHonest old → IsFileThere file (account old).files) → (at : ℕ) → AsRead file mid (λ bytes. IsCut bytes at) → IsHonest old
    → IsCutAt (account old).files file at
was_cut old mid count same file there at cut honest =
    let is = there honest in
    record { state = is.0; there = is.1; cut = as_read_before file old mid count (λ bytes. IsCut bytes at) same cut honest is.0 is.1 }
