-- How many bytes the search for the journal reads.
use Rattle.std.proofs.Common.{◌≡◌, ℕ, ◌+◌, ◌≤◌, List, [], ◌∷◌, ◌++◌, length, Option, Some, None, Result, Ok, Err, Vec, sym, ◌∙◌, ap, subst, arith}
use Rattle.std.specs.Prelude.{MatchOption, OnErr, sum_by}
use Rattle.std.specs.declared.alloc.Global.{Global}
use Rattle.std.specs.FinMap.{get}
use Rattle.std.proofs.lemmas.List.Elements.{Contains-push}
use Rattle.std.proofs.lemmas.List.Sums.{sum_by-append}
use Rattle.pg_disk.specs.declared.file_id.FileId.{FileId}
use Rattle.pg_disk.specs.Account.{FileState, Account, account, IsHonest}
use Rattle.pg_disk.specs.Calls.{Changes, Reads}
use Rattle.pg_gate.specs.Spans.{AsRead, ReadsGates, ReadsWithin, payload_bytes}
use Rattle.pg_gate.specs.declared.spans.Span.{Span}
use Rattle.pg_journal.specs.declared.journal.Journal.{Journal}
use Rattle.pg_journal.specs.Looks.{AreGenerations, ReadsGenerations, TakesWithin, journal_bytes, size_of}
use Rattle.pg_journal.proofs.Scanned.{IsScannedTo, next_now}

-- what holds whatever the answer is
pub on_err : {T E : Type 0} (r : Result T E) (P : Type 0) → P → OnErr r P
on_err (Ok x) P is = tt
on_err (Err e) P is = is

-- what was read, and the generations that are left, are no more than the generations had
abbrev pub TakesTo : List FileId → Account → Account → Type 0
TakesTo left old now = now.taken + sum_by (λ file. size_of (get old.files file)) left ≤ old.taken + journal_bytes old.files

pub none_taken : (generations : List FileId) (a : Account) → AreGenerations generations a.files → TakesTo generations a a
none_taken generations a are = omega (arith, are.bytes)

-- one generation more is read
module _ (old mid new : Option Account) (left : List FileId) (file : FileId) (last : Option (Journal × Vec Span Global)) (stays : Changes old mid ReadsGenerations)
    (so_far : IsHonest old → IsScannedTo (left ++ file ∷ []) last (account old).files (account mid).files) (taken : IsHonest old → TakesTo (left ++ file ∷ []) (account old) (account mid)) where
  abbrev size : FileId → ℕ
  size f = size_of (get (account old).files f)

  there : (honest : IsHonest old) → (s : FileState) × (get (account mid).files file ≡ Some s)
  there honest = next_now (account old).files (account mid).files left file last (so_far honest)

  size_is : (honest : IsHonest old) → length (there honest).0.bytes ≡ size file
  size_is honest = ap size_of (sym (there honest).1 ∙ (so_far honest).fresh file (Contains-push left file))

  then_taken : (spans : List Span) → AsRead file mid (λ bytes. ReadsGates bytes spans (account mid) (account new)) → IsHonest old
      → (account new).taken + payload_bytes spans + sum_by size left ≤ (account old).taken + journal_bytes (account old).files
  then_taken spans reads honest =
      let gates = reads (stays.kept honest) (there honest).0 (there honest).1 in
      omega (arith, gates.outside, taken honest, size_is honest, sum_by-append size left (file ∷ []))

  pub more_taken : (spans : List Span) → AsRead file mid (λ bytes. ReadsGates bytes spans (account mid) (account new)) → IsHonest old → TakesTo left (account old) (account new)
  more_taken spans reads honest = omega (arith, then_taken spans reads honest)

  pub found_taken : (spans : List Span) → AsRead file mid (λ bytes. ReadsGates bytes spans (account mid) (account new)) → IsHonest old → TakesWithin (payload_bytes spans) (account old) (account new)
  found_taken spans reads honest = omega (arith, then_taken spans reads honest)

  pub taken_at_err : AsRead file mid (λ bytes. ReadsWithin bytes (account mid) (account new)) → IsHonest old → TakesWithin 0 (account old) (account new)
  taken_at_err reads honest =
      let within = reads (stays.kept honest) (there honest).0 (there honest).1 in
      omega (arith, within, taken honest, size_is honest, sum_by-append size left (file ∷ []))

-- where none is left
pub all_taken : (last : Option (Journal × Vec Span Global)) (old now : Account) → IsScannedTo [] last old.files now.files → TakesTo [] old now
    → MatchOption last (TakesWithin 0 old now) (λ found. TakesWithin (payload_bytes found.1.items) old now)
all_taken None old now so_far taken = omega (arith, taken)
all_taken (Some found) old now so_far taken = subst (λ spans. TakesWithin (payload_bytes spans) old now) (sym so_far.last.none) (omega (arith, taken))

-- the listing reads nothing
pub taken_before : (n : ℕ) (old mid : Option Account) (new : Account) → Changes old mid (Reads 0) → (IsHonest mid → TakesWithin n (account mid) new) → IsHonest old → TakesWithin n (account old) new
taken_before n old mid new same taken honest =
    let a = same.step honest in
    omega (arith, taken (same.kept honest), a.taken, ap journal_bytes a.files)
