-- One generation more is scanned, at a site.
use Rattle.std.proofs.Common.{◌≡◌, inl, ℕ, true, false, List, [], ◌∷◌, ◌++◌, Option, Some, Vec, refl}
use Rattle.std.specs.Prelude.{◌==◌}
use Rattle.std.specs.Option.{option_or}
use Rattle.std.specs.declared.alloc.Global.{Global}
use Rattle.std.specs.FinMap.{get}
use Rattle.pg_disk.specs.declared.disk.Disk.{Ghosts}
use Rattle.pg_disk.specs.declared.file_id.FileId.{FileId}
use Rattle.pg_disk.specs.declared.file_id.Kind.TheVariants.{Journal as OfJournal}
use Rattle.pg_disk.specs.Files.{Files}
use Rattle.pg_disk.specs.Account.{account, IsHonest}
use Rattle.pg_disk.specs.Calls.{Changes}
use Rattle.pg_disk.specs.Image.{IsFileThere, Leaves, LeavesAt}
use Rattle.pg_disk.specs.Moments.{Within}
use Rattle.pg_disk.proofs.Composing.{started, then_run}
use Rattle.pg_gate.specs.Gated.{file_of}
use Rattle.pg_gate.specs.Spans.{AsRead, IsCut, IsScanned, KeepsAtRest, ReadsAndChanges, StaysOrMends}
use Rattle.pg_gate.specs.declared.at_rest.Rest.{Rest}
use Rattle.pg_gate.specs.declared.spans.Span.{Span}
use Rattle.pg_journal.specs.declared.journal.Journal.{Journal}
use Rattle.pg_journal.specs.Looks.{IsCutAt, IsFound, LeavesJournal, ReadsGenerations}
use Rattle.pg_journal.specs.Stands.{StaysOrComesToRest}
use Rattle.pg_journal.proofs.Leaving.{left_now, left_scan, no_change, then_scanned, was_cut}
use Rattle.pg_journal.proofs.Scanned.{IsScannedTo, next_there, next_now, one_scanned, one_found}

module _ {D : Type 0} (m : Ghosts D) (old : D) where
  -- before the first one
  pub not_scanned : ((c : Files) (b : List ℕ) → m.left_since old (m.moment old) c b → Leaves (m.tells old) c b) → Within m old old LeavesJournal
  not_scanned law = started m old LeavesJournal (λ c b left. left_now (m.tells old) (m.tells old) (no_change (m.tells old)) (λ honest file kind. inl refl) c b (law c b left))

  module _ (mid : D) (left : List FileId) (file : FileId) (last : Option (Journal × Vec Span Global)) (kind : file.kind ≡ OfJournal) (stays : Changes (m.tells old) (m.tells mid) ReadsGenerations)
      (so_far : IsHonest (m.tells old) → IsScannedTo (left ++ file ∷ []) last (account (m.tells old)).files (account (m.tells mid)).files) where
    each : IsHonest (m.tells old) → (f : FileId) → f.kind ≡ OfJournal → StaysOrComesToRest (get (account (m.tells old)).files f) (get (account (m.tells mid)).files f)
    each honest = (so_far honest).each

    there_now : IsHonest (m.tells old) → IsFileThere file (account (m.tells mid)).files
    there_now honest = next_now (account (m.tells old)).files (account (m.tells mid)).files left file last (so_far honest)

    pub can_scan : IsHonest (m.tells mid) → IsFileThere file (account (m.tells mid)).files
    can_scan honest = there_now (stays.back honest)

    pub in_scan : (new : D) → Within m old mid LeavesJournal → Within m mid new (LeavesAt file KeepsAtRest)
        → Within m old new LeavesJournal
    in_scan new run scan = then_run m old mid new LeavesJournal (LeavesAt file KeepsAtRest) run scan (left_scan (m.tells old) (m.tells mid) stays each file kind)

    pub cut_before : (at : ℕ) → AsRead file (m.tells mid) (λ bytes. IsCut bytes at) → IsHonest (m.tells old) → IsCutAt (account (m.tells old)).files file at
    cut_before = was_cut (m.tells old) (m.tells mid) file stays (λ honest. each honest file kind) there_now

    module _ (new : D) (change : Changes (m.tells mid) (m.tells new) (ReadsAndChanges file StaysOrMends)) where
      pub stays_then : Changes (m.tells old) (m.tells new) ReadsGenerations
      stays_then = then_scanned (m.tells old) (m.tells mid) (m.tells new) file kind (λ honest. (next_there (account (m.tells old)).files (account (m.tells mid)).files left file last (so_far honest)).1) stays change

      module _ (rest : Rest) (spans : Vec Span Global) (own : file_of rest ≡ file) (scanned : AsRead file (m.tells mid) (λ bytes. IsScanned bytes rest spans.items (get (account (m.tells new)).files file))) where
        pub still_scanned : true ≡ (spans.len == 0) → IsHonest (m.tells old) → IsScannedTo left (option_or last (Some (record { rest = rest }, spans))) (account (m.tells old)).files (account (m.tells new)).files
        still_scanned none honest =
            let kept = stays.kept honest in
            one_scanned (account (m.tells old)).files (account (m.tells mid)).files left file last (so_far honest) (account (m.tells new)).files rest spans own (scanned kept) (change.step kept).others none

        pub now_found : false ≡ (spans.len == 0) → IsHonest (m.tells old) → IsFound (record { rest = rest }) spans.items (account (m.tells old)).files (account (m.tells new)).files
        now_found some honest =
            let kept = stays.kept honest in
            one_found (account (m.tells old)).files (account (m.tells mid)).files left file last (so_far honest) (account (m.tells new)).files rest spans own (scanned kept) (change.step kept).others some
