-- What damage leaves of the generations.
use Rattle.std.proofs.Common.{◌≡◌, ◌≢◌, inl, inr, ⊎_elim, ℕ, ◌≤◌, List, [], ◌∷◌, ◌++◌, length, Option, Some, None, Vec, refl, sym, ◌∙◌, ap, subst, arith}
use Rattle.std.specs.declared.alloc.Global.{Global}
use Rattle.std.specs.FinMap.{FinMap, get}
use Rattle.std.proofs.lemmas.List.Elements.{Contains-push}
use Rattle.pg_disk.specs.declared.fault.Fault.{Fault}
use Rattle.pg_disk.specs.declared.fault.Fault.TheVariants.{Failed, Damaged, Spent, Memory}
use Rattle.pg_disk.specs.declared.file_id.FileId.{FileId}
use Rattle.pg_disk.specs.Files.{file_cmp}
use Rattle.pg_disk.specs.Account.{FileState, Account, account, IsHonest}
use Rattle.pg_disk.specs.Calls.{Changes}
use Rattle.pg_gate.specs.Spans.{AsRead, IsCut, IsCutFault, IsMendable, IsNotSpent, ReadsAndChanges, StaysOrMends}
use Rattle.pg_gate.specs.declared.spans.Span.{Span}
use Rattle.pg_journal.specs.declared.journal.Journal.{Journal}
use Rattle.pg_disk.specs.Views.{bytes_of}
use Rattle.pg_journal.specs.Looks.{KeepsAtDamage, KeepsDamaged, ReadsGenerations}
use Rattle.pg_journal.specs.Stands.{StaysOrComesToRest}
use Rattle.pg_journal.proofs.Order.{same_or_not}
use Rattle.pg_journal.proofs.Scanned.{IsScannedTo, next_there, next_now, stays_away}

-- bytes that are to be mended aren't cut
mendable_short : (bytes : List ℕ) → IsMendable bytes → length bytes ≤ 1
mendable_short bytes (inl none) = omega (arith, ap length none)
mendable_short bytes (inr gate) = omega (arith, ap length gate)

cut_solid : (bytes : List ℕ) (at : ℕ) → IsCut bytes at → IsMendable bytes → ⊥
cut_solid bytes at cut mends = cut.none [] (inl (mendable_short bytes mends, refl))

-- so their file keeps them
cut_bytes : (s t : Option FileState) (at : ℕ) → StaysOrMends s t → (u : FileState) × (s ≡ Some u) → ((u : FileState) → s ≡ Some u → IsCut u.bytes at) → bytes_of t ≡ bytes_of s
cut_bytes None t at stays is cut = cc
cut_bytes (Some s) t at stays is cut = let u = stays (cut_solid s.bytes at (cut s refl)) in ap bytes_of u.1 ∙ ap Some u.2

module _ (old mid now : FinMap file_cmp FileState) (left : List FileId) (file : FileId) (last : Option (Journal × Vec Span Global)) (so_far : IsScannedTo (left ++ file ∷ []) last old mid)
    (others : (f : FileId) → f ≢ file → get now f ≡ get mid f) (own : StaysOrMends (get mid file) (get now file)) (at : ℕ) (cut : (s : FileState) → get mid file ≡ Some s → IsCut s.bytes at) where
  away : (o : Option FileState) (s : FileState) → o ≡ Some s → o ≡ None → ⊥
  away o s there absent = cc

  -- where the next generation is cut
  kept_damaged : KeepsDamaged file old now
  kept_damaged = record {
    bytes = cut_bytes (get mid file) (get now file) at own (next_now old mid left file last so_far) cut ∙ ap bytes_of (so_far.fresh file (Contains-push left file));
    others = λ f kind ne. subst (λ t. StaysOrComesToRest (get old f) t) (sym (others f ne)) (so_far.each f kind);
    made = λ f kind absent. ⊎_elim (λ same. absurd (away (get old file) (next_there old mid left file last so_far).1.0 (next_there old mid left file last so_far).1.1 (subst (λ x. get old x ≡ None) same absent)))
        (λ ne. others f ne ∙ stays_away (get old f) (get mid f) absent (so_far.each f kind)) (same_or_not f file);
  }

-- at the site
module _ (old mid new : Option Account) (left : List FileId) (file : FileId) (last : Option (Journal × Vec Span Global)) (stays : Changes old mid ReadsGenerations) (so_far : IsHonest old → IsScannedTo (left ++ file ∷ []) last (account old).files (account mid).files)
    (change : Changes mid new (ReadsAndChanges file StaysOrMends)) where
  pub scan_kept : (e : Fault) → IsNotSpent e → IsCutFault file (λ at. AsRead file mid (λ bytes. IsCut bytes at)) e → KeepsAtDamage old new e
  scan_kept Failed only is = tt
  scan_kept (Damaged damage) only is = λ honest.
      let kept = stays.kept honest in
      let step = change.step kept in
      subst (λ f. KeepsDamaged f (account old).files (account new).files) (sym is.0)
      (kept_damaged (account old).files (account mid).files (account new).files left file last (so_far honest) step.others step.change damage.at (is.2 kept))
  scan_kept Spent only is = only refl
  scan_kept Memory only is = tt
