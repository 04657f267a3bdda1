-- What is found where a file is read anew, behind a walk and behind a sync.
use Rattle.std.proofs.Common.{◌≡◌, ℕ, ◌<◌, List, [], ◌∷◌, ◌++◌, length, get_or, Bool, Option, Some, None, Result, Ok, Err, IfOk, IfErr, OnErr, Vec, refl, sym, ◌∙◌, ap, subst, arith}
use Rattle.std.specs.FinMap.{get}
use Rattle.std.specs.declared.alloc.Global.{Global}
use Rattle.pg_disk.specs.declared.fault.Fault.{Fault}
use Rattle.pg_disk.specs.declared.file_id.FileId.{FileId}
use Rattle.pg_disk.specs.Account.{FileState, Account, account, IsHonest, IsQuiet}
use Rattle.pg_disk.specs.Image.{IsIn, IsFileThere}
use Rattle.pg_disk.specs.Calls.{Changes, ChangesFile, Holds, Reads, There, Synced}
use Rattle.pg_gate.specs.declared.at_rest.Rest.{Rest}
use Rattle.pg_gate.specs.declared.spans.Span.{Span}
use Rattle.pg_gate.specs.Gated.{opened, RestsAt}
use Rattle.pg_gate.specs.Spans.{AsRead, IsCut, IsCutFault, IsWalked, IsScanned, ReadsGates, ReadsWithin, IsThereAtRest}
use Rattle.pg_gate.proofs.Sealing.{batches_from}
use Rattle.pg_gate.proofs.Walking.{walked_front}
use Rattle.pg_gate.proofs.Reading.{cut_weaker, still_there}

-- the walk over a file at rest
pub walk_scanned : (rest : Rest) (bytes : List ℕ) (gate : ℕ) (spans : List Span) (s : FileState) (now : Option FileState) → rest.gate ≡ gate → s.bytes ≡ bytes → gate < length bytes → IsQuiet s → now ≡ Some s → IsWalked bytes gate spans → IsScanned bytes rest spans now
walk_scanned rest bytes gate spans s now gate_is same within quiet now_is walked =
    let front : Holds bytes 0 (opened walked.so_far.batches ++ get_or bytes gate 0 ∷ []) = walked_front bytes gate spans within walked in
    let stands : RestsAt rest.gate walked.so_far.batches (Some s) = record {
      quiet = quiet;
      front = record {
        closed = get_or bytes gate 0;
        shut = walked.shut;
        holds = subst (λ l. Holds l 0 (opened walked.so_far.batches ++ get_or bytes gate 0 ∷ [])) (sym same) front;
        place = gate_is ∙ walked.so_far.place;
        synced = omega (arith, quiet.synced, ap length same, within, gate_is);
        untouched = λ i le within. subst (λ rs. IsIn rs i) quiet.ranges within;
      };
    } in
    record {
      batches = walked.so_far.batches;
      are = batches_from bytes walked.so_far.batches (get_or bytes gate 0) walked.shut front;
      places = walked.so_far.places;
      stands = subst (λ o. RestsAt rest.gate walked.so_far.batches o) (sym now_is) stands;
      counted = omega (arith, gate_is, walked.so_far.place);
    }

pub quiet_there : (o : Option FileState) (s : FileState) → IsThereAtRest o → o ≡ Some s → IsQuiet s
quiet_there None s rests e = absurd rests
quiet_there (Some t) s rests e = subst IsThereAtRest e rests

is_there : (o : Option FileState) → IsThereAtRest o → (s : FileState) × (o ≡ Some s)
is_there None rest = absurd rest
is_there (Some s) rest = (s, refl)

pub walk_there : (file : FileId) (old mid : Option Account) (n : ℕ) → Changes old mid (Reads n) → (IsHonest old → IsThereAtRest (get (account old).files file)) → IsHonest mid → IsFileThere file (account mid).files
walk_there file old mid n change rest = still_there file old mid n change (λ h. is_there (get (account old).files file) (rest h))

-- a sync changes no byte of the file as it reads
synced_as : (ok : Bool) (o p : Option FileState) (s : FileState) → There (Synced ok) o p → o ≡ Some s → (t : FileState) × (p ≡ Some t) × (t.bytes ≡ s.bytes)
synced_as ok None p s there e = absurd there
synced_as ok (Some a) None s there e = absurd there
synced_as ok (Some a) (Some b) s there e = let same : a ≡ s = cc in (b, refl, there.bytes ∙ ap (λ (u : FileState). u.bytes) same)

module _ (file : FileId) (old mid : Option Account) (ok : Bool) (sync : Changes old mid (ChangesFile file (There (Synced ok)))) where
  as_synced : (P Q : List ℕ → Type 0) → (IsHonest old → (bytes : List ℕ) → P bytes → Q bytes) → AsRead file mid P → AsRead file old Q
  as_synced P Q then is = λ h s there.
      let now = synced_as ok (get (account old).files file) (get (account mid).files file) s (sync.step h).change there in
      then h s.bytes (subst P now.2 (is (sync.kept h) now.0 now.1))

  pub ok_synced : {T E : Type 0} (result : Result T E) (P Q : T → List ℕ → Type 0) → (IsHonest old → (x : T) (bytes : List ℕ) → P x bytes → Q x bytes) → IfOk result (λ x. AsRead file mid (P x)) → IfOk result (λ x. AsRead file old (Q x))
  ok_synced (Ok x) P Q then is = as_synced (P x) (Q x) (λ h bytes. then h x bytes) is
  ok_synced (Err e) P Q then is = tt

  pub within_synced : {T E : Type 0} (result : Result T E) (new : Option Account) → OnErr result (AsRead file mid (λ bytes. ReadsWithin bytes (account mid) (account new))) → OnErr result (AsRead file old (λ bytes. ReadsWithin bytes (account old) (account new)))
  within_synced (Ok x) new is = tt
  within_synced (Err e) new is =
      as_synced (λ bytes. ReadsWithin bytes (account mid) (account new)) (λ bytes. ReadsWithin bytes (account old) (account new)) (λ h bytes few. omega (arith, few, (sync.step h).taken)) is

  pub none_synced : {T E : Type 0} (result : Result T E) → OnErr result (AsRead file old (λ bytes. ReadsWithin bytes (account old) (account mid)))
  none_synced (Ok x) = tt
  none_synced (Err e) = λ h s there. omega (arith, (sync.step h).taken)

  pub cut_synced : {T : Type 0} (result : Result T Fault) → IfErr result (IsCutFault file (λ at. AsRead file mid (λ bytes. IsCut bytes at))) → IfErr result (IsCutFault file (λ at. AsRead file old (λ bytes. IsCut bytes at)))
  cut_synced (Ok x) is = tt
  cut_synced (Err e) is =
      cut_weaker file (λ at. AsRead file mid (λ bytes. IsCut bytes at)) (λ at. AsRead file old (λ bytes. IsCut bytes at)) e (λ at. as_synced (λ bytes. IsCut bytes at) (λ bytes. IsCut bytes at) (λ h bytes cut. cut)) is

  pub gates_synced : {E : Type 0} (result : Result (Rest × Vec Span Global) E) (new : Option Account) → IfOk result (λ found. AsRead file mid (λ bytes. ReadsGates bytes found.1.items (account mid) (account new)))
      → IfOk result (λ found. AsRead file old (λ bytes. ReadsGates bytes found.1.items (account old) (account new)))
  gates_synced result new =
      ok_synced result (λ found bytes. ReadsGates bytes found.1.items (account mid) (account new)) (λ found bytes. ReadsGates bytes found.1.items (account old) (account new))
      (λ h found bytes read. record { gates = omega (arith, read.gates, (sync.step h).taken); outside = omega (arith, read.outside, (sync.step h).taken) })
