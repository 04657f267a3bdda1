-- The journal is read in pieces.
use Rattle.std.proofs.Common.{◌≡◌, ◌≢◌, ℕ, true, List, [], ◌∷◌, ◌++◌, length, take, drop, Option, Result, Ok, Err, refl, sym, ◌∙◌, ap, subst, arith, take-append-drop}
use Rattle.std.specs.Prelude.{IfOk, IfErr, ◌==◌}
use Rattle.std.proofs.lemmas.Bool.Decides.{nat_tests}
use Rattle.std.proofs.lemmas.List.{append_assoc, append-nil, map-append}
use Rattle.std.proofs.lemmas.List.Elements.{All-cons, All-head, All-nil, All-tail}
use Rattle.pg_disk.specs.declared.fault.Damage.{Damage}
use Rattle.pg_disk.specs.declared.fault.Fault.{Fault}
use Rattle.pg_disk.specs.declared.fault.Fault.TheVariants.{Failed, Damaged, Spent, Memory}
use Rattle.pg_disk.specs.declared.file_id.FileId.{FileId}
use Rattle.pg_disk.specs.Account.{Account}
use Rattle.pg_disk.specs.Calls.{Changes, Reads}
use Rattle.pg_gate.specs.declared.spans.Span.{Span}
use Rattle.pg_gate.specs.Spans.{AsRead}
use Rattle.pg_gate.proofs.Reading.{as_read_before}
use Rattle.pg_fold.specs.declared.durable.Durable.{Durable}
use Rattle.pg_recover.specs.Folding.{FoldsFrom, IsBrokenAmong, IsBrokenPayload, IsDamage, IsDamageAt, IsDamageOnly}
use Rattle.pg_recover.specs.Places.{Covers, IsCovered, payload_from, payloads_from}
use Rattle.pg_gate.specs.Payloads.{AreInside, IsInside, payload_at, payloads_at}
use Rattle.pg_recover.proofs.FoldingLemmas.{folds_nothing, folds_then}
use Rattle.pg_recover.proofs.PlaceLemmas.{covered}

-- the places in front of one that are covered, and that one
front_covered : (cover : Span) (before : List Span) (place : Span) (behind : List Span) → Covers cover (before ++ place ∷ behind) → Covers cover before × Covers cover (place ∷ [])
front_covered cover [] place behind covers = (All-nil (IsCovered cover), All-cons (IsCovered cover) place [] (All-head (IsCovered cover) place behind covers) (All-nil (IsCovered cover)))
front_covered cover (span ∷ before) place behind covers =
    let more = front_covered cover before place behind (All-tail (IsCovered cover) span (before ++ place ∷ behind) covers) in
    (All-cons (IsCovered cover) span before (All-head (IsCovered cover) span (before ++ place ∷ behind) covers) more.0, more.1)

abbrev first_of : List (List ℕ) → List ℕ
first_of [] = []
first_of (payload ∷ payloads) = payload

-- a payload that is broken in the bytes that were read is so in the file
among_covered : (bytes piece : List ℕ) (cover : Span) (spans : List Span) → Covers cover spans → piece ≡ take cover.length (drop cover.at bytes) → (file : FileId) (d : Durable) (damage : Damage)
    → IsBrokenAmong (payload_from cover.at piece) file d spans damage → IsBrokenAmong (payload_at bytes) file d spans damage
among_covered bytes piece cover spans covers is file d damage broken =
    let front = front_covered cover broken.before broken.place broken.behind (subst (Covers cover) broken.are covers) in
    let one : payload_from cover.at piece broken.place ≡ payload_at bytes broken.place = ap first_of (covered bytes piece cover (broken.place ∷ []) front.1 is) in
    record {
      before = broken.before;
      place = broken.place;
      behind = broken.behind;
      are = broken.are;
      state = broken.state;
      folds = subst (λ ps. FoldsFrom d ps broken.state) (covered bytes piece cover broken.before front.0 is) broken.folds;
      named = subst (λ p. IsDamageAt file broken.place.at (IsBrokenPayload broken.state p) damage) one broken.named;
    }

-- the payloads of a group are in the bytes that were read
module _ (file : FileId) (tells : Option Account) (cover : Span) (spans : List Span) (d : Durable) (covers : Covers cover spans) (piece : List ℕ) (read : AsRead file tells (λ bytes. piece ≡ take cover.length (drop cover.at bytes))) where
  pub piece_folds : (result : Result Durable Fault) → IfOk result (FoldsFrom d (payloads_from cover.at piece spans)) → IfOk result (λ after. AsRead file tells (λ bytes. IsInside (length bytes) cover → FoldsFrom d (payloads_at bytes spans) after))
  piece_folds (Ok after) folds = λ honest s there inside. subst (λ ps. FoldsFrom d ps after) (covered s.bytes piece cover spans covers (read honest s there)) folds
  piece_folds (Err e) folds = tt

  pub piece_damaged : (result : Result Durable Fault) → IfErr result (IsDamage (IsBrokenAmong (payload_from cover.at piece) file d spans))
      → IfErr result (IsDamageOnly (λ damage. AsRead file tells (λ bytes. IsInside (length bytes) cover → IsBrokenAmong (payload_at bytes) file d spans damage)))
  piece_damaged (Ok after) broken = tt
  piece_damaged (Err Failed) broken = tt
  piece_damaged (Err (Damaged damage)) broken = λ honest s there inside. among_covered s.bytes piece cover spans covers (read honest s there) file d damage broken
  piece_damaged (Err Spent) broken = broken
  piece_damaged (Err Memory) broken = tt

-- what is said of damage
pub damage_only_weaker : (P Q : Damage → Type 0) (e : Fault) → ((damage : Damage) → P damage → Q damage) → IsDamageOnly P e → IsDamageOnly Q e
damage_only_weaker P Q Failed then is = tt
damage_only_weaker P Q (Damaged damage) then is = then damage is
damage_only_weaker P Q Spent then is = is
damage_only_weaker P Q Memory then is = tt

-- The payloads at the places in front of those that are left lead to this state.
pub record HasFolded (bytes : List ℕ) (spans : List Span) (start d : Durable) (rest : List Span) : Type 0 where
  pub inside : AreInside (length bytes) rest
  pub done : List Span
  pub are : spans ≡ done ++ rest
  pub folds : FoldsFrom start (payloads_at bytes done) d

-- so it is where all places are in the file
abbrev pub LeadsTo : FileId → Option Account → List Span → Durable → Durable → List Span → Type 0
LeadsTo file tells spans start d rest = AsRead file tells (λ bytes. AreInside (length bytes) spans → HasFolded bytes spans start d rest)

pub none_done : (bytes : List ℕ) (spans : List Span) (d : Durable) → AreInside (length bytes) spans → HasFolded bytes spans d d spans
none_done bytes spans d are = record { inside = are; done = []; are = refl; folds = folds_nothing d }

-- one place among some that stand among others
seams : (a b c d : List Span) (x : Span) → a ++ ((b ++ x ∷ c) ++ d) ≡ (a ++ b) ++ x ∷ (c ++ d)
seams a b c d x = ap (λ l. a ++ l) (append_assoc b (x ∷ c) d) ∙ sym (append_assoc a b (x ∷ (c ++ d)))

module _ (bytes : List ℕ) (spans rest : List Span) (start d : Durable) (so_far : HasFolded bytes spans start d rest) (count : ℕ) where
  split : spans ≡ so_far.done ++ (take count rest ++ drop count rest)
  split = so_far.are ∙ ap (λ l. so_far.done ++ l) (sym (take-append-drop count rest))

  pub group_done : (after : Durable) → FoldsFrom d (payloads_at bytes (take count rest)) after → AreInside (length bytes) (drop count rest) → HasFolded bytes spans start after (drop count rest)
  group_done after folds inside = record {
    inside = inside;
    done = so_far.done ++ take count rest;
    are = split ∙ sym (append_assoc so_far.done (take count rest) (drop count rest));
    folds = subst (λ ps. FoldsFrom start ps after) (sym (map-append (payload_at bytes) so_far.done (take count rest)))
        (folds_then start d after (payloads_at bytes so_far.done) (payloads_at bytes (take count rest)) so_far.folds folds);
  }

  pub among_all : (file : FileId) (damage : Damage) → IsBrokenAmong (payload_at bytes) file d (take count rest) damage → IsBrokenAmong (payload_at bytes) file start spans damage
  among_all file damage broken = record {
    before = so_far.done ++ broken.before;
    place = broken.place;
    behind = broken.behind ++ drop count rest;
    are = split ∙ ap (λ l. so_far.done ++ (l ++ drop count rest)) broken.are ∙ seams so_far.done broken.before broken.behind (drop count rest) broken.place;
    state = broken.state;
    folds = subst (λ ps. FoldsFrom start ps broken.state) (sym (map-append (payload_at bytes) so_far.done broken.before))
        (folds_then start d broken.state (payloads_at bytes so_far.done) (payloads_at bytes broken.before) so_far.folds broken.folds);
    named = broken.named;
  }

module _ (file : FileId) (old mid : Option Account) (n : ℕ) (same : Changes old mid (Reads n)) (spans rest : List Span) (start d : Durable) (so_far : LeadsTo file old spans start d rest) (count : ℕ) (cover : Span)
    (inside : (size : ℕ) → AreInside size rest → IsInside size cover) where
  pub group_leads : (after : Durable) → AsRead file mid (λ bytes. IsInside (length bytes) cover → FoldsFrom d (payloads_at bytes (take count rest)) after) → ((size : ℕ) → AreInside size rest → AreInside size (drop count rest))
      → LeadsTo file old spans start after (drop count rest)
  group_leads after folds behind honest s there are =
      let now = so_far honest s there are in
      group_done s.bytes spans rest start d now count after
      (as_read_before file old mid n (λ bytes. IsInside (length bytes) cover → FoldsFrom d (payloads_at bytes (take count rest)) after) same folds honest s there (inside (length s.bytes) now.inside))
      (behind (length s.bytes) now.inside)

  pub group_broken : (damage : Damage) → AsRead file mid (λ bytes. IsInside (length bytes) cover → IsBrokenAmong (payload_at bytes) file d (take count rest) damage)
      → AsRead file old (λ bytes. AreInside (length bytes) spans → IsBrokenAmong (payload_at bytes) file start spans damage)
  group_broken damage broken honest s there are =
      let now = so_far honest s there are in
      among_all s.bytes spans rest start d now count file damage
      (as_read_before file old mid n (λ bytes. IsInside (length bytes) cover → IsBrokenAmong (payload_at bytes) file d (take count rest) damage) same broken honest s there (inside (length s.bytes) now.inside))

pub none_left : (file : FileId) (tells : Option Account) (spans rest : List Span) (start d : Durable) → rest ≡ [] → LeadsTo file tells spans start d rest → AsRead file tells (λ bytes. AreInside (length bytes) spans → FoldsFrom start (payloads_at bytes spans) d)
none_left file tells spans rest start d none so_far honest s there are =
    let now = so_far honest s there are in
    subst (λ l. FoldsFrom start (payloads_at s.bytes l) d) (sym (now.are ∙ ap (λ l. now.done ++ l) none ∙ append-nil now.done)) now.folds

-- no places
pub empty_of : (spans : List Span) → true ≡ (length spans == 0) → spans ≡ []
empty_of [] e = refl
empty_of (span ∷ spans) e = absurd (more (length (span ∷ spans)) (omega arith) e)
  where
    more : (n : ℕ) → n ≢ 0 → true ≡ (n == 0) → ⊥
    more n some e = grind (arith, nat_tests)
