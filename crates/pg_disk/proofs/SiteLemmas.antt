-- A call of the site: from what was recorded and how it was answered to what the traits say.
use Rattle.std.proofs.Common.{◌≡◌, ◌↔◌, inl, inr, ⊎_elim, ℕ, ◌+◌, Bool, true, false, not, cond, IsTrue, MatchBool, List, ◌++◌, length, filter_map, count_by, option_to_list, Contains, Option, Some, None, Result, Ok, Err, is_ok, IsOk, IsErr, OnOk, MatchResult, refl, sym, ◌∙◌, ap, subst, arith}
use Rattle.std.specs.declared.alloc.AllocError.{AllocError}
use Rattle.std.proofs.lemmas.List.{append-nil}
use Rattle.pg_disk.specs.declared.fault.Failed.{Failed}
use Rattle.pg_disk.specs.declared.call_record.CallKind.{CallKind}
use Rattle.pg_disk.specs.declared.call_record.Event.{Event}
use Rattle.pg_disk.specs.declared.file_id.FileId.{FileId}
use Rattle.pg_disk.specs.declared.memory_site.MemSite.{MemSite}
use Rattle.pg_disk.specs.Account.{Account}
use Rattle.pg_disk.specs.Calls.{Changes}
use Rattle.pg_disk.specs.Contents.{content_at}
use Rattle.pg_disk.specs.Counts.{Rose}
use Rattle.pg_disk.specs.Events.{call_of, is_emit}
use Rattle.pg_disk.specs.Files.{Files}
use Rattle.pg_disk.specs.Image.{Leaves}
use Rattle.pg_disk.specs.MemSite.{events_of, account_of, short_of, calls_of, IsUntouched, KeepsContents, MadeCall, MadeEmit, FailsNextCall, FailsNextEmit, AnswersCall, AnswersEmit}
use Rattle.pg_disk.specs.Elapsing.{Elapses}
use Rattle.pg_disk.specs.Recorded.{Recorded, Settled}
use Rattle.pg_disk.specs.Replay.{start, replay, LeftSince, after_emit, if_done}
use Rattle.pg_disk.proofs.Effects.{honest}
use Rattle.pg_disk.proofs.CompleteLemmas.{completes, leaves_whole}
use Rattle.pg_disk.proofs.EventLemmas.{calls_push, emits_push}
use Rattle.pg_disk.proofs.PushLemmas.{after_event, elapses_same, elapses_to}

never : {A : Type 0} → false ≡ true → A
never e = cc

-- whether the next number is free
pub not_named : (named : Bool) (names : List ℕ) (n m : ℕ) → (IsTrue named ↔ Contains names (n + 1)) → n ≡ m → MatchBool (not named) (Contains names (m + 1) → ⊥) (Contains names (m + 1))
not_named true names n m is same = subst (λ k. Contains names (k + 1)) same (is.0 refl)
not_named false names n m is same = λ named. never (is.1 (subst (λ k. Contains names (k + 1)) (sym same) named))

module _ (old new : List Event) (call : Option CallKind) (emit : Bool) (change : Account → Account) (is : Recorded old new call emit change) where
  pub account_after : replay start new ≡ change (replay start old)
  account_after = after_event old new is.event is.pushed ∙ is.does (replay start old)

  pub calls_after : filter_map call_of new ≡ filter_map call_of old ++ option_to_list call
  calls_after = ap (λ (es : List Event). filter_map call_of es) is.pushed ∙ calls_push old is.event ∙ ap (λ (o : Option CallKind). filter_map call_of old ++ option_to_list o) is.is_call

  pub emits_after : count_by is_emit new ≡ count_by is_emit old + cond emit 1 0
  emits_after = ap (λ (es : List Event). count_by is_emit es) is.pushed ∙ emits_push old is.event ∙ ap (λ b. count_by is_emit old + cond b 1 0) is.is_emit

  pub elapses_after : (within : Files → List ℕ → Type 0) → ((c : Files) (b : List ℕ) → Leaves (Some (change (replay start old))) c b → within c b)
      → ((c : Files) (b : List ℕ) → Leaves (Some (completes call change (replay start old))) c b → within c b) → Elapses (length old) (length new) (LeftSince old) (LeftSince new) within
  elapses_after within here whole = elapses_to old new is.event within is.pushed (λ c b left. here c b (subst (λ a. Leaves (Some a) c b) (is.does (replay start old)) left))
      (λ c b left. whole c b (leaves_whole old is.event call change is.is_call (is.does (replay start old)) c b left))

  pub changes_after : (R : Account → Account → Type 0) → R (replay start old) (change (replay start old)) → Changes (Some (replay start old)) (Some (replay start new)) R
  changes_after R one = record { kept = λ _. honest new; back = λ _. honest old; step = λ _. subst (λ a. R (replay start old) a) (sym account_after) one }

pub changes_same : (old new : List Event) (R : Account → Account → Type 0) → new ≡ old → R (replay start old) (replay start old) → Changes (Some (replay start old)) (Some (replay start new)) R
changes_same old new R same one = record { kept = λ _. honest new; back = λ _. honest old; step = λ _. subst (λ (es : List Event). R (replay start old) (replay start es)) (sym same) one }

pub elapses_none : (old new : List Event) (within : Files → List ℕ → Type 0) → new ≡ old → Elapses (length old) (length new) (LeftSince old) (LeftSince new) within
elapses_none old new within same = subst (λ (es : List Event). Elapses (length old) (length es) (LeftSince old) (LeftSince es) within) (sym same) (elapses_same old within)

same_ok : {T : Type 0} (x v : T) → ◌≡◌ {A = Result T AllocError} (Ok x) (Ok v) → x ≡ v
same_ok x v e = cc

err_ok : {T A : Type 0} (x : AllocError) (v : T) → ◌≡◌ {A = Result T AllocError} (Err x) (Ok v) → A
err_ok x v e = cc

-- the three ways in which a call is answered
pub by_cases : {T : Type 0} (R : T → Type 0) (Same : Type 0) (outcome : Result T AllocError) (done : Bool) (f g s t : ℕ) (result : Result T Failed) (P : Result T Failed → Type 0)
    → MatchResult outcome R (λ _. Same) → Settled outcome done (f, s) (g, t) result
    → ((v : T) → done ≡ true → R v → outcome ≡ Ok v → t ≡ s → P (Ok v)) → ((v : T) (e : Failed) → done ≡ false → R v → outcome ≡ Ok v → t ≡ s → P (Err e)) → ((e : Failed) → Same → Rose s t → P (Err e)) → P result
by_cases R Same (Ok x) done f g s t (Ok v) P recorded settled ok failed short = ok v settled.1 (subst R (same_ok x v settled.0) recorded) settled.0 settled.3
by_cases R Same (Err x) done f g s t (Ok v) P recorded settled ok failed short = err_ok x v settled.0
by_cases R Same (Ok x) done f g s t (Err e) P recorded settled ok failed short =
    ⊎_elim (λ (h : IsOk {E = AllocError} (Ok x) × (done ≡ false) × (t ≡ s)). failed x e h.1 recorded refl h.2) (λ (h : IsErr {E = AllocError} (Ok x) × Rose s t). never h.0) settled.1
by_cases {T} R Same (Err x) done f g s t (Err e) P recorded settled ok failed short =
    ⊎_elim (λ (h : IsOk {T = T} (Err x) × (done ≡ false) × (t ≡ s)). never h.0) (λ (h : IsErr {T = T} (Err x) × Rose s t). short e recorded h.1) settled.1

-- a call whose change goes by whether it is done
module _ {T : Type 0} (old new : List Event) (call : Option CallKind) (emit : Bool) (change : Bool → Account → Account) (outcome : Result T AllocError) (done : Bool) (f g s t : ℕ) (result : Result T Failed)
    (recorded : MatchResult outcome (λ _. Recorded old new call emit (change done)) (λ _. new ≡ old)) (settled : Settled outcome done (f, s) (g, t) result) where
  abbrev At : Bool → Type 0
  At b = Recorded old new call emit (change b)

  pub settled_step : (S : Bool → Account → Account → Type 0) → ((b : Bool) → S b (replay start old) (change b (replay start old))) → S false (replay start old) (replay start old)
      → Changes (Some (replay start old)) (Some (replay start new)) (S (is_ok result))
  settled_step S one none = by_cases (λ _. At done) (new ≡ old) outcome done f g s t result (λ r. Changes (Some (replay start old)) (Some (replay start new)) (S (is_ok r))) recorded settled
      (λ v is rec was same. changes_after old new call emit (change true) (subst At is rec) (S true) (one true))
      (λ v e is rec was same. changes_after old new call emit (change false) (subst At is rec) (S false) (one false))
      (λ e same rose. changes_same old new (S false) same none)

  pub settled_time : (within : Files → List ℕ → Type 0) → ((b : Bool) → replay start new ≡ change b (replay start old) → (c : Files) (t : List ℕ) → Leaves (Some (change b (replay start old))) c t → within c t)
      → ((b : Bool) → replay start new ≡ change b (replay start old) → (c : Files) (t : List ℕ) → Leaves (Some (completes call (change b) (replay start old))) c t → within c t)
      → Elapses (length old) (length new) (LeftSince old) (LeftSince new) within
  settled_time within here whole = by_cases (λ _. At done) (new ≡ old) outcome done f g s t result (λ r. Elapses (length old) (length new) (LeftSince old) (LeftSince new) within) recorded settled
      (λ v is rec was same. elapses_after old new call emit (change done) rec within (here done (account_after old new call emit (change done) rec)) (whole done (account_after old new call emit (change done) rec)))
      (λ v e is rec was same. elapses_after old new call emit (change done) rec within (here done (account_after old new call emit (change done) rec)) (whole done (account_after old new call emit (change done) rec)))
      (λ e same rose. elapses_none old new within same)

-- what a record says of two sites
module _ (old new : MemSite) where
  untouched : events_of new ≡ events_of old → IsUntouched old new
  untouched same = record {
    account = ap (λ (es : List Event). replay start es) same;
    calls = ap (λ (es : List Event). filter_map call_of es) same;
    emits = ap (λ (es : List Event). count_by is_emit es) same;
  }

  pub kept_by : (call : Option CallKind) (emit : Bool) (change : Account → Account) → Recorded (events_of old) (events_of new) call emit change
      → ((f : FileId) → content_at (change (account_of old)).files f ≡ content_at (account_of old).files f) → (change (account_of old)).told ≡ (account_of old).told → KeepsContents old new
  kept_by call emit change is contents told =
      let e = account_after (events_of old) (events_of new) call emit change is in
      record { contents = λ f. ap (λ (a : Account). content_at a.files f) e ∙ contents f; told = ap (λ (a : Account). a.told) e ∙ told }

  pub made_call : (call : CallKind) (change : Account → Account) → Recorded (events_of old) (events_of new) (Some call) false change → short_of new ≡ short_of old → MadeCall call old new
  made_call call change is short = record {
    calls = calls_after (events_of old) (events_of new) (Some call) false change is;
    emits = emits_after (events_of old) (events_of new) (Some call) false change is ∙ omega arith;
    short = short;
  }

  pub made_emit : (change : Account → Account) → Recorded (events_of old) (events_of new) None true change → short_of new ≡ short_of old → MadeEmit old new
  made_emit change is short = record {
    calls = calls_after (events_of old) (events_of new) None true change is ∙ append-nil (calls_of old);
    emits = emits_after (events_of old) (events_of new) None true change is;
    short = short;
  }

  pub answers_call : {T : Type 0} (call : CallKind) (change : T → Account → Account) (outcome : Result T AllocError) (done : Bool) (f g : ℕ) (result : Result T Failed)
      → MatchResult outcome (λ v. Recorded (events_of old) (events_of new) (Some call) false (change v)) (λ _. events_of new ≡ events_of old) → Settled outcome done (f, short_of old) (g, short_of new) result
      → MatchBool done (FailsNextCall old → ⊥) (FailsNextCall old)
      → ((v : T) → done ≡ false → outcome ≡ Ok v → (q : FileId) → content_at (change v (account_of old)).files q ≡ content_at (account_of old).files q)
      → ((v : T) → done ≡ false → outcome ≡ Ok v → (change v (account_of old)).told ≡ (account_of old).told)
      → AnswersCall call old new result
  answers_call {T} call change outcome done f g result recorded settled named contents told =
      by_cases (λ (v : T). Recorded (events_of old) (events_of new) (Some call) false (change v)) (events_of new ≡ events_of old) outcome done f g (short_of old) (short_of new) result (AnswersCall call old new) recorded settled
      (λ v is rec was same. (made_call call (change v) rec same, subst (λ b. MatchBool b (FailsNextCall old → ⊥) (FailsNextCall old)) is named))
      (λ v e is rec was same. inl (record {
        named = subst (λ b. MatchBool b (FailsNextCall old → ⊥) (FailsNextCall old)) is named;
        made = made_call call (change v) rec same;
        kept = kept_by (Some call) false (change v) rec (contents v is was) (told v is was);
      }))
      (λ e same rose. inr (record { untouched = untouched same; short = rose }))

  pub answers_emit : (piece : List ℕ) (outcome : Result (Unit {0}) AllocError) (done : Bool) (f g : ℕ) (result : Result (Unit {0}) Failed)
      → MatchResult outcome (λ _. Recorded (events_of old) (events_of new) None true (after_emit piece done)) (λ _. events_of new ≡ events_of old) → Settled outcome done (f, short_of old) (g, short_of new) result
      → MatchBool done (FailsNextEmit old → ⊥) (FailsNextEmit old) → AnswersEmit old new result
  answers_emit piece outcome done f g result recorded settled named =
      by_cases (λ (v : Unit {0}). Recorded (events_of old) (events_of new) None true (after_emit piece done)) (events_of new ≡ events_of old) outcome done f g (short_of old) (short_of new) result (AnswersEmit old new) recorded settled
      (λ v is rec was same. (made_emit (after_emit piece done) rec same, subst (λ b. MatchBool b (FailsNextEmit old → ⊥) (FailsNextEmit old)) is named))
      (λ v e is rec was same. inl (record {
        named = subst (λ b. MatchBool b (FailsNextEmit old → ⊥) (FailsNextEmit old)) is named;
        made = made_emit (after_emit piece done) rec same;
        kept = kept_by None true (after_emit piece done) rec (λ q. refl) (ap (λ b. if_done b ((account_of old).told ++ piece) (account_of old).told) is);
      }))
      (λ e same rose. inr (record { untouched = untouched same; short = rose }))

-- what is put from outside
pub put_account : {E : Type 0} (old new : List Event) (change : Account → Account) (result : Result (Unit {0}) E) → MatchResult result (λ _. Recorded old new None false change) (λ _. new ≡ old)
    → OnOk result (replay start new ≡ change (replay start old))
put_account old new change (Ok v) is = account_after old new None false change is
put_account old new change (Err e) same = tt

pub put_calls : {E : Type 0} (old new : List Event) (change : Account → Account) (result : Result (Unit {0}) E) → MatchResult result (λ _. Recorded old new None false change) (λ _. new ≡ old)
    → filter_map call_of new ≡ filter_map call_of old
put_calls old new change (Ok v) is = calls_after old new None false change is ∙ append-nil (filter_map call_of old)
put_calls old new change (Err e) same = ap (λ (es : List Event). filter_map call_of es) same
