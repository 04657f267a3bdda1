-- What a crash within a call leaves where the call is complete.
use Rattle.std.proofs.Common.{◌≡◌, ℕ, Bool, true, false, cond, List, [], ◌∷◌, ◌++◌, Option, Some, None, refl, sym, ◌∙◌, subst, arith}
use Rattle.std.specs.Ordering.{eq_by_cmp}
use Rattle.std.specs.FinMap.{get, get-insert}
use Rattle.pg_disk.specs.declared.file_id.FileId.{FileId}
use Rattle.pg_disk.specs.declared.call_record.CallKind.{CallKind}
use Rattle.pg_disk.specs.declared.call_record.CallKind.TheVariants as kind
use Rattle.pg_disk.specs.declared.call_record.Event.{Event}
use Rattle.pg_disk.specs.declared.call_record.Event.TheVariants as event
use Rattle.pg_disk.specs.Account.{FileState, Account, IsHonest, IsSound}
use Rattle.pg_disk.specs.Events.{call_of}
use Rattle.pg_disk.specs.Files.{Files, file_cmp}
use Rattle.pg_disk.specs.Image.{IsLeft, IsLeftAt, Leaves}
use Rattle.pg_disk.specs.Replay.{start, step, completed, replay, written_file, with_changed_file, after_write, after_create, after_remove}
use Rattle.pg_disk.proofs.Effects.{honest, told_changed}
use Rattle.pg_disk.proofs.FileOrder.{files_total}
use Rattle.pg_disk.proofs.LeftLemmas.{reads_outside, out_of_range}
use Rattle.pg_disk.proofs.PushLemmas.{after_push}

-- what a call that is complete changes, where it is known what it changed
abbrev pub completes : Option CallKind → (Account → Account) → Account → Account
completes (Some (kind.Create f)) change a = after_create f true a
completes (Some (kind.Remove f)) change a = after_remove f true a
completes _ change a = change a

completes_same : (call : Option CallKind) (one two : Account → Account) (a : Account) → one a ≡ two a → completes call one a ≡ completes call two a
completes_same None one two a same = same
completes_same (Some kind.List) one two a same = same
completes_same (Some (kind.Length f)) one two a same = same
completes_same (Some (kind.Read f)) one two a same = same
completes_same (Some (kind.Write f)) one two a same = same
completes_same (Some (kind.Sync f)) one two a same = same
completes_same (Some (kind.Create f)) one two a same = refl
completes_same (Some (kind.Remove f)) one two a same = refl

-- a complete write leaves what one that failed may leave
left_rewritten : (at : ℕ) (bytes : List ℕ) (done : Bool) (s : FileState) (d : List ℕ) → IsSound s → IsLeft (written_file at bytes true s) d → IsLeft (written_file at bytes done s) d
left_rewritten at bytes true s d sound is = is
left_rewritten at bytes false s d sound is = record {
  no_shorter = is.no_shorter;
  no_longer = is.no_longer;
  as_read = λ i lt clear. is.as_read i lt clear ∙ reads_outside at bytes true s i (omega (arith, lt, sound.no_shorter)) (out_of_range at _ i s.ranges clear);
}

rewritten : (f : FileId) (at : ℕ) (bytes : List ℕ) (done : Bool) (a : Account) (o : Option FileState) → get a.files f ≡ o → ((s : FileState) → get a.files f ≡ Some s → IsSound s)
    → (q : FileId) (left : Option (List ℕ)) → IsLeftAt (get (with_changed_file f (written_file at bytes true) o a).files q) left → IsLeftAt (get (with_changed_file f (written_file at bytes done) o a).files q) left
rewritten f at bytes done a None is sound q left here = here
rewritten f at bytes done a (Some s) is sound q left here =
    subst (λ u. IsLeftAt u left) (sym (get-insert files_total a.files f (written_file at bytes done s) q)) (by (eq_by_cmp file_cmp q f) left (subst (λ u. IsLeftAt u left) (get-insert files_total a.files f (written_file at bytes true s) q) here))
  where
    by : (b : Bool) (left : Option (List ℕ)) → IsLeftAt (cond b (Some (written_file at bytes true s)) (get a.files q)) left → IsLeftAt (cond b (Some (written_file at bytes done s)) (get a.files q)) left
    by true None here = absurd here
    by true (Some d) here = left_rewritten at bytes done s d (sound s is) here
    by false left here = here

leaves_written : (f : FileId) (at : ℕ) (bytes : List ℕ) (done : Bool) (a : Account) → IsHonest (Some a) → IsHonest (Some (after_write f at bytes done a)) → (c : Files) (b : List ℕ)
    → Leaves (Some (after_write f at bytes true a)) c b → Leaves (Some (after_write f at bytes done a)) c b
leaves_written f at bytes done a was now c b left = record {
  honest = now;
  image = λ q. rewritten f at bytes done a (get a.files f) refl (was.sound f) q (get c q) (left.image q);
  told = left.told ∙ told_changed f (written_file at bytes true) a (get a.files f) ∙ sym (told_changed f (written_file at bytes done) a (get a.files f));
}

leaves_complete : (e : Event) (a : Account) → IsHonest (Some a) → IsHonest (Some (step e a)) → (c : Files) (b : List ℕ) → Leaves (Some (step (completed e) a)) c b → Leaves (Some (completes (call_of e) (step e) a)) c b
leaves_complete event.List a was now c b left = left
leaves_complete (event.Length f) a was now c b left = left
leaves_complete (event.Read f count) a was now c b left = left
leaves_complete (event.Write f at bytes done) a was now c b left = leaves_written f at bytes.items done a was now c b left
leaves_complete (event.Sync f done) a was now c b left = left
leaves_complete (event.Create f done) a was now c b left = left
leaves_complete (event.Remove f done) a was now c b left = left
leaves_complete (event.Emit bytes done) a was now c b left = left
leaves_complete (event.Put f bytes) a was now c b left = left
leaves_complete (event.Told bytes) a was now c b left = left

-- what the complete event leaves, by the call that it is and what it changed
pub leaves_whole : (old : List Event) (e : Event) (call : Option CallKind) (change : Account → Account) → call_of e ≡ call → step e (replay start old) ≡ change (replay start old) → (c : Files) (b : List ℕ)
    → Leaves (Some (step (completed e) (replay start old))) c b → Leaves (Some (completes call change (replay start old))) c b
leaves_whole old e call change is does c b left =
    let a = replay start old in
    let now = subst (λ x. IsHonest (Some x)) (after_push start old e) (honest (old ++ e ∷ [])) in
    subst (λ x. Leaves (Some x) c b) (completes_same call (step e) change a does) (subst (λ k. Leaves (Some (completes k (step e) a)) c b) is (leaves_complete e a (honest old) now c b left))

-- a complete call is the same call
pub call_completed : (e : Event) → call_of (completed e) ≡ call_of e
call_completed event.List = refl
call_completed (event.Length f) = refl
call_completed (event.Read f count) = refl
call_completed (event.Write f at bytes done) = refl
call_completed (event.Sync f done) = refl
call_completed (event.Create f done) = refl
call_completed (event.Remove f done) = refl
call_completed (event.Emit bytes done) = refl
call_completed (event.Put f bytes) = refl
call_completed (event.Told bytes) = refl
