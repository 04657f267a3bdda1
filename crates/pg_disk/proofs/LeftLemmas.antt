-- What is left of the files is among what a crash may leave.
use Rattle.std.proofs.Common.{◌≡◌, ◌⊎◌, inl, inr, ℕ, ◌+◌, ◌≤◌, ◌<◌, Bool, true, false, cond, List, [], ◌∷◌, ◌++◌, length, take, drop, get_or, replicate, Option, Some, None, refl, sym, ◌∙◌, subst, arith, length-take}
use Rattle.std.proofs.lemmas.List.{get_or-take, get_or_append_left, length-replicate}
use Rattle.std.specs.Ordering.{eq_by_cmp}
use Rattle.std.specs.FinMap.{get, insert, remove, empty, get-empty, get-insert, get-remove}
use Rattle.pg_disk.specs.declared.file_id.FileId.{FileId}
use Rattle.pg_disk.specs.declared.call_record.Event.{Event}
use Rattle.pg_disk.specs.declared.call_record.Event.TheVariants as event
use Rattle.pg_disk.specs.declared.crash.Pick.{Pick}
use Rattle.pg_disk.specs.declared.crash.Pick.TheVariants.{Old, New, Fill}
use Rattle.pg_disk.specs.Files.{file_cmp}
use Rattle.pg_disk.specs.Account.{FileState, Account, IsSound}
use Rattle.pg_disk.specs.Calls.{fresh}
use Rattle.pg_disk.specs.Contents.{content_at}
use Rattle.pg_disk.specs.Image.{IsIn, IsLeft, IsLeftAt}
use Rattle.pg_disk.specs.Left.{left_after, left_replay, left_of_write, left_as_read}
use Rattle.pg_disk.specs.Replay.{start, step, replay, overwritten_content, written_file, quiet_file, synced_file, with_changed_file, if_done}
use Rattle.pg_disk.proofs.Bytes.{lt_or_le}
use Rattle.pg_disk.proofs.ContentLemmas.{Held, bytes_of}
use Rattle.pg_disk.proofs.Effects.{AllSound, sound_step, length-overwritten, outside_overwritten, eq_from_true}
use Rattle.pg_disk.proofs.FileOrder.{files_total}

-- a write of these bytes, also one behind the end, leaves each byte outside its range
outside : (at : ℕ) (bytes old : List ℕ) (i : ℕ) → i < length old → (i < at) ⊎ (at + length bytes ≤ i) → get_or (overwritten_content at bytes old) i 0 ≡ get_or old i 0
outside at bytes old i lt (inl low) = get_or_append_left (take at old) (bytes ++ drop (at + length bytes) old) 0 i (omega (arith, length-take at old, lt, low)) ∙ get_or-take at old i 0 low
outside at bytes old i lt (inr high) = outside_overwritten at bytes old (omega (arith, lt, high)) i lt (inr high)

pub reads_outside : (at : ℕ) (bytes : List ℕ) (done : Bool) (s : FileState) (i : ℕ) → i < length s.bytes → (i < at) ⊎ (at + length bytes ≤ i) → get_or (written_file at bytes done s).bytes i 0 ≡ get_or s.bytes i 0
reads_outside at bytes true s i lt where_ = outside at bytes s.bytes i lt where_
reads_outside at bytes false s i lt where_ = refl

pub out_of_range : (at count i : ℕ) (ranges : List (ℕ × ℕ)) → (IsIn ((at, count) ∷ ranges) i → ⊥) → (i < at) ⊎ (at + count ≤ i)
out_of_range at count i ranges clear = elim (lt_or_le i at) [
  | inl low ↦ inl low
  | inr from ↦ elim (lt_or_le i (at + count)) [ inl within ↦ absurd (clear (inl (from, within))) | inr high ↦ inr high ]
]

-- what may be left of a file may be left after a write
left_kept : (at : ℕ) (bytes : List ℕ) (done : Bool) (s : FileState) (d : List ℕ) → IsSound s → IsLeft s d → IsLeft (written_file at bytes done s) d
left_kept at bytes done s d sound is = record {
  no_shorter = is.no_shorter;
  no_longer = omega (arith, is.no_longer);
  as_read = λ i lt clear. is.as_read i lt (λ within. clear (inr within)) ∙ sym (reads_outside at bytes done s i (omega (arith, lt, sound.no_shorter)) (out_of_range at (length bytes) i s.ranges clear));
}

-- and so may anything in its range
left_over : (at : ℕ) (bytes piece : List ℕ) (done : Bool) (s : FileState) (d : List ℕ) → length piece ≡ length bytes → IsSound s → IsLeft s d → IsLeft (written_file at bytes done s) (overwritten_content at piece d)
left_over at bytes piece done s d same sound is = record {
  no_shorter = omega (arith, length-overwritten at piece d, is.no_shorter);
  no_longer = omega (arith, length-overwritten at piece d, is.no_longer, same);
  as_read = λ i lt clear.
      let where_ = out_of_range at (length bytes) i s.ranges clear in
      outside at piece d i (omega (arith, lt, is.no_shorter)) (subst (λ n. (i < at) ⊎ (at + n ≤ i)) (sym same) where_)
      ∙ is.as_read i lt (λ within. clear (inr within)) ∙ sym (reads_outside at bytes done s i (omega (arith, lt, sound.no_shorter)) where_);
}

left_done : (at : ℕ) (bytes : List ℕ) (done : Bool) (s t : FileState) → IsSound s → IsLeft s t.bytes → IsLeft (written_file at bytes done s) (written_file at bytes done t).bytes
left_done at bytes true s t sound is = left_over at bytes bytes true s t.bytes refl sound is
left_done at bytes false s t sound is = left_kept at bytes false s t.bytes sound is

left_quiet : (bytes : List ℕ) → IsLeft (quiet_file bytes) bytes
left_quiet bytes = record { no_shorter = omega arith; no_longer = omega arith; as_read = λ i lt clear. refl }

left_fresh : IsLeft fresh []
left_fresh = record { no_shorter = omega arith; no_longer = omega arith; as_read = λ i lt clear. refl }

-- of each file what the second has may be left
abbrev Shadow : Held → Held → Type 0
Shadow m n = (q : FileId) → IsLeftAt (get m q) (content_at n q)

shadow_put : (m n : Held) (f : FileId) (s t : FileState) → IsLeft s t.bytes → Shadow m n → Shadow (insert m f s) (insert n f t)
shadow_put m n f s t is shadow q =
    subst (λ o. IsLeftAt o (content_at (insert n f t) q)) (sym (get-insert files_total m f s q)) (subst (λ o. IsLeftAt (cond (eq_by_cmp file_cmp q f) (Some s) (get m q)) (bytes_of o)) (sym (get-insert files_total n f t q)) (by (eq_by_cmp file_cmp q f)))
  where
    by : (b : Bool) → IsLeftAt (cond b (Some s) (get m q)) (bytes_of (cond b (Some t) (get n q)))
    by true = is
    by false = shadow q

shadow_cut : (m n : Held) (f : FileId) → Shadow m n → Shadow (remove m f) (remove n f)
shadow_cut m n f shadow q =
    subst (λ o. IsLeftAt o (content_at (remove n f) q)) (sym (get-remove files_total m f q)) (subst (λ o. IsLeftAt (cond (eq_by_cmp file_cmp q f) None (get m q)) (bytes_of o)) (sym (get-remove files_total n f q)) (by (eq_by_cmp file_cmp q f)))
  where
    by : (b : Bool) → IsLeftAt (cond b None (get m q)) (bytes_of (cond b None (get n q)))
    by true = tt
    by false = shadow q

-- the first changes at one file, of which the same may be left
shadow_kept : (m n : Held) (f : FileId) (s : FileState) → IsLeftAt (Some s) (content_at n f) → Shadow m n → Shadow (insert m f s) n
shadow_kept m n f s is shadow q = subst (λ o. IsLeftAt o (content_at n q)) (sym (get-insert files_total m f s q)) (by (eq_by_cmp file_cmp q f) refl)
  where
    by : (b : Bool) → eq_by_cmp file_cmp q f ≡ b → IsLeftAt (cond b (Some s) (get m q)) (content_at n q)
    by true e = subst (λ p. IsLeftAt (Some s) (content_at n p)) (sym (eq_from_true f q e)) is
    by false e = shadow q

-- a file changes in both, where it is there
shadow_both : (f : FileId) (change leave : FileState → FileState) (a l : Account) → ((s t : FileState) → IsSound s → IsLeft s t.bytes → IsLeft (change s) (leave t).bytes)
    → (o p : Option FileState) → get a.files f ≡ o → AllSound a → IsLeftAt o (bytes_of p) → Shadow a.files l.files → Shadow (with_changed_file f change o a).files (with_changed_file f leave p l).files
shadow_both f change leave a l then None None is sound here shadow = shadow
shadow_both f change leave a l then None (Some t) is sound here shadow = absurd here
shadow_both f change leave a l then (Some s) None is sound here shadow = absurd here
shadow_both f change leave a l then (Some s) (Some t) is sound here shadow = shadow_put a.files l.files f (change s) (leave t) (then s t (sound f s is) here) shadow

-- a file changes in the first alone
shadow_first : (f : FileId) (change : FileState → FileState) (a l : Account) → ((s : FileState) (d : List ℕ) → IsSound s → IsLeft s d → IsLeft (change s) d)
    → (o : Option FileState) (d : Option (List ℕ)) → get a.files f ≡ o → content_at l.files f ≡ d → AllSound a → IsLeftAt o d → Shadow a.files l.files → Shadow (with_changed_file f change o a).files l.files
shadow_first f change a l then None d is has sound here shadow = shadow
shadow_first f change a l then (Some s) None is has sound here shadow = absurd here
shadow_first f change a l then (Some s) (Some d) is has sound here shadow = shadow_kept a.files l.files f (change s) (subst (λ p. IsLeftAt (Some (change s)) p) (sym has) (then s d (sound f s is) here)) shadow

shadow_written : (pick : Pick) (f : FileId) (at : ℕ) (bytes : List ℕ) (done : Bool) (a l : Account) → AllSound a → Shadow a.files l.files
    → Shadow (with_changed_file f (written_file at bytes done) (get a.files f) a).files (left_of_write pick f at bytes done l).files
shadow_written Old f at bytes done a l sound shadow = shadow_first f (written_file at bytes done) a l (left_kept at bytes done) (get a.files f) (content_at l.files f) refl refl sound (shadow f) shadow
shadow_written New f at bytes done a l sound shadow = shadow_both f (written_file at bytes done) (written_file at bytes done) a l (left_done at bytes done) (get a.files f) (get l.files f) refl sound (shadow f) shadow
shadow_written (Fill b) f at bytes done a l sound shadow =
    shadow_both f (written_file at bytes done) (written_file at (replicate (length bytes) b) true) a l
    (λ s t. left_over at bytes (replicate (length bytes) b) done s t.bytes (length-replicate (length bytes) b)) (get a.files f) (get l.files f) refl sound (shadow f) shadow

shadow_synced : (f : FileId) (done : Bool) (a l : Account) (o : Option FileState) → get a.files f ≡ o → AllSound a → Shadow a.files l.files
    → Shadow (with_changed_file f (synced_file done) o a).files (if_done done (left_as_read f o l) l).files
shadow_synced f true a l None is sound shadow = shadow
shadow_synced f true a l (Some s) is sound shadow = shadow_put a.files l.files f (quiet_file s.bytes) (quiet_file s.bytes) (left_quiet s.bytes) shadow
shadow_synced f false a l o is sound shadow = shadow_first f (synced_file false) a l (λ s d here left. left) o (content_at l.files f) is refl sound (subst (λ u. IsLeftAt u (content_at l.files f)) is (shadow f)) shadow

pub shadow_step : (pick : Pick) (e : Event) (a l : Account) → AllSound a → Shadow a.files l.files → Shadow (step e a).files (left_after pick e a l).files
shadow_step pick event.List a l sound shadow = shadow
shadow_step pick (event.Length f) a l sound shadow = shadow
shadow_step pick (event.Read f count) a l sound shadow = shadow
shadow_step pick (event.Write f at bytes done) a l sound shadow = shadow_written pick f at bytes.items done a l sound shadow
shadow_step pick (event.Sync f done) a l sound shadow = shadow_synced f done a l (get a.files f) refl sound shadow
shadow_step pick (event.Create f true) a l sound shadow = shadow_put a.files l.files f fresh fresh left_fresh shadow
shadow_step pick (event.Create f false) a l sound shadow = shadow
shadow_step pick (event.Remove f true) a l sound shadow = shadow_cut a.files l.files f shadow
shadow_step pick (event.Remove f false) a l sound shadow = shadow
shadow_step pick (event.Emit bytes done) a l sound shadow = shadow
shadow_step pick (event.Put f bytes) a l sound shadow = shadow_put a.files l.files f (quiet_file bytes.items) (quiet_file bytes.items) (left_quiet bytes.items) shadow
shadow_step pick (event.Told bytes) a l sound shadow = shadow

shadow_replay : (pick : Pick) (es : List Event) (a l : Account) → AllSound a → Shadow a.files l.files → Shadow (replay a es).files (left_replay pick a l es).files
shadow_replay pick [] a l sound shadow = shadow
shadow_replay pick (e ∷ es) a l sound shadow = shadow_replay pick es (step e a) (left_after pick e a l) (sound_step e a sound) (shadow_step pick e a l sound shadow)

none_some : {X Y : Type 0} (x : X) → None ≡ Some x → Y
none_some x e = cc

no_file : {X : Type 0} (q : FileId) (s : FileState) → get {R = file_cmp} empty q ≡ Some s → X
no_file q s is = none_some s (sym (get-empty file_cmp q) ∙ is)

-- after any events
pub left_is_left : (pick : Pick) (es : List Event) (q : FileId) → IsLeftAt (get (replay start es).files q) (content_at (left_replay pick start start es).files q)
left_is_left pick es q = shadow_replay pick es start start (λ f s is. no_file f s is) (λ f. subst (λ (o : Option FileState). IsLeftAt o (bytes_of o)) (sym (get-empty file_cmp f)) tt) q

-- one event more
pub left_push : (pick : Pick) (es : List Event) (e : Event) (a l : Account) → left_replay pick a l (es ++ e ∷ []) ≡ left_after pick e (replay a es) (left_replay pick a l es)
left_push pick [] e a l = refl
left_push pick (x ∷ es) e a l = left_push pick es e (step x a) (left_after pick x a l)
