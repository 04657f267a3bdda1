-- What was done is done once more.
use Rattle.std.proofs.Common.{◌≡◌, ℕ, zero, suc, ◌+◌, ◌≤◌, min, Bool, true, false, cond, List, [], ◌∷◌, ◌++◌, slice_get, add-one, length, take, drop, Option, Some, None, refl, sym, ◌∙◌, ap, subst, arith, Vec, vec_len, inl, inr, Result, Ok, Err, OnOk, IfOk}
use Rattle.std.proofs.lemmas.List.{take_all}
use Rattle.std.specs.declared.alloc.Global.{Global}
use Rattle.std.specs.Option.{IfSome}
use Rattle.std.specs.Ordering.{eq_by_cmp}
use Rattle.std.specs.BTreeMap as tree
use Rattle.std.specs.FinMap.{get, insert, get-insert}
use Rattle.pg_disk.specs.declared.file_id.FileId.{FileId}
use Rattle.pg_disk.specs.declared.call_record.Event.{Event}
use Rattle.pg_disk.specs.declared.crash.Pick.{Pick}
use Rattle.pg_disk.specs.declared.crash.Remains.{Remains}
use Rattle.pg_disk.specs.declared.memory_state.MemoryState.{MemoryState}
use Rattle.pg_disk.specs.MemoryState.{account_of}
use Rattle.pg_disk.specs.Account.{FileState, Account}
use Rattle.pg_disk.specs.Contents.{content_at, HasContents, ComesTo}
use Rattle.pg_disk.specs.Crash.{Follows, Redoes, RedoesAll, IsCallAt, LeftWithin}
use Rattle.pg_disk.specs.Files.{file_cmp}
use Rattle.pg_disk.specs.Left.{left_as_read, left_after, left_replay, counts_as_done, last_done, happened, left_at}
use Rattle.pg_disk.specs.Replay.{start, replay, step, completed, overwritten_content, written_file, quiet_file, synced_file, with_changed_file, if_done, after_write, after_sync, after_put}
use Rattle.pg_disk.proofs.Bytes.{lt_or_le}
use Rattle.pg_disk.proofs.ContentLemmas.{Tree, Held, items_of, bytes_of, some_items, put_contents, same_contents, changed_contents, comes_put, told_changed}
use Rattle.pg_disk.proofs.FileOrder.{files_total}
use Rattle.pg_disk.proofs.CrashLemmas.{take_next, is_left_within}
use Rattle.pg_disk.proofs.LeftLemmas.{left_push}
use Rattle.pg_disk.proofs.PushLemmas.{after_push}

some_is : {X : Type 0} (x y : X) → Some x ≡ Some y → x ≡ y
some_is x y e = cc

none_some : {X Y : Type 0} (x : X) → None ≡ Some x → Y
none_some x e = cc

pub redoes_put : (old new : Remains) (f : FileId) (v w : Vec ℕ Global) (bytes : List ℕ) → v.items ≡ bytes → w.items ≡ bytes
    → tree.Updates file_cmp old.read new.read f (Some v) → tree.Updates file_cmp old.left new.left f (Some w) → new.told ≡ old.told → Redoes (after_put f bytes) (λ a. after_put f bytes) old new
redoes_put old new f v w bytes is both read left told a l was = record {
  read = comes_put old.read new.read f v bytes is read a was.read;
  left = comes_put old.left new.left f w bytes both left l was.left;
  told = ap (λ (t : Vec ℕ Global). t.items) told ∙ was.told;
}

abbrev left_of_sync : FileId → Bool → Account → Account → Account
left_of_sync f done a l = if_done done (left_as_read f (get a.files f) l) l

pub redoes_sync_none : (r : Remains) (f : FileId) (done : Bool) → done ≡ false → Redoes (after_sync f done) (left_of_sync f done) r r
redoes_sync_none r f done is = subst (λ b. Redoes (after_sync f b) (left_of_sync f b) r r) (sym is) (λ a l was. record {
  read = changed_contents r.read a f (synced_file false) (get a.files f) refl was.read (λ s. refl);
  left = was.left;
  told = told_changed f (synced_file false) a (get a.files f) was.told;
})

-- the file's content as it is read becomes what is left of it
pub redoes_sync_there : (old new : Remains) (f : FileId) (done : Bool) (v w : Vec ℕ Global) → done ≡ true → tree.get file_cmp old.read f ≡ Some v → w.items ≡ v.items
    → new.read ≡ old.read → new.told ≡ old.told → tree.Updates file_cmp old.left new.left f (Some w) → Redoes (after_sync f done) (left_of_sync f done) old new
redoes_sync_there old new f done v w is there same read told left = subst (λ b. Redoes (after_sync f b) (left_of_sync f b) old new) (sym is) (λ a l was.
    let held = some_items v (tree.get file_cmp old.read f) (get a.files f) there (was.read f) in
    subst (λ (o : Option FileState). Follows new (with_changed_file f (synced_file true) o a) (left_as_read f o l)) (sym held.1) (record {
      read = subst (λ (m : Tree). HasContents m (insert a.files f (quiet_file held.0.bytes))) (sym read) (same_contents old.read a.files f held.0 (quiet_file held.0.bytes) was.read held.1 refl);
      left = put_contents old.left new.left l.files f w (quiet_file held.0.bytes) was.left left (same ∙ sym held.2);
      told = ap (λ (t : Vec ℕ Global). t.items) told ∙ was.told;
    }))

no_items : (o : Option (Vec ℕ Global)) (p : Option FileState) → o ≡ None → items_of o ≡ bytes_of p → p ≡ None
no_items o None is same = refl
no_items o (Some s) is same = none_some s.bytes (sym (ap items_of is) ∙ same)

pub redoes_sync_absent : (r : Remains) (f : FileId) (done : Bool) → done ≡ true → tree.get file_cmp r.read f ≡ None → Redoes (after_sync f done) (left_of_sync f done) r r
redoes_sync_absent r f done is none = subst (λ b. Redoes (after_sync f b) (left_of_sync f b) r r) (sym is) (λ a l was.
    subst (λ (o : Option FileState). Follows r (with_changed_file f (synced_file true) o a) (left_as_read f o l)) (sym (no_items (tree.get file_cmp r.read f) (get a.files f) none (was.read f))) was)

drop_past : (n : ℕ) (l : List ℕ) → length l ≤ n → drop n l ≡ []
drop_past zero [] le = refl
drop_past zero (x ∷ l) le = absurd (omega (arith, le))
drop_past (suc n) [] le = refl
drop_past (suc n) (x ∷ l) le = drop_past n l (omega (arith, le))

-- a write behind the end goes to the end
clipped : (at : ℕ) (bytes old : List ℕ) → overwritten_content (min at (length old)) bytes old ≡ overwritten_content at bytes old
clipped at bytes old = elim (lt_or_le at (length old)) [
  | inl within ↦
      let e : min at (length old) ≡ at = omega (arith, within) in
      ap (λ n. overwritten_content n bytes old) e
  | inr behind ↦
      let e : min at (length old) ≡ length old = omega (arith, behind) in
      ap (λ n. overwritten_content n bytes old) e
      ∙ ap (λ l. l ++ (bytes ++ drop (length old + length bytes) old)) (take_all (length old) old (omega arith) ∙ sym (take_all at old behind))
      ∙ ap (λ l. take at old ++ (bytes ++ l)) (drop_past (length old + length bytes) old (omega arith) ∙ sym (drop_past (at + length bytes) old (omega (arith, behind))))
]

content_alike : (files : Held) (f : FileId) (s t : FileState) (q : FileId) → s.bytes ≡ t.bytes → content_at (insert files f s) q ≡ content_at (insert files f t) q
content_alike files f s t q same = ap bytes_of (get-insert files_total files f s q) ∙ by (eq_by_cmp file_cmp q f) ∙ sym (ap bytes_of (get-insert files_total files f t q))
  where
    by : (b : Bool) → bytes_of (cond b (Some s) (get files q)) ≡ bytes_of (cond b (Some t) (get files q))
    by true = ap Some same
    by false = refl

alike_written : (at near : ℕ) (bytes : List ℕ) (done : Bool) (s : FileState) → near ≡ min at (length s.bytes) → (written_file near bytes done s).bytes ≡ (written_file at bytes done s).bytes
alike_written at near bytes true s is = ap (λ n. overwritten_content n bytes s.bytes) is ∙ clipped at bytes s.bytes
alike_written at near bytes false s is = refl

-- the length of the content that is there
near_is : (o : Option (Vec ℕ Global)) (s : FileState) (at near : ℕ) → items_of o ≡ Some s.bytes → IfSome o (λ v. near ≡ min at (length v.items)) → near ≡ min at (length s.bytes)
near_is None s at near same is = none_some s.bytes same
near_is (Some v) s at near same is = is ∙ ap (λ (l : List ℕ). min at (length l)) (some_is v.items s.bytes same)

pub comes_within : (m n : Tree) (f : FileId) (at near : ℕ) (bytes : List ℕ) (done : Bool) → IfSome (tree.get file_cmp m f) (λ v. near ≡ min at (length v.items)) → ComesTo m n (after_write f near bytes done) → ComesTo m n (after_write f at bytes done)
comes_within m n f at near bytes done is comes a has q = comes a has q ∙ moved (get a.files f) refl
  where
    moved : (o : Option FileState) → get a.files f ≡ o → content_at (with_changed_file f (written_file near bytes done) o a).files q ≡ content_at (with_changed_file f (written_file at bytes done) o a).files q
    moved None here = refl
    moved (Some s) here = content_alike a.files f (written_file near bytes done s) (written_file at bytes done s) q (alike_written at near bytes done s (near_is (tree.get file_cmp m f) s at near (has f ∙ ap bytes_of here) is))

-- the two lengths of a content
pub clip_within : (o : Option (Vec ℕ Global)) (at size near : ℕ) → near ≡ min at size → IfSome o (λ v. size ≡ vec_len v) → IfSome o (λ v. near ≤ vec_len v)
clip_within None at size near is same = tt
clip_within (Some v) at size near is same = omega (arith, is, same)

pub clip_is : (o : Option (Vec ℕ Global)) (at size near : ℕ) → near ≡ min at size → IfSome o (λ v. size ≡ vec_len v) → IfSome o (λ v. near ≡ min at (length v.items))
clip_is None at size near is same = tt
clip_is (Some v) at size near is same = omega (arith, is, same, v.ok.0)

-- an event that is known
pub redoes_as : {T E : Type 0} (r : Result T E) (pick : Pick) (old new : Remains) (x e : Event) → x ≡ e → OnOk r (Redoes (step e) (left_after pick e) old new) → OnOk r (Redoes (step x) (left_after pick x) old new)
redoes_as r pick old new x e is does = subst (λ y. OnOk r (Redoes (step y) (left_after pick y) old new)) (sym is) does

pub redoes_is : (pick : Pick) (old new : Remains) (x e : Event) → x ≡ e → Redoes (step e) (left_after pick e) old new → Redoes (step x) (left_after pick x) old new
redoes_is pick old new x e is does = subst (λ y. Redoes (step y) (left_after pick y) old new) (sym is) does

-- the same of one that is complete
pub completes_as : {T E : Type 0} (r : Result T E) (pick : Pick) (old new : Remains) (x e : Event) → x ≡ e → OnOk r (Redoes (step (completed e)) (left_after pick (completed e)) old new)
    → OnOk r (Redoes (step (completed x)) (left_after pick (completed x)) old new)
completes_as r pick old new x e is does = subst (λ y. OnOk r (Redoes (step (completed y)) (left_after pick (completed y)) old new)) (sym is) does

pub completes_is : (pick : Pick) (old new : Remains) (x e : Event) → x ≡ e → Redoes (step (completed e)) (left_after pick (completed e)) old new → Redoes (step (completed x)) (left_after pick (completed x)) old new
completes_is pick old new x e is does = subst (λ y. Redoes (step (completed y)) (left_after pick (completed y)) old new) (sym is) does

-- the event that is stopped, where it counts as done
pub redoes_last : {T E : Type 0} (r : Result T E) (pick : Pick) (old new : Remains) (e : Event) → counts_as_done pick e ≡ true → OnOk r (Redoes (step (completed e)) (left_after pick (completed e)) old new)
    → OnOk r (RedoesAll pick (last_done pick e) old new)
redoes_last r pick old new e done does = subst (λ b. OnOk r (RedoesAll pick (cond b (completed e ∷ []) []) old new)) (sym done) does

-- after one event more
pub follows_next : (pick : Pick) (old new : Remains) (es : List Event) (n : ℕ) (e : Event) → slice_get es n ≡ Some e → Redoes (step e) (left_after pick e) old new
    → Follows old (replay start (take n es)) (left_replay pick start start (take n es)) → Follows new (replay start (take (n + 1) es)) (left_replay pick start start (take (n + 1) es))
follows_next pick old new es n e there does was =
    subst (λ (l : List Event). Follows new (replay start l) (left_replay pick start start l)) (sym (ap (λ k. take k es) (add-one n) ∙ take_next es n e there))
    (subst (λ a. Follows new a (left_replay pick start start (take n es ++ e ∷ []))) (sym (after_push start (take n es) e))
    (subst (λ l. Follows new (step e (replay start (take n es))) l) (sym (left_push pick (take n es) e start start)) (does (replay start (take n es)) (left_replay pick start start (take n es)) was)))

replay_append : (es fs : List Event) (a : Account) → replay a (es ++ fs) ≡ replay (replay a es) fs
replay_append [] fs a = refl
replay_append (e ∷ es) fs a = replay_append es fs (step e a)

left_append : (pick : Pick) (es fs : List Event) (a l : Account) → left_replay pick a l (es ++ fs) ≡ left_replay pick (replay a es) (left_replay pick a l es) fs
left_append pick [] fs a l = refl
left_append pick (e ∷ es) fs a l = left_append pick es fs (step e a) (left_after pick e a l)

pub follows_all : (pick : Pick) (old new : Remains) (es fs : List Event) → RedoesAll pick fs old new → Follows old (replay start es) (left_replay pick start start es)
    → Follows new (replay start (es ++ fs)) (left_replay pick start start (es ++ fs))
follows_all pick old new es fs does was =
    subst (λ a. Follows new a (left_replay pick start start (es ++ fs))) (sym (replay_append es fs start))
    (subst (λ l. Follows new (replay (replay start es) fs) l) (sym (left_append pick es fs start start)) (does (replay start es) (left_replay pick start start es) was))

-- a site that begins with what is left
pub begins_within : {E : Type 0} (es : List Event) (number place : ℕ) (e : Event) (pick : Pick) (remains : Remains) (told : List ℕ) (r : Result MemoryState E) → IsCallAt es number place e
    → Follows remains (replay start (happened pick es e place)) (left_at pick es e place) → told ≡ remains.told.items
    → IfOk r (λ s. HasContents remains.left (account_of s).files) → IfOk r (λ s. (account_of s).told ≡ told) → IfOk r (λ s. LeftWithin es number pick (account_of s))
begins_within es number place e pick remains told (Ok s) call follows told_is contents told_here =
    is_left_within es number place e pick (account_of s) call (λ q. sym (contents q) ∙ follows.left q) (told_here ∙ told_is ∙ follows.told)
begins_within es number place e pick remains told (Err x) call follows told_is contents told_here = tt
