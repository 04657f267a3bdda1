-- What each event does to the account, as the trait says it.
use Rattle.std.proofs.Common.{◌≡◌, ◌⊎◌, inl, inr, ⊎_elim, ℕ, ◌+◌, ◌-◌, ◌≤◌, ◌<◌, min, Bool, true, false, cond, List, [], ◌∷◌, ◌++◌, length, take, drop, get_or, Option, Some, None, refl, sym, ◌∙◌, ap, subst, arith, length-append, length-drop, length-take}
use Rattle.std.proofs.lemmas.List.{append-nil, get_or-take, get_or-drop, get_or_append_left, get_or-append_right, get_or-append-add, length-take-le}
use Rattle.std.specs.Cmp.{Equal-is}
use Rattle.std.specs.Ordering.{eq_by_cmp}
use Rattle.std.specs.FinMap.{FinMap, get, insert, remove, get-empty, get-insert, get-remove}
use Rattle.pg_disk.specs.declared.file_id.FileId.{FileId}
use Rattle.pg_disk.specs.Files.{file_cmp, Files}
use Rattle.pg_disk.specs.Account.{FileState, Account, IsHonest, IsSound}
use Rattle.pg_disk.specs.Contents.{content_at}
use Rattle.pg_disk.specs.Image.{IsLeft, IsLeftAt, Leaves, LeavesAt, LeavesPrefix, MayBeCreated, MayBeRemoved}
use Rattle.pg_disk.specs.Calls.{ChangesFile, Reads, Emits, There, Holds, Wrote, Synced, Created, Removed, fresh}
use Rattle.pg_disk.specs.declared.call_record.Event.{Event}
use Rattle.pg_disk.specs.declared.call_record.Event.TheVariants as event
use Rattle.pg_disk.specs.Replay.{overwritten_content, written_file, quiet_file, synced_file, with_changed_file, after_read, after_sync, after_create, after_remove, after_emit, step, replay, start}
use Rattle.pg_disk.proofs.FileOrder.{files_total, files_exact, get_inserted, get_beside, get_removed, get_kept}
use Rattle.pg_disk.proofs.ContentLemmas.{content_stays}

abbrev pub AllSound : Account → Type 0
AllSound a = (f : FileId) (s : FileState) → get a.files f ≡ Some s → IsSound s

pub length-overwritten : (at : ℕ) (bytes old : List ℕ) → length (overwritten_content at bytes old) ≡ min at (length old) + (length bytes + (length old - (at + length bytes)))
length-overwritten at bytes old = omega (arith, length-append (take at old) (bytes ++ drop (at + length bytes) old), length-append bytes (drop (at + length bytes) old), length-take at old, length-drop (at + length bytes) old)

sound_written : (at : ℕ) (bytes : List ℕ) (ok : Bool) (s : FileState) → IsSound s → IsSound (written_file at bytes ok s)
sound_written at bytes true s sound = record { no_shorter = omega (arith, length-overwritten at bytes s.bytes, sound.no_shorter); no_longer = omega (arith, length-overwritten at bytes s.bytes, sound.no_longer) }
sound_written at bytes false s sound = record { no_shorter = sound.no_shorter; no_longer = omega (arith, sound.no_longer) }

sound_synced : (ok : Bool) (s : FileState) → IsSound s → IsSound (synced_file ok s)
sound_synced true s sound = record { no_shorter = omega arith; no_longer = omega arith }
sound_synced false s sound = sound

some_is : {X : Type 0} (x y : X) → Some x ≡ Some y → x ≡ y
some_is x y e = cc

put_sound : (m : FinMap file_cmp FileState) (f : FileId) (t : FileState) → ((q : FileId) (s : FileState) → get m q ≡ Some s → IsSound s) → IsSound t → (q : FileId) (s : FileState) → get (insert m f t) q ≡ Some s → IsSound s
put_sound m f t sound now q s is = by (eq_by_cmp file_cmp q f) (sym (get-insert files_total m f t q) ∙ is)
  where
    by : (b : Bool) → cond b (Some t) (get m q) ≡ Some s → IsSound s
    by true e = subst IsSound (some_is t s e) now
    by false e = sound q s e

cut_sound : (m : FinMap file_cmp FileState) (f : FileId) → ((q : FileId) (s : FileState) → get m q ≡ Some s → IsSound s) → (q : FileId) (s : FileState) → get (remove m f) q ≡ Some s → IsSound s
cut_sound m f sound q s is = by (eq_by_cmp file_cmp q f) (sym (get-remove files_total m f q) ∙ is)
  where
    by : (b : Bool) → cond b None (get m q) ≡ Some s → IsSound s
    by true e = cc
    by false e = sound q s e

sound_changed : (f : FileId) (change : FileState → FileState) → ((s : FileState) → IsSound s → IsSound (change s)) → (a : Account) (o : Option FileState) → get a.files f ≡ o → AllSound a → AllSound (with_changed_file f change o a)
sound_changed f change then a None is sound = sound
sound_changed f change then a (Some s) is sound = put_sound a.files f (change s) sound (then s (sound f s is))

pub sound_step : (x : Event) (a : Account) → AllSound a → AllSound (step x a)
sound_step (event.Write f at bytes ok) a sound = sound_changed f (written_file at bytes.items ok) (sound_written at bytes.items ok) a (get a.files f) refl sound
sound_step (event.Sync f ok) a sound = sound_changed f (synced_file ok) (sound_synced ok) a (get a.files f) refl sound
sound_step (event.Create f true) a sound = put_sound a.files f fresh sound (record { no_shorter = omega arith; no_longer = omega arith })
sound_step (event.Create f false) a sound = sound
sound_step (event.Remove f true) a sound = cut_sound a.files f sound
sound_step (event.Remove f false) a sound = sound
sound_step (event.Emit bytes ok) a sound = sound
sound_step (event.Put f bytes) a sound = put_sound a.files f (quiet_file bytes.items) sound (record { no_shorter = omega arith; no_longer = omega arith })
sound_step (event.Told bytes) a sound = sound
sound_step event.List a sound = sound
sound_step (event.Length f) a sound = sound
sound_step (event.Read f count) a sound = sound

sound_after : (a : Account) (xs : List Event) → AllSound a → AllSound (replay a xs)
sound_after a [] sound = sound
sound_after a (x ∷ xs) sound = sound_after (step x a) xs (sound_step x a sound)

none_some : {X Y : Type 0} (x : X) → None ≡ Some x → Y
none_some x e = cc

pub honest : (es : List Event) → IsHonest (Some (replay start es))
honest es = record { tells = refl; sound = sound_after start es (λ f s is. none_some s (sym (get-empty file_cmp f) ∙ is)) }

-- a write
holds_overwritten : (at : ℕ) (bytes old : List ℕ) → at ≤ length old → Holds (overwritten_content at bytes old) at bytes
holds_overwritten at bytes old le = record {
  within = omega (arith, length-overwritten at bytes old, le);
  each = λ i lt.
      let size : length (take at old) ≡ at = length-take-le at old le in
      ap (λ n. get_or (overwritten_content at bytes old) (n + i) 0) (sym size) ∙ get_or-append-add (take at old) (bytes ++ drop (at + length bytes) old) i 0 ∙ get_or_append_left bytes _ 0 i lt;
}

pub outside_overwritten : (at : ℕ) (bytes old : List ℕ) → at ≤ length old → (i : ℕ) → i < length old → (i < at) ⊎ (at + length bytes ≤ i) → get_or (overwritten_content at bytes old) i 0 ≡ get_or old i 0
outside_overwritten at bytes old le i lt (inl low) =
    let size : length (take at old) ≡ at = length-take-le at old le in
    get_or_append_left (take at old) _ 0 i (omega (arith, size, low)) ∙ get_or-take at old i 0 low
outside_overwritten at bytes old le i lt (inr high) =
    let size : length (take at old) ≡ at = length-take-le at old le in
    get_or-append_right (take at old) (bytes ++ drop (at + length bytes) old) at i 0 size (omega (arith, high))
    ∙ get_or-append_right bytes (drop (at + length bytes) old) (length bytes) (i - at) 0 refl (omega (arith, high))
    ∙ get_or-drop (at + length bytes) old (i - at - length bytes) 0 ∙ ap (λ n. get_or old n 0) (omega (arith, high))

pub wrote_is : (at : ℕ) (bytes : List ℕ) (ok : Bool) (s : FileState) → at ≤ length s.bytes → Wrote at bytes ok s (written_file at bytes ok s)
wrote_is at bytes true s le = record {
  synced = refl;
  greatest = omega arith;
  ranges = λ i within. ⊎_elim (λ new. inr new) (λ old. inl old) within;
  no_shorter = omega (arith, length-overwritten at bytes s.bytes, le);
  no_longer = omega (arith, length-overwritten at bytes s.bytes, le);
  outside = outside_overwritten at bytes s.bytes le;
  written = λ _. holds_overwritten at bytes s.bytes le;
}
wrote_is at bytes false s le = record {
  synced = refl;
  greatest = omega arith;
  ranges = λ i within. ⊎_elim (λ new. inr new) (λ old. inl old) within;
  no_shorter = omega arith;
  no_longer = omega arith;
  outside = λ i lt where_. refl;
  written = λ e. cc;
}

pub wrote_none : (at : ℕ) (bytes : List ℕ) (s : FileState) → Wrote at bytes false s s
wrote_none at bytes s = record { synced = refl; greatest = omega arith; ranges = λ i within. inl within; no_shorter = omega arith; no_longer = omega arith; outside = λ i lt where_. refl; written = λ e. cc }

pub synced_is : (ok : Bool) (s : FileState) → Synced ok s (synced_file ok s)
synced_is true s = record { bytes = refl; done = λ _. (refl, refl, refl); pending = λ never. absurd (never refl) }
synced_is false s = record { bytes = refl; done = λ e. cc; pending = λ _. refl }

-- a change of a file that is there
pub changed_is : (f : FileId) (change : FileState → FileState) (step : FileState → FileState → Type 0) (a : Account) (s : FileState) → get a.files f ≡ Some s → step s (change s)
    → ChangesFile f (There step) a (with_changed_file f change (get a.files f) a)
changed_is f change step a s is does = subst (λ o. ChangesFile f (There step) a (with_changed_file f change o a)) (sym is) (record {
  told = refl;
  taken = refl;
  others = λ q ne. get_beside a.files f q (change s) ne;
  change = subst (λ o. There step o (get (insert a.files f (change s)) f)) (sym is) (subst (λ o. There step (Some s) o) (sym (get_inserted a.files f (change s))) does);
})

-- no change of a file
pub same_file : (f : FileId) (S : Option FileState → Option FileState → Type 0) (a : Account) → S (get a.files f) (get a.files f) → ChangesFile f S a a
same_file f S a none = record { told = refl; taken = refl; others = λ q ne. refl; change = none }

pub there_same : (step : FileState → FileState → Type 0) (o : Option FileState) (s : FileState) → o ≡ Some s → step s s → There step o o
there_same step o s is does = subst (λ u. There step u u) (sym is) does

-- what a sync leaves, it might have left before
left_synced : (ok : Bool) (s : FileState) (left : List ℕ) → IsSound s → IsLeft (synced_file ok s) left → IsLeft s left
left_synced true s left sound is = record {
  no_shorter = omega (arith, is.no_shorter, sound.no_shorter);
  no_longer = omega (arith, is.no_longer, sound.no_longer);
  as_read = λ i lt clear. is.as_read i (omega (arith, lt, sound.no_shorter)) (λ none. none);
}
left_synced false s left sound is = is

pub eq_from_true : (f q : FileId) → eq_by_cmp file_cmp q f ≡ true → q ≡ f
eq_from_true f q e = files_exact q f ((Equal-is (file_cmp q f)).0 e)

left_changed : (f : FileId) (change : FileState → FileState) (a : Account) (o : Option FileState) → get a.files f ≡ o → ((s : FileState) (left : List ℕ) → get a.files f ≡ Some s → IsLeft (change s) left → IsLeft s left)
    → (q : FileId) (left : Option (List ℕ)) → IsLeftAt (get (with_changed_file f change o a).files q) left → IsLeftAt (get a.files q) left
left_changed f change a None is then q left at = at
left_changed f change a (Some s) is then q left at = by (eq_by_cmp file_cmp q f) refl (subst (λ u. IsLeftAt u left) (get-insert files_total a.files f (change s) q) at)
  where
    here : (left : Option (List ℕ)) → IsLeftAt (Some (change s)) left → IsLeftAt (Some s) left
    here None at = at
    here (Some l) at = then s l is at

    by : (b : Bool) → eq_by_cmp file_cmp q f ≡ b → IsLeftAt (cond b (Some (change s)) (get a.files q)) left → IsLeftAt (get a.files q) left
    by true e at = subst (λ u. IsLeftAt u left) (sym (ap (get a.files) (eq_from_true f q e) ∙ is)) (here left at)
    by false e at = at

pub told_changed : (f : FileId) (change : FileState → FileState) (a : Account) (o : Option FileState) → (with_changed_file f change o a).told ≡ a.told
told_changed f change a None = refl
told_changed f change a (Some s) = refl

pub leaves_synced : (es : List Event) (f : FileId) (ok : Bool) (c : Files) (b : List ℕ) → Leaves (Some (after_sync f ok (replay start es))) c b → Leaves (Some (replay start es)) c b
leaves_synced es f ok c b left =
    let a = replay start es in
    record {
      honest = honest es;
      image = λ q. left_changed f (synced_file ok) a (get a.files f) refl (λ s l is. left_synced ok s l ((honest es).sound f s is)) q (get c q) (left.image q);
      told = left.told ∙ told_changed f (synced_file ok) a (get a.files f);
    }

-- a create
pub created_is : (f : FileId) (ok : Bool) (a : Account) → ChangesFile f (Created ok) a (after_create f ok a)
created_is f true a = record { told = refl; taken = refl; others = λ q ne. get_beside a.files f q fresh ne; change = inl (get_inserted a.files f fresh) }
created_is f false a = record { told = refl; taken = refl; others = λ q ne. refl; change = inr (λ e. cc, refl) }

left_fresh : (was : Option FileState) (left : Option (List ℕ)) → IsLeftAt (Some fresh) left → MayBeCreated was left
left_fresh was None at = absurd at
left_fresh was (Some []) at = inr refl
left_fresh was (Some (x ∷ l)) at = absurd (omega (arith, at.no_longer))

left_none : (left : Option (List ℕ)) → IsLeftAt None left → left ≡ None
left_none None at = refl
left_none (Some l) at = absurd at

pub leaves_created : (es : List Event) (f : FileId) (ok : Bool) → get (replay start es).files f ≡ None → (c : Files) (b : List ℕ) → Leaves (Some (after_create f ok (replay start es))) c b → LeavesAt f MayBeCreated (Some (replay start es)) c b
leaves_created es f true none c b left = record {
  honest = honest es;
  others = λ q ne. subst (λ u. IsLeftAt u (get c q)) (get_beside (replay start es).files f q fresh ne) (left.image q);
  left = left_fresh (get (replay start es).files f) (get c f) (subst (λ u. IsLeftAt u (get c f)) (get_inserted (replay start es).files f fresh) (left.image f));
  told = left.told;
}
leaves_created es f false none c b left = record {
  honest = honest es;
  others = λ q ne. left.image q;
  left = inl (left_none (get c f) (subst (λ u. IsLeftAt u (get c f)) none (left.image f)));
  told = left.told;
}

-- a removal
pub removed_is : (f : FileId) (ok : Bool) (a : Account) → ChangesFile f (Removed ok) a (after_remove f ok a)
removed_is f true a = record { told = refl; taken = refl; others = λ q ne. get_kept a.files f q ne; change = inl (get_removed a.files f) }
removed_is f false a = record { told = refl; taken = refl; others = λ q ne. refl; change = inr (λ e. cc, refl) }

pub leaves_removed : (es : List Event) (f : FileId) (ok : Bool) (c : Files) (b : List ℕ) → Leaves (Some (after_remove f ok (replay start es))) c b
    → LeavesAt f MayBeRemoved (Some (replay start es)) c b
leaves_removed es f true c b left = record {
  honest = honest es;
  others = λ q ne. subst (λ u. IsLeftAt u (get c q)) (get_kept (replay start es).files f q ne) (left.image q);
  left = inl (left_none (get c f) (subst (λ u. IsLeftAt u (get c f)) (get_removed (replay start es).files f) (left.image f)));
  told = left.told;
}
leaves_removed es f false c b left = record { honest = honest es; others = λ q ne. left.image q; left = inr (left.image f); told = left.told }

-- a read
pub reads_is : (count : ℕ) (a : Account) → Reads count a (after_read count a)
reads_is count a = record { files = refl; told = refl; taken = refl }

pub reads_none : (a : Account) → Reads 0 a a
reads_none a = record { files = refl; told = refl; taken = omega arith }

pub leaves_read : (es : List Event) (count : ℕ) (c : Files) (b : List ℕ) → Leaves (Some (after_read count (replay start es))) c b → Leaves (Some (replay start es)) c b
leaves_read es count c b left = record { honest = honest es; image = left.image; told = left.told }

-- an emit
take_all : (xs : List ℕ) → take (length xs) xs ≡ xs
take_all [] = refl
take_all (x ∷ xs) = ap (λ (l : List ℕ). x ∷ l) (take_all xs)

pub emits_is : (piece : List ℕ) (ok : Bool) (a : Account) → Emits piece ok a (after_emit piece ok a)
emits_is piece true a = record { files = refl; taken = refl; count = length piece; within = omega arith; told = ap (λ (l : List ℕ). a.told ++ l) (sym (take_all piece)); all = λ _. refl }
emits_is piece false a = record { files = refl; taken = refl; count = 0; within = omega arith; told = sym (append-nil a.told); all = λ e. cc }

pub emits_none : (piece : List ℕ) (a : Account) → Emits piece false a a
emits_none piece a = emits_is piece false a

pub leaves_emitted : (es : List Event) (piece : List ℕ) (ok : Bool) (c : Files) (b : List ℕ) → Leaves (Some (after_emit piece ok (replay start es))) c b → LeavesPrefix piece (Some (replay start es)) c b
leaves_emitted es piece true c b left = record { honest = honest es; image = left.image; count = length piece; within = omega arith; told = left.told ∙ ap (λ (l : List ℕ). (replay start es).told ++ l) (sym (take_all piece)) }
leaves_emitted es piece false c b left = record { honest = honest es; image = left.image; count = 0; within = omega arith; told = left.told ∙ sym (append-nil (replay start es).told) }

-- what failed by its number left each content
pub content_changed : (f : FileId) (change : FileState → FileState) (a : Account) (o : Option FileState) → get a.files f ≡ o → ((s : FileState) → (change s).bytes ≡ s.bytes) → (q : FileId) → content_at (with_changed_file f change o a).files q ≡ content_at a.files q
content_changed f change a None is same q = refl
content_changed f change a (Some s) is same q = sym (content_stays a.files f s (change s) is (same s) q)

pub content_created : (f : FileId) (done : Bool) → done ≡ false → (a : Account) (q : FileId) → content_at (after_create f done a).files q ≡ content_at a.files q
content_created f true is a q = cc
content_created f false is a q = refl

pub told_created : (f : FileId) (done : Bool) (a : Account) → (after_create f done a).told ≡ a.told
told_created f true a = refl
told_created f false a = refl

pub content_removed : (f : FileId) (done : Bool) → done ≡ false → (a : Account) (q : FileId) → content_at (after_remove f done a).files q ≡ content_at a.files q
content_removed f true is a q = cc
content_removed f false is a q = refl

pub told_removed : (f : FileId) (done : Bool) (a : Account) → (after_remove f done a).told ≡ a.told
told_removed f true a = refl
told_removed f false a = refl

pub bytes_unwritten : (at : ℕ) (bytes : List ℕ) (done : Bool) → done ≡ false → (s : FileState) → (written_file at bytes done s).bytes ≡ s.bytes
bytes_unwritten at bytes true is s = cc
bytes_unwritten at bytes false is s = refl
