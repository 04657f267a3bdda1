-- The contents beside the replay.
use Rattle.std.proofs.Common.{◌≡◌, ℕ, Bool, true, false, cond, List, [], ◌∷◌, ◌++◌, Option, Some, None, Result, Ok, Err, OnOk, OnErr, refl, sym, ◌∙◌, ap, subst, arith, Vec, vec_len, length, ◌≤◌}
use Rattle.std.specs.declared.alloc.Global.{Global}
use Rattle.std.specs.Option.{option_map, IfSome}
use Rattle.std.specs.Ordering.{eq_by_cmp}
use Rattle.std.specs.Cmp.{Equal-is}
use Rattle.std.proofs.lemmas.Cmp.{eq_by_cmp_equiv}
use Rattle.std.specs.Map.{lookup}
use Rattle.std.specs.BTreeMap as tree
use Rattle.std.specs.BTreeMap.{BTreeMap}
use Rattle.std.specs.FinMap.{FinMap, get, insert, remove, empty, get-empty, get-insert, get-remove, get_tied}
use Rattle.pg_disk.specs.declared.file_id.FileId.{FileId}
use Rattle.pg_disk.specs.Files.{file_cmp}
use Rattle.pg_disk.specs.Account.{FileState, Account}
use Rattle.pg_disk.specs.Contents.{content_at, HasContents, ComesTo}
use Rattle.pg_disk.specs.declared.call_record.Event.{Event}
use Rattle.pg_disk.specs.Calls.{fresh}
use Rattle.pg_disk.specs.Replay.{start, replay, step, with_changed_file, synced_file, written_file, overwritten_content, quiet_file, unchanged, after_create, after_remove, after_write, after_put}
use Rattle.pg_disk.proofs.FileOrder.{files_total}
use Rattle.pg_disk.proofs.PushLemmas.{by_event}

abbrev pub Tree : Type 0
Tree = BTreeMap FileId (Vec ℕ Global)

abbrev pub Held : Type 0
Held = FinMap file_cmp FileState

abbrev pub items_of : Option (Vec ℕ Global) → Option (List ℕ)
items_of o = option_map (λ v. v.items) o

abbrev pub bytes_of : Option FileState → Option (List ℕ)
bytes_of o = option_map (λ s. s.bytes) o

-- none in the beginning
pub no_contents : (m : Tree) → tree.IsEmpty m → HasContents m empty
no_contents m is = λ f. ap (λ es. items_of (lookup (tree.is_at (file_cmp f)) es)) is ∙ ap bytes_of (sym (get-empty file_cmp f))

by_test : (b : Bool) (v : Vec ℕ Global) (s : FileState) (o : Option (Vec ℕ Global)) (p : Option FileState) → v.items ≡ s.bytes → items_of o ≡ bytes_of p → items_of (cond b (Some v) o) ≡ bytes_of (cond b (Some s) p)
by_test true v s o p same others = ap Some same
by_test false v s o p same others = others

by_none : (b : Bool) (o : Option (Vec ℕ Global)) (p : Option FileState) → items_of o ≡ bytes_of p → items_of (cond b None o) ≡ bytes_of (cond b None p)
by_none true o p others = refl
by_none false o p others = others

-- a content that is put in both
pub put_contents : (m n : Tree) (files : Held) (f : FileId) (v : Vec ℕ Global) (s : FileState) → HasContents m files → tree.Updates file_cmp m n f (Some v) → v.items ≡ s.bytes → HasContents n (insert files f s)
put_contents m n files f v s has updates same = λ q.
    ap items_of (updates.0 q) ∙ by_test (tree.is_at (file_cmp f) q) v s (tree.get file_cmp m q) (get files q) same (has q)
    ∙ ap (λ b. bytes_of (cond b (Some s) (get files q))) ((eq_by_cmp_equiv files_total).symm f q) ∙ sym (ap bytes_of (get-insert files_total files f s q))

-- a content that is taken out of both
pub cut_contents : (m n : Tree) (files : Held) (f : FileId) → HasContents m files → tree.Updates file_cmp m n f None → HasContents n (remove files f)
cut_contents m n files f has updates = λ q.
    ap items_of (updates.0 q) ∙ by_none (tree.is_at (file_cmp f) q) (tree.get file_cmp m q) (get files q) (has q)
    ∙ ap (λ b. bytes_of (cond b None (get files q))) ((eq_by_cmp_equiv files_total).symm f q) ∙ sym (ap bytes_of (get-remove files_total files f q))

here : (b : Bool) (s t : FileState) (o p : Option FileState) → o ≡ Some s → t.bytes ≡ s.bytes → (b ≡ true → p ≡ o) → bytes_of p ≡ bytes_of (cond b (Some t) p)
here true s t o p is same at = ap bytes_of (at refl ∙ is) ∙ ap Some (sym same)
here false s t o p is same at = refl

-- a file that changes, and not its content
pub content_stays : (files : Held) (f : FileId) (s t : FileState) → get files f ≡ Some s → t.bytes ≡ s.bytes → (q : FileId) → content_at files q ≡ content_at (insert files f t) q
content_stays files f s t is same q = here (eq_by_cmp file_cmp q f) s t (get files f) (get files q) is same at ∙ sym (ap bytes_of (get-insert files_total files f t q))
  where
    at : eq_by_cmp file_cmp q f ≡ true → get files q ≡ get files f
    at e = sym (get_tied files_total files q f ((Equal-is (file_cmp q f)).0 e))

pub same_contents : (m : Tree) (files : Held) (f : FileId) (s t : FileState) → HasContents m files → get files f ≡ Some s → t.bytes ≡ s.bytes → HasContents m (insert files f t)
same_contents m files f s t has is same = λ q. has q ∙ content_stays files f s t is same q

pub changed_contents : (m : Tree) (a : Account) (f : FileId) (change : FileState → FileState) (o : Option FileState) → get a.files f ≡ o → HasContents m a.files → ((s : FileState) → (change s).bytes ≡ s.bytes) → HasContents m (with_changed_file f change o a).files
changed_contents m a f change None is has same = has
changed_contents m a f change (Some s) is has same = same_contents m a.files f s (change s) has is (same s)

pub told_changed : {told : List ℕ} (f : FileId) (change : FileState → FileState) (a : Account) (o : Option FileState) → told ≡ a.told → told ≡ (with_changed_file f change o a).told
told_changed f change a None is = is
told_changed f change a (Some s) is = is

pub bytes-synced : (done : Bool) (s : FileState) → (synced_file done s).bytes ≡ s.bytes
bytes-synced true s = refl
bytes-synced false s = refl

pub told-created : {told : List ℕ} (f : FileId) (done : Bool) (a : Account) → told ≡ a.told → told ≡ (after_create f done a).told
told-created f true a is = is
told-created f false a is = is

pub told-removed : {told : List ℕ} (f : FileId) (done : Bool) (a : Account) → told ≡ a.told → told ≡ (after_remove f done a).told
told-removed f true a is = is
told-removed f false a is = is

pub bytes-unwritten : (at : ℕ) (bytes : List ℕ) (s : FileState) → (written_file at bytes false s).bytes ≡ s.bytes
bytes-unwritten at bytes s = refl

-- a tree with the same entries has the same contents
pub still_has : (m n : Tree) (files : Held) → tree.IsUnchanged m n → HasContents m files → HasContents n files
still_has m n files is has = λ q. ap (λ es. items_of (lookup (tree.is_at (file_cmp q)) es)) is ∙ has q

pub comes_created : (m n : Tree) (f : FileId) (v : Vec ℕ Global) (done : Bool) → done ≡ true → v.items ≡ [] → tree.Updates file_cmp m n f (Some v) → ComesTo m n (after_create f done)
comes_created m n f v done is none updates = subst (λ b. ComesTo m n (after_create f b)) (sym is) (λ a has. put_contents m n a.files f v fresh has updates none)

pub comes_removed : (m n : Tree) (f : FileId) (done : Bool) → done ≡ true → tree.Updates file_cmp m n f None → ComesTo m n (after_remove f done)
comes_removed m n f done is updates = subst (λ b. ComesTo m n (after_remove f b)) (sym is) (λ a has. cut_contents m n a.files f has updates)

some_is : {X : Type 0} (x y : X) → Some x ≡ Some y → x ≡ y
some_is x y e = cc

none_some : {X : Type 0} (x : X) → None ≡ Some x → ⊥
none_some x e = cc

pub some_items : (v : Vec ℕ Global) (o : Option (Vec ℕ Global)) (p : Option FileState) → o ≡ Some v → items_of o ≡ bytes_of p → (s : FileState) × (p ≡ Some s) × (s.bytes ≡ v.items)
some_items v o None is same = absurd (none_some v.items (sym same ∙ ap items_of is))
some_items v o (Some s) is same = (s, refl, some_is s.bytes v.items (sym same ∙ ap items_of is))

-- a write that took effect
pub comes_written : (m n : Tree) (f : FileId) (at : ℕ) (bytes : List ℕ) (done : Bool) (v w : Vec ℕ Global) → done ≡ true → tree.get file_cmp m f ≡ Some v → tree.Updates file_cmp m n f (Some w) → w.items ≡ overwritten_content at bytes v.items → ComesTo m n (after_write f at bytes done)
comes_written m n f at bytes done v w took there updates is = subst (λ b. ComesTo m n (after_write f at bytes b)) (sym took) (λ a has.
    let held = some_items v (tree.get file_cmp m f) (get a.files f) there (has f) in
    subst (λ (o : Option FileState). HasContents n (with_changed_file f (written_file at bytes true) o a).files) (sym held.1)
    (put_contents m n a.files f w (written_file at bytes true held.0) has updates (is ∙ ap (overwritten_content at bytes) (sym held.2))))

-- a write that didn't
pub comes_unwritten : (m : Tree) (f : FileId) (at : ℕ) (bytes : List ℕ) (done : Bool) → done ≡ false → ComesTo m m (after_write f at bytes done)
comes_unwritten m f at bytes done is = subst (λ b. ComesTo m m (after_write f at bytes b)) (sym is) (λ a has. changed_contents m a f (written_file at bytes false) (get a.files f) refl has (bytes-unwritten at bytes))

-- a content that was lent and is as before
pub comes_same : (m n : Tree) (f : FileId) (v w : Vec ℕ Global) → tree.get file_cmp m f ≡ Some v → tree.Updates file_cmp m n f (Some w) → w.items ≡ v.items → ComesTo m n unchanged
comes_same m n f v w there updates is = λ a has q.
    let held = some_items v (tree.get file_cmp m f) (get a.files f) there (has f) in
    put_contents m n a.files f w held.0 has updates (is ∙ sym held.2) q ∙ sym (content_stays a.files f held.0 held.0 held.1 refl q)

pub ok_then : {T E P Q : Type 0} (r : Result T E) → (P → Q) → OnOk r P → OnOk r Q
ok_then (Ok x) then is = then is
ok_then (Err x) then is = tt

pub err_then : {T E P Q : Type 0} (r : Result T E) → (P → Q) → OnErr r P → OnErr r Q
err_then (Ok x) then is = tt
err_then (Err x) then is = then is

-- what is put into both
pub comes_put : (m n : Tree) (f : FileId) (v : Vec ℕ Global) (bytes : List ℕ) → v.items ≡ bytes → tree.Updates file_cmp m n f (Some v) → ComesTo m n (after_put f bytes)
comes_put m n f v bytes is updates = λ a has. put_contents m n a.files f v (quiet_file bytes) has updates is

-- the tree goes on with the record
pub contents_by : (m n : Tree) (change : Account → Account) (old mid new : List Event) (e : Event) → mid ≡ old → new ≡ mid ++ e ∷ [] → ((a : Account) → step e a ≡ change a) → ComesTo m n change → HasContents m (replay start old).files → HasContents n (replay start new).files
contents_by m n change old mid new e same pushed does comes has =
    by_event (λ b. HasContents n b.files) old new e (pushed ∙ ap (λ l. l ++ e ∷ []) same) (subst (λ (b : Account). HasContents n b.files) (sym (does (replay start old))) (comes (replay start old) has))

-- what is told goes on with the record
pub told_by : (told : List ℕ) (change : Account → Account) (old mid new : List Event) (e : Event) → mid ≡ old → new ≡ mid ++ e ∷ [] → ((a : Account) → step e a ≡ change a) → told ≡ (change (replay start old)).told → told ≡ (replay start new).told
told_by told change old mid new e same pushed does is =
    by_event (λ b. told ≡ b.told) old new e (pushed ∙ ap (λ l. l ++ e ∷ []) same) (subst (λ (b : Account). told ≡ b.told) (sym (does (replay start old))) is)

-- where a file is there with room up to an offset, its content is
pub room_for : (o : Option (Vec ℕ Global)) (p : Option FileState) (s : FileState) (at : ℕ) → items_of o ≡ bytes_of p → p ≡ Some s → at ≤ length s.bytes → IfSome o (λ v. at ≤ vec_len v)
room_for None p s at same is le = tt
room_for (Some v) None s at same is le = cc
room_for (Some v) (Some t) s at same is le =
    let e : v.items ≡ t.bytes = some_is v.items t.bytes same in
    let d : t ≡ s = some_is t s is in
    omega (arith, v.ok.0, ap length e, ap (λ (u : FileState). length u.bytes) d, le)
