-- A crash within a call, and the moments that it is among.
use Rattle.std.proofs.Common.{◌≡◌, ◌⊎◌, inl, inr, ℕ, zero, suc, ◌+◌, ◌<◌, Bool, true, false, cond, List, [], ◌∷◌, ◌++◌, length, take, drop, slice_get, filter_map, option_to_list, is_some, length-append, Option, Some, None, IsSome, Vec, refl, sym, ◌∙◌, ap, subst, arith, add-one}
use Rattle.pg_disk.specs.declared.file_id.FileId.{FileId}
use Rattle.pg_disk.specs.declared.call_record.Event.{Event}
use Rattle.pg_disk.specs.declared.call_record.Event.TheVariants as event
use Rattle.pg_disk.specs.declared.call_record.CallKind.{CallKind}
use Rattle.pg_disk.specs.declared.crash.Pick.{Pick}
use Rattle.std.specs.declared.alloc.Global.{Global}
use Rattle.std.specs.Map.{lookup}
use Rattle.std.specs.Ordering.{eq_by_cmp}
use Rattle.std.proofs.lemmas.Cmp.{eq_by_cmp_equiv}
use Rattle.std.proofs.lemmas.List.{append-nil}
use Rattle.pg_disk.specs.Account.{FileState, Account, IsQuiet}
use Rattle.pg_disk.specs.Contents.{content_at, HasContents}
use Rattle.pg_disk.specs.Crash.{IsCallAt, IsAtRest, LeftWithin}
use Rattle.pg_disk.specs.Events.{call_of}
use Rattle.pg_disk.specs.Files.{Files, file_cmp}
use Rattle.pg_disk.specs.Image.{IsLeftAt, Leaves}
use Rattle.pg_disk.specs.Left.{counts_as_done, happened, left_at, left_replay}
use Rattle.pg_disk.specs.Reads.{reads}
use Rattle.pg_disk.specs.Replay.{start, step, completed, replay, quiet_file, after_put, after_told, written_file, synced_file, LeftIn, LeftSince}
use Rattle.std.specs.BTreeMap as tree
use Rattle.pg_disk.proofs.CompleteLemmas.{call_completed}
use Rattle.pg_disk.proofs.ContentLemmas.{Tree, Held, items_of, bytes_of}
use Rattle.pg_disk.proofs.Effects.{honest, told_changed, told_created, told_removed, eq_from_true}
use Rattle.pg_disk.specs.Recorded.{Recorded}
use Rattle.pg_disk.proofs.FileOrder.{files_total}
use Rattle.pg_disk.proofs.SiteLemmas.{account_after, calls_after, emits_after}
use Rattle.pg_disk.proofs.EventLemmas.{calls_push}
use Rattle.pg_disk.proofs.LeftLemmas.{left_is_left}
use Rattle.pg_disk.proofs.PushLemmas.{after_push}
use Rattle.pg_disk.proofs.ReadLemmas.{get-reads}
use Rattle.std.specs.FinMap.{get, insert, empty, get-empty, get-insert}

none_is : {X A : Type 0} (x : A) → None ≡ Some x → X
none_is x e = cc

some_is : {X : Type 0} (x y : X) → Some x ≡ Some y → x ≡ y
some_is x y e = cc

pub take_next : (es : List Event) (n : ℕ) (e : Event) → slice_get es n ≡ Some e → take (suc n) es ≡ take n es ++ e ∷ []
take_next [] n e is = none_is e is
take_next (x ∷ es) zero e is = ap (λ (y : Event). y ∷ []) (some_is x e is)
take_next (x ∷ es) (suc n) e is = ap (λ (l : List Event). x ∷ l) (take_next es n e is)

-- a call tells nothing
told_of_call : (e : Event) (a : Account) → IsSome (call_of e) → (step e a).told ≡ a.told
told_of_call event.List a is = refl
told_of_call (event.Length f) a is = refl
told_of_call (event.Read f count) a is = refl
told_of_call (event.Write f at bytes done) a is = told_changed f (written_file at bytes.items done) a (get a.files f)
told_of_call (event.Sync f done) a is = told_changed f (synced_file done) a (get a.files f)
told_of_call (event.Create f done) a is = told_created f done a
told_of_call (event.Remove f done) a is = told_removed f done a
told_of_call (event.Emit bytes done) a is = absurd (cc)
told_of_call (event.Put f bytes) a is = absurd (cc)
told_of_call (event.Told bytes) a is = absurd (cc)

first_in : (a : Account) (es : List Event) (c : Files) (b : List ℕ) → Leaves (Some a) c b → LeftIn a es c b
first_in a [] c b now = now
first_in a (e ∷ es) c b now = inl now

-- where the next event is complete
whole_in : (a : Account) (es : List Event) (t : ℕ) (e : Event) (c : Files) (b : List ℕ) → slice_get es t ≡ Some e → Leaves (Some (step (completed e) (replay a (take t es)))) c b → LeftIn (replay a (take t es)) (drop t es) c b
whole_in a [] t e c b is whole = none_is e is
whole_in a (x ∷ es) zero e c b is whole = inr (inl (subst (λ y. Leaves (Some (step (completed y) a)) c b) (sym (some_is x e is)) whole))
whole_in a (x ∷ es) (suc t) e c b is whole = whole_in (step x a) es t e c b is whole

since_either : (es : List Event) (t : ℕ) (e : Event) (c : Files) (b : List ℕ) → slice_get es t ≡ Some e
    → Leaves (Some (replay start (take t es))) c b ⊎ Leaves (Some (step (completed e) (replay start (take t es)))) c b → LeftSince es t c b
since_either es t e c b is (inl before) = first_in (replay start (take t es)) (drop t es) c b before
since_either es t e c b is (inr whole) = whole_in start es t e c b is whole

-- files with what is left are an image
leaves_left : (pick : Pick) (es : List Event) (new : Account) → ((f : FileId) → content_at new.files f ≡ content_at (left_replay pick start start es).files f) → new.told ≡ (replay start es).told
    → Leaves (Some (replay start es)) (reads new.files) new.told
leaves_left pick es new has told = record {
  honest = honest es;
  image = λ f. subst (λ o. IsLeftAt (get (replay start es).files f) o) (sym (get-reads new.files f ∙ has f)) (left_is_left pick es f);
  told = told;
}

-- the call that is stopped tells nothing
told_until : (es : List Event) (e : Event) → IsSome (call_of e) → (done : Bool) → (replay start (es ++ cond done (completed e ∷ []) [])).told ≡ (replay start es).told
told_until es e is true = ap (λ (a : Account). a.told) (after_push start es (completed e)) ∙ told_of_call (completed e) (replay start es) (subst (λ (o : Option CallKind). IsSome o) (sym (call_completed e)) is)
told_until es e is false = ap (λ (l : List Event). (replay start l).told) (append-nil es)

either : (es : List Event) (e : Event) (c : Files) (b : List ℕ) (done : Bool) → Leaves (Some (replay start (es ++ cond done (completed e ∷ []) []))) c b
    → Leaves (Some (replay start es)) c b ⊎ Leaves (Some (step (completed e) (replay start es))) c b
either es e c b true left = inr (subst (λ a. Leaves (Some a) c b) (after_push start es (completed e)) left)
either es e c b false left = inl (subst (λ (l : List Event). Leaves (Some (replay start l)) c b) (append-nil es) left)

pub is_left_within : (es : List Event) (number place : ℕ) (e : Event) (pick : Pick) (new : Account) → IsCallAt es number place e
    → ((f : FileId) → content_at new.files f ≡ content_at (left_at pick es e place).files f) → new.told ≡ (replay start (happened pick es e place)).told → LeftWithin es number pick new
is_left_within es number place e pick new call has told =
    let done = counts_as_done pick e in
    let two = either (take place es) e (reads new.files) new.told done (leaves_left pick (happened pick es e place) new has told) in
    record {
      place = place;
      event = e;
      call = call;
      told = told ∙ told_until (take place es) e call.is_call done;
      contents = has;
      left = two;
      since = since_either es place e (reads new.files) new.told call.there two;
    }

-- what the tree has, and else what the files have
abbrev or_else : Option (List ℕ) → Option (List ℕ) → Option (List ℕ)
or_else None p = p
or_else (Some x) p = Some x

-- of all contents, those that are no more in the first tree are in the files
abbrev pub Merges : Tree → Held → Tree → Type 0
Merges left files all = (q : FileId) → or_else (items_of (tree.get file_cmp left q)) (content_at files q) ≡ items_of (tree.get file_cmp all q)

-- a site that is to have all contents, and lacks those that are left
pub record Begins (es : List Event) (left all : Tree) : Type 0 where
  pub rest : IsAtRest es
  pub untold : (replay start es).told ≡ []
  pub merges : Merges left (replay start es).files all

or_nothing : (o p : Option (List ℕ)) → p ≡ None → or_else o p ≡ o
or_nothing None p is = is
or_nothing (Some x) p is = refl

no_file : {X : Type 0} (q : FileId) (s : FileState) → get {R = file_cmp} empty q ≡ Some s → X
no_file q s is = none_is s (sym (get-empty file_cmp q) ∙ is)

pub begins_none : (es : List Event) (all : Tree) → es ≡ [] → Begins es all all
begins_none es all none = subst (λ (l : List Event). Begins l all all) (sym none) (record {
  rest = record { quiet = λ f s is. no_file f s is; calls = refl; emits = refl };
  untold = refl;
  merges = λ q. or_nothing (items_of (tree.get file_cmp all q)) (content_at start.files q) (ap bytes_of (get-empty file_cmp q));
})

quiet_put : (files : Held) (f : FileId) (bytes : List ℕ) → ((q : FileId) (s : FileState) → get files q ≡ Some s → IsQuiet s) → (q : FileId) (s : FileState) → get (insert files f (quiet_file bytes)) q ≡ Some s → IsQuiet s
quiet_put files f bytes quiet q s is = by (eq_by_cmp file_cmp q f) (sym (get-insert files_total files f (quiet_file bytes) q) ∙ is)
  where
    same : (t : FileState) → Some t ≡ Some s → t ≡ s
    same t e = cc

    by : (b : Bool) → cond b (Some (quiet_file bytes)) (get files q) ≡ Some s → IsQuiet s
    by true e = subst IsQuiet (same (quiet_file bytes) e) (record { synced = refl; greatest = refl; ranges = refl })
    by false e = quiet q s e

-- a content goes from the tree to the files
merges_put : (left next all : Tree) (files : Held) (f : FileId) (v : Vec ℕ Global) (bytes : List ℕ) → v.items ≡ bytes → tree.get file_cmp left f ≡ Some v → tree.Updates file_cmp left next f None
    → Merges left files all → Merges next (insert files f (quiet_file bytes)) all
merges_put left next all files f v bytes is there updates merges q =
    ap (λ o. or_else (items_of o) (content_at (insert files f (quiet_file bytes)) q)) (updates.0 q ∙ ap (λ b. cond b None (tree.get file_cmp left q)) ((eq_by_cmp_equiv files_total).symm f q))
    ∙ ap (λ o. or_else (items_of (cond (eq_by_cmp file_cmp q f) None (tree.get file_cmp left q))) (bytes_of o)) (get-insert files_total files f (quiet_file bytes) q)
    ∙ by (eq_by_cmp file_cmp q f) refl ∙ merges q
  where
    by : (b : Bool) → eq_by_cmp file_cmp q f ≡ b → or_else (items_of (cond b None (tree.get file_cmp left q))) (bytes_of (cond b (Some (quiet_file bytes)) (get files q))) ≡ or_else (items_of (tree.get file_cmp left q)) (content_at files q)
    by true e =
        let here : tree.get file_cmp left q ≡ Some v = ap (tree.get file_cmp left) (eq_from_true f q e) ∙ there in
        ap Some (sym is) ∙ ap (λ o. or_else (items_of o) (content_at files q)) (sym here)
    by false e = refl

pub begins_put : (old new : List Event) (left next all : Tree) (f : FileId) (v : Vec ℕ Global) (bytes : List ℕ) → v.items ≡ bytes → tree.get file_cmp left f ≡ Some v → tree.Updates file_cmp left next f None
    → Recorded old new None false (after_put f bytes) → Begins old left all → Begins new next all
begins_put old new left next all f v bytes is there updates recorded begins =
    let e : replay start new ≡ after_put f bytes (replay start old) = account_after old new None false (after_put f bytes) recorded in
    record {
      rest = record {
        quiet = subst (λ (a : Account). (q : FileId) (s : FileState) → get a.files q ≡ Some s → IsQuiet s) (sym e) (quiet_put (replay start old).files f bytes begins.rest.quiet);
        calls = calls_after old new None false (after_put f bytes) recorded ∙ append-nil (filter_map call_of old) ∙ begins.rest.calls;
        emits = emits_after old new None false (after_put f bytes) recorded ∙ omega (arith, begins.rest.emits);
      };
      untold = ap (λ (a : Account). a.told) e ∙ begins.untold;
      merges = subst (λ (a : Account). Merges next a.files all) (sym e) (merges_put left next all (replay start old).files f v bytes is there updates begins.merges);
    }

nothing_left : (left : Tree) (q : FileId) → tree.btree_map_len left ≡ 0 → tree.get file_cmp left q ≡ None
nothing_left left q none = by left.entries none
  where
    by : (es : List (FileId × Vec ℕ Global)) → length es ≡ 0 → lookup (tree.is_at (file_cmp q)) es ≡ None
    by [] none = refl
    by (e ∷ es) none = absurd (omega (arith, none))

module _ (old new : List Event) (left all : Tree) (bytes : List ℕ) (recorded : Recorded old new None false (after_told bytes)) (begins : Begins old left all) where
  after : replay start new ≡ after_told bytes (replay start old)
  after = account_after old new None false (after_told bytes) recorded

  pub begun_rest : IsAtRest new
  begun_rest = record {
    quiet = subst (λ (a : Account). (q : FileId) (s : FileState) → get a.files q ≡ Some s → IsQuiet s) (sym after) begins.rest.quiet;
    calls = calls_after old new None false (after_told bytes) recorded ∙ append-nil (filter_map call_of old) ∙ begins.rest.calls;
    emits = emits_after old new None false (after_told bytes) recorded ∙ omega (arith, begins.rest.emits);
  }

  pub begun_told : (replay start new).told ≡ bytes
  begun_told = ap (λ (a : Account). a.told) after ∙ ap (λ (l : List ℕ). l ++ bytes) begins.untold

  pub begun_contents : tree.btree_map_len left ≡ 0 → HasContents all (replay start new).files
  begun_contents none = subst (λ (a : Account). HasContents all a.files) (sym after) (λ q. sym (begins.merges q) ∙ ap (λ o. or_else (items_of o) (content_at (replay start old).files q)) (nothing_left left q none))

pub none_below : (n : ℕ) → (0 < n → ⊥) → n ≡ 0
none_below zero never = refl
none_below (suc n) never = absurd (never (omega arith))

-- the calls among one event more
pub calls_to : (es : List Event) (n : ℕ) (e : Event) → slice_get es n ≡ Some e → length (filter_map call_of (take (n + 1) es)) ≡ length (filter_map call_of (take n es)) + length (option_to_list (call_of e))
calls_to es n e there =
    ap (λ (l : List Event). length (filter_map call_of l)) (ap (λ k. take k es) (add-one n) ∙ take_next es n e there) ∙ ap length (calls_push (take n es) e) ∙ length-append (filter_map call_of (take n es)) (option_to_list (call_of e))

one_if : (o : Option CallKind) → length (option_to_list o) ≡ cond (is_some o) 1 0
one_if None = refl
one_if (Some x) = refl

-- so many calls up to a place, with the event at it
pub counts_to : (es : List Event) (n k : ℕ) (e : Event) (o : Option CallKind) (b : Bool) → slice_get es n ≡ Some e → o ≡ call_of e → b ≡ is_some o → k ≡ length (filter_map call_of (take n es)) → k + cond b 1 0 ≡ length (filter_map call_of (take (n + 1) es))
counts_to es n k e o b there is test was =
    ap (λ m. m + cond b 1 0) was ∙ ap (λ t. length (filter_map call_of (take n es)) + cond t 1 0) (test ∙ ap is_some is) ∙ ap (λ m. length (filter_map call_of (take n es)) + m) (sym (one_if (call_of e))) ∙ sym (calls_to es n e there)
