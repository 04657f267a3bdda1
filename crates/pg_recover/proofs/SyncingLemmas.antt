-- Files are synced one after the other.
use Rattle.std.proofs.Common.{◌≡◌, ◌⊎◌, inl, inr, ⊎_elim, ℕ, ◌+◌, ◌<◌, Bool, true, false, List, [], length, get_or, Option, Some, None, refl, sym, ◌∙◌, ap, subst, arith}
use Rattle.std.proofs.lemmas.List.{get_or_default}
use Rattle.std.specs.FinMap.{get}
use Rattle.pg_disk.specs.declared.file_id.FileId.{FileId}
use Rattle.pg_disk.specs.Files.{Files}
use Rattle.pg_disk.specs.Account.{FileState, Account, account, IsHonest, IsQuiet, IsSound, IsQuietAt}
use Rattle.pg_disk.specs.Calls.{Changes, ChangesFile, ReadsNone, There, Synced}
use Rattle.pg_disk.specs.Image.{AnyFile, IsFileThere, IsIn, IsLeftAt, Leaves}
use Rattle.pg_disk.proofs.Composing.{changes_none, changes_then, where_then}
use Rattle.pg_journal.proofs.Order.{same_or_not}
use Rattle.pg_recover.specs.Syncing.{AllNarrow, Narrows, NarrowsAt, SyncsFiles}

narrows_itself : (s : FileState) → Narrows s s
narrows_itself s = record { bytes = refl; quiet = λ quiet. quiet; left = λ bytes left. left }

at_itself : (s : Option FileState) → NarrowsAt s s
at_itself None = tt
at_itself (Some s) = narrows_itself s

narrows_then : (s t u : Option FileState) → NarrowsAt s t → NarrowsAt t u → NarrowsAt s u
narrows_then None None u first second = second
narrows_then None (Some t) u first second = absurd first
narrows_then (Some s) None u first second = absurd first
narrows_then (Some s) (Some t) None first second = second
narrows_then (Some s) (Some t) (Some u) first second = record {
  bytes = second.bytes ∙ first.bytes;
  quiet = λ quiet. second.quiet (first.quiet quiet);
  left = λ bytes left. first.left bytes (second.left bytes left);
}

-- at Ok nothing of the file is pending
quiet_of : (s t : FileState) → Synced true s t → IsQuiet t
quiet_of s t synced =
    let done = synced.done refl in
    let size : length t.bytes ≡ length s.bytes = ap length synced.bytes in
    record { synced = done.0 ∙ sym size; greatest = done.1 ∙ sym size; ranges = done.2 }

in_none : (ranges : List (ℕ × ℕ)) (i : ℕ) → ranges ≡ [] → IsIn ranges i → ⊥
in_none ranges i none is = subst (λ rs. IsIn rs i) none is

synced_narrows : (ok : Bool) (s t : FileState) → IsSound s → Synced ok s t → Narrows s t
synced_narrows true s t sound synced =
    let done = synced.done refl in
    record {
      bytes = synced.bytes;
      quiet = λ quiet. quiet_of s t synced;
      left = λ bytes left. record {
        no_shorter = omega (arith, left.no_shorter, done.0, sound.no_shorter);
        no_longer = omega (arith, left.no_longer, done.1, sound.no_longer);
        as_read = λ i lt clear. left.as_read i (omega (arith, lt, done.0, sound.no_shorter)) (in_none t.ranges i done.2) ∙ ap (λ bs. get_or bs i 0) synced.bytes;
      };
    }
synced_narrows false s t sound synced = subst (λ u. Narrows s u) (sym (synced.pending (λ e. cc))) (narrows_itself s)

at_synced : (ok : Bool) (s t : Option FileState) → ((u : FileState) → s ≡ Some u → IsSound u) → There (Synced ok) s t → NarrowsAt s t
at_synced ok None t sound there = absurd there
at_synced ok (Some s) None sound there = absurd there
at_synced ok (Some s) (Some t) sound there = synced_narrows ok s t (sound s refl) there

pub none_synced : (tells : Option Account) → Changes tells tells SyncsFiles
none_synced tells = changes_none tells SyncsFiles (λ h. record { told = refl; taken = refl; others = λ f out. refl; change = λ f. at_itself (get (account tells).files f) })

left_before : (s t : Option FileState) (left : Option (List ℕ)) → NarrowsAt s t → IsLeftAt t left → IsLeftAt s left
left_before None None left narrows is = is
left_before None (Some t) left narrows is = absurd narrows
left_before (Some s) None left narrows is = absurd narrows
left_before (Some s) (Some t) None narrows is = is
left_before (Some s) (Some t) (Some bytes) narrows is = narrows.left bytes is

-- what a crash leaves now it might have left before
pub syncs_leave : (old mid : Option Account) → Changes old mid SyncsFiles → (c : Files) (b : List ℕ) → Leaves mid c b → Leaves old c b
syncs_leave old mid stays c b left =
    let honest = stays.back left.honest in
    let step = stays.step honest in
    record { honest = honest; image = λ file. left_before (get (account old).files file) (get (account mid).files file) (get c file) (step.change file) (left.image file); told = left.told ∙ step.told }

there_after : (s t : Option FileState) (u : FileState) → NarrowsAt s t → s ≡ Some u → (v : FileState) × (t ≡ Some v)
there_after s None u narrows is = absurd (subst (λ o. NarrowsAt o None) is narrows)
there_after s (Some v) u narrows is = (v, refl)

module _ (old mid : Option Account) (stays : Changes old mid SyncsFiles) where
  pub still_there : (file : FileId) → (IsHonest old → IsFileThere file (account old).files) → IsHonest mid → IsFileThere file (account mid).files
  still_there file there honest =
      let before = stays.back honest in
      let is = there before in
      there_after (get (account old).files file) (get (account mid).files file) is.0 ((stays.step before).change file) is.1

  -- one file more
  module _ (new : Option Account) (file : FileId) (ok : Bool) (sync : Changes mid new (ChangesFile file (There (Synced ok)))) where
    one_narrows : IsHonest mid → ChangesFile file (There (Synced ok)) (account mid) (account new) → SyncsFiles (account mid) (account new)
    one_narrows honest b = record { told = b.told; taken = b.taken; others = λ f out. absurd (out tt); change = narrow }
      where
        narrow : (f : FileId) → NarrowsAt (get (account mid).files f) (get (account new).files f)
        narrow f = ⊎_elim (λ same. subst (λ x. NarrowsAt (get (account mid).files x) (get (account new).files x)) (sym same) (at_synced ok (get (account mid).files file) (get (account new).files file) (honest.sound file) b.change))
            (λ other. subst (λ t. NarrowsAt (get (account mid).files f) t) (sym (b.others f other)) (at_itself (get (account mid).files f))) (same_or_not f file)

    pub then_synced : Changes old new SyncsFiles
    then_synced = changes_then old mid new SyncsFiles (ChangesFile file (There (Synced ok))) SyncsFiles stays sync (λ h a b.
        where_then AnyFile ReadsNone ReadsNone ReadsNone AllNarrow AllNarrow AllNarrow (account old) (account mid) (account new) a (one_narrows (stays.kept h) b)
        (λ first second. second ∙ first) (λ first second f. narrows_then (get (account old).files f) (get (account mid).files f) (get (account new).files f) (first f) (second f)))

  -- and it is quiet, as those before it are
  quiet_there : (s t : Option FileState) → There (Synced true) s t → IsQuietAt t
  quiet_there None t there = absurd there
  quiet_there (Some s) None there = absurd there
  quiet_there (Some s) (Some t) there = quiet_of s t there

  quiet_still : (s t : Option FileState) → NarrowsAt s t → IsQuietAt s → IsQuietAt t
  quiet_still None None narrows quiet = tt
  quiet_still None (Some t) narrows quiet = absurd narrows
  quiet_still (Some s) None narrows quiet = tt
  quiet_still (Some s) (Some t) narrows quiet = narrows.quiet quiet

  before_or_here : (k i : ℕ) → k < i + 1 → (k < i) ⊎ (k ≡ i)
  before_or_here k i lt = grind arith

  pub one_quiet : (new : Option Account) (files : List FileId) (index : ℕ) (default : FileId) → index < length files → Changes mid new (ChangesFile (get_or files index default) (There (Synced true))) → IsHonest old
      → ((k : ℕ) (d : FileId) → k < index → IsQuietAt (get (account mid).files (get_or files k d))) → (k : ℕ) (d : FileId) → k < index + 1 → IsQuietAt (get (account new).files (get_or files k d))
  one_quiet new files index default inside sync h quiet k d lt = elim (before_or_here k index lt) [
    | inl before ↦
        let step = then_step in
        quiet_still (get (account mid).files (get_or files k d)) (get (account new).files (get_or files k d)) (step (get_or files k d)) (quiet k d before)
    | inr here ↦ subst (λ x. IsQuietAt (get (account new).files x)) (sym (same_item here)) (quiet_there (get (account mid).files (get_or files index default)) (get (account new).files (get_or files index default)) (sync.step (stays.kept h)).change)
  ]
    where
      then_step : (f : FileId) → NarrowsAt (get (account mid).files f) (get (account new).files f)
      then_step f = ⊎_elim (λ same. subst (λ x. NarrowsAt (get (account mid).files x) (get (account new).files x)) (sym same) (at_synced true (get (account mid).files (get_or files index default)) (get (account new).files (get_or files index default)) ((stays.kept h).sound (get_or files index default)) (sync.step (stays.kept h)).change))
          (λ other. subst (λ t. NarrowsAt (get (account mid).files f) t) (sym ((sync.step (stays.kept h)).others f other)) (at_itself (get (account mid).files f))) (same_or_not f (get_or files index default))

      same_item : k ≡ index → get_or files k d ≡ get_or files index default
      same_item here = subst (λ n. get_or files n d ≡ get_or files index default) (sym here) (get_or_default files index d default inside)
