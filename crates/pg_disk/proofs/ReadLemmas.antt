-- What a quiet directory reads as is what a crash leaves of it.
use Rattle.std.proofs.Common.{◌≡◌, ℕ, Bool, true, false, cond, List, [], ◌∷◌, map, length, Option, Some, None, refl, sym, ◌∙◌, ap, subst, arith}
use Rattle.std.specs.Option.{option_map}
use Rattle.std.specs.Ordering.{eq_by_cmp}
use Rattle.std.specs.FinMap.{FinMap, get, entries, get-entries, get-from_entries, find, same_map}
use Rattle.std.proofs.lemmas.List.{ext_get_or}
use Rattle.pg_disk.specs.declared.file_id.FileId.{FileId}
use Rattle.pg_disk.specs.Files.{file_cmp, Files}
use Rattle.pg_disk.specs.Account.{FileState, IsQuiet}
use Rattle.pg_disk.specs.Image.{IsIn, IsLeftAt, IsImage}
use Rattle.pg_disk.specs.Reads.{reads}
use Rattle.pg_disk.proofs.FileOrder.{files_total, files_exact}

either : (b : Bool) (s : FileState) (u : Option (List ℕ)) (v : Option FileState) → u ≡ option_map (λ s. s.bytes) v → cond b (Some s.bytes) u ≡ option_map (λ s. s.bytes) (cond b (Some s) v)
either true s u v e = refl
either false s u v e = e

find-read : (es : List (FileId × FileState)) (q : FileId) → find file_cmp q (map (λ e. (e.0, e.1.bytes)) es) ≡ option_map (λ s. s.bytes) (find file_cmp q es)
find-read [] q = refl
find-read (e ∷ es) q = either (eq_by_cmp file_cmp q e.0) e.1 _ _ (find-read es q)

pub get-reads : (m : FinMap file_cmp FileState) (q : FileId) → get (reads m) q ≡ option_map (λ s. s.bytes) (get m q)
get-reads m q = get-from_entries files_total _ q ∙ find-read (entries m) q ∙ ap (option_map (λ s. s.bytes)) (sym (get-entries m q))

quiet_left : (s : Option FileState) (left : Option (List ℕ)) → ((t : FileState) → s ≡ Some t → IsQuiet t) → IsLeftAt s left → left ≡ option_map (λ t. t.bytes) s
quiet_left None None quiet is = refl
quiet_left None (Some l) quiet is = absurd is
quiet_left (Some s) None quiet is = absurd is
quiet_left (Some s) (Some l) quiet is =
    let q = quiet s refl in
    let same : length l ≡ length s.bytes = omega (arith, is.no_shorter, is.no_longer, q.synced, q.greatest) in
    ap Some (ext_get_or 0 l s.bytes same (λ i lt. is.as_read i (omega (arith, lt, same, q.synced)) (λ within. subst (λ rs. IsIn rs i) q.ranges within)))

-- the only image of a quiet directory is what it reads as
pub only_image : (m : FinMap file_cmp FileState) (c : Files) → ((f : FileId) (s : FileState) → get m f ≡ Some s → IsQuiet s) → IsImage m c → c ≡ reads m
only_image m c quiet is = same_map files_total files_exact c (reads m) (λ q. quiet_left (get m q) (get c q) (quiet q) (is q) ∙ sym (get-reads m q))
