-- The tree lists the files that are told.
use Rattle.std.proofs.Common.{◌≡◌, ℕ, Bool, true, false, cond, ◌&&◌, T, List, [], ◌∷◌, map, Option, Some, refl, sym, ◌∙◌, ap, subst, Vec}
use Rattle.std.specs.declared.cmp.Ordering.{Ordering}
use Rattle.std.specs.declared.cmp.Ordering.TheVariants.{Less}
use Rattle.std.specs.declared.alloc.Global.{Global}
use Rattle.std.specs.Option.{option_map}
use Rattle.std.specs.Ordering.{eq_by_cmp, is_lt}
use Rattle.std.specs.List.{AllByRecursion}
use Rattle.std.specs.List.Sorted.{IsStrictlySortedBy}
use Rattle.std.specs.Map.{lookup, keys_of}
use Rattle.std.specs.BTreeMap as tree
use Rattle.std.specs.FinMap.{keys, entries, entries_sorted, get-entries}
use Rattle.std.specs.FinMap.Entries.{find, below_all, is_sorted, same_entries}
use Rattle.pg_disk.specs.declared.file_id.FileId.{FileId}
use Rattle.pg_disk.specs.Files.{file_cmp}
use Rattle.pg_disk.specs.Account.{FileState}
use Rattle.pg_disk.specs.Contents.{HasContents}
use Rattle.pg_disk.proofs.ContentLemmas.{Tree, Held, items_of, bytes_of}
use Rattle.pg_disk.proofs.FileOrder.{files_total, files_exact}

both : (a b : Bool) → T a → T b → T (a && b)
both true b p q = q
both false b p q = p

less : (r : Ordering) → r ≡ Less → T (is_lt r)
less r e = subst (λ q. T (is_lt q)) (sym e) tt

module _ {X Y : Type 0} (h : X → Y) where
  -- the entries with h at each value
  abbrev mapped : List (FileId × X) → List (FileId × Y)
  mapped es = map {B = FileId × Y} (λ (e : FileId × X). (e.0, h e.1)) es

  one_more : (b : Bool) (x : X) (o : Option X) (u : Option Y) → u ≡ option_map h o → cond b (Some (h x)) u ≡ option_map h (cond b (Some x) o)
  one_more true x o u e = refl
  one_more false x o u e = e

  find-mapped : (es : List (FileId × X)) (q : FileId) → find file_cmp q (mapped es) ≡ option_map h (find file_cmp q es)
  find-mapped [] q = refl
  find-mapped (e ∷ es) q = one_more (eq_by_cmp file_cmp q e.0) e.1 _ _ (find-mapped es q)

  keys-mapped : (es : List (FileId × X)) → map (λ e. e.0) (mapped es) ≡ map (λ e. e.0) es
  keys-mapped [] = refl
  keys-mapped (e ∷ es) = ap (λ (ks : List FileId). e.0 ∷ ks) (keys-mapped es)

  below-mapped : (k : FileId) (es : List (FileId × X)) → below_all file_cmp k (mapped es) ≡ below_all file_cmp k es
  below-mapped k [] = refl
  below-mapped k (e ∷ es) = ap (λ b. is_lt (file_cmp k e.0) && b) (below-mapped k es)

  sorted-mapped : (es : List (FileId × X)) → is_sorted file_cmp (mapped es) ≡ is_sorted file_cmp es
  sorted-mapped [] = refl
  sorted-mapped (e ∷ es) = ap (λ b. b && is_sorted file_cmp (mapped es)) (below-mapped e.0 es) ∙ ap (λ b. below_all file_cmp e.0 es && b) (sorted-mapped es)

module _ {X : Type 0} where
  lookup-find : (q : FileId) (es : List (FileId × X)) → lookup (tree.is_at (file_cmp q)) es ≡ find file_cmp q es
  lookup-find q [] = refl
  lookup-find q (e ∷ es) = ap (λ o. cond (eq_by_cmp file_cmp q e.0) (Some e.1) o) (lookup-find q es)

  below_from : (k : FileId) (es : List (FileId × X)) → AllByRecursion (λ y. file_cmp k y ≡ Less) (keys_of es) → T (below_all file_cmp k es)
  below_from k [] all = tt
  below_from k (e ∷ es) all = both _ _ (less _ all.0) (below_from k es all.1)

  sorted_from : (es : List (FileId × X)) → IsStrictlySortedBy file_cmp (keys_of es) → T (is_sorted file_cmp es)
  unfolding IsStrictlySortedBy
  sorted_from [] is = tt
  sorted_from (e ∷ es) is = both _ _ (below_from e.0 es is.0) (sorted_from es is.1)

pub keys_same : (m : Tree) (files : Held) → HasContents m files → tree.IsOrdered file_cmp m → tree.keys m ≡ keys files
keys_same m files has ordered =
    let items = λ (v : Vec ℕ Global). v.items in
    let bytes = λ (s : FileState). s.bytes in
    let same = same_entries file_cmp files_total files_exact (mapped items m.entries) (mapped bytes (entries files))
    (subst T (sym (sorted-mapped items m.entries)) (sorted_from m.entries ordered))
    (subst T (sym (sorted-mapped bytes (entries files))) (entries_sorted files))
    (λ q. find-mapped items m.entries q ∙ ap items_of (sym (lookup-find q m.entries)) ∙ has q ∙ ap bytes_of (get-entries files q) ∙ sym (find-mapped bytes (entries files) q)) in
    sym (keys-mapped items m.entries) ∙ ap (λ (es : List (FileId × List ℕ)). map (λ e. e.0) es) same ∙ keys-mapped bytes (entries files)
