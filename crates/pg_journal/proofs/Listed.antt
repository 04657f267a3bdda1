-- The generations of the listing.
use Rattle.std.proofs.Common.{◌≡◌, ◌⊎◌, inl, inr, Bool, true, false, cond, ◌&&◌, T, List, [], ◌∷◌, Option, Some, None, refl, sym, ◌∙◌, ap, subst}
use Rattle.std.specs.Prelude.{is_some, ◌||◌, ◌≢◌, map, sum_by, Decides}
use Rattle.std.specs.declared.cmp.Ordering.{Ordering}
use Rattle.std.specs.declared.cmp.Ordering.TheVariants.{Less, Equal, Greater}
use Rattle.std.specs.List.{All, AllByRecursion, AllPairs, Contains, IsDistinct, filter, list_any}
use Rattle.std.specs.List.Sorted.{IsPermutation}
use Rattle.std.specs.Ordering.{eq_by_cmp, is_lt, is_eq}
use Rattle.std.specs.FinMap.{FinMap, get, keys, entries, entries_sorted, contains_key-keys}
use Rattle.std.specs.FinMap.Entries.{below_all, is_sorted}
use Rattle.std.proofs.lemmas.Cmp.{eq_by_cmp_equiv}
use Rattle.std.proofs.lemmas.List.Elements.{All-filter, All-weaker, All-contains, All-contains_itself, filter_passes}
use Rattle.std.proofs.lemmas.List.Kept.{AllPairs-filter}
use Rattle.std.proofs.lemmas.List.Sorted.{All-permutation, Contains-permutation, IsPermutation-sym, sum_by-IsPermutation}
use Rattle.std.proofs.lemmas.Map.Keys.{IsDistinct-cons, IsDistinct-IsPermutation}
use Rattle.std.proofs.lemmas.Map.Made.{AllPairs-from_IsDistinct, IsDistinct-from_AllPairs}
use Rattle.std.proofs.lemmas.Map.Views.{Contains-from_any, list_any-from_Contains, tells_apart}
use Rattle.pg_disk.specs.declared.file_id.FileId.{FileId}
use Rattle.pg_disk.specs.declared.file_id.Kind.TheVariants.{Journal}
use Rattle.pg_disk.specs.Account.{FileState}
use Rattle.pg_disk.specs.Files.{file_cmp}
use Rattle.pg_disk.specs.Image.{IsFileThere}
use Rattle.pg_disk.proofs.FileOrder.{files_total, files_exact, tied_self}
use Rattle.pg_journal.specs.Generations.{is_generation, IsAscending}
use Rattle.pg_journal.specs.Looks.{AreGenerations, size_of}
use Rattle.pg_journal.proofs.Order.{is_kind, kind_is}

-- what the filter keeps
list_any-filter : (p test : FileId → Bool) (xs : List FileId) → ((x : FileId) → test x ≡ true → p x ≡ true) → list_any test xs ≡ true → list_any test (filter p xs) ≡ true
list_any-filter p test [] keeps found = found
list_any-filter p test (x ∷ xs) keeps found = step (p x) (test x) refl refl (list_any-filter p test xs keeps) found
  where
    never : false ≡ true → ⊥
    never e = cc

    step : (b c : Bool) → p x ≡ b → test x ≡ c → (list_any test xs ≡ true → list_any test (filter p xs) ≡ true) → (c || list_any test xs) ≡ true → list_any test (cond b (x ∷ filter p xs) (filter p xs)) ≡ true
    step true true kept is more any = ap (λ t. t || list_any test (filter p xs)) is
    step true false kept is more any = ap (λ t. t || list_any test (filter p xs)) is ∙ more any
    step false true kept is more any = absurd (never (sym kept ∙ keeps x is))
    step false false kept is more any = more any

-- each of the generations is one
pub all_kinds : (ids found : List FileId) → IsPermutation (filter is_generation ids) found → All (λ file. file.kind ≡ Journal) found
all_kinds ids found same = All-permutation (λ file. file.kind ≡ Journal) (filter is_generation ids) found same
    (All-weaker (λ file. is_generation file ≡ true) (λ file. file.kind ≡ Journal) (λ file is. is_kind file.kind is) (filter is_generation ids) (filter_passes is_generation ids))

left_of : (a b : Bool) → T (a && b) → T a
left_of true b is = tt
left_of false b is = is

right_of : (a b : Bool) → T (a && b) → T b
right_of true b is = is
right_of false b is = absurd is

apart : (r : Ordering) → T (is_lt r) → is_eq r ≡ false
apart Less is = refl
apart Equal is = absurd is
apart Greater is = absurd is

module _ {X : Type 0} where
  apart_from : (k : FileId) (es : List (FileId × X)) → T (below_all file_cmp k es) → AllByRecursion (λ y. eq_by_cmp file_cmp k y ≡ false) (map (λ e. e.0) es)
  apart_from k [] is = tt
  apart_from k (e ∷ es) is = (apart (file_cmp k e.0) (left_of (is_lt (file_cmp k e.0)) (below_all file_cmp k es) is), apart_from k es (right_of (is_lt (file_cmp k e.0)) (below_all file_cmp k es) is))

  entries_distinct : (es : List (FileId × X)) → T (is_sorted file_cmp es) → IsDistinct (eq_by_cmp file_cmp) (map (λ e. e.0) es)
  unfolding IsDistinct
  entries_distinct [] is = tt
  entries_distinct (e ∷ es) is =
      IsDistinct-cons (eq_by_cmp file_cmp) e.0 (map (λ e. e.0) es) (apart_from e.0 es (left_of (below_all file_cmp e.0 es) (is_sorted file_cmp es) is)) (entries_distinct es (right_of (below_all file_cmp e.0 es) (is_sorted file_cmp es) is))

-- one file compares alike
decides_same : (a b : FileId) → Decides (eq_by_cmp file_cmp a b) (a ≡ b)
decides_same a b = (tells_apart files_exact a b, λ same. subst (λ f. eq_by_cmp file_cmp a f ≡ true) same (tied_self a))

-- the files of a listing stay apart among the generations
stay_apart : (ids found : List FileId) → IsDistinct (eq_by_cmp file_cmp) ids → IsPermutation (filter is_generation ids) found → AllPairs (λ a b. a ≢ b) found
stay_apart ids found distinct same =
    AllPairs-from_IsDistinct decides_same found
    (IsDistinct-IsPermutation (eq_by_cmp file_cmp) (eq_by_cmp_equiv files_total).symm (filter is_generation ids) found same
    (IsDistinct-from_AllPairs decides_same (filter is_generation ids) (AllPairs-filter (λ a b. a ≢ b) is_generation ids (AllPairs-from_IsDistinct decides_same ids distinct))))

module _ (files : FinMap file_cmp FileState) (ids : List FileId) (is : ids ≡ keys files) where
  there_any : (file : FileId) → list_any (eq_by_cmp file_cmp file) ids ≡ is_some (get files file)
  there_any file = ap (λ l. list_any (eq_by_cmp file_cmp file) l) is ∙ sym (contains_key-keys files file)

  some_there : (o : Option FileState) → is_some o ≡ true → (s : FileState) × (o ≡ Some s)
  some_there None e = cc
  some_there (Some s) e = (s, refl)

  pub are_generations : (found : List FileId) → IsPermutation (filter is_generation ids) found → IsAscending found → AreGenerations found files
  are_generations found same ascending = record {
    ascending = ascending;
    distinct = stay_apart ids found (subst (λ l. IsDistinct (eq_by_cmp file_cmp) l) (sym is) (entries_distinct (entries files) (entries_sorted files))) same;
    bytes = sum_by-IsPermutation (λ file. size_of (get files file)) (filter is_generation ids) found same ∙ ap (λ l. sum_by (λ file. size_of (get files file)) (filter is_generation l)) is;
    there = there;
    all = λ file kind. all file kind (get files file) refl;
  }
    where
      there : (file : FileId) → Contains found file → (file.kind ≡ Journal) × IsFileThere file files
      there file is_in =
          let kept = Contains-permutation found (filter is_generation ids) file (IsPermutation-sym (filter is_generation ids) found same) is_in in
          let listed = All-contains (Contains ids) (filter is_generation ids) file (All-filter is_generation (Contains ids) ids (All-contains_itself ids)) kept in (
            is_kind file.kind (All-contains (λ x. is_generation x ≡ true) (filter is_generation ids) file (filter_passes is_generation ids) kept),
            some_there (get files file) (sym (there_any file) ∙ list_any-from_Contains (eq_by_cmp_equiv files_total) file ids listed),
          )

      all : (file : FileId) → file.kind ≡ Journal → (o : Option FileState) → get files file ≡ o → Contains found file ⊎ (get files file ≡ None)
      all file kind None e = inr e
      all file kind (Some s) e = inl (Contains-permutation (filter is_generation ids) found file same (Contains-from_any (tells_apart files_exact) file (filter is_generation ids)
          (list_any-filter is_generation (eq_by_cmp file_cmp file) ids (λ x tied. subst (λ f. is_generation f ≡ true) (tells_apart files_exact file x tied) (kind_is file.kind kind)) (there_any file ∙ ap is_some e))))
