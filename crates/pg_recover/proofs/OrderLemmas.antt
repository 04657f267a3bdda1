-- The listing ascends, so a page that doesn't stand right behind the page before it is behind a gap.
use Rattle.std.proofs.Common.{◌≡◌, ◌≢◌, ◌⊎◌, inl, inr, ⊎_elim, ℕ, zero, suc, ◌+◌, ◌-◌, ◌<◌, ◌≤◌, Bool, true, false, ◌&&◌, T, List, [], ◌∷◌, map, length, get_or, Option, Some, None, refl, sym, ◌∙◌, ap, subst, arith, is_lt, nat_cmp}
use Rattle.std.specs.Prelude.{is_some, ◌||◌}
use Rattle.std.specs.FinMap.{FinMap, get, keys, entries, entries_sorted, contains_key-keys}
use Rattle.std.specs.FinMap.Entries.{below_all, is_sorted}
use Rattle.std.specs.List.{All, AllPairs, Contains, list_any}
use Rattle.std.specs.Ordering.{eq_by_cmp, ordering_then}
use Rattle.std.proofs.lemmas.Bool.Decides.{nat_tests}
use Rattle.std.proofs.lemmas.Cmp.{eq_by_cmp_equiv}
use Rattle.std.proofs.lemmas.List.{get_or_default}
use Rattle.std.proofs.lemmas.List.Elements.{All-cons, All-contains, All-nil}
use Rattle.std.proofs.lemmas.List.Kept.{AllPairs-cons}
use Rattle.std.proofs.lemmas.Map.Views.{Contains-from_any, list_any-from_Contains, tells_apart}
use Rattle.pg_disk.specs.declared.fault.Damage.{Damage}
use Rattle.pg_disk.specs.declared.fault.Rule.{Rule}
use Rattle.pg_disk.specs.declared.file_id.FileId.{FileId}
use Rattle.pg_disk.specs.declared.file_id.Kind.TheVariants.{Page}
use Rattle.pg_disk.specs.Account.{FileState, IsQuietAt}
use Rattle.pg_disk.specs.Files.{file_cmp, rank}
use Rattle.pg_disk.specs.Image.{IsFileThere}
use Rattle.pg_disk.proofs.FileOrder.{files_exact, files_total, tied_self}
use Rattle.pg_fold.specs.declared.durable.Durable.{Durable}
use Rattle.pg_fold.specs.declared.rows.AddressRow.{AddressRow}
use Rattle.pg_disk.specs.Views.{Contents, as_read, bytes_of}
use Rattle.pg_recover.specs.Damaging.{IsBrokenFile, IsBrokenThere}
use Rattle.pg_recover.specs.Denotation.{FoldsTo}
use Rattle.pg_recover.specs.Listing.{AreListed, HasUnlisted, IsGapAt, IsNextAs, IsUnlisted}
use Rattle.pg_recover.specs.WellFormed.{IsGapless, IsNamed, IsThere, page_file}

-- one file comes before another in a listing
abbrev pub IsLess : FileId → FileId → Type 0
IsLess a b = (rank a.kind < rank b.kind) ⊎ ((rank a.kind ≡ rank b.kind) × ((a.owner < b.owner) ⊎ ((a.owner ≡ b.owner) × (a.number < b.number))))

less_by : (i j k l m n : ℕ) → is_lt (ordering_then (nat_cmp i j) (ordering_then (nat_cmp k l) (nat_cmp m n))) ≡ true → (i < j) ⊎ ((i ≡ j) × ((k < l) ⊎ ((k ≡ l) × (m < n))))
less_by i j k l m n is = grind (arith, nat_tests)

less_of : (a b : FileId) → T (is_lt (file_cmp a b)) → IsLess a b
less_of a b is = less_by (rank a.kind) (rank b.kind) a.owner b.owner a.number b.number (true_of (is_lt (file_cmp a b)) is)
  where
    true_of : (t : Bool) → T t → t ≡ true
    true_of true is = refl
    true_of false is = absurd is

less_then : (a b c : FileId) → IsLess a b → IsLess b c → IsLess a c
less_then a b c first second = grind arith

-- a file comes before all of these
abbrev pub AllAbove : FileId → List FileId → Type 0
AllAbove f [] = Unit {0}
AllAbove f (g ∷ gs) = IsLess f g × AllAbove f gs

abbrev pub Ascend : List FileId → Type 0
Ascend [] = Unit {0}
Ascend (f ∷ fs) = AllAbove f fs × Ascend fs

left_of : (a b : Bool) → T (a && b) → T a
left_of true b is = tt
left_of false b is = is

right_of : (a b : Bool) → T (a && b) → T b
right_of true b is = is
right_of false b is = absurd is

module _ {X : Type 0} where
  above_of : (k : FileId) (es : List (FileId × X)) → T (below_all file_cmp k es) → AllAbove k (map (λ e. e.0) es)
  above_of k [] is = tt
  above_of k (e ∷ es) is = (less_of k e.0 (left_of (is_lt (file_cmp k e.0)) (below_all file_cmp k es) is), above_of k es (right_of (is_lt (file_cmp k e.0)) (below_all file_cmp k es) is))

  ascend_of : (es : List (FileId × X)) → T (is_sorted file_cmp es) → Ascend (map (λ e. e.0) es)
  ascend_of [] is = tt
  ascend_of (e ∷ es) is = (above_of e.0 es (left_of (below_all file_cmp e.0 es) (is_sorted file_cmp es) is), ascend_of es (right_of (below_all file_cmp e.0 es) (is_sorted file_cmp es) is))

-- so no file is listed twice
above_apart : (f : FileId) (fs : List FileId) → AllAbove f fs → All (λ g. f ≢ g) fs
above_apart f [] above = All-nil (λ g. f ≢ g)
above_apart f (g ∷ gs) above = All-cons (λ x. f ≢ x) g gs (λ same. not_less f (subst (IsLess f) (sym same) above.0)) (above_apart f gs above.1)
  where
    not_less : (x : FileId) → IsLess x x → ⊥
    not_less x is = grind arith

pub ascend_apart : (fs : List FileId) → Ascend fs → AllPairs (λ a b. a ≢ b) fs
ascend_apart [] up = λ i j d lt within. absurd (omega (arith, within))
ascend_apart (f ∷ fs) up = AllPairs-cons (λ a b. a ≢ b) f fs (above_apart f fs up.0) (ascend_apart fs up.1)

-- the files of a listing are those that are there
module _ (files : FinMap file_cmp FileState) (ids : List FileId) (is : ids ≡ keys files) where
  pub listing_ascends : Ascend ids
  listing_ascends = subst Ascend (sym is) (ascend_of (entries files) (entries_sorted files))

  there_any : (file : FileId) → list_any (eq_by_cmp file_cmp file) ids ≡ is_some (get files file)
  there_any file = ap (list_any (eq_by_cmp file_cmp file)) is ∙ sym (contains_key-keys files file)

  some_there : (o : Option FileState) → is_some o ≡ true → (s : FileState) × (o ≡ Some s)
  some_there None e = cc
  some_there (Some s) e = (s, refl)

  pub listed_there : (file : FileId) → Contains ids file → IsFileThere file files
  listed_there file listed = some_there (get files file) (sym (there_any file) ∙ list_any-from_Contains (eq_by_cmp_equiv files_total) file ids listed)

  pub all_there : All (λ file. IsFileThere file files) ids
  all_there k d lt = listed_there (get_or ids k d) (k, lt, get_or_default ids k (get_or ids k d) d lt)

  pub there_listed : (file : FileId) → IsFileThere file files → Contains ids file
  there_listed file there = Contains-from_any (tells_apart files_exact) file ids (there_any file ∙ ap is_some there.1)

-- a file is among these
abbrev pub IsAmong : List FileId → FileId → Type 0
IsAmong [] q = ⊥
IsAmong (f ∷ fs) q = (q ≡ f) ⊎ IsAmong fs q

among_any : (fs : List FileId) (q : FileId) → list_any (eq_by_cmp file_cmp q) fs ≡ true → IsAmong fs q
among_any [] q any = cc
among_any (f ∷ fs) q any = step (eq_by_cmp file_cmp q f) (list_any (eq_by_cmp file_cmp q) fs) refl any (among_any fs q)
  where
    step : (b c : Bool) → eq_by_cmp file_cmp q f ≡ b → (b || c) ≡ true → (c ≡ true → IsAmong fs q) → (q ≡ f) ⊎ IsAmong fs q
    step true c is any more = inl (tells_apart files_exact q f is)
    step false c is any more = inr (more any)

any_among : (fs : List FileId) (q : FileId) → IsAmong fs q → list_any (eq_by_cmp file_cmp q) fs ≡ true
any_among [] q among = absurd among
any_among (f ∷ fs) q (inl same) = ap (λ b. b || list_any (eq_by_cmp file_cmp q) fs) (subst (λ x. eq_by_cmp file_cmp q x ≡ true) same (tied_self q))
any_among (f ∷ fs) q (inr more) = also (eq_by_cmp file_cmp q f) (list_any (eq_by_cmp file_cmp q) fs) (any_among fs q more)
  where
    also : (b c : Bool) → c ≡ true → (b || c) ≡ true
    also true c is = refl
    also false c is = is

above_among : (f : FileId) (fs : List FileId) (q : FileId) → AllAbove f fs → IsAmong fs q → IsLess f q
above_among f [] q above among = absurd among
above_among f (g ∷ gs) q above (inl same) = subst (IsLess f) (sym same) above.0
above_among f (g ∷ gs) q above (inr more) = above_among f gs q above.1 more

-- the last file in front, and the files that it comes before
abbrev IsBehind : Option FileId → List FileId → Type 0
IsBehind None fs = Unit {0}
IsBehind (Some b) fs = AllAbove b fs

-- a file is among these, or it is the last one in front or comes before that
abbrev IsSeen : Option FileId → List FileId → FileId → Type 0
IsSeen before fs q = IsAmong fs q ⊎ ((b : FileId) × (before ≡ Some b) × ((q ≡ b) ⊎ IsLess q b))

page_of : (f : FileId) → f.kind ≡ Page → f ≡ page_file f.owner f.number
page_of f kind = λ i. record { kind = kind i; owner = f.owner; number = f.number }

-- of the page before a page that is there: it stands right before it
right_before : (before : Option FileId) (f : FileId) (fs : List FileId) → IsBehind before (f ∷ fs) → AllAbove f fs → (first : ℕ) → first < f.number → f.kind ≡ Page → IsSeen before (f ∷ fs) (page_file f.owner (f.number - 1))
    → before ≡ Some (page_file f.owner (f.number - 1))
right_before before f fs behind above first more kind (inl (inl same)) = absurd (not_itself f first more (ap (λ (x : FileId). x.number) same))
  where
    not_itself : (x : FileId) (n : ℕ) → n < x.number → x.number - 1 ≡ x.number → ⊥
    not_itself x n lt e = omega (arith, lt, e)
right_before before f fs behind above first more kind (inl (inr later)) = absurd (not_later f first more kind (above_among f fs (page_file f.owner (f.number - 1)) above later))
  where
    not_later : (x : FileId) (n : ℕ) → n < x.number → x.kind ≡ Page → IsLess x (page_file x.owner (x.number - 1)) → ⊥
    not_later x n lt kind less = let r = ap rank kind in grind arith
right_before before f fs behind above first more kind (inr (b, is, inl same)) = is ∙ ap Some (sym same)
right_before before f fs behind above first more kind (inr (b, is, inr less)) = absurd (none_between f b first more kind less (subst (λ o. IsBehind o (f ∷ fs)) is behind).0)
  where
    none_between : (x y : FileId) (n : ℕ) → n < x.number → x.kind ≡ Page → IsLess (page_file x.owner (x.number - 1)) y → IsLess y x → ⊥
    none_between x y n lt kind low high = let r = ap rank kind in grind arith

still_seen : (before : Option FileId) (f : FileId) (fs : List FileId) → IsBehind before (f ∷ fs) → (q : FileId) → IsSeen before (f ∷ fs) q → IsSeen (Some f) fs q
still_seen before f fs behind q (inl (inl same)) = inr (f, refl, inl same)
still_seen before f fs behind q (inl (inr later)) = inl later
still_seen before f fs behind q (inr (b, is, inl same)) = inr (f, refl, inr (subst (λ x. IsLess x f) (sym same) (subst (λ o. IsBehind o (f ∷ fs)) is behind).0))
still_seen before f fs behind q (inr (b, is, inr less)) = inr (f, refl, inr (less_then q b f less (subst (λ o. IsBehind o (f ∷ fs)) is behind).0))

-- what a listing shows of a damage is so of the files
module _ (contents : Contents) (d : Durable) (folds : FoldsTo contents d) where
  -- where a page doesn't stand right behind the page before it, that isn't there
  gap_there : (before : Option FileId) (f : FileId) (fs : List FileId) → IsBehind before (f ∷ fs) → AllAbove f fs → ((q : FileId) → IsThere contents q → IsSeen before (f ∷ fs) q) → (gap : IsGapAt d.addresses before f)
      → contents (page_file gap.row.id (f.number - 1)) ≡ None
  gap_there before f fs behind above seen gap = cases (contents (page_file gap.row.id (f.number - 1))) refl
    where
      own : f.owner ≡ gap.row.id
      own = ap (λ (x : FileId). x.owner) gap.page

      cases : (o : Option (List ℕ)) → contents (page_file gap.row.id (f.number - 1)) ≡ o → contents (page_file gap.row.id (f.number - 1)) ≡ None
      cases None is = is
      cases (Some bytes) is = absurd (gap.gap (subst (λ n. before ≡ Some (page_file n (f.number - 1))) own
          (right_before before f fs behind above gap.row.first gap.past (ap (λ (x : FileId). x.kind) gap.page)
          (subst (λ n. IsSeen before (f ∷ fs) (page_file n (f.number - 1))) (sym own) (seen (page_file gap.row.id (f.number - 1)) (bytes, is))))))

  file_broken : (before : Option FileId) (f : FileId) (fs : List FileId) → IsBehind before (f ∷ fs) → AllAbove f fs → IsThere contents f → ((q : FileId) → IsThere contents q → IsSeen before (f ∷ fs) q)
      → (rule : Rule) → IsUnlisted d.addresses before f rule → IsBrokenFile contents f rule
  file_broken before f fs behind above there seen rule (inl named) = inl (named.0, record { state = d; folds = folds; there = there; misnamed = named.1 })
  file_broken before f fs behind above there seen rule (inr gap) = inr (inl (
    gap.0,
    record {
      state = d;
      folds = folds;
      there = there;
      row = gap.1.row;
      known = gap.1.known;
      page = gap.1.page;
      past = gap.1.past;
      gap = gap_there before f fs behind above seen gap.1;
    },
  ))

  all_broken : (before : Option FileId) (fs : List FileId) → IsBehind before fs → Ascend fs → ((f : FileId) → IsAmong fs f → IsThere contents f) → ((q : FileId) → IsThere contents q → IsSeen before fs q)
      → (damage : Damage) → HasUnlisted d.addresses before fs damage → (damage.at ≡ 0) × IsBrokenFile contents damage.file damage.rule
  all_broken before [] behind up there seen damage unlisted = absurd unlisted
  all_broken before (f ∷ fs) behind up there seen damage (inl named) =
      (named.offset, subst (λ x. IsBrokenFile contents x damage.rule) (sym named.of_file) (file_broken before f fs behind up.0 (there f (inl refl)) seen damage.rule named.breaks))
  all_broken before (f ∷ fs) behind up there seen damage (inr more) =
      all_broken (Some f) fs up.0 up.1 (λ g among. there g (inr among)) (λ q is. still_seen before f fs behind q (seen q is)) damage more

module _ (files : FinMap file_cmp FileState) (ids : List FileId) (is : ids ≡ keys files) where
  pub among_there : (f : FileId) → IsAmong ids f → IsThere (as_read files) f
  among_there f among = let there = some_there files ids is (get files f) (sym (there_any files ids is f) ∙ any_among ids f among) in (there.0.bytes, ap bytes_of there.1)

  pub there_among : (q : FileId) → IsThere (as_read files) q → IsAmong ids q
  there_among q there = among_any ids q (there_any files ids is q ∙ read_some (get files q) there.0 there.1)
    where
      read_some : (o : Option FileState) (bytes : List ℕ) → bytes_of o ≡ Some bytes → is_some o ≡ true
      read_some None bytes e = cc
      read_some (Some s) bytes e = refl

  -- the damage that a listing shows
  pub listing_names : (d : Durable) → FoldsTo (as_read files) d → (damage : Damage) → HasUnlisted d.addresses None ids damage → IsBrokenThere (as_read files) damage
  listing_names d folds damage unlisted =
      inr (inr (all_broken (as_read files) d folds None ids tt (listing_ascends files ids is) among_there (λ q there. inl (there_among q there)) damage unlisted))

-- what a listing shows of each file
listed_named : (addresses : List AddressRow) (before : Option FileId) (fs : List FileId) (q : FileId) → AreListed addresses before fs → IsAmong fs q → IsNamed addresses q
listed_named addresses before [] q are among = absurd among
listed_named addresses before (f ∷ fs) q are (inl same) = subst (IsNamed addresses) (sym same) are.0.named
listed_named addresses before (f ∷ fs) q are (inr more) = listed_named addresses (Some f) fs q are.1 more

-- The page before a page behind the first stands among them too, or right before them.
page_before : (addresses : List AddressRow) (before : Option FileId) (fs : List FileId) (owner number : ℕ) → AreListed addresses before fs → IsAmong fs (page_file owner number) → (k : ℕ) (d : AddressRow) → k < length addresses
    → (get_or addresses k d).id ≡ owner → (get_or addresses k d).first < number → IsAmong fs (page_file owner (number - 1)) ⊎ (before ≡ Some (page_file owner (number - 1)))
page_before addresses before [] owner number are among k d lt id behind = absurd among
page_before addresses before (f ∷ fs) owner number are (inl same) k d lt id behind = inr (subst (λ (x : FileId). IsNextAs addresses before x.kind x.owner x.number) (sym same) are.0.next k d lt id behind)
page_before addresses before (f ∷ fs) owner number are (inr more) k d lt id behind =
    ⊎_elim (λ among. inl (inr among)) (λ is. inl (inl (sym (one_file f (page_file owner (number - 1)) is)))) (page_before addresses (Some f) fs owner number are.1 more k d lt id behind)
  where
    one_file : (a b : FileId) → ◌≡◌ {A = Option FileId} (Some a) (Some b) → a ≡ b
    one_file a b is = cc

-- so the pages from the first on stand there up to one that does
pages_below : (addresses : List AddressRow) (fs : List FileId) (owner number gap other : ℕ) → AreListed addresses None fs → IsAmong fs (page_file owner number) → (k : ℕ) (d : AddressRow) → k < length addresses
    → (get_or addresses k d).id ≡ owner → (get_or addresses k d).first ≤ other → number ≡ other + gap → IsAmong fs (page_file owner other)
pages_below addresses fs owner number zero other are among k d lt id low is = subst (λ n. IsAmong fs (page_file owner n)) (omega (arith, is)) among
pages_below addresses fs owner number (suc gap) other are among k d lt id low is =
    ⊎_elim (λ more. pages_below addresses fs owner (number - 1) gap other are more k d lt id low (omega (arith, is))) (λ none. absurd (nothing (page_file owner (number - 1)) none))
    (page_before addresses None fs owner number are among k d lt id (omega (arith, low, is)))
  where
    nothing : (a : FileId) → ◌≡◌ {A = Option FileId} None (Some a) → ⊥
    nothing a is = cc

module _ (files : FinMap file_cmp FileState) (ids : List FileId) (is : ids ≡ keys files) (addresses : List AddressRow) (are : AreListed addresses None ids) where
  pub shown_named : (file : FileId) → IsThere (as_read files) file → IsNamed addresses file
  shown_named file there = listed_named addresses None ids file are (there_among files ids is file there)

  pub shown_gapless : All (IsGapless (as_read files)) addresses
  shown_gapless k d lt number there other low high =
      let row = get_or addresses k d in
      among_there files ids is (page_file row.id other)
      (pages_below addresses ids row.id number (number - other) other are (there_among files ids is (page_file row.id number) there) k d lt refl low (omega (arith, high)))

-- Ascending listings of the same files are one.
same_listing : (xs ys : List FileId) → Ascend xs → Ascend ys → ((q : FileId) → IsAmong xs q → IsAmong ys q) → ((q : FileId) → IsAmong ys q → IsAmong xs q) → xs ≡ ys
same_listing [] [] up ups forth back = refl
same_listing [] (y ∷ ys) up ups forth back = absurd (back y (inl refl))
same_listing (x ∷ xs) [] up ups forth back = absurd (forth x (inl refl))
same_listing (x ∷ xs) (y ∷ ys) up ups forth back =
    let first = same_first (forth x (inl refl)) (back y (inl refl)) in
    let others = same_listing xs ys up.1 ups.1 (λ q among. behind q x y ys (above_among x xs q up.0 among) first (forth q (inr among))) (λ q among. behind q y x xs (above_among y ys q ups.0 among) (sym first) (back q (inr among))) in
    λ i. first i ∷ others i
  where
    not_both : (a b : FileId) → IsLess a b → IsLess b a → ⊥
    not_both a b less more = grind arith

    same_first : IsAmong (y ∷ ys) x → IsAmong (x ∷ xs) y → x ≡ y
    same_first (inl same) there = same
    same_first (inr later) (inl same) = sym same
    same_first (inr later) (inr behind) = absurd (not_both x y (above_among x xs y up.0 behind) (above_among y ys x ups.0 later))

    behind : (q a b : FileId) (bs : List FileId) → IsLess a q → a ≡ b → IsAmong (b ∷ bs) q → IsAmong bs q
    behind q a b bs less same (inl is) = absurd (not_both q q (subst (λ f. IsLess f q) (same ∙ sym is) less) (subst (λ f. IsLess f q) (same ∙ sym is) less))
    behind q a b bs less same (inr more) = more

-- So is the listing of files of which each is there or not as before.
pub same_keys : (old new : FinMap file_cmp FileState) → ((file : FileId) → is_some (get new file) ≡ is_some (get old file)) → keys old ≡ keys new
same_keys old new same =
    same_listing (keys old) (keys new) (listing_ascends old (keys old) refl) (listing_ascends new (keys new) refl)
    (λ q among. among_any (keys new) q (there_any new (keys new) refl q ∙ same q ∙ sym (there_any old (keys old) refl q) ∙ any_among (keys old) q among))
    (λ q among. among_any (keys old) q (there_any old (keys old) refl q ∙ sym (same q) ∙ sym (there_any new (keys new) refl q) ∙ any_among (keys new) q among))

-- Of a file that isn't listed nothing is pending.
pub all_quiet : (files now : FinMap file_cmp FileState) (ids : List FileId) → ids ≡ keys files → ((file : FileId) → is_some (get now file) ≡ is_some (get files file)) → All (λ file. IsQuietAt (get now file)) ids → (file : FileId) → IsQuietAt (get now file)
all_quiet files now ids is same quiet file = cases (get now file) refl
  where
    cases : (o : Option FileState) → get now file ≡ o → IsQuietAt (get now file)
    cases None e = subst IsQuietAt (sym e) tt
    cases (Some s) e = All-contains (λ f. IsQuietAt (get now f)) ids file quiet (there_listed files ids is file (some_there files ids is (get files file) (sym (same file) ∙ ap is_some e)))
