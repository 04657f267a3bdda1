-- Other generations are removed one after the other.
use Rattle.std.proofs.Common.{◌≡◌, ◌≢◌, ◌⊎◌, inl, inr, ⊎_elim, ℕ, ◌+◌, ◌≤◌, ◌<◌, true, List, length, get_or, Option, Some, None, Result, Ok, Err, refl, sym, ◌∙◌, subst, arith}
use Rattle.std.specs.FinMap.{FinMap, get}
use Rattle.std.specs.Prelude.{OnOk}
use Rattle.std.specs.Result.{is_ok}
use Rattle.std.specs.List.{AllPairs, Contains}
use Rattle.std.proofs.lemmas.List.{get_or_default}
use Rattle.pg_disk.specs.declared.fault.Failed.{Failed}
use Rattle.pg_disk.specs.declared.file_id.FileId.{FileId}
use Rattle.pg_disk.specs.Files.{file_cmp, Files}
use Rattle.pg_disk.specs.Account.{FileState, Account, account, IsHonest}
use Rattle.pg_disk.specs.Calls.{Changes, ChangesFile, ReadsNone, Removed}
use Rattle.pg_disk.specs.Image.{IsFileThere, IsLeftAt, Leaves, LeavesAt, MayBeRemoved, Only}
use Rattle.pg_disk.proofs.Composing.{beside_back, beside_wider, changes_none, changes_then, changes_weaker, where_then, where_wider}
use Rattle.pg_journal.proofs.Order.{same_or_not}
use Rattle.pg_recover.specs.Removing.{AllMayBeRemoved, AllStayOrGo, HasNoOther, IsOther, LeavesOthersGone, ListsOthers, MayGo, RemovesOther, RemovesOthers, StaysOrGoes}

-- nothing is removed
pub none_removed : (keep : FileId) (tells : Option Account) → Changes tells tells (RemovesOthers keep)
none_removed keep tells = changes_none tells (RemovesOthers keep) (λ h. record { told = refl; taken = refl; others = λ f out. refl; change = λ f. inl refl })

pub not_removed : (keep one : FileId) (tells : Option Account) → Changes tells tells (RemovesOther keep one)
not_removed keep one tells = changes_none tells (RemovesOther keep one) (λ h. record { told = refl; taken = refl; others = λ f out. refl; change = inl refl })

pub all_left : (keep : FileId) (tells : Option Account) (c : Files) (b : List ℕ) → Leaves tells c b → LeavesOthersGone keep tells c b
all_left keep tells c b left = record { honest = left.honest; others = λ f out. left.image f; left = λ f. inr (left.image f); told = left.told }

-- one file is removed, which is another generation
module _ (keep one : FileId) (is : IsOther keep one) where
  may_go : (ok : _) (s t : Option FileState) → Removed ok s t → MayGo keep one s t
  may_go ok s t (inl gone) = inr (is, gone)
  may_go ok s t (inr same) = inl same.1

  pub one_removed : (old new : Option Account) (ok : _) → Changes old new (ChangesFile one (Removed ok)) → Changes old new (RemovesOther keep one)
  one_removed old new ok removed = changes_weaker old new (ChangesFile one (Removed ok)) (RemovesOther keep one) removed (λ h a.
      where_wider (Only one) (Only one) ReadsNone ReadsNone (λ files now. Removed ok (get files one) (get now one)) (λ files now. MayGo keep one (get files one) (get now one)) (account old) (account new) a
      (λ f own. own) (λ taken. taken) (may_go ok (get (account old).files one) (get (account new).files one)))

  pub removing_leaves : (tells : Option Account) (c : Files) (b : List ℕ) → LeavesAt one MayBeRemoved tells c b → LeavesOthersGone keep tells c b
  removing_leaves tells c b left =
      beside_wider (Only one) (IsOther keep) (λ files image. MayBeRemoved (get files one) (get image one)) AllMayBeRemoved tells (λ f same. subst (IsOther keep) (sym same) is)
      (λ d honest others here f. ⊎_elim (λ same. subst (λ x. MayBeRemoved (get (account tells).files x) (get d x)) (sym same) here) (λ other. inr (others f other)) (same_or_not f one)) c b left

-- after others were removed
module _ (keep : FileId) (old mid : Option Account) (stays : Changes old mid (RemovesOthers keep)) where
  left_still : (s t : Option FileState) (left : Option (List ℕ)) → StaysOrGoes s t → MayBeRemoved t left → MayBeRemoved s left
  left_still s t left (inl same) is = subst (λ o. MayBeRemoved o left) same is
  left_still s t left (inr gone) (inl none) = inl none
  left_still s t None (inr gone) (inr is) = inl refl
  left_still s t (Some bytes) (inr gone) (inr is) = absurd (subst (λ o. IsLeftAt o (Some bytes)) gone is)

  pub others_leave : (c : Files) (b : List ℕ) → LeavesOthersGone keep mid c b → LeavesOthersGone keep old c b
  others_leave =
      beside_back (IsOther keep) ReadsNone AllStayOrGo AllMayBeRemoved AllMayBeRemoved old mid stays
      (λ c gone left f. left_still (get (account old).files f) (get (account mid).files f) (get c f) (gone f) (left f))

  gone_then : (r s t : Option FileState) → StaysOrGoes r s → StaysOrGoes s t → StaysOrGoes r t
  gone_then r s t first (inr gone) = inr gone
  gone_then r s t (inl same) (inl still) = inl (still ∙ same)
  gone_then r s t (inr gone) (inl still) = inr (still ∙ gone)

  one_among : (one : FileId) (a b : Account) → RemovesOther keep one a b → RemovesOthers keep a b
  one_among one a b removed = record {
    told = removed.told;
    taken = removed.taken;
    others = λ f out. ⊎_elim (λ same. subst (λ x. get b.files x ≡ get a.files x) (sym same) (⊎_elim (λ still. still) (λ gone. absurd (out (subst (IsOther keep) (sym same) gone.0))) removed.change))
        (λ other. removed.others f other) (same_or_not f one);
    change = λ f. ⊎_elim (λ same. subst (λ x. StaysOrGoes (get a.files x) (get b.files x)) (sym same) (⊎_elim (λ still. inl still) (λ gone. inr gone.1) removed.change))
        (λ other. inl (removed.others f other)) (same_or_not f one);
  }

  pub then_removed : (new : Option Account) (one : FileId) → Changes mid new (RemovesOther keep one) → Changes old new (RemovesOthers keep)
  then_removed new one removed = changes_then old mid new (RemovesOthers keep) (RemovesOther keep one) (RemovesOthers keep) stays removed (λ h a b.
      where_then (IsOther keep) ReadsNone ReadsNone ReadsNone AllStayOrGo AllStayOrGo AllStayOrGo (account old) (account mid) (account new) a (one_among one (account mid) (account new) b)
      (λ first second. second ∙ first) (λ first second f. gone_then (get (account old).files f) (get (account mid).files f) (get (account new).files f) (first f) (second f)))

-- of a listing so many were gone through
pub record IsGoneTo (index : ℕ) (files : List FileId) (keep : FileId) (map : FinMap file_cmp FileState) : Type 0 where
  pub done : (k : ℕ) (d : FileId) → k < index → IsOther keep (get_or files k d) → get map (get_or files k d) ≡ None
  pub there : (k : ℕ) (d : FileId) → index ≤ k → k < length files → IsOther keep (get_or files k d) → IsFileThere (get_or files k d) map

pub none_gone : (files : List FileId) (keep : FileId) (map : FinMap file_cmp FileState) → ListsOthers files keep map → IsGoneTo 0 files keep map
none_gone files keep map lists = record { done = λ k d lt. absurd (omega (arith, lt)); there = λ k d le lt is. lists.there k d lt is }

module _ (files : List FileId) (index : ℕ) (default : FileId) (inside : index < length files) (keep : FileId) (old mid new : Option Account) (removed : Changes mid new (RemovesOther keep (get_or files index default))) where
  item : (k : ℕ) (d : FileId) → k ≡ index → get_or files k d ≡ get_or files index default
  item k d is = subst (λ n. get_or files n d ≡ get_or files index default) (sym is) (get_or_default files index d default inside)

  still_gone : (s t : Option FileState) → s ≡ None → (t ≡ s) ⊎ (t ≡ None) → t ≡ None
  still_gone s t gone (inl same) = same ∙ gone
  still_gone s t gone (inr now) = now

  before_or_here : (k i : ℕ) → k < i + 1 → (k < i) ⊎ (k ≡ i)
  before_or_here k i lt = grind arith

  pub one_gone : (distinct : AllPairs (λ a b. a ≢ b) files) → (IsHonest mid → IsOther keep (get_or files index default) → get (account new).files (get_or files index default) ≡ None) → IsHonest mid
      → IsGoneTo index files keep (account mid).files → IsGoneTo (index + 1) files keep (account new).files
  one_gone distinct gone honest so_far =
      let step = removed.step honest in
      record {
        done = λ k d lt is. ⊎_elim
            (λ before. ⊎_elim
            (λ same. subst (λ f. get (account new).files f ≡ None) (sym same) (gone honest (subst (IsOther keep) same is)))
            (λ other. step.others (get_or files k d) other ∙ so_far.done k d before is) (same_or_not (get_or files k d) (get_or files index default)))
            (λ here. subst (λ f. get (account new).files f ≡ None) (sym (item k d here)) (gone honest (subst (IsOther keep) (item k d here) is))) (before_or_here k index lt);
        there = λ k d le lt is.
            let was = so_far.there k d (omega (arith, le)) lt is in
            (was.0, step.others (get_or files k d) (λ same. distinct index k d (omega (arith, le)) lt (get_or_default files index d default inside ∙ sym same)) ∙ was.1);
      }

  pub can_remove : IsGoneTo index files keep (account mid).files → IsOther keep (get_or files index default) → IsFileThere (get_or files index default) (account mid).files
  can_remove so_far is = so_far.there index default (omega arith) inside is

-- all were gone through
pub all_gone : (files : List FileId) (index : ℕ) (keep : FileId) (old new : Option Account) → length files ≤ index → ((file : FileId) → IsOther keep file → Contains files file ⊎ (get (account old).files file ≡ None)) → IsHonest old
    → Changes old new (RemovesOthers keep) → IsGoneTo index files keep (account new).files → HasNoOther keep (account new).files
all_gone files index keep old new past all honest stays so_far file is =
    ⊎_elim (λ listed. listed_gone listed) (λ absent. still (get (account old).files file) (get (account new).files file) absent ((stays.step honest).change file)) (all file is)
  where
    listed_gone : Contains files file → get (account new).files file ≡ None
    listed_gone listed = subst (λ f. get (account new).files f ≡ None) listed.2 (so_far.done listed.0 file (omega (arith, listed.1, past)) (subst (IsOther keep) (sym listed.2) is))

    still : (s t : Option FileState) → s ≡ None → (t ≡ s) ⊎ (t ≡ None) → t ≡ None
    still s t gone (inl same) = same ∙ gone
    still s t gone (inr now) = now

-- at Ok the file is gone
pub gone_at_ok : (keep one : FileId) (old new : Option Account) (result : Result (Unit {0}) Failed) → Changes old new (ChangesFile one (Removed (is_ok result)))
    → OnOk result (IsHonest old → IsOther keep one → get (account new).files one ≡ None)
gone_at_ok keep one old new (Ok done) removed = λ honest is. gone (get (account new).files one) (get (account old).files one) (removed.step honest).change
  where
    gone : (t s : Option FileState) → Removed true s t → t ≡ None
    gone t s (inl is) = is
    gone t s (inr same) = absurd (same.0 refl)
gone_at_ok keep one old new (Err e) removed = tt
