-- `append`: a batch is begun, added whole and sealed.
use Rattle.std.proofs.Common.{◌≡◌, inl, ℕ, List, [], ◌∷◌, ◌++◌, Option, Result, IfOk, refl, sym, subst}
use Rattle.std.proofs.lemmas.Result.{IfOk-weaker}
use Rattle.std.specs.FinMap.{get}
use Rattle.pg_disk.specs.declared.fault.Fault.{Fault}
use Rattle.pg_disk.specs.declared.disk.Disk.{Ghosts}
use Rattle.pg_disk.specs.declared.file_id.FileId.{FileId}
use Rattle.pg_disk.specs.Files.{Files}
use Rattle.pg_disk.specs.Account.{FileState, Account, account, IsHonest}
use Rattle.pg_disk.specs.Image.{IsLeftAt, Leaves, LeavesAt}
use Rattle.pg_disk.specs.Moments.{Within}
use Rattle.pg_disk.specs.Calls.{Changes, ChangesFile}
use Rattle.pg_disk.proofs.Composing.{started, then_run, weaker}
use Rattle.pg_disk.proofs.Runs.{Since, since_first, since_then, left_at, left_from, left_weaker}
use Rattle.pg_gate.specs.Gated.{Fills, Keeps, MayGrow, MaySeal, StandsClosed, StandsFor}
use Rattle.pg_gate.specs.declared.at_rest.Rest.{Rest}
use Rattle.pg_gate.specs.declared.fill.Filling.{Filling}
use Rattle.pg_gate.proofs.Unique.{stands_left}

-- the piece that is added to nothing is the whole batch
abbrev pub Adds : Filling → Filling → List ℕ → Option FileState → Option FileState → Type 0
Adds begun filled bytes s t = (batches : List (List ℕ)) (piece : List ℕ) → Fills begun batches piece s → Fills filled batches (piece ++ bytes) t

abbrev pub Seals : Filling → Rest → Option FileState → Option FileState → Type 0
Seals filled next s t = (batches : List (List ℕ)) (piece : List ℕ) → Fills filled batches piece s → StandsClosed next (batches ++ piece ∷ []) t

abbrev pub Appends : Rest → Rest → List ℕ → Option FileState → Option FileState → Type 0
Appends rest next batch s t = (batches : List (List ℕ)) → StandsFor rest batches s → StandsClosed next (batches ++ batch ∷ []) t

module _ (rest : Rest) (batch : List ℕ) (id : FileId) {D : Type 0} (m : Ghosts D) (old : D)
    (law : (c : Files) (b : List ℕ) → m.left_since old (m.moment old) c b → Leaves (m.tells old) c b) where
  abbrev s0 : Option FileState
  s0 = get (account (m.tells old)).files id

  abbrev P : Option Account → Files → List ℕ → Type 0
  P = LeavesAt id (MayGrow rest batch)

  pub not_begun : Within m old old P
  not_begun = started m old P (λ c b left. left_at id (m.tells old) (m.tells old) (λ s t. t ≡ s) (MayGrow rest batch) (since_first id (m.tells old) (λ s t. t ≡ s) (λ _. refl))
      (λ s left same is batches stands. inl (stands_left rest batches s0 left stands (subst (λ t. IsLeftAt t left) same is))) c b (law c b left))

  module _ (begun : Filling) (fills : (batches : List (List ℕ)) (s : Option FileState) → StandsFor rest batches s → Fills begun batches [] s) (file : FileId) (file_is : file ≡ id) where
    pub in_add : (mid : D) → Within m old mid (LeavesAt file (Keeps begun)) → Within m old mid P
    in_add mid run = weaker m old mid (LeavesAt id (Keeps begun)) P (subst (λ f. Within m old mid (LeavesAt f (Keeps begun))) file_is run)
        (left_weaker id (m.tells old) (Keeps begun) (MayGrow rest batch) (λ left keeps batches stands. inl (keeps batches [] (fills batches s0 stands))))

    pub can_add : (IsHonest (m.tells old) → (batches : List (List ℕ)) × StandsFor rest batches s0)
        → IsHonest (m.tells old) → (batches : List (List ℕ)) × (piece : List ℕ) × Fills begun batches piece (get (account (m.tells old)).files file)
    can_add stands h =
        let at = stands h in
        (at.0, [], subst (λ f. Fills begun at.0 [] (get (account (m.tells old)).files f)) (sym file_is) (fills at.0 s0 at.1))

    module _ (mid : D) (run : Within m old mid (LeavesAt file (Keeps begun)))
        (filled : Filling) (added : Changes (m.tells old) (m.tells mid) (ChangesFile file (Adds begun filled batch))) (last : FileId) (last_is : last ≡ file) where
      since : Since id (m.tells old) (Adds begun filled batch) (m.tells mid)
      since = subst (λ f. Since f (m.tells old) (Adds begun filled batch) (m.tells mid)) file_is added

      same : id ≡ last
      same = sym (subst (λ f. last ≡ f) file_is last_is)

      pub can_seal : (IsHonest (m.tells old) → (batches : List (List ℕ)) × StandsFor rest batches s0)
          → IsHonest (m.tells mid) → (batches : List (List ℕ)) × (piece : List ℕ) × Fills filled batches piece (get (account (m.tells mid)).files last)
      can_seal stands h =
          let at = stands (since.back h) in
          (at.0, batch, subst (λ f. Fills filled at.0 batch (get (account (m.tells mid)).files f)) same ((since.step (since.back h)).change at.0 [] (fills at.0 s0 at.1)))

      pub in_seal : (new : D) → Within m mid new (LeavesAt last (MaySeal filled)) → Within m old new P
      in_seal new later = then_run m old mid new P (LeavesAt id (MaySeal filled)) (in_add mid run)
          (subst (λ f. Within m mid new (LeavesAt f (MaySeal filled))) (sym same) later)
          (left_from id (m.tells old) (m.tells mid) (Adds begun filled batch) (MayGrow rest batch) (MaySeal filled) since (λ holds left chooses batches stands. chooses batches batch (holds batches [] (fills batches s0 stands))))

      all_appended : (new : D) (next : Rest) → Changes (m.tells mid) (m.tells new) (ChangesFile last (Seals filled next)) → Changes (m.tells old) (m.tells new) (ChangesFile id (Appends rest next batch))
      all_appended new next sealed =
          since_then id (m.tells old) (m.tells mid) (m.tells new) (Adds begun filled batch) (Seals filled next) (Appends rest next batch) since (subst (λ f. Changes (m.tells mid) (m.tells new) (ChangesFile f (Seals filled next))) (sym same) sealed)
          (λ _ r s t one two _ batches stands. two batches batch (one batches [] (fills batches r stands)))

      pub if_appended : (new : D) (result : Result Rest Fault) → IfOk result (λ next. Changes (m.tells mid) (m.tells new) (ChangesFile last (Seals filled next)))
          → IfOk result (λ next. Changes (m.tells old) (m.tells new) (ChangesFile id (Appends rest next batch)))
      if_appended new result = IfOk-weaker result _ _ (all_appended new)
