-- The calls of `stage` and of `open`, one after the other.
use Rattle.std.proofs.Common.{◌≡◌, inl, ℕ, ◌+◌, List, [], ◌∷◌, ◌++◌, length, Bool, true, Option, Some, None, Result, Ok, Err, OnOk, is_ok, refl, subst, arith}
use Rattle.std.specs.FinMap.{get}
use Rattle.std.specs.Int.{to_be_bytes, w64}
use Rattle.pg_disk.specs.declared.fault.Failed.{Failed}
use Rattle.pg_disk.specs.declared.disk.Disk.{Ghosts}
use Rattle.pg_disk.specs.declared.file_id.FileId.{FileId}
use Rattle.pg_disk.specs.Files.{Files}
use Rattle.pg_disk.specs.Account.{FileState, Account, account, IsHonest}
use Rattle.pg_disk.specs.Image.{IsLeftAt, Leaves, LeavesAt}
use Rattle.pg_disk.specs.Elapsing.{Elapses}
use Rattle.pg_disk.specs.Moments.{Within}
use Rattle.pg_disk.specs.Calls.{Changes, ChangesFile, There, Wrote, Synced}
use Rattle.pg_disk.proofs.Composing.{started, goes_on, then_run, weaker}
use Rattle.pg_disk.proofs.Runs.{Since, since_first, since_then, left_at, left_from, left_weaker}
use Rattle.pg_gate.specs.Gated.{Fills, Keeps, MayOpen, MaySeal, RestsClosed, Stages}
use Rattle.pg_gate.specs.declared.fill.Filling.{Filling}
use Rattle.pg_gate.proofs.Sealing.{front_left, front_beside, is_staged, gate_left, at_rest_again}

-- one step and then another
abbrev pub Then : (Option FileState → Option FileState → Type 0) → (Option FileState → Option FileState → Type 0) → Option FileState → Option FileState → Type 0
Then R S s u = (t : Option FileState) × R s t × S t u

pub since_both : (id : FileId) (old mid new : Option Account) (R S : Option FileState → Option FileState → Type 0) → Since id old R mid → Since id mid S new → Since id old (Then R S) new
since_both id old mid new R S first second = since_then id old mid new R S (Then R S) first second (λ _ r s t one two _. (s, one, two))

-- where the eight bytes that are written are the length
module _ (filling : Filling) (number : List ℕ) (number_is : number ≡ to_be_bytes w64 filling.length) where
  abbrev First : Bool → Option FileState → Option FileState → Type 0
  First ok = There (Wrote (filling.gate + 1) number ok)

  abbrev Second : Bool → Option FileState → Option FileState → Type 0
  Second ok = There (Wrote (filling.gate + 9 + filling.length) (0 ∷ []) ok)

  filled_left : (s : Option FileState) (left : Option (List ℕ)) → IsLeftAt s left → Keeps filling s left
  filled_left None left is batches piece fills = absurd fills
  filled_left (Some s) None is batches piece fills = absurd is
  filled_left (Some s) (Some left) is batches piece fills = front_left filling.gate batches s left fills.front is

  first_left : (ok : Bool) (s t : Option FileState) (left : Option (List ℕ)) → First ok s t → IsLeftAt t left → Keeps filling s left
  first_left ok None t left step is batches piece fills = absurd fills
  first_left ok (Some s) None left step is batches piece fills = absurd step
  first_left ok (Some s) (Some t) None step is batches piece fills = absurd is
  first_left ok (Some s) (Some t) (Some left) step is batches piece fills =
      front_left filling.gate batches t left (front_beside filling.gate (filling.gate + 1) batches _ ok s t (omega arith) step fills.front) is

  second_left : (ok : Bool) (s t u : Option FileState) (left : Option (List ℕ)) → First true s t → Second ok t u → IsLeftAt u left → Keeps filling s left
  second_left ok None t u left one two is batches piece fills = absurd fills
  second_left ok (Some s) None u left one two is batches piece fills = absurd one
  second_left ok (Some s) (Some t) None left one two is batches piece fills = absurd two
  second_left ok (Some s) (Some t) (Some u) None one two is batches piece fills = absurd is
  second_left ok (Some s) (Some t) (Some u) (Some left) one two is batches piece fills =
      let front = front_beside filling.gate (filling.gate + 1) batches _ true s t (omega arith) one fills.front in
      front_left filling.gate batches u left (front_beside filling.gate (filling.gate + 9 + filling.length) batches _ ok t u (omega arith) two front) is

  stages : (s t u v : Option FileState) → First true s t → Second true t u → There (Synced true) u v → (batches : List (List ℕ)) (piece : List ℕ) → Fills filling batches piece s → Stages filling.gate batches piece v
  stages None t u v one two three batches piece fills = absurd fills
  stages (Some s) None u v one two three batches piece fills = absurd one
  stages (Some s) (Some t) None v one two three batches piece fills = absurd two
  stages (Some s) (Some t) (Some u) None one two three batches piece fills = absurd three
  stages (Some s) (Some t) (Some u) (Some v) one two three batches piece fills = is_staged filling batches piece s t u v fills (subst (λ n. Wrote (filling.gate + 1) n true s t) number_is one) two three

  module _ {D : Type 0} (m : Ghosts D) (id : FileId) (old : D)
      (law : (c : Files) (b : List ℕ) → m.left_since old (m.moment old) c b → Leaves (m.tells old) c b) where
    abbrev P : Option Account → Files → List ℕ → Type 0
    P = LeavesAt id (Keeps filling)

    abbrev Step : D → D → (Option FileState → Option FileState → Type 0) → Type 0
    Step mid new step = Changes (m.tells mid) (m.tells new) (ChangesFile id step)

    abbrev Time : D → D → (Files → List ℕ → Type 0) → Type 0
    Time mid new within = Elapses (m.moment mid) (m.moment new) (m.left_since mid) (m.left_since new) within

    pub at_first : Within m old old P
    at_first = started m old P (λ c b left. left_at id (m.tells old) (m.tells old) (λ s t. t ≡ s) (Keeps filling) (since_first id (m.tells old) (λ s t. t ≡ s) (λ _. refl))
        (λ s t same is. filled_left _ t (subst (λ u. IsLeftAt u t) same is)) c b (law c b left))

    pub in_first : (ok : Bool) (one : D) → Time old one (Leaves (m.tells one)) → Step old one (First ok) → Within m old one P
    in_first ok one time step = goes_on m old old one P _ at_first time (left_at id (m.tells old) (m.tells one) (First ok) (Keeps filling) step (λ s left. first_left ok _ s left))

    module _ (one : D) (one_time : Time old one (Leaves (m.tells one))) (one_step : Step old one (First true)) where
      both : (ok : Bool) (two : D) → Step one two (Second ok) → Since id (m.tells old) (Then (First true) (Second ok)) (m.tells two)
      both ok two step = since_both id (m.tells old) (m.tells one) (m.tells two) (First true) (Second ok) one_step step

      image : (ok : Bool) (two : D) → Step one two (Second ok) → (c : Files) (b : List ℕ) → Leaves (m.tells two) c b → P (m.tells old) c b
      image ok two step = left_at id (m.tells old) (m.tells two) (Then (First true) (Second ok)) (Keeps filling) (both ok two step) (λ s left steps. second_left ok _ steps.0 s left steps.1 steps.2)

      pub in_second : (ok : Bool) (two : D) → Time one two (Leaves (m.tells two)) → Step one two (Second ok) → Within m old two P
      in_second ok two time step = goes_on m old one two P _ (in_first true one one_time one_step) time (image ok two step)

      module _ (two : D) (two_time : Time one two (Leaves (m.tells two))) (two_step : Step one two (Second true)) where
        pub in_third : (three : D) → Time two three (Leaves (m.tells two)) → Within m old three P
        in_third three time = goes_on m old two three P _ (in_second true two two_time two_step) time (image true two two_step)

        pub all_staged : {T : Type 0} (three : D) (result : Result T Failed) → Step two three (There (Synced (is_ok result)))
            → OnOk result (Step old three (λ s t. (batches : List (List ℕ)) (piece : List ℕ) → Fills filling batches piece s → Stages filling.gate batches piece t))
        all_staged three (Err e) last = tt
        all_staged three (Ok x) last =
            since_then id (m.tells old) (m.tells two) (m.tells three) (Then (First true) (Second true)) (There (Synced true))
            (λ s t. (batches : List (List ℕ)) (piece : List ℕ) → Fills filling batches piece s → Stages filling.gate batches piece t)
            (both true two two_step) last (λ _ r s t steps sync _. stages r steps.0 s t steps.1 steps.2 sync)

module _ (gate : ℕ) where
  abbrev Opens : Bool → Option FileState → Option FileState → Type 0
  Opens ok = There (Wrote gate (1 ∷ []) ok)

  staged_left : (s : Option FileState) (left : Option (List ℕ)) → IsLeftAt s left → MayOpen gate s left
  staged_left None left is batches piece staged = absurd staged
  staged_left (Some s) None is batches piece staged = absurd is
  staged_left (Some s) (Some left) is batches piece staged = inl (front_left gate batches s left staged.front is)

  opens_left : (ok : Bool) (s t : Option FileState) (left : Option (List ℕ)) → Opens ok s t → IsLeftAt t left → MayOpen gate s left
  opens_left ok None t left step is batches piece staged = absurd staged
  opens_left ok (Some s) None left step is batches piece staged = absurd step
  opens_left ok (Some s) (Some t) None step is batches piece staged = absurd is
  opens_left ok (Some s) (Some t) (Some left) step is batches piece staged = gate_left gate batches piece ok s t left staged step is

  rests : (s t u : Option FileState) → Opens true s t → There (Synced true) t u → (batches : List (List ℕ)) (piece : List ℕ) → Stages gate batches piece s → RestsClosed (gate + 9 + length piece) (batches ++ piece ∷ []) u
  rests None t u one two batches piece staged = absurd staged
  rests (Some s) None u one two batches piece staged = absurd one
  rests (Some s) (Some t) None one two batches piece staged = absurd two
  rests (Some s) (Some t) (Some u) one two batches piece staged = at_rest_again gate batches piece s t u staged one two

  module _ {D : Type 0} (m : Ghosts D) (id : FileId) (old : D)
      (law : (c : Files) (b : List ℕ) → m.left_since old (m.moment old) c b → Leaves (m.tells old) c b) where
    abbrev O : Option Account → Files → List ℕ → Type 0
    O = LeavesAt id (MayOpen gate)

    pub before_open : Within m old old O
    before_open = started m old O (λ c b left. left_at id (m.tells old) (m.tells old) (λ s t. t ≡ s) (MayOpen gate) (since_first id (m.tells old) (λ s t. t ≡ s) (λ _. refl))
        (λ s t same is. staged_left _ t (subst (λ u. IsLeftAt u t) same is)) c b (law c b left))

    pub in_open : (ok : Bool) (one : D) → Elapses (m.moment old) (m.moment one) (m.left_since old) (m.left_since one) (Leaves (m.tells one)) → Changes (m.tells old) (m.tells one) (ChangesFile id (Opens ok))
        → Within m old one O
    in_open ok one time step = goes_on m old old one O _ before_open time (left_at id (m.tells old) (m.tells one) (Opens ok) (MayOpen gate) step (λ s left. opens_left ok _ s left))

    module _ (one : D) (one_time : Elapses (m.moment old) (m.moment one) (m.left_since old) (m.left_since one) (Leaves (m.tells one))) (one_step : Changes (m.tells old) (m.tells one) (ChangesFile id (Opens true))) where
      pub in_open_sync : (two : D) → Elapses (m.moment one) (m.moment two) (m.left_since one) (m.left_since two) (Leaves (m.tells one)) → Within m old two O
      in_open_sync two time =
          goes_on m old one two O _ (in_open true one one_time one_step) time (left_at id (m.tells old) (m.tells one) (Opens true) (MayOpen gate) one_step (λ s left. opens_left true _ s left))

      pub all_opened : {T : Type 0} (two : D) (result : Result T Failed) → Changes (m.tells one) (m.tells two) (ChangesFile id (There (Synced (is_ok result))))
          → OnOk result (Changes (m.tells old) (m.tells two) (ChangesFile id (λ s t. (batches : List (List ℕ)) (piece : List ℕ) → Stages gate batches piece s → RestsClosed (gate + 9 + length piece) (batches ++ piece ∷ []) t)))
      all_opened two (Err e) step = tt
      all_opened two (Ok x) step =
          since_then id (m.tells old) (m.tells one) (m.tells two) (Opens true) (There (Synced true))
          (λ s t. (batches : List (List ℕ)) (piece : List ℕ) → Stages gate batches piece s → RestsClosed (gate + 9 + length piece) (batches ++ piece ∷ []) t)
          one_step step (λ _ r s t one two _. rests r s t one two)

-- `seal`: both, one after the other
module _ (filling : Filling) {D : Type 0} (m : Ghosts D) (old : D)
    (law : (c : Files) (b : List ℕ) → m.left_since old (m.moment old) c b → Leaves (m.tells old) c b) where
  abbrev id : FileId
  id = filling.file

  abbrev s0 : Option FileState
  s0 = get (account (m.tells old)).files id

  abbrev S : Option Account → Files → List ℕ → Type 0
  S = LeavesAt id (MaySeal filling)

  abbrev Staged : Option FileState → Option FileState → Type 0
  Staged s t = (batches : List (List ℕ)) (piece : List ℕ) → Fills filling batches piece s → Stages filling.gate batches piece t

  in_old : (c : Files) (b : List ℕ) → LeavesAt id (Keeps filling) (m.tells old) c b → S (m.tells old) c b
  in_old = left_weaker id (m.tells old) (Keeps filling) (MaySeal filling) (λ left keeps batches piece fills. inl (keeps batches piece fills))

  pub nothing_done : Within m old old S
  nothing_done = weaker m old old (LeavesAt id (Keeps filling)) S (at_first filling (to_be_bytes w64 filling.length) refl m id old law) in_old

  pub in_stage : (mid : D) → Within m old mid (LeavesAt id (Keeps filling)) → Within m old mid S
  in_stage mid run = weaker m old mid (LeavesAt id (Keeps filling)) S run in_old

  module _ (mid : D) (run : Within m old mid (LeavesAt id (Keeps filling))) (staged : Since id (m.tells old) Staged (m.tells mid)) where
    pub can_open : (IsHonest (m.tells old) → (batches : List (List ℕ)) × (piece : List ℕ) × Fills filling batches piece s0)
        → IsHonest (m.tells mid) → (batches : List (List ℕ)) × (piece : List ℕ) × Stages filling.gate batches piece (get (account (m.tells mid)).files id)
    can_open filled h =
        let f = filled (staged.back h) in
        (f.0, f.1, (staged.step (staged.back h)).change f.0 f.1 f.2)

    pub in_opening : (new : D) → Within m mid new (LeavesAt id (MayOpen filling.gate)) → Within m old new S
    in_opening new later = then_run m old mid new S (LeavesAt id (MayOpen filling.gate)) (in_stage mid run) later
        (left_from id (m.tells old) (m.tells mid) Staged (MaySeal filling) (MayOpen filling.gate) staged (λ holds left chooses batches piece fills. chooses batches piece (holds batches piece fills)))

    pub all_sealed : (new : D) (gate : ℕ) → gate ≡ filling.gate + 9 + filling.length
        → Since id (m.tells mid) (λ s t. (batches : List (List ℕ)) (piece : List ℕ) → Stages filling.gate batches piece s → RestsClosed (filling.gate + 9 + length piece) (batches ++ piece ∷ []) t) (m.tells new)
        → Since id (m.tells old) (λ s t. (batches : List (List ℕ)) (piece : List ℕ) → Fills filling batches piece s → RestsClosed gate (batches ++ piece ∷ []) t) (m.tells new)
    all_sealed new gate is opened =
        since_then id (m.tells old) (m.tells mid) (m.tells new) Staged
        (λ s t. (batches : List (List ℕ)) (piece : List ℕ) → Stages filling.gate batches piece s → RestsClosed (filling.gate + 9 + length piece) (batches ++ piece ∷ []) t)
        (λ s t. (batches : List (List ℕ)) (piece : List ℕ) → Fills filling batches piece s → RestsClosed gate (batches ++ piece ∷ []) t)
        staged opened (λ _ r s t one two _ batches piece fills.
        subst (λ (n : ℕ). RestsClosed n (batches ++ piece ∷ []) t) (omega (arith, is, size r batches piece fills)) (two batches piece (one batches piece fills)))
      where
        size : (r : Option FileState) (batches : List (List ℕ)) (piece : List ℕ) → Fills filling batches piece r → filling.length ≡ length piece
        size None batches piece fills = absurd fills
        size (Some s) batches piece fills = fills.size
