-- A run of calls on one file.
use Rattle.std.proofs.Common.{◌≡◌, ℕ, List, Option, refl, ◌∙◌}
use Rattle.std.specs.FinMap.{get}
use Rattle.pg_disk.specs.declared.file_id.FileId.{FileId}
use Rattle.pg_disk.specs.Files.{Files}
use Rattle.pg_disk.specs.Account.{FileState, Account, account, IsHonest}
use Rattle.pg_disk.specs.Image.{IsLeftAt, Leaves, LeavesAt, Only}
use Rattle.pg_disk.specs.Calls.{Changes, ChangesFile, ReadsNone}
use Rattle.pg_disk.proofs.Composing.{changes_none, changes_then, where_then, beside_now, beside_back}

-- of one file this is known, and nothing else changed since
abbrev pub Since : FileId → Option Account → (Option FileState → Option FileState → Type 0) → Option Account → Type 0
Since id old R now = Changes old now (ChangesFile id R)

-- at the start
pub since_first : (id : FileId) (old : Option Account) (R : Option FileState → Option FileState → Type 0) → (IsHonest old → R (get (account old).files id) (get (account old).files id)) → Since id old R old
since_first id old R is = changes_none old (ChangesFile id R) (λ h. record { told = refl; taken = refl; others = λ f ne. refl; change = is h })

-- after one more call that changes the file
pub since_then : (id : FileId) (old mid new : Option Account) (R S T : Option FileState → Option FileState → Type 0) → Since id old R mid → Since id mid S new
    → (IsHonest new → (r s t : Option FileState) → R r s → S s t → get (account new).files id ≡ t → T r t) → Since id old T new
since_then id old mid new R S T so_far call then = changes_then old mid new (ChangesFile id R) (ChangesFile id S) (ChangesFile id T) so_far call (λ h a b.
    where_then (Only id) ReadsNone ReadsNone ReadsNone (λ files now. R (get files id) (get now id)) (λ files now. S (get files id) (get now id)) (λ files now. T (get files id) (get now id))
    (account old) (account mid) (account new) a b (λ one two. two ∙ one) (λ one two. then (call.kept (so_far.kept h)) _ _ _ one two refl))

-- what a crash leaves now, seen from the start
pub left_at : (id : FileId) (old now : Option Account) (R : Option FileState → Option FileState → Type 0) (P : Option FileState → Option (List ℕ) → Type 0) → Since id old R now
    → ((s : Option FileState) (left : Option (List ℕ)) → R (get (account old).files id) s → IsLeftAt s left → P (get (account old).files id) left) → (c : Files) (b : List ℕ) → Leaves now c b → LeavesAt id P old c b
left_at id old now R P so_far then =
    beside_now (Only id) ReadsNone (λ files now. R (get files id) (get now id)) (λ files c. P (get files id) (get c id)) old now so_far (λ c is image. then _ _ is (image id))

-- the moments of a later call, seen from the start
pub left_from : (id : FileId) (old now : Option Account) (R : Option FileState → Option FileState → Type 0) (P Q : Option FileState → Option (List ℕ) → Type 0) → Since id old R now
    → (R (get (account old).files id) (get (account now).files id) → (left : Option (List ℕ)) → Q (get (account now).files id) left → P (get (account old).files id) left) → (c : Files) (b : List ℕ) → LeavesAt id Q now c b → LeavesAt id P old c b
left_from id old now R P Q so_far then =
    beside_back (Only id) ReadsNone (λ files now. R (get files id) (get now id)) (λ files c. P (get files id) (get c id)) (λ files c. Q (get files id) (get c id)) old now so_far (λ c is left. then is _ left)

-- of the file, what has P has Q
pub left_weaker : (id : FileId) (tells : Option Account) (P Q : Option FileState → Option (List ℕ) → Type 0) → ((left : Option (List ℕ)) → P (get (account tells).files id) left → Q (get (account tells).files id) left) → (c : Files) (b : List ℕ) → LeavesAt id P tells c b → LeavesAt id Q tells c b
left_weaker id tells P Q then c b left = record { honest = left.honest; others = left.others; left = then _ left.left; told = left.told }
