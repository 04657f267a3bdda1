-- The laws of the replay, which the traits ask for.
use Rattle.std.proofs.Common.{inr, ℕ, zero, suc, List, [], ◌∷◌, length, take, drop, Some}
use Rattle.pg_disk.specs.Files.{Files}
use Rattle.pg_disk.specs.Account.{Account}
use Rattle.pg_disk.specs.Image.{Leaves}
use Rattle.pg_disk.specs.declared.call_record.Event.{Event}
use Rattle.pg_disk.specs.Replay.{start, step, replay, LeftIn, LeftSince}

-- the last moment is one of them
last_in : (a : Account) (es : List Event) (c : Files) (b : List ℕ) → Leaves (Some (replay a es)) c b → LeftIn a es c b
last_in a [] c b now = now
last_in a (e ∷ es) c b now = inr (inr (last_in (step e a) es c b now))

counts_from : (a : Account) (es : List Event) (t : ℕ) (c : Files) (b : List ℕ) → Leaves (Some (replay a es)) c b
    → LeftIn (replay a (take t es)) (drop t es) c b
counts_from a es zero c b now = last_in a es c b now
counts_from a [] (suc t) c b now = now
counts_from a (e ∷ es) (suc t) c b now = counts_from (step e a) es t c b now

only_from : (a : Account) (es : List Event) (c : Files) (b : List ℕ)
    → LeftIn (replay a (take (length es) es)) (drop (length es) es) c b → Leaves (Some (replay a es)) c b
only_from a [] c b left = left
only_from a (e ∷ es) c b left = only_from (step e a) es c b left

-- this moment is one of those since any
pub counts_now : (es : List Event) (t : ℕ) (c : Files) (b : List ℕ) → Leaves (Some (replay start es)) c b
    → LeftSince es t c b
counts_now es t c b now = counts_from start es t c b now

-- since this moment there is no other
pub only_now : (es : List Event) (c : Files) (b : List ℕ) → LeftSince es (length es) c b
    → Leaves (Some (replay start es)) c b
only_now es c b left = only_from start es c b left
