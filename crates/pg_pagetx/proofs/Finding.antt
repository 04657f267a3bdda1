-- An id is found by its key.
use Rattle.std.proofs.Common.{◌≡◌, ◌==◌, ◌&&◌, ◌||◌, if◌then◌else◌, Bool, List, [], ◌∷◌, map, refl, ap₂, arith}
use Rattle.std.proofs.lemmas.Grind.{common_steps}
use Rattle.std.specs.List.{list_any}
use Rattle.std.specs.BTreeMap.{is_at}
use Rattle.pg_msg.specs.declared.message.MessageId.{MessageId}
use Rattle.pg_pagetx.specs.Kept.{Key, id_of, key_cmp}
use Rattle.pg_pagetx.specs.declared.standing.Standing.{Standing}
use Rattle.pg_pagetx.specs.declared.standing.Standing.TheVariants.{Counts, Pending, Void}
use Rattle.pg_pagetx.specs.Standings.{Transactions, is_among, standing_of}

pub same_key : (tx : MessageId) (key : Key) → is_at (key_cmp (tx.epoch, tx.number)) key ≡ ((key.0 == tx.epoch) && (key.1 == tx.number))
same_key tx key = grind (arith, common_steps)

pub found : (tx : MessageId) (keys : List Key) → list_any (is_at (key_cmp (tx.epoch, tx.number))) keys ≡ is_among tx (map id_of keys)
found tx [] = refl
found tx (key ∷ keys) = ap₂ (λ (a b : Bool). a || b) (same_key tx key) (found tx keys)

-- what the two tests tell
abbrev pub standing_by : Bool → Bool → Standing
standing_by counts waits = if counts then Counts else (if waits then Pending else Void)

pub told : (tx : MessageId) (txs : Transactions) (counts waits : Bool) → is_among tx txs.committed ≡ counts → is_among tx txs.pending ≡ waits → standing_of txs tx ≡ standing_by counts waits
told tx txs counts waits committed pending = ap₂ standing_by committed pending
