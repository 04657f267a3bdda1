use Rattle.std.proofs.Common.{◌≡◌, ◌+◌, ◌<◌, ℕ, length, take, get_or, min}
use Rattle.pg_recover.specs.Denotation.{weight_at}
use Rattle.pg_recover.proofs.RoomLemmas.{most}
use Rattle.pg_recover.proofs.room.weights_by_address.Given as goal

abbrev pub invariant-loop-place : goal.invariant-loop-place
invariant-loop-place l = record {
  count : length l.sums.items ≡ l.count;
  each : (k : ℕ) → k < length l.sums.items → get_or l.sums.items k 0 ≡ min (weight_at (k + 1) (take l.place l.rows)) most;
}
