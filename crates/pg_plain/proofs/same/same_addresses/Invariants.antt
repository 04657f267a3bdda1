use Rattle.std.proofs.Common.{◌≡◌, ℕ, ◌<◌, get_or}
use Rattle.pg_model.specs.Broker.{Address}
use Rattle.pg_plain.proofs.same.same_addresses.Given as goal

abbrev pub invariant-loop-place : goal.invariant-loop-place
invariant-loop-place l = (k : ℕ) (d : Address) → k < l.place → get_or l.a k d ≡ get_or l.b k d
