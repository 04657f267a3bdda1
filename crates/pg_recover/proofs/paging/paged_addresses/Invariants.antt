use Rattle.std.proofs.Common.{◌≡◌, map, take}
use Rattle.pg_recover.specs.Viewing.{is_paged}
use Rattle.pg_recover.proofs.paging.paged_addresses.Given as goal

abbrev pub invariant-loop-row : goal.invariant-loop-row
invariant-loop-row l = l.paged.items ≡ map (is_paged l.files) (take l.row-index l.addresses)
