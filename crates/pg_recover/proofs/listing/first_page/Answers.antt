use Rattle.pg_recover.proofs.ListingLemmas.{none_at_zero, none_behind, first_of}
use Rattle.pg_recover.proofs.listing.first_page.Goals as goal

pub returns-in_err-place : goal.returns-in_err-place
returns-in_err-place c = rw c.from_residual.ensures (none_at_zero c.args.addresses.now c.args.id c.requires c.in_err-place.ensures)

pub returns-in_err-row : goal.returns-in_err-row
returns-in_err-row c =
    rw c.from_residual-in_err-row.ensures (none_behind c.args.addresses.now c.args.id c.in_ok-place.place c.requires c.in_ok-place.ensures.0 c.in_ok-place.ensures.1 c.in_err-row.ensures.lookup.3)

pub returns : goal.returns
returns c = first_of c.args.addresses.now c.args.id c.in_ok-place.place c.in_ok-row.row.now c.requires c.in_ok-place.ensures.0 c.in_ok-place.ensures.1 c.in_ok-row.ensures.lookup.3.0 c.in_ok-row.ensures.lookup.1
