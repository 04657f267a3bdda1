use Rattle.pg_joined.proofs.Lifting.{alone}
use Rattle.pg_joined.proofs.laws.nothing_in_pages.Goals as goal

pub returns : goal.returns
returns c = λ s paged flights no_messages no_flights. alone s paged flights no_messages no_flights
