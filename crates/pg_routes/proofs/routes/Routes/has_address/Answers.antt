use Rattle.std.proofs.Common.{◌∙◌, ap}
use Rattle.pg_routes.specs.Names.{has_address}
use Rattle.pg_routes.proofs.Listing.{address_there}
use Rattle.pg_routes.proofs.routes.Routes.has_address.Goals as goal

pub returns : goal.returns
returns c = c.contains_key.ensures ∙ address_there c.args.id c.self.inside.addresses.entries ∙ ap (has_address c.args.id) c.self.view_is
