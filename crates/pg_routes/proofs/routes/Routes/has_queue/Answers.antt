use Rattle.std.proofs.Common.{◌∙◌, ap}
use Rattle.pg_routes.specs.Names.{has_queue}
use Rattle.pg_routes.proofs.Listing.{queue_there}
use Rattle.pg_routes.proofs.routes.Routes.has_queue.Goals as goal

pub returns : goal.returns
returns c = c.contains_key.ensures ∙ queue_there c.args.id c.self.inside.queues.entries ∙ ap (has_queue c.args.id) c.self.view_is
