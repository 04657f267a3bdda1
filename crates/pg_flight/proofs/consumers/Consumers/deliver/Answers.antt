use Rattle.std.proofs.Common.{◌∙◌, ap, sym, subst}
use Rattle.std.specs.Prelude.{is_some}
use Rattle.std.proofs.lemmas.Result.{on_ok_weaker}
use Rattle.pg_flight.specs.Consumers.{IsForOpenOnly, changed_for, open_named}
use Rattle.pg_flight.specs.Deliveries.{with_delivery}
use Rattle.pg_flight.proofs.OpenRows.{alone_changed, changed_rows, either_way, is_named}
use Rattle.pg_flight.proofs.consumers.Consumers.deliver.Goals as goal

pub invariant_of-self : goal.invariant_of-self
invariant_of-self c =
    let inside = c.self.inside in
    let name = c.args.name.now in
    let among = is_named inside.flights name inside.names (ap (λ consumers. is_some (open_named name consumers)) c.self.view_is ∙ c.requires) in
    either_way c.deliver.result c.deliver.ensures.ok c.deliver.ensures.err
    (λ changes. alone_changed name (with_delivery c.args.delivery) inside.flights c.deliver.new.self inside.names c.self.invariant changes (λ none. absurd (among none)))
    (λ same. subst (λ flights. IsForOpenOnly flights inside.names) (sym same) c.self.invariant)

pub returns-clause-ok : goal.returns-clause-ok
returns-clause-ok c =
    let inside = c.self.inside in
    let name = c.args.name.now in
    on_ok_weaker c.deliver.result
    (λ changes. changed_rows name (with_delivery c.args.delivery) inside.flights c.deliver.new.self inside.names changes
    ∙ ap (changed_for name (with_delivery c.args.delivery)) c.self.view_is)
    c.deliver.ensures.ok
