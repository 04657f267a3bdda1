use Rattle.std.proofs.Common.{◌∙◌, ◌++◌, ◌∷◌, [], ap, sym, subst}
use Rattle.std.proofs.lemmas.Result.{on_ok_weaker}
use Rattle.pg_flight.specs.Consumers.{IsForOpenOnly, open_named}
use Rattle.pg_flight.proofs.OpenRows.{alone_with, either_way, not_named, one_opened}
use Rattle.pg_flight.proofs.consumers.Consumers.open.Goals as goal

pub add-requires : goal.add-requires
add-requires c = not_named c.self.inside.flights c.args.name c.self.inside.names (ap (open_named c.args.name) c.self.view_is ∙ c.requires)

pub invariant_of-self : goal.invariant_of-self
invariant_of-self c =
    let inside = c.self.inside in
    either_way c.add.result c.add.ensures.ok c.add.ensures.err
    (λ added. alone_with inside.flights (record { name = c.args.name; queue = c.args.queue }) inside.names c.add.new.self c.self.invariant added)
    (λ same. subst (IsForOpenOnly inside.flights) (sym same) c.self.invariant)

pub returns-clause-ok : goal.returns-clause-ok
returns-clause-ok c =
    let inside = c.self.inside in
    let new = not_named inside.flights c.args.name inside.names (ap (open_named c.args.name) c.self.view_is ∙ c.requires) in
    on_ok_weaker c.add.result
    (λ added. one_opened inside.flights (record { name = c.args.name; queue = c.args.queue }) inside.names c.add.new.self c.self.invariant new added
    ∙ ap (λ consumers. consumers ++ record { name = c.args.name; queue = c.args.queue; deliveries = [] } ∷ []) c.self.view_is)
    c.add.ensures.ok
