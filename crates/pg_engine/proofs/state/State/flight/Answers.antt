use Rattle.std.proofs.Common.{◌≡◌, true, ◌∙◌, ap, subst}
use Rattle.std.specs.Prelude.{IfSome}
use Rattle.pg_dispatch.specs.Dispatch.{flight_from}
use Rattle.pg_fold.specs.Rows.{has_holder}
use Rattle.pg_engine.specs.Kept.{Kept}
use Rattle.pg_engine.proofs.LineLemmas.{holder_by_line}
use Rattle.pg_engine.proofs.state.State.flight.Goals as goal

pub returns-clause-from : goal.returns-clause-from
returns-clause-from c = c.flight.ensures.from ∙ ap (λ (k : Kept). flight_from c.args.consumer.now c.args.id k.consumers) c.self.view_is

pub returns-clause-held : goal.returns-clause-held
returns-clause-held c =
    let i = c.self.inside in
    subst (λ (k : Kept). IfSome c.flight.result (λ queue. has_holder k.durable.journaled c.args.id queue ≡ true)) c.self.view_is
    (holder_by_line i.durable i.dispatcher.lines c.args.id c.flight.result c.self.invariant.lined c.flight.ensures.held)
