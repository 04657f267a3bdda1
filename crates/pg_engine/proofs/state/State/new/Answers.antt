use Rattle.std.proofs.Common.{◌≢◌, All, List, length, map, sym, subst, ◌∙◌, ap, AllPairs}
use Rattle.pg_fold.specs.declared.rows.AddressRow.{AddressRow}
use Rattle.pg_fold.specs.declared.rows.QueueRow.{QueueRow}
use Rattle.pg_fold.specs.Rows.{AreAscending}
use Rattle.pg_dispatch.specs.Dispatch.{Dispatch}
use Rattle.pg_recover.specs.Denotation.{queue_of}
use Rattle.pg_parse.specs.FilterTexts.{IsReadable}
use Rattle.pg_engine.specs.Kept.{AreRoutesOf, line_from}
use Rattle.pg_engine.proofs.OpenedState.{begun_sound, opened_fit}
use Rattle.pg_engine.proofs.WeightLemmas.{weights_are}
use Rattle.pg_engine.proofs.state.State.new.Goals as goal

pub named_routes-requires-clause-ascending : goal.named_routes-requires-clause-ascending
named_routes-requires-clause-ascending c = subst AreAscending (sym c.as_slice-queues.ensures) (begun_sound c.args.durable c.requires.begun).queues.ascending

pub named_routes-requires-clause-names : goal.named_routes-requires-clause-names
named_routes-requires-clause-names c =
    subst (λ (l : List QueueRow). AllPairs (λ row other. row.name ≢ other.name) l) (sym c.as_slice-queues.ensures) (begun_sound c.args.durable c.requires.begun).queues.names

pub invariant_of-result : goal.invariant_of-result
invariant_of-result c =
    let d = c.args.durable in
    opened_fit d c.in_ok-routes.routes c.in_ok-weights.weights.items c.in_ok-dispatcher.dispatcher.lines c.args.paged.items c.requires.begun c.requires.roomy
    (subst (λ (l : List AddressRow). AreRoutesOf l d.queues c.in_ok-routes.routes) c.as_slice-addresses.ensures
    (subst (λ (l : List QueueRow). AreRoutesOf c.as_slice-addresses.result.now l c.in_ok-routes.routes) c.as_slice-queues.ensures c.in_ok-routes.ensures))
    (weights_are d c.in_ok-weights.weights.items (begun_sound d c.requires.begun).addresses c.requires.roomy
    (c.in_ok-weights.ensures.count ∙ ap (λ (l : List AddressRow). length l) c.as_slice-addresses.ensures)
    c.in_ok-weights.ensures.each)
    (ap (λ (x : Dispatch). x.lines) c.in_ok-dispatcher.ensures ∙ ap (λ (l : List QueueRow). map line_from (map (queue_of d.journaled) l)) c.as_slice-queues.ensures) c.requires.counted

pub dispatched-requires-clause-ascending : goal.dispatched-requires-clause-ascending
dispatched-requires-clause-ascending c = subst AreAscending (sym c.as_slice-queues.ensures) (begun_sound c.args.durable c.requires.begun).queues.ascending

pub dispatched-requires-clause-apart : goal.dispatched-requires-clause-apart
dispatched-requires-clause-apart c = (begun_sound c.args.durable c.requires.begun).messages.ids

pub named_routes-requires-clause-filters : goal.named_routes-requires-clause-filters
named_routes-requires-clause-filters c = subst (λ (l : List QueueRow). All (λ row. IsReadable row.filter) l) (sym c.as_slice-queues.ensures) (begun_sound c.args.durable c.requires.begun).queues.readable
