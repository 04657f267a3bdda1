use Rattle.std.proofs.Common.{ap, sym, subst, arith}
use Rattle.pg_msg.specs.Commands.{IsFilterText}
use Rattle.pg_engine.specs.Kept.{Kept}
use Rattle.pg_engine.proofs.FilterLemmas.{has_reading, text_fits}
use Rattle.pg_engine.proofs.StepLemmas.{queue_spent}
use Rattle.pg_engine.proofs.state.State.add_readable_queue.Goals as goal

pub returns-then-self-ge-QUEUE_ID_LIMIT-clause-none : goal.returns-then-self-ge-QUEUE_ID_LIMIT-clause-none
returns-then-self-ge-QUEUE_ID_LIMIT-clause-none c at named =
    queue_spent c.args.self c.args.name at c.args.filter c.requires.new c.args.address named (has_reading c.args.filter c.args.tree c.requires.read) c.requires.few
    (omega (arith, c.if-self-ge-QUEUE_ID_LIMIT.true, ap (λ (k : Kept). k.durable.next) c.self.view_is))

pub make_queue-requires-clause-text : goal.make_queue-requires-clause-text
make_queue-requires-clause-text c = subst IsFilterText (sym c.in_ok-text.ensures) (text_fits c.args.filter c.requires.text)
