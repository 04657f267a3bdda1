use Rattle.std.proofs.Common.{◌≡◌, ◌∙◌, ℕ, List, ap, sym, subst, arith}
use Rattle.pg_msg.specs.declared.reply.Refusal.TheVariants as refusal
use Rattle.pg_msg.specs.declared.reply.Reply.TheVariants as answer
use Rattle.pg_parse.specs.declared.refusal.FilterError.{FilterError}
use Rattle.pg_parse.specs.declared.refusal.FilterError.TheVariants as errors
use Rattle.pg_model.specs.Actions.{MakeQueue}
use Rattle.pg_model.specs.Broker.{Broker, Queue}
use Rattle.pg_model.specs.Changes.{with_durable, with_queue}
use Rattle.pg_model.specs.Routing.{text_of}
use Rattle.pg_plain.specs.Filtering.{IsUnread}
use Rattle.pg_plain.specs.Unpaged.{ActsUnpaged}
use Rattle.pg_plain.proofs.StepLemmas.{queue_taken, queue_nowhere, queue_full, queue_made, queue_unread, some_named, none_named}
use Rattle.pg_plain.proofs.plain.Plain.add_queue.Goals as goal

pub returns-then-is_some : goal.returns-then-is_some
returns-then-is_some c =
    let found = some_named (λ (q : Queue). q.id) _ c.queue_id.result c.queue_id.ensures (sym c.is_some.ensures ∙ c.if-is_some.true) in
    queue_taken c.args.self c.args.name c.args.address.now c.args.filter found.0 found.1

pub returns-in_default : goal.returns-in_default
returns-in_default c =
    queue_nowhere c.args.self c.args.name c.args.address.now c.args.filter (none_named (λ (q : Queue). q.id) _ c.queue_id.result c.queue_id.ensures (sym c.is_some.ensures ∙ c.if-is_some.false))
    (sym c.address_id.ensures ∙ c.in_default.is)

pub returns-then-queues_at-ge-MOST_QUEUES : goal.returns-then-queues_at-ge-MOST_QUEUES
returns-then-queues_at-ge-MOST_QUEUES c =
    queue_full c.args.self c.args.name c.args.address.now c.args.filter c.in-Some.id
    (none_named (λ (q : Queue). q.id) _ c.queue_id.result c.queue_id.ensures (sym c.is_some.ensures ∙ c.if-is_some.false)) (sym c.in-Some.ensures)
    (omega (arith, c.if-queues_at-ge-MOST_QUEUES.true, c.queues_at.ensures))

pub returns-in_ok-with_queue-in-Ok : goal.returns-in_ok-with_queue-in-Ok
returns-in_ok-with_queue-in-Ok c =
    let made : c.in_ok-with_queue-in-Ok.field-0 ≡ with_durable c.args.self (with_queue c.args.self.durable c.args.name c.in-Some.id (text_of c.args.filter)) =
    c.in_ok-with_queue-in-Ok.ensures ∙ ap (λ (text : List ℕ). with_durable c.args.self (with_queue c.args.self.durable c.args.name c.in-Some.id text)) c.in-Ok.ensures.text in
    subst (λ (t : Broker). ActsUnpaged c.args.self (MakeQueue c.args.name c.args.address.now c.args.filter) answer.Done t) (sym made)
    (queue_made c.args.self c.args.name c.args.address.now c.args.filter c.in-Some.id
    (none_named (λ (q : Queue). q.id) _ c.queue_id.result c.queue_id.ensures (sym c.is_some.ensures ∙ c.if-is_some.false)) (sym c.in-Some.ensures)
    (omega (arith, c.if-queues_at-ge-MOST_QUEUES.false, c.queues_at.ensures)) c.in-Ok.ensures.read)

pub returns-in-Err-BadFilter : goal.returns-in-Err-BadFilter
returns-in-Err-BadFilter c =
    let bad : IsUnread c.args.filter (errors.BadFilter c.in-Err-BadFilter.at) = subst (λ (e : FilterError). IsUnread c.args.filter e) c.in-Err-BadFilter.field-0-is c.in-Err-BadFilter.ensures.refused in
    subst (λ (at : ℕ). ActsUnpaged c.args.self (MakeQueue c.args.name c.args.address.now c.args.filter) (answer.No (refusal.Filter at)) c.args.self) (sym c.in-Err-BadFilter.at-is)
    (queue_unread c.args.self c.args.name c.args.address.now c.args.filter c.in-Some.id c.in-Err-BadFilter.at
    (none_named (λ (q : Queue). q.id) _ c.queue_id.result c.queue_id.ensures (sym c.is_some.ensures ∙ c.if-is_some.false)) (sym c.in-Some.ensures)
    (omega (arith, c.if-queues_at-ge-MOST_QUEUES.false, c.queues_at.ensures)) bad)
