use Rattle.std.proofs.Common.{◌≡◌, ◌∙◌, ap, sym, subst, take, ◌+◌, ℕ, Bool, List, ◌∷◌, [], ◌++◌}
use Rattle.std.proofs.lemmas.List.{append-nil, take_more}
use Rattle.pg_model.specs.Broker.{Queue}
use Rattle.pg_model.specs.Routing.{GoesTo, queues_of, with_taker}
use Rattle.pg_plain.proofs.Taking.{goes_further}
use Rattle.pg_plain.proofs.queues.takers.Goals.{then-is_taker+in_ok-push, else-is_taker}
use Rattle.pg_plain.proofs.queues.takers.Goals as goal

pub loop-queue-preserved : goal.loop-queue-preserved
loop-queue-preserved c =
    let q = c.queue-item.result in
    let before = take c.loop-queue.queue-index c.args.queues.now in
    let more : take (c.loop-queue.queue-index + 1) c.args.queues.now ≡ before ++ q ∷ [] =
    take_more c.args.queues.now c.loop-queue.queue-index q c.loop-queue-test.true ∙ ap (λ (one : Queue). before ++ one ∷ []) (sym c.queue-item.is) in
    let ids : c.if-is_taker.ids.items ≡ c.loop-queue.ids.items ++ with_taker c.is_taker.result q.id [] =
    elim c.if-is_taker.branch [
      | then-is_taker+in_ok-push w ↦
          ap (λ (v : _). v.items) w.ids-is
          ∙ (w.in_ok-push.ensures.items
          ∙ (ap (λ (one : Queue). c.loop-queue.ids.items ++ one.id ∷ []) c.queue.view_is ∙ ap (λ (takes : Bool). c.loop-queue.ids.items ++ with_taker takes q.id []) (sym w.if-is_taker.true)))
      | else-is_taker w ↦
          ap (λ (v : _). v.items) w.ids-is
          ∙ (sym (append-nil c.loop-queue.ids.items) ∙ ap (λ (takes : Bool). c.loop-queue.ids.items ++ with_taker takes q.id []) (sym w.if-is_taker.false))
    ] in
    subst (λ (l : List ℕ). GoesTo c.args.properties.now (queues_of c.args.address (take (c.loop-queue.queue-index + 1) c.args.queues.now)) l) (sym ids)
    (subst (λ (queues : List Queue). GoesTo c.args.properties.now (queues_of c.args.address queues) (c.loop-queue.ids.items ++ with_taker c.is_taker.result q.id [])) (sym more)
    (goes_further c.args.properties.now c.args.address before c.loop-queue.ids.items q c.is_taker.result c.loop-queue.invariant c.is_taker.ensures))
