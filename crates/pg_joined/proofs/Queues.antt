-- The queues of the whole, as their messages change.
use Rattle.std.proofs.Common.{◌≡◌, ℕ, ◌==◌, cond, Bool, true, false, not, List, [], ◌∷◌, ◌++◌, refl, sym, ap, ap₂, subst, ◌∙◌, append_assoc}
use Rattle.std.proofs.lemmas.Bool.{false≢true}
use Rattle.std.proofs.lemmas.List.{append-nil, map-append}
use Rattle.std.proofs.lemmas.List.Elements.{filter-append}
use Rattle.std.specs.List.{Contains}
use Rattle.pg_msg.specs.declared.message.Message.{Message}
use Rattle.pg_msg.specs.declared.message.MessageId.{MessageId}
use Rattle.pg_model.specs.Broker.{Queue, same_id}
use Rattle.pg_model.specs.Changes.{acknowledged, given, given_to, has_number, relieved, without_message, without_queue}
use Rattle.pg_joined.specs.Joined.{PagedMessages, joined_queue, joined_queues, with_messages_at, with_paged}
use Rattle.pg_joined.proofs.Lists.{filter_mapped, from_filtered, in_first, in_rest, maps_alike, twice_mapped}

abbrev pub holding : Queue → List Message → Queue
holding q messages = record q { messages = messages }

is_false : (b : Bool) → not b ≡ true → b ≡ false
is_false true not_so = absurd (false≢true not_so)
is_false false not_so = refl

-- ---- a queue comes or goes
pub made : (paged : PagedMessages) (q : Queue) (queues : List Queue) → q.messages ≡ [] → paged q.id ≡ [] → joined_queues paged (queues ++ (q ∷ [])) ≡ joined_queues paged queues ++ (q ∷ [])
made paged q queues empty none =
    map-append (joined_queue paged) queues (q ∷ [])
    ∙ ap (λ messages. joined_queues paged queues ++ (holding q messages ∷ [])) (ap₂ (λ (before behind : List Message). before ++ behind) empty none ∙ sym empty)

pub dropped : (paged : PagedMessages) (id : ℕ) (queues : List Queue) → joined_queues paged (without_queue id queues) ≡ without_queue id (joined_queues paged queues)
dropped paged id queues = sym (filter_mapped (λ (q : Queue). not (q.id == id)) (joined_queue paged) (λ q. refl) queues)

pub dropped_with_pages : (paged : PagedMessages) (id : ℕ) (change : List Message → List Message) (queues : List Queue)
    → joined_queues (with_messages_at id change paged) (without_queue id queues) ≡ without_queue id (joined_queues paged queues)
dropped_with_pages paged id change queues =
    maps_alike (joined_queue (with_messages_at id change paged)) (joined_queue paged) (without_queue id queues)
    (λ q there. ap (λ b. holding q (q.messages ++ cond b (change (paged q.id)) (paged q.id))) (is_false (q.id == id) (from_filtered (λ (q : Queue). not (q.id == id)) queues q there).1))
    ∙ dropped paged id queues

-- ---- a message comes
pub given_to_broker : (paged : PagedMessages) (numbers : List ℕ) (m : Message) (queues : List Queue) → ((q : Queue) → has_number numbers q.id ≡ true → paged q.id ≡ [])
    → joined_queues paged (given numbers m queues) ≡ given numbers m (joined_queues paged queues)
given_to_broker paged numbers m queues none =
    twice_mapped (joined_queue paged) (given_to numbers m) queues
    ∙ (maps_alike (λ q. joined_queue paged (given_to numbers m q)) (λ q. given_to numbers m (joined_queue paged q)) queues (λ q there. one q (has_number numbers q.id) (none q))
    ∙ sym (twice_mapped (given_to numbers m) (joined_queue paged) queues))
  where
    one : (q : Queue) (b : Bool) → (b ≡ true → paged q.id ≡ [])
        → joined_queue paged (cond b (holding q (q.messages ++ (m ∷ []))) q) ≡ cond b (holding q ((q.messages ++ paged q.id) ++ (m ∷ []))) (joined_queue paged q)
    one q true none =
        ap (holding q)
        (subst (λ (behind : List Message). (q.messages ++ (m ∷ [])) ++ behind ≡ (q.messages ++ behind) ++ (m ∷ [])) (sym (none refl))
        (append-nil (q.messages ++ (m ∷ [])) ∙ ap (λ (messages : List Message). messages ++ (m ∷ [])) (sym (append-nil q.messages))))
    one q false none = refl

pub given_to_pages : (paged : PagedMessages) (numbers : List ℕ) (m : Message) (queues : List Queue)
    → joined_queues (with_paged numbers m paged) queues ≡ given numbers m (joined_queues paged queues)
given_to_pages paged numbers m queues =
    maps_alike (joined_queue (with_paged numbers m paged)) (λ q. given_to numbers m (joined_queue paged q)) queues (λ q there. one q (has_number numbers q.id))
    ∙ sym (twice_mapped (given_to numbers m) (joined_queue paged) queues)
  where
    one : (q : Queue) (b : Bool)
        → holding q (q.messages ++ cond b (paged q.id ++ (m ∷ [])) (paged q.id)) ≡ cond b (holding q ((q.messages ++ paged q.id) ++ (m ∷ []))) (joined_queue paged q)
    one q true = ap (holding q) (sym (append_assoc q.messages (paged q.id) (m ∷ [])))
    one q false = refl

-- ---- a message goes
pub all_stay : (id : MessageId) (messages : List Message) → ((m : Message) → Contains messages m → same_id m.id id ≡ false) → without_message id messages ≡ messages
all_stay id [] apart = refl
all_stay id (m ∷ messages) apart =
    ap₂ (λ (b : Bool) (others : List Message). cond (not b) (m ∷ others) others) (apart m (in_first m messages)) (all_stay id messages (λ x there. apart x (in_rest x m messages there)))

pub gone_from_broker : (paged : PagedMessages) (queue : ℕ) (id : MessageId) (queues : List Queue)
    → ((q : Queue) → Contains queues q → q.id == queue ≡ true → (m : Message) → Contains (paged q.id) m → same_id m.id id ≡ false)
    → joined_queues paged (acknowledged queue id queues) ≡ acknowledged queue id (joined_queues paged queues)
gone_from_broker paged queue id queues apart =
    twice_mapped (joined_queue paged) (relieved queue id) queues
    ∙ (maps_alike (λ q. joined_queue paged (relieved queue id q)) (λ q. relieved queue id (joined_queue paged q)) queues (λ q there. one q (q.id == queue) (apart q there))
    ∙ sym (twice_mapped (relieved queue id) (joined_queue paged) queues))
  where
    one : (q : Queue) (b : Bool) → (b ≡ true → (m : Message) → Contains (paged q.id) m → same_id m.id id ≡ false)
        → joined_queue paged (cond b (holding q (without_message id q.messages)) q) ≡ cond b (holding q (without_message id (q.messages ++ paged q.id))) (joined_queue paged q)
    one q true apart =
        ap (holding q)
        (sym (filter-append (λ (m : Message). not (same_id m.id id)) q.messages (paged q.id) ∙ ap (λ behind. without_message id q.messages ++ behind) (all_stay id (paged q.id) (apart refl))))
    one q false apart = refl

pub gone_from_pages : (paged : PagedMessages) (queue : ℕ) (id : MessageId) (queues : List Queue)
    → ((q : Queue) → Contains queues q → q.id == queue ≡ true → (m : Message) → Contains q.messages m → same_id m.id id ≡ false)
    → joined_queues (with_messages_at queue (without_message id) paged) queues ≡ acknowledged queue id (joined_queues paged queues)
gone_from_pages paged queue id queues apart =
    maps_alike (joined_queue (with_messages_at queue (without_message id) paged)) (λ q. relieved queue id (joined_queue paged q)) queues (λ q there. one q (q.id == queue) (apart q there))
    ∙ sym (twice_mapped (relieved queue id) (joined_queue paged) queues)
  where
    one : (q : Queue) (b : Bool) → (b ≡ true → (m : Message) → Contains q.messages m → same_id m.id id ≡ false)
        → holding q (q.messages ++ cond b (without_message id (paged q.id)) (paged q.id)) ≡ cond b (holding q (without_message id (q.messages ++ paged q.id))) (joined_queue paged q)
    one q true apart =
        ap (holding q)
        (sym (filter-append (λ (m : Message). not (same_id m.id id)) q.messages (paged q.id) ∙ ap (λ before. before ++ without_message id (paged q.id)) (all_stay id q.messages (apart refl))))
    one q false apart = refl
