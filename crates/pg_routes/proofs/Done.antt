-- What is known where a queue was made, and where a message was sent.
use Rattle.std.proofs.Common.{◌≡◌, ℕ, List, Option, Some, None, refl}
use Rattle.pg_msg.specs.declared.properties.Property.{Property}
use Rattle.pg_msg.specs.declared.reply.Reply.{Reply}
use Rattle.pg_msg.specs.declared.reply.Reply.TheVariants as answer
use Rattle.pg_parse.specs.FilterTexts.{IsReadable}
use Rattle.pg_model.specs.Actions.{MakeQueue, Send}
use Rattle.pg_model.specs.Broker.{Broker, address_named}
use Rattle.pg_model.specs.Changes.{with_durable, with_queue}
use Rattle.pg_model.specs.Routing.{HasReading, IsRouted, text_of}
use Rattle.pg_model.specs.Steps.{Sends, IsDone, Does}
use Rattle.pg_routes.proofs.Members.{matched}

-- the address was there, the filter had a reading, and this is the state behind it
pub record QueueMade (s t : Broker) (name address : List ℕ) (filter : Option (List ℕ)) (reply : Reply) : Type 0 where
  pub at : ℕ
  pub named : address_named s.durable.addresses address ≡ Some at
  pub reading : HasReading filter
  pub done : reply ≡ answer.Done
  pub is : t ≡ with_durable s (with_queue s.durable name at (text_of filter))

pub queue_made : (s t : Broker) (name address : List ℕ) (filter : Option (List ℕ)) (reply : Reply) → Does s (MakeQueue name address filter) reply t → QueueMade s t name address filter reply
queue_made s t name address filter reply does =
    let found = matched (address_named s.durable.addresses address) (λ id. IsDone reply t (with_durable s (with_queue s.durable name id (text_of filter)))) does.1 in
    record { at = found.0; named = found.1; reading = does.0; done = found.2.0; is = found.2.1 }

-- the address was there, and the message went to the queues of these ids
pub record MessageSent (s t : Broker) (address : List ℕ) (properties : List Property) (body : List ℕ) (reply : Reply) : Type 0 where
  pub at : ℕ
  pub named : address_named s.durable.addresses address ≡ Some at
  pub numbers : List ℕ
  pub routed : IsRouted s at properties numbers
  pub sends : Sends s numbers properties body reply t

pub message_sent : (s t : Broker) (address : List ℕ) (properties : List Property) (body : List ℕ) (reply : Reply) → Does s (Send address properties body) reply t → MessageSent s t address properties body reply
message_sent s t address properties body reply does =
    let found = matched (address_named s.durable.addresses address) (λ id. (numbers : List ℕ) × IsRouted s id properties numbers × Sends s numbers properties body reply t) does in
    record { at = found.0; named = found.1; numbers = found.2.0; routed = found.2.1; sends = found.2.2 }

-- a filter that has a reading is kept as a text that is readable
pub readable_text : (filter : Option (List ℕ)) → HasReading filter → IsReadable (text_of filter)
readable_text None reading = (None, refl)
readable_text (Some text) reading = (Some reading.0, reading.1)
