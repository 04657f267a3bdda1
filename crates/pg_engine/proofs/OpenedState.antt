-- A broker that was opened is sound, and has drawn no id.
use Rattle.std.proofs.Common.{◌≡◌, inl, ℕ, ◌+◌, ◌≤◌, Bool, List, length, All, sym, subst, ap, arith}
use Rattle.std.proofs.lemmas.List.Elements.{All-weaker}
use Rattle.pg_fold.specs.declared.durable.Durable.{Durable}
use Rattle.pg_fold.specs.Sound.{IsSound}
use Rattle.pg_model.specs.Broker.{IsDrawn}
use Rattle.pg_recover.specs.Denotation.{raised}
use Rattle.pg_recover.specs.Recovered.{IsBegun}
use Rattle.pg_recover.specs.WellFormed.{AreRoomy}
use Rattle.pg_routes.specs.Names.{RouteNames}
use Rattle.pg_dispatch.specs.Dispatch.{Line}
use Rattle.pg_engine.specs.Kept.{AreRoutesOf, IsFit, lines_in, weights_in}

-- the next epoch begins no message
raised_sound : (d : Durable) → IsSound d → IsSound (raised d)
raised_sound d sound = record {
  addresses = sound.addresses;
  queues = sound.queues;
  messages = record {
    ids = sound.messages.ids;
    begun = All-weaker (λ row. row.message.id.epoch ≤ d.epoch) (λ row. row.message.id.epoch ≤ d.epoch + 1) (λ row low. omega arith) d.journaled sound.messages.begun;
    messages = sound.messages.messages;
  };
  held = sound.held;
}

pub begun_sound : (d : Durable) → IsBegun d → IsSound d
begun_sound d begun = subst (λ (x : Durable). IsSound x) (sym begun.is) (raised_sound begun.before begun.sound)

raised_drawn : (d : Durable) → IsSound d → All (λ row. IsDrawn (d.epoch + 1) 0 row.message.id) d.journaled
raised_drawn d sound = All-weaker (λ row. row.message.id.epoch ≤ d.epoch) (λ row. IsDrawn (d.epoch + 1) 0 row.message.id) (λ row low. inl (omega arith)) d.journaled sound.messages.begun

-- the names and the weights that are kept are those in the state
pub opened_fit : (d : Durable) (names : RouteNames) (weights : List ℕ) (lines : List Line) (paged : List Bool) → IsBegun d → AreRoomy d → AreRoutesOf d.addresses d.queues names → weights ≡ weights_in d → lines ≡ lines_in d → length paged ≡ length d.addresses → IsFit d names weights lines paged 0
opened_fit d names weights lines paged begun roomy named weighed lined counted = record {
  sound = begun_sound d begun;
  begun = omega (arith, ap (λ (x : Durable). x.epoch) begun.is);
  roomy = roomy;
  drawn_all = subst (λ (x : Durable). All (λ row. IsDrawn x.epoch 0 row.message.id) x.journaled) (sym begun.is) (raised_drawn begun.before begun.sound);
  named = named;
  weighed = weighed;
  lined = lined;
  counted = counted;
}
