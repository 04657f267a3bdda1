-- A run under views that are seen of its states is a run under any view, so the laws hold of it.
use Rattle.std.proofs.Common.{List, [], ◌∷◌, Option}
use Rattle.pg_msg.specs.declared.command.Command.{Command}
use Rattle.pg_msg.specs.declared.reply.Reply.{Reply}
use Rattle.pg_model.specs.Broker.{Broker}
use Rattle.pg_model.specs.Refusals.{View}
use Rattle.pg_model.specs.Steps.{Run, last_state}
use Rattle.pg_routes.specs.Laws.{any_view, IsLater, itself, after_line}

pub seen_by_any : (Sees : Broker → View → Type 0) (s : Broker) (items : List (Option Command)) (replies : List Reply) (states : List Broker) → Run Sees s items replies states → Run any_view s items replies states
seen_by_any Sees s [] [] [] run = tt
seen_by_any Sees s [] [] (t ∷ states) run = absurd run
seen_by_any Sees s [] (reply ∷ replies) [] run = absurd run
seen_by_any Sees s [] (reply ∷ replies) (t ∷ states) run = absurd run
seen_by_any Sees s (item ∷ items) [] [] run = absurd run
seen_by_any Sees s (item ∷ items) [] (t ∷ states) run = absurd run
seen_by_any Sees s (item ∷ items) (reply ∷ replies) [] run = absurd run
seen_by_any Sees s (item ∷ items) (reply ∷ replies) (t ∷ states) run =
    ((run.0.0, tt, run.0.2), seen_by_any Sees t items replies states run.1)

-- the last state of a run comes later
pub later_by_run : (Sees : Broker → View → Type 0) (s : Broker) (items : List (Option Command)) (replies : List Reply) (states : List Broker) → Run Sees s items replies states → IsLater s (last_state s states)
later_by_run Sees s [] [] [] run = itself s
later_by_run Sees s [] [] (t ∷ states) run = absurd run
later_by_run Sees s [] (reply ∷ replies) [] run = absurd run
later_by_run Sees s [] (reply ∷ replies) (t ∷ states) run = absurd run
later_by_run Sees s (item ∷ items) [] [] run = absurd run
later_by_run Sees s (item ∷ items) [] (t ∷ states) run = absurd run
later_by_run Sees s (item ∷ items) (reply ∷ replies) [] run = absurd run
later_by_run Sees s (item ∷ items) (reply ∷ replies) (t ∷ states) run =
    after_line s t (last_state t states) item reply (run.0.0, tt, run.0.2) (later_by_run Sees t items replies states run.1)
