-- What is seen beside pages is seen beside the same pages of other files.
use Rattle.std.proofs.Common.{◌∙◌, List, [], ◌∷◌, Option}
use Rattle.std.specs.FinMap.{FinMap}
use Rattle.pg_disk.specs.Account.{FileState}
use Rattle.pg_disk.specs.Files.{file_cmp}
use Rattle.pg_disk.specs.Views.{Contents, as_read}
use Rattle.pg_msg.specs.declared.command.Command.{Command}
use Rattle.pg_msg.specs.declared.reply.Reply.{Reply}
use Rattle.pg_model.specs.Broker.{Broker}
use Rattle.pg_model.specs.Refusals.{View}
use Rattle.pg_model.specs.Steps.{Run}
use Rattle.pg_recover.specs.Recovered.{KeepsOthers}
use Rattle.pg_recover.specs.WellFormed.{page_file}
use Rattle.pg_run.specs.Sights.{HasSamePages, IsSeenBeside}

-- where files that are no generation of the journal are kept, so are the pages
pub kept_pages : (old new : FinMap file_cmp FileState) → KeepsOthers old new → HasSamePages (as_read old) (as_read new)
kept_pages old new keeps address number = keeps (page_file address number) (λ e. cc)

pub seen_beside : (pages others : Contents) → HasSamePages pages others → (s : Broker) (view : View) → IsSeenBeside others s view → IsSeenBeside pages s view
seen_beside pages others same s view seen = record {
  contents = seen.contents;
  beside = λ address number. seen.beside address number ∙ same address number;
  shown = seen.shown;
  bounded = seen.bounded;
}

-- so a run beside the ones is a run beside the others
pub run_beside : (pages others : Contents) → HasSamePages pages others → (s : Broker) (items : List (Option Command)) (replies : List Reply) (states : List Broker) → Run (IsSeenBeside others) s items replies states → Run (IsSeenBeside pages) s items replies states
run_beside pages others same s [] [] [] run = tt
run_beside pages others same s [] [] (t ∷ states) run = absurd run
run_beside pages others same s [] (reply ∷ replies) states run = absurd run
run_beside pages others same s (item ∷ items) [] states run = absurd run
run_beside pages others same s (item ∷ items) (reply ∷ replies) [] run = absurd run
run_beside pages others same s (item ∷ items) (reply ∷ replies) (t ∷ states) run =
    ((run.0.0, seen_beside pages others same s run.0.0 run.0.1, run.0.2), run_beside pages others same t items replies states run.1)
