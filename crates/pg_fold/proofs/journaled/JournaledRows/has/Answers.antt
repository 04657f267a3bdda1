use Rattle.std.proofs.Common.{◌∙◌, sym, ap}
use Rattle.std.specs.Prelude.{is_some}
use Rattle.pg_fold.proofs.JournaledLemmas.{found_has, some_is}
use Rattle.pg_fold.proofs.journaled.JournaledRows.has.Goals as goal

pub returns : goal.returns
returns c = c.is_some.ensures ∙ sym (some_is (λ row. row.now) c.get.result) ∙ ap is_some c.get.ensures ∙ found_has c.args.id c.args.self.now
