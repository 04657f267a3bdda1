use Rattle.std.proofs.Common.{Option, Some, option_map, IfOk, Result, Ok, Err, Bor, ◌≡◌, ap, sym, ◌∙◌}
use Rattle.pg_msg.specs.declared.message.Message.{Message}
use Rattle.pg_fold.specs.declared.rows.JournaledRow.{JournaledRow}
use Rattle.pg_engine.proofs.LineLemmas.{row_there}
use Rattle.pg_engine.proofs.lines.held_message.Goals as goal

copied : {E : Type 0} (r : Result Message E) (m : Message) {o : Option Message} → IfOk r (λ copy. copy ≡ m) → Some m ≡ o → IfOk r (λ copy. Some copy ≡ o)
copied (Ok copy) m is found = ap (λ (x : Message). Some x) is ∙ found
copied (Err e) m is found = tt

pub unwrap-requires : goal.unwrap-requires
unwrap-requires c = row_there c.args.rows.now c.args.id c.get.result c.get.ensures c.requires

pub returns : goal.returns
returns c =
    let found = sym (ap (option_map (λ (row : Bor JournaledRow). row.now)) c.unwrap.ensures) ∙ c.get.ensures in
    copied c.copy.result c.unwrap.result.now.message c.copy.ensures (ap (option_map (λ (row : JournaledRow). row.message)) found)
