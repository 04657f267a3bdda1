use Rattle.std.proofs.Common.{Option, List, ℕ, sym, ap, subst, ◌∙◌, Some}
use Rattle.pg_msg.specs.Reading.{Gives}
use Rattle.pg_text.proofs.PieceLaws.{hex_none, hex_some, hex_failed}
use Rattle.pg_text.proofs.words.hex_of.Goals as goal

pub returns-then-is : goal.returns-then-is
returns-then-is c = hex_none c.args.digits.now c.if-is.ensures ∙ ap Some (sym c.new.ensures)

pub returns-in-Ok : goal.returns-in-Ok
returns-in-Ok c = subst (λ (read : Option (List ℕ)). Gives (λ bytes. bytes) c.some_bytes.result read) (hex_some c.args.digits.now c.in-Ok.bytes.items c.if-is.ensures c.in-Ok.ensures.ok) c.some_bytes.ensures

pub returns-in-Err : goal.returns-in-Err
returns-in-Err c = rw c.unread.ensures (hex_failed c.args.digits.now c.in-Err.error c.if-is.ensures c.in-Err.ensures.err)
