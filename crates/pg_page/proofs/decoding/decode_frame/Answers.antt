use Rattle.std.proofs.Common.{◌≡◌, None, arith, subst}
use Rattle.pg_msg.specs.declared.fields.Unread.{Unread}
use Rattle.pg_msg.specs.Reading.{Misses}
use Rattle.pg_page.specs.Reading.{frame_at}
use Rattle.pg_page.proofs.FrameLaws.{frame_takes, none_spelled, read_only}
use Rattle.pg_page.proofs.decoding.decode_frame.Goals as goal

nothing : (c : goal.In-Err-Malformed) → frame_at c.args.bytes.now ≡ None
nothing c = subst (λ (error : Unread). Misses error (frame_at c.args.bytes.now)) c.in-Err-Malformed.field-0-is c.in-Err-Malformed.ensures

pub returns-in-Ok-clause-found : goal.returns-in-Ok-clause-found
returns-in-Ok-clause-found c = frame_takes c.args.bytes.now c.in-Ok.frame (λ i. omega (arith, c.type_inv.bytes i)) c.in-Ok.ensures

pub returns-in-Ok-clause-only : goal.returns-in-Ok-clause-only
returns-in-Ok-clause-only c = λ frame spells. read_only c.args.bytes.now c.in-Ok.frame frame c.in-Ok.ensures spells

pub returns-in-Err-Malformed-clause-found : goal.returns-in-Err-Malformed-clause-found
returns-in-Err-Malformed-clause-found c = none_spelled c.args.bytes.now (nothing c)

pub returns-in-Err-Malformed-clause-only : goal.returns-in-Err-Malformed-clause-only
returns-in-Err-Malformed-clause-only c = λ frame spells. absurd (none_spelled c.args.bytes.now (nothing c) frame spells)
