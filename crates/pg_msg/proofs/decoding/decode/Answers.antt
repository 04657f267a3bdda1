use Rattle.std.proofs.Common.{refl, arith}
use Rattle.pg_msg.proofs.FieldLaws.{IsBytes}
use Rattle.pg_msg.proofs.MessageLaws.{front_read, only_read, none_read, none_spelled}
use Rattle.pg_msg.proofs.decoding.decode.Goals as goal

pub overflow_sub-result : goal.overflow_sub-result
overflow_sub-result c =
    let fits : IsBytes c.args.bytes.now = λ i. omega (arith, c.type_inv.bytes i) in
    (front_read c.args.bytes.now c.in-Ok.message c.in-Ok.rest.now fits c.in-Ok.ensures).within

pub returns-in-Ok-clause-found : goal.returns-in-Ok-clause-found
returns-in-Ok-clause-found c =
    let fits : IsBytes c.args.bytes.now = λ i. omega (arith, c.type_inv.bytes i) in
    let front = front_read c.args.bytes.now c.in-Ok.message c.in-Ok.rest.now fits c.in-Ok.ensures in
    (front.taken, front.spells)

pub returns-in-Ok-clause-only : goal.returns-in-Ok-clause-only
returns-in-Ok-clause-only c = λ other behind is spelled.
    let fits : IsBytes c.args.bytes.now = λ i. omega (arith, c.type_inv.bytes i) in
    let one = only_read c.args.bytes.now c.in-Ok.message c.in-Ok.rest.now fits c.in-Ok.ensures other behind is spelled in
    rw (one.0, one.1) refl

pub returns-in-Err-Malformed-clause-found : goal.returns-in-Err-Malformed-clause-found
returns-in-Err-Malformed-clause-found c = λ n message spells. none_spelled c.args.bytes.now (rw c.in-Err-Malformed.field-0-is at c.in-Err-Malformed.ensures) n message spells

pub returns-in-Err-Malformed-clause-only : goal.returns-in-Err-Malformed-clause-only
returns-in-Err-Malformed-clause-only c = λ message rest is spelled. absurd (none_read c.args.bytes.now (rw c.in-Err-Malformed.field-0-is at c.in-Err-Malformed.ensures) message rest is spelled)
