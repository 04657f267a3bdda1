use Rattle.std.proofs.Common.{arith}
use Rattle.pg_gate.proofs.Walking.{length_spelled}
use Rattle.pg_gate.proofs.spans.payload_length.Goals as goal

pub returns-clause-whole : goal.returns-clause-whole
returns-clause-whole c = λ nine. length_spelled c.args.head.now c.take_u64.result c.unwrap_or.result (λ i. omega (arith, c.type_inv.head i)) c.take_u64.ensures c.unwrap_or.ensures nine
