use Rattle.std.proofs.Common.{◌≡◌, None, arith, subst}
use Rattle.pg_msg.specs.declared.fields.Unread.{Unread}
use Rattle.pg_msg.specs.Reading.{Misses}
use Rattle.pg_records.specs.Reading.{batch_at}
use Rattle.pg_records.proofs.BatchLaws.{batch_takes, reads_only, reads_none}
use Rattle.pg_records.proofs.decoding.decode_batch.Goals as goal

nothing : (c : goal.In-Err-Malformed) → batch_at c.args.bytes.now ≡ None
nothing c = subst (λ (error : Unread). Misses error (batch_at c.args.bytes.now)) c.in-Err-Malformed.field-0-is c.in-Err-Malformed.ensures

pub returns-in-Ok-clause-found : goal.returns-in-Ok-clause-found
returns-in-Ok-clause-found c = batch_takes c.args.bytes.now c.in-Ok.entries.items (λ i. omega (arith, c.type_inv.bytes i)) c.in-Ok.ensures

pub returns-in-Ok-clause-only : goal.returns-in-Ok-clause-only
returns-in-Ok-clause-only c = λ entries spells. reads_only c.args.bytes.now c.in-Ok.entries.items entries c.in-Ok.ensures spells

pub returns-in-Err-Malformed-clause-found : goal.returns-in-Err-Malformed-clause-found
returns-in-Err-Malformed-clause-found c = λ entries spells. reads_none c.args.bytes.now entries (nothing c) spells

pub returns-in-Err-Malformed-clause-only : goal.returns-in-Err-Malformed-clause-only
returns-in-Err-Malformed-clause-only c = λ entries spells. reads_none c.args.bytes.now entries (nothing c) spells
