use Rattle.pg_disk.proofs.EventLemmas.{calls_added, emits_added}
use Rattle.pg_disk.proofs.call_record.CallRecord.add.Goals as goal

pub invariant_of-self : goal.invariant_of-self
invariant_of-self c = record {
  calls_of_events = calls_added c.args.self.now.events.items _ _ _ c.args.event _ c.call.ensures c.args.self.now.calls_of_events c.add_call.ensures c.push_within.ensures;
  emits_of_events = emits_added c.args.self.now.events.items _ _ _ c.args.event c.args.self.now.emits_of_events c.emits.ensures c.push_within.ensures;
}
