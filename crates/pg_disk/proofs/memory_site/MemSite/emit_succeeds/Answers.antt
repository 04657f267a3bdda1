use Rattle.std.proofs.Common.{◌∙◌, ◌+◌, ◌↔◌, ℕ, List, IsTrue, Contains, ap, subst, count_by}
use Rattle.pg_disk.specs.declared.call_record.CallRecord.{CallRecord}
use Rattle.pg_disk.specs.Events.{is_emit}
use Rattle.pg_disk.specs.MemSite.{emit_count}
use Rattle.pg_disk.proofs.SiteLemmas.{not_named}
use Rattle.pg_disk.proofs.memory_site.MemSite.emit_succeeds.Goals as goal

pub returns : goal.returns
returns c =
    let m = c.args.self.now in
    not_named c.is_named.result m.named_emits.items c.emits.result (emit_count m) (subst (λ (ns : List ℕ). IsTrue c.is_named.result ↔ Contains ns (c.emits.result + 1)) c.deref.ensures.value c.is_named.ensures) (c.emits.ensures.count ∙ ap (λ (r : CallRecord). count_by is_emit r.events.items) c.history.ensures)
