use Rattle.std.proofs.Common.{None, sym, ◌∙◌}
use Rattle.std.proofs.lemmas.Bool.{false≢true}
use Rattle.std.specs.BTreeMap as tree
use Rattle.pg_disk.specs.MemoryState.{events_of}
use Rattle.pg_disk.proofs.CrashLemmas.{begins_none, begins_put, begun_rest, begun_contents, begun_told, none_below}
use Rattle.pg_disk.proofs.DerivedOrder.{updates_by, get_by_file}
use Rattle.pg_disk.proofs.crash.begun.Goals as goal

pub loop-file-init : goal.loop-file-init
loop-file-init c = begins_none (events_of c.new-state.result) c.args.contents c.new-state.ensures

pub loop-file-preserved : goal.loop-file-preserved
loop-file-preserved c =
    let left = c.loop-file.contents in
    let f = c.in-Some.file in
    begins_put (events_of c.loop-file.state) (events_of c.put.new.self) left c.pop_first.new.self c.args.contents f c.in-Some.content c.deref.result.now (sym c.deref.ensures.value)
    (sym (get_by_file left f) ∙ c.in-Some.ensures.value) (updates_by left c.pop_first.new.self f None c.in-Some.ensures.updates) c.in_ok-put.ensures c.loop-file.invariant

pub returns-clause-rest : goal.returns-clause-rest
returns-clause-rest c = begun_rest (events_of c.loop-file.state) (events_of c.begin_told.new.self) c.loop-file.contents c.args.contents c.args.told.now c.in_ok-begin_told.ensures c.loop-file.invariant

pub returns-clause-contents : goal.returns-clause-contents
returns-clause-contents c =
    begun_contents (events_of c.loop-file.state) (events_of c.begin_told.new.self) c.loop-file.contents c.args.contents c.args.told.now c.in_ok-begin_told.ensures c.loop-file.invariant
    (none_below (tree.btree_map_len c.loop-file.contents) (λ some. false≢true (c.in_default.ensures.variant.1 some)))

pub returns-clause-told : goal.returns-clause-told
returns-clause-told c = begun_told (events_of c.loop-file.state) (events_of c.begin_told.new.self) c.loop-file.contents c.args.contents c.args.told.now c.in_ok-begin_told.ensures c.loop-file.invariant
