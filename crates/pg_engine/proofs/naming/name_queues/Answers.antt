use Rattle.std.proofs.Common.{ℕ, List, subst, sym}
use Rattle.std.proofs.lemmas.List.{take_all}
use Rattle.pg_fold.specs.declared.rows.QueueRow.{QueueRow}
use Rattle.pg_engine.specs.Kept.{AreNamed}
use Rattle.pg_parse.specs.FilterTexts.{IsReadable, ReadsAs}
use Rattle.pg_engine.proofs.NamingLemmas.{more_queue, new_queue_id, new_queue_name, none_named}
use Rattle.pg_engine.proofs.naming.name_queues.Goals as goal

pub add_queue-requires-clause-new_id : goal.add_queue-requires-clause-new_id
add_queue-requires-clause-new_id c =
    new_queue_id c.args.queues.now c.loop-row.row-index c.row-item.result c.loop-row-test.true c.row-item.is c.args.routes.addresses c.loop-row.routes c.loop-row.invariant c.requires.ascending

pub add_queue-requires-clause-new_name : goal.add_queue-requires-clause-new_name
add_queue-requires-clause-new_name c =
    new_queue_name c.args.queues.now c.loop-row.row-index c.row-item.result c.loop-row-test.true c.row-item.is c.args.routes.addresses c.loop-row.routes c.loop-row.invariant c.requires.names c.in_ok-copy.field-0 c.in_ok-copy.ensures

pub loop-row-preserved : goal.loop-row-preserved
loop-row-preserved c =
    more_queue c.args.queues.now c.loop-row.row-index c.row-item.result c.loop-row-test.true c.row-item.is c.args.routes.addresses c.loop-row.routes c.loop-row.invariant c.requires.ascending _ c.in_ok-copy.field-0 c.in_ok-tree.tree c.in_ok-copy.ensures
    (subst (λ (text : List ℕ). ReadsAs text c.in_ok-tree.tree) c.as_str.ensures.value c.in_ok-tree.ensures) c.in_ok-add_queue.ensures.ok

pub loop-row-init : goal.loop-row-init
loop-row-init c = none_named c.args.routes c.requires.none

pub read_tree-requires : goal.read_tree-requires
read_tree-requires c =
    subst IsReadable (sym c.as_str.ensures.value)
    (subst (λ (row : QueueRow). IsReadable row.filter) (sym c.row-item.is) (c.requires.filters c.loop-row.row-index c.row-item.result c.loop-row-test.true))

pub returns : goal.returns
returns c = subst (λ (l : List QueueRow). AreNamed c.args.routes.addresses l c.loop-row.routes) (take_all c.loop-row.row-index c.args.queues.now c.loop-row-test.false) c.loop-row.invariant
