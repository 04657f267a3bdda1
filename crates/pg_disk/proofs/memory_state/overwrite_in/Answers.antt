use Rattle.std.proofs.Common.{◌≡◌, ◌∙◌, sym, ap, Some, is_some, vec_len, subst, ◌≤◌}
use Rattle.std.specs.Option.{IfSome}
use Rattle.std.specs.BTreeMap as tree
use Rattle.pg_disk.specs.Files.{file_cmp}
use Rattle.pg_disk.proofs.ContentLemmas.{comes_written, comes_unwritten, comes_same, ok_then, err_then}
use Rattle.pg_disk.proofs.DerivedOrder.{updates_by, get_by_file}
use Rattle.pg_disk.proofs.memory_state.overwrite_in.Goals as goal
use Rattle.pg_disk.proofs.memory_state.overwrite_in.Goals.{In-Some}

there : (c : In-Some) → tree.get file_cmp c.args.contents.now c.args.file ≡ Some c.in-Some.content.now
there c = sym (get_by_file c.args.contents.now c.args.file) ∙ sym c.in-Some.ensures.value

pub returns-then-not-done-clause-ok : goal.returns-then-not-done-clause-ok
returns-then-not-done-clause-ok c = comes_unwritten c.args.contents.now c.args.file c.args.at c.args.bytes.now c.args.done c.if-not-done.true

pub overwrite-requires : goal.overwrite-requires
overwrite-requires c = subst (λ o. IfSome o (λ content. c.args.at ≤ vec_len content)) (there c) c.requires

pub returns-in-Some-clause-ok : goal.returns-in-Some-clause-ok
returns-in-Some-clause-ok c =
    let m = c.args.contents.now in
    let w = c.overwrite.new.content in
    let n = c.get_mut.follows.lender w in
    let updates = updates_by m n c.args.file (Some w) ((c.get_mut.follows.holds w).3 (ap is_some (sym c.in-Some.ensures.value))) in
    ok_then c.overwrite.result (comes_written m n c.args.file c.args.at c.args.bytes.now c.args.done c.in-Some.content.now w c.if-not-done.false (there (goal.at.returns-in-Some-clause-ok c).In-Some) updates) c.overwrite.ensures.ok

pub returns-in-Some-clause-err : goal.returns-in-Some-clause-err
returns-in-Some-clause-err c =
    let m = c.args.contents.now in
    let w = c.overwrite.new.content in
    let n = c.get_mut.follows.lender w in
    let updates = updates_by m n c.args.file (Some w) ((c.get_mut.follows.holds w).3 (ap is_some (sym c.in-Some.ensures.value))) in
    err_then c.overwrite.result (comes_same m n c.args.file c.in-Some.content.now w (there (goal.at.returns-in-Some-clause-err c).In-Some) updates) c.overwrite.ensures.err
