use Rattle.std.proofs.Common.{List, ℕ, subst}
use Rattle.std.specs.Prelude.{IfOk, IfErr}
use Rattle.pg_recover.specs.Folding.{FoldsFrom, IsBrokenAmong, IsDamage}
use Rattle.pg_recover.specs.Places.{payload_from, payloads_from}
use Rattle.pg_recover.proofs.PieceLemmas.{piece_folds, piece_damaged}
use Rattle.pg_recover.proofs.reading.read_group.Goals as goal

pub returns-clause-folded : goal.returns-clause-folded
returns-clause-folded g c =
    piece_folds c.args.file (g.D.Disk.tells c.args.disk.now) c.args.cover c.args.spans.now c.args.durable c.requires.covers c.in_ok-bytes.bytes c.in_ok-bytes.ensures.bytes c.fold_group.result
    (subst (λ (l : List ℕ). IfOk c.fold_group.result (FoldsFrom c.args.durable (payloads_from c.args.cover.at l c.args.spans.now))) c.as_slice.ensures.value c.fold_group.ensures.folded)

pub returns-clause-damaged : goal.returns-clause-damaged
returns-clause-damaged g c =
    piece_damaged c.args.file (g.D.Disk.tells c.args.disk.now) c.args.cover c.args.spans.now c.args.durable c.requires.covers c.in_ok-bytes.bytes c.in_ok-bytes.ensures.bytes c.fold_group.result
    (subst (λ (l : List ℕ). IfErr c.fold_group.result (IsDamage (IsBrokenAmong (payload_from c.args.cover.at l) c.args.file c.args.durable c.args.spans.now))) c.as_slice.ensures.value c.fold_group.ensures.damaged)
