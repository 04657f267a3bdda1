use Rattle.std.proofs.Common.{inl, refl}
use Rattle.pg_recover.proofs.FoldingLemmas.{payload_folds, payload_breaks}
use Rattle.pg_recover.proofs.folding.fold_payload.Goals as goal

pub fold_entries-requires : goal.fold_entries-requires
fold_entries-requires c = let spells = rw c.in-Some.is at c.in_ok-entries.ensures.found in record { fields = spells.fields; sound = c.requires }

pub returns-in-Some-clause-folded : goal.returns-in-Some-clause-folded
returns-in-Some-clause-folded c =
    let spells = rw c.in-Some.is at c.in_ok-entries.ensures.found in
    payload_folds c.args.durable c.args.payload.now c.in-Some.entries.items spells c.fold_entries.result c.fold_entries.ensures.folded

pub returns-in-Some-clause-broken : goal.returns-in-Some-clause-broken
returns-in-Some-clause-broken c =
    let spells = rw c.in-Some.is at c.in_ok-entries.ensures.found in
    payload_breaks c.args.durable c.args.payload.now c.in-Some.entries.items spells c.fold_entries.result c.fold_entries.ensures.broken

pub returns-in-None-clause-broken : goal.returns-in-None-clause-broken
returns-in-None-clause-broken c = let none = rw c.in-None.is at c.in_ok-entries.ensures.found in inl (refl, none)
