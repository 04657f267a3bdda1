use Rattle.std.proofs.Common.{◌≡◌, ◌∙◌, ◌+◌, ◌<◌, ℕ, List, ◌∷◌, [], ◌++◌, length, get_or, take, drop, refl, sym, subst}
use Rattle.std.proofs.lemmas.Iterator.Adapters.{YieldsList-from_vec}
use Rattle.std.proofs.lemmas.Iterator.Consumers.{YieldsList-turn, YieldsList-end}
use Rattle.std.proofs.lemmas.Result.{err_from_is_err_and}
use Rattle.std.proofs.lemmas.List.{length_push}
use Rattle.pg_records.specs.declared.entry.Entry.{Entry}
use Rattle.pg_records.specs.Entries.{HaveFields}
use Rattle.pg_records.proofs.BatchBytes.{next_fields}
use Rattle.pg_fold.specs.declared.durable.Durable.{Durable}
use Rattle.pg_fold.specs.declared.fold_error.FoldError.{FoldError}
use Rattle.pg_fold.specs.declared.fold_error.FoldError.TheVariants.{Broken, Memory}
use Rattle.pg_fold.specs.Fold.{Folds, IsBrokenBy}
use Rattle.pg_fold.proofs.SoundLaws.{sound_kept}
use Rattle.pg_recover.specs.Folding.{HaveBroken, IsBroken}
use Rattle.pg_recover.proofs.FoldingLemmas.{entry_applied, entry_broken, entries_done}
use Rattle.pg_recover.proofs.folding.fold_entries.Goals as goal

pub loop-entry-init : goal.loop-entry-init
loop-entry-init c = record { fields = c.requires.fields; sound = c.requires.sound; so_far = refl }

-- one more was yielded
length_more : (xs : List Entry) (x : Entry) → length (xs ++ x ∷ []) ≡ length xs + 1
length_more xs x = length_push xs x

pub loop-entry-preserved : goal.loop-entry-preserved
loop-entry-preserved c =
    let gives = c.into_iter-entry-iterator.ensures.into_iter_gives in
    let t : (length c.loop-entry.yielded < length c.args.entries.items) × (c.in-Some.entry ≡ get_or c.args.entries.items (length c.loop-entry.yielded) c.in-Some.entry) =
    YieldsList-turn (YieldsList-from_vec {s = c.into_iter-entry-iterator.result} c.args.entries.items gives.0 (gives.1 ∙ c.args.entries.ok.0)) c.loop-entry.yielded c.loop-entry.entry-iterator c.loop-entry.yielded_by c.next.result c.next.new.self c.in-Some.entry c.in-Some.is c.next.ensures.steps in
    let fields = next_fields c.args.entries.items (length c.loop-entry.yielded) c.in-Some.entry t.0 t.1 c.loop-entry.invariant.fields in
    let more = length_more c.loop-entry.yielded c.in-Some.entry in
    record {
      fields = subst (λ n. HaveFields (drop n c.args.entries.items)) (sym more) fields.1;
      sound = sound_kept c.loop-entry.durable c.in_ok-durable.durable c.in-Some.entry c.loop-entry.invariant.sound fields.0 c.in_ok-durable.ensures.applied;
      so_far = subst (λ n. Folds c.args.durable (take n c.args.entries.items) c.in_ok-durable.durable) (sym more)
          (entry_applied c.args.durable c.loop-entry.durable c.in_ok-durable.durable c.args.entries.items (length c.loop-entry.yielded) c.in-Some.entry t.0 t.1 c.loop-entry.invariant.so_far c.in_ok-durable.ensures.applied);
    }

-- the entry that was yielded breaks the rule
broken : (d start : Durable) (all : List Entry) (n : ℕ) (x : Entry) (e : FoldError) → n < length all → x ≡ get_or all n x → Folds start (take n all) d → IsBrokenBy d x e → IsBroken (HaveBroken start all) e
broken d start all n x (Broken rule) inside is so_far here = entry_broken start d all n x rule inside is so_far here
broken d start all n x Memory inside is so_far here = tt

pub returns-in_err-durable-clause-broken : goal.returns-in_err-durable-clause-broken
returns-in_err-durable-clause-broken c =
    let gives = c.into_iter-entry-iterator.ensures.into_iter_gives in
    let t : (length c.loop-entry.yielded < length c.args.entries.items) × (c.in-Some.entry ≡ get_or c.args.entries.items (length c.loop-entry.yielded) c.in-Some.entry) =
    YieldsList-turn (YieldsList-from_vec {s = c.into_iter-entry-iterator.result} c.args.entries.items gives.0 (gives.1 ∙ c.args.entries.ok.0)) c.loop-entry.yielded c.loop-entry.entry-iterator c.loop-entry.yielded_by c.next.result c.next.new.self c.in-Some.entry c.in-Some.is c.next.ensures.steps in
    let is = err_from_is_err_and c.from_residual.result c.from_residual.ensures.1 in
    rw (is.1, is.2) (broken c.loop-entry.durable c.args.durable c.args.entries.items (length c.loop-entry.yielded) c.in-Some.entry c.in_err-durable.field-0.0 t.0 t.1 c.loop-entry.invariant.so_far c.in_err-durable.ensures.broken)

pub returns-clause-folded : goal.returns-clause-folded
returns-clause-folded c =
    let gives = c.into_iter-entry-iterator.ensures.into_iter_gives in
    let t = YieldsList-end (YieldsList-from_vec {s = c.into_iter-entry-iterator.result} c.args.entries.items gives.0 (gives.1 ∙ c.args.entries.ok.0)) c.loop-entry.yielded c.loop-entry.entry-iterator c.loop-entry.yielded_by c.next.result c.next.new.self c.in-None.is c.next.ensures.steps in
    entries_done c.args.durable c.loop-entry.durable c.args.entries.items (length c.loop-entry.yielded) t.1 c.loop-entry.invariant.so_far
