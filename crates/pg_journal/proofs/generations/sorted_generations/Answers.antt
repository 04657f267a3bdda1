use Rattle.std.proofs.Common.{rules, List, subst}
use Rattle.std.specs.List.Sorted.{IsPermutation}
use Rattle.std.proofs.lemmas.Fn.{filter_same}
use Rattle.std.proofs.lemmas.List.Sorted.{answers_always}
use Rattle.pg_disk.specs.declared.file_id.FileId.{FileId}
use Rattle.pg_journal.specs.Generations.{is_generation}
use Rattle.pg_journal.proofs.Listed.{all_kinds}
use Rattle.pg_journal.proofs.Sorting.{place_of, ascends}
use Rattle.pg_journal.proofs.generations.sorted_generations.Goals as goal

pub returns-clause-same : goal.returns-clause-same
returns-clause-same c =
    subst (λ (kept : List FileId). IsPermutation kept c.sort_by_key.new.self.items) (filter_same _ is_generation _ (λ x b f' k. search rules) _ _ c.retain.ensures.filtered) c.sort_by_key.ensures.permutation

pub returns-clause-ascending : goal.returns-clause-ascending
returns-clause-ascending c = ascends c.sort_by_key.new.self.items (c.in_ok-sort_by_key.ensures.sorted place_of (answers_always _ _ _ (λ f a r g h. search rules)))

pub returns-clause-kinds : goal.returns-clause-kinds
returns-clause-kinds c =
    all_kinds c.args.files.items c.sort_by_key.new.self.items (subst (λ (kept : List FileId). IsPermutation kept c.sort_by_key.new.self.items) (filter_same _ is_generation _ (λ x b f' k. search rules) _ _ c.retain.ensures.filtered) c.sort_by_key.ensures.permutation)
