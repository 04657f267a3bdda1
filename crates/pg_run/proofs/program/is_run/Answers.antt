use Rattle.std.proofs.Common.{List, ℕ, ◌≡◌, ◌∙◌, sym, subst, string_bytes}
use Rattle.std.specs.Prelude.{codes}
use Rattle.std.proofs.lemmas.Slice.Eq.{bytes_eq-Decides}
use Rattle.pg_run.specs.ProgramWords.{IsDirectory}
use Rattle.pg_run.proofs.WordsLemmas.{is_three, are_run, run_directory}
use Rattle.pg_run.proofs.program.is_run.Goals as goal

pub returns-then-eq : goal.returns-then-eq
returns-then-eq c =
    let three = is_three c.args.words.now c.command-item.result c.directory-item.result c.in-len3.len_at_least c.in-len3.len_below c.command-item.is c.directory-item.is in
    let run : string_bytes c.command-item.result ≡ codes "run" = sym c.as_str.ensures.value ∙ (bytes_eq-Decides c.as_str.result.now (codes "run")).0 (sym c.eq.ensures ∙ c.if-eq.true) in
    let value : c.as_str-then-eq.result.now ≡ string_bytes c.directory-item.result = c.as_str-then-eq.ensures.value in (
      (λ is. are_run c.args.words.now c.command-item.result c.directory-item.result three run (subst (λ (w : List ℕ). IsDirectory w) value (c.is_directory.ensures.0 is))),
      (λ words. c.is_directory.ensures.1 (subst (λ (w : List ℕ). IsDirectory w) (sym value) (run_directory c.args.words.now c.command-item.result c.directory-item.result three words))),
    )
