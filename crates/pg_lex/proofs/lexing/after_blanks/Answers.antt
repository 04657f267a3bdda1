use Rattle.std.proofs.Common.{◌≡◌, ◌+◌, ◌-◌, ◌≤◌, ℕ, List, length, take, drop, sym, ap, subst, ◌∙◌, arith, length-drop}
use Rattle.std.specs.List.{prefix_len}
use Rattle.std.proofs.lemmas.List.{drop-drop, take_rest}
use Rattle.std.proofs.lemmas.List.Sums.{prefix_len-le-length}
use Rattle.pg_lex.specs.Characters.{is_blank, Each, NotNext}
use Rattle.pg_lex.specs.Tokens.{AreBlanks}
use Rattle.pg_lex.proofs.Runs.{each_passes, next_fails}
use Rattle.pg_lex.proofs.lexing.after_blanks.Goals as goal

-- the blanks that were counted
counted : (bytes : List ℕ) (place n : ℕ) → n ≡ prefix_len is_blank (take (length bytes - place) (drop place bytes)) → n ≡ prefix_len is_blank (drop place bytes)
counted bytes place n is = is ∙ ap (prefix_len is_blank) (take_rest bytes place)

within : (bytes : List ℕ) (place n : ℕ) → place ≤ length bytes → n ≡ prefix_len is_blank (drop place bytes) → place + n ≤ length bytes
within bytes place n le is = omega (arith, is, prefix_len-le-length is_blank (drop place bytes), length-drop place bytes)

are_blanks : (bytes : List ℕ) (place n : ℕ) → n ≡ prefix_len is_blank (drop place bytes) → AreBlanks bytes place (place + n)
are_blanks bytes place n is = record {
  ordered = omega arith;
  blanks =
      let e : prefix_len is_blank (drop place bytes) ≡ place + n - place = omega (arith, is) in
      subst (λ m. Each is_blank (take m (drop place bytes))) e (each_passes is_blank (drop place bytes));
}

next : (bytes : List ℕ) (place n : ℕ) → n ≡ prefix_len is_blank (drop place bytes) → NotNext is_blank (drop (place + n) bytes)
next bytes place n is = subst (NotNext is_blank) (ap (λ m. drop m (drop place bytes)) (sym is) ∙ drop-drop n place bytes) (next_fails is_blank (drop place bytes))

pub overflow_add-result : goal.overflow_add-result
overflow_add-result c = let le = within c.args.bytes.now c.args.place c.blanks.result c.requires (counted c.args.bytes.now c.args.place c.blanks.result c.blanks.ensures) in omega (arith, le)

pub returns-clause-within : goal.returns-clause-within
returns-clause-within c = within c.args.bytes.now c.args.place c.blanks.result c.requires (counted c.args.bytes.now c.args.place c.blanks.result c.blanks.ensures)

pub returns-clause-blanks : goal.returns-clause-blanks
returns-clause-blanks c = are_blanks c.args.bytes.now c.args.place c.blanks.result (counted c.args.bytes.now c.args.place c.blanks.result c.blanks.ensures)

pub returns-clause-next : goal.returns-clause-next
returns-clause-next c = next c.args.bytes.now c.args.place c.blanks.result (counted c.args.bytes.now c.args.place c.blanks.result c.blanks.ensures)
