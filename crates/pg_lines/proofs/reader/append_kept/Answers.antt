use Rattle.std.proofs.Common.{◌≡◌, ◌+◌, ◌≤◌, ◌∙◌, length, cond, Result, Ok, Err, IfOk, is_ok, arith}
use Rattle.pg_lines.specs.Lines.{longest_line}
use Rattle.pg_lines.proofs.LineLemmas.{take-append_room}
use Rattle.pg_lines.proofs.reader.append_kept.Goals as goal

-- what the items are where the call went well
when_ok : {T E X : Type 0} (r : Result T E) (now xs ys zs : X) → now ≡ cond (is_ok r) xs ys → xs ≡ zs → IfOk r (λ _. now ≡ zs)
when_ok (Ok x) now xs ys zs is same = is ∙ same
when_ok (Err e) now xs ys zs is same = tt

pub returns : goal.returns
returns c =
    let le : length c.args.line.now.items ≤ longest_line + 1 = omega arith in
    when_ok _ _ _ _ _ c.extend_from_slice.ensures.items (take-append_room (longest_line + 1) c.args.line.now.items c.args.bytes.now c.min-count.result le (omega arith))
