use Rattle.std.proofs.Common.{List, ℕ, ◌++◌, ap, ◌∙◌, append_assoc}
use Rattle.std.specs.Int.{to_be_bytes, w32, w64}
use Rattle.std.proofs.lemmas.Result.{on_ok_weaker}
use Rattle.pg_msg.proofs.fields.lists.put_row.Goals as goal

pub returns : goal.returns
returns c =
    let last = to_be_bytes w64 c.args.last in
    on_ok_weaker c.put_u64.result
    (λ appended. appended ∙ ap (λ (front : List ℕ). front ++ last) c.in_ok-put_u32.ensures.ok ∙ append_assoc c.args.out.now (to_be_bytes w32 c.args.address) last)
    c.put_u64.ensures.ok
