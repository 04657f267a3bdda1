use Rattle.std.proofs.Common.{◌≡◌, ◌∙◌, true, false, ap, refl, sym}
use Rattle.pg_pagetx.specs.Kept.{seen}
use Rattle.pg_pagetx.specs.Standings.{Transactions, is_among, standing_of}
use Rattle.pg_pagetx.proofs.Finding.{found, told}
use Rattle.pg_pagetx.proofs.page_txs.PageTxs.standing.Goals as goal

pub returns-then-contains : goal.returns-then-contains
returns-then-contains c =
    let inside = c.self.inside in
    let counts : is_among c.args.tx (seen inside.committed inside.pending).committed ≡ true = sym (found c.args.tx inside.committed.keys) ∙ sym c.contains.ensures ∙ c.if-contains.true in
    sym (told c.args.tx (seen inside.committed inside.pending) true (is_among c.args.tx (seen inside.committed inside.pending).pending) counts refl)
    ∙ ap (λ (txs : Transactions). standing_of txs c.args.tx) c.self.view_is

pub returns-then-contains-2 : goal.returns-then-contains-2
returns-then-contains-2 c =
    let inside = c.self.inside in
    let counts : is_among c.args.tx (seen inside.committed inside.pending).committed ≡ false = sym (found c.args.tx inside.committed.keys) ∙ sym c.contains.ensures ∙ c.if-contains.false in
    let waits : is_among c.args.tx (seen inside.committed inside.pending).pending ≡ true = sym (found c.args.tx inside.pending.keys) ∙ sym c.contains-else-contains.ensures ∙ c.if-contains-2.true in
    sym (told c.args.tx (seen inside.committed inside.pending) false true counts waits) ∙ ap (λ (txs : Transactions). standing_of txs c.args.tx) c.self.view_is

pub returns-else-contains-2 : goal.returns-else-contains-2
returns-else-contains-2 c =
    let inside = c.self.inside in
    let counts : is_among c.args.tx (seen inside.committed inside.pending).committed ≡ false = sym (found c.args.tx inside.committed.keys) ∙ sym c.contains.ensures ∙ c.if-contains.false in
    let waits : is_among c.args.tx (seen inside.committed inside.pending).pending ≡ false = sym (found c.args.tx inside.pending.keys) ∙ sym c.contains-else-contains.ensures ∙ c.if-contains-2.false in
    sym (told c.args.tx (seen inside.committed inside.pending) false false counts waits) ∙ ap (λ (txs : Transactions). standing_of txs c.args.tx) c.self.view_is
