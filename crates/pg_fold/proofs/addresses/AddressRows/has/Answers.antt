use Rattle.std.proofs.Common.{leb, length, ap, ◌∙◌}
use Rattle.pg_fold.specs.Rows.{has_address}
use Rattle.pg_fold.proofs.AddressLemmas.{known_up_to, unknown_zero}
use Rattle.pg_fold.proofs.addresses.AddressRows.has.Goals as goal

pub returns-then-id-ge1 : goal.returns-then-id-ge1
returns-then-id-ge1 c =
    ap (λ rows. leb c.args.id (length rows)) c.as_slice.ensures.value ∙ known_up_to _ c.args.id c.self.invariant c.if-id-ge1.true ∙ ap (λ rows. has_address rows c.args.id) c.self.view_is

pub returns-else-id-ge1 : goal.returns-else-id-ge1
returns-else-id-ge1 c = unknown_zero _ c.args.id c.self.invariant c.if-id-ge1.false ∙ ap (λ rows. has_address rows c.args.id) c.self.view_is
