use Rattle.std.proofs.Common.{subst, sym, ap, ◌∙◌, length, ◌+◌}
use Rattle.pg_fold.specs.Rows.{AreNumbered}
use Rattle.pg_fold.proofs.AddressLemmas.{numbered_push}
use Rattle.pg_fold.proofs.addresses.AddressRows.push.Goals as goal

pub invariant_of-self-2 : goal.invariant_of-self-2
invariant_of-self-2 c =
    subst AreNumbered (sym c.in_ok-push.ensures.items)
    (numbered_push _ c.args.row c.self.invariant (c.requires ∙ ap (λ rows. length rows + 1) (sym c.self.view_is)))
