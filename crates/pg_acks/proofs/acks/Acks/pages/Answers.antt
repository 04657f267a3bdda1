use Rattle.std.proofs.Common.{◌≡◌, subst}
use Rattle.pg_acks.specs.Acked.{AckSets, ArePagesOf}
use Rattle.pg_acks.proofs.Ordering.{if_ok_map, pages_told}
use Rattle.pg_acks.proofs.acks.Acks.pages.Goals as goal

pub returns : goal.returns
returns c =
    if_ok_map c.pages_of.result (λ pages. pages.items ≡ c.self.inside.pages.keys) (λ pages. ArePagesOf c.args.self.now pages.items)
    (λ pages is. subst (λ (acks : AckSets). ArePagesOf acks pages.items) c.self.view_is (pages_told c.self.inside.runs c.self.inside.pages c.self.invariant.wholes pages.items is))
    c.pages_of.ensures
