use Rattle.std.proofs.Common.{◌-◌, leb, List, length, get_or, sym, ◌∙◌, ap, subst}
use Rattle.pg_fold.specs.declared.rows.AddressRow.{AddressRow}
use Rattle.pg_model.specs.Refusals.{WouldPage}
use Rattle.pg_engine.specs.Kept.{Kept, IsId, broker_of, view_of}
use Rattle.pg_engine.proofs.FitLemmas.{full_pages, pages_full}
use Rattle.pg_engine.proofs.state.State.would_page.Goals as goal

pub returns-else-index : goal.returns-else-index
returns-else-index c =
    let i = c.self.inside in
    let known : IsId (length i.durable.addresses) c.args.address = subst (λ (k : Kept). IsId (length k.durable.addresses) c.args.address) (sym c.self.view_is) c.requires in
    let other = c.index-as_slice-place.result in
    let same = ap (λ (rows : List AddressRow). (get_or rows (c.args.address - 1) other).max) c.as_slice.ensures in
    let weight = c.index-else-index.result.now in (
      λ full.
          subst (λ (k : Kept). WouldPage (view_of k) (broker_of k) c.args.address) c.self.view_is
          (full_pages i.durable i.routes i.weights.items i.dispatcher.lines i.paged.items i.drawn c.args.address c.self.invariant known i.ids i.dispatcher.consumers c.index.result.now c.index.ensures c.if-index.false other weight c.index-else-index.ensures
          (ap (λ n. leb n weight) (sym same) ∙ full)),
      λ paged.
          ap (λ n. leb n weight) same
          ∙ pages_full i.durable i.routes i.weights.items i.dispatcher.lines i.paged.items i.drawn c.args.address c.self.invariant known i.ids i.dispatcher.consumers c.index.result.now c.index.ensures c.if-index.false other weight c.index-else-index.ensures
          (subst (λ (k : Kept). WouldPage (view_of k) (broker_of k) c.args.address) (sym c.self.view_is) paged),
    )
