use Rattle.std.proofs.Common.{inr, refl}
use Rattle.pg_recover.proofs.ListingLemmas.{gap_found}
use Rattle.pg_recover.proofs.listing.broken_page_rule.Goals as goal

pub returns-else-is_page : goal.returns-else-is_page
returns-else-is_page c =
    inr (
      refl,
      gap_found c.args.addresses.now c.args.before c.args.file c.in-Some.first c.requires.numbered c.requires.page c.in-Some.ensures.0 c.in-Some.ensures.1 c.if-file-first.false
          (λ is. let e = c.if-is_page.ensures.1 is in cc),
    )
