use Rattle.std.proofs.Common.{inl, inr, refl}
use Rattle.pg_recover.proofs.ListingLemmas.{listed_next, none_listed, unlisted_next}
use Rattle.pg_recover.proofs.listing.listing_damage.Goals as goal

pub loop-file-init : goal.loop-file-init
loop-file-init c = record { listed = λ are. are; unlisted = λ damage named. named }

pub returns-in-Some : goal.returns-in-Some
returns-in-Some c =
    c.loop-file.invariant.unlisted _ (unlisted_next c.args.addresses.now c.loop-file.before c.args.files.now c.loop-file.file-index _ c.loop-file-test.true _
    (inl (record { of_file = refl; offset = refl; breaks = c.in-Some.ensures })))

pub loop-file-preserved : goal.loop-file-preserved
loop-file-preserved c = record {
  listed = λ are. c.loop-file.invariant.listed (listed_next c.args.addresses.now c.loop-file.before c.args.files.now c.loop-file.file-index _ c.loop-file-test.true c.in_default.ensures are);
  unlisted = λ damage named. c.loop-file.invariant.unlisted damage (unlisted_next c.args.addresses.now c.loop-file.before c.args.files.now c.loop-file.file-index _ c.loop-file-test.true damage (inr named));
}

pub returns : goal.returns
returns c = c.loop-file.invariant.listed (none_listed c.args.addresses.now c.loop-file.before c.args.files.now c.loop-file.file-index c.loop-file-test.false)
