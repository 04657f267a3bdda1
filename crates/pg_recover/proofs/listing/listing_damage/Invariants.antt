use Rattle.std.proofs.Common.{None, drop}
use Rattle.pg_disk.specs.declared.fault.Damage.{Damage}
use Rattle.pg_recover.specs.Listing.{AreListed, HasUnlisted}
use Rattle.pg_recover.proofs.listing.listing_damage.Given as goal

abbrev pub invariant-loop-file : goal.invariant-loop-file
invariant-loop-file l = record {
  listed : AreListed l.addresses l.before (drop l.file-index l.files) → AreListed l.addresses None l.files;
  unlisted : (damage : Damage) → HasUnlisted l.addresses l.before (drop l.file-index l.files) damage → HasUnlisted l.addresses None l.files damage;
}
