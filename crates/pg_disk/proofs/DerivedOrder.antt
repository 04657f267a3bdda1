-- The derived order of files is the order of the listing.
use Rattle.std.proofs.Common.{◌≡◌, Option, refl, ap, subst}
use Rattle.std.specs.declared.cmp.Ordering.{Ordering}
use Rattle.std.specs.Ordering.{nat_cmp, ordering_then}
use Rattle.std.specs.BTreeMap as tree
use Rattle.std.specs.BTreeMap.{BTreeMap}
use Rattle.pg_disk.specs.declared.file_id.Kind.{Kind}
use Rattle.pg_disk.specs.declared.file_id.Kind.TheVariants.{Journal, Page, Large}
use Rattle.pg_disk.specs.declared.file_id.FileId.{FileId}
use Rattle.pg_disk.specs.contracts.file_id.KindOrd.TheImpl as kinds
use Rattle.pg_disk.specs.contracts.file_id.FileIdOrd.TheImpl as files
use Rattle.pg_disk.specs.Files.{rank, file_cmp}

same_kinds : (a b : Kind) → kinds.ghosts.cmp a b ≡ nat_cmp (rank a) (rank b)
same_kinds Journal Journal = refl
same_kinds Journal Page = refl
same_kinds Journal Large = refl
same_kinds Page Journal = refl
same_kinds Page Page = refl
same_kinds Page Large = refl
same_kinds Large Journal = refl
same_kinds Large Page = refl
same_kinds Large Large = refl

same_files : (a b : FileId) → files.ghosts.cmp a b ≡ file_cmp a b
same_files a b = ap (λ r. ordering_then r (ordering_then (nat_cmp a.owner b.owner) (nat_cmp a.number b.number))) (same_kinds a.kind b.kind)

pub derived_is : ◌≡◌ {A = FileId → FileId → Ordering} files.ghosts.cmp file_cmp
derived_is = λ i a b. same_files a b i

pub updates_by : {X : Type 0} (m n : BTreeMap FileId X) (f : FileId) (w : Option X) → tree.Updates files.ghosts.cmp m n f w → tree.Updates file_cmp m n f w
updates_by m n f w is = subst (λ R. tree.Updates R m n f w) derived_is is

pub get_by_file : {X : Type 0} (m : BTreeMap FileId X) (f : FileId) → tree.get files.ghosts.cmp m f ≡ tree.get file_cmp m f
get_by_file m f = ap (λ R. tree.get R m f) derived_is
