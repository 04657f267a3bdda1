-- One address more, among those that are sound.
use Rattle.std.proofs.Common.{◌≡◌, ◌≢◌, ℕ, ◌+◌, ◌<◌, Bool, true, false, ◌==◌, List, [], ◌∷◌, ◌++◌, length, get_or, ◌∙◌, arith, length-append}
use Rattle.std.specs.List.{All, list_any}
use Rattle.std.specs.Str.{bytes_eq}
use Rattle.std.proofs.lemmas.Bool.{both_ways, false_from_ne_true, or_left}
use Rattle.std.proofs.lemmas.Bool.Decides.{not_from_Decides}
use Rattle.std.proofs.lemmas.List.Elements.{All-push}
use Rattle.std.proofs.lemmas.List.Folds.{list_any-append, list_any_at}
use Rattle.std.proofs.lemmas.List.Quantifiers.{all_pairs_push}
use Rattle.std.proofs.lemmas.Slice.Eq.{bytes_eq-Decides}
use Rattle.pg_fold.specs.declared.rows.AddressRow.{AddressRow}
use Rattle.pg_msg.specs.declared.limits.TheConstants.{MOST_ADDRESSES}
use Rattle.pg_fold.specs.Fold.{are_settings}
use Rattle.pg_fold.specs.Rows.{has_address, has_address_named}
use Rattle.pg_fold.specs.Sound.{AreAddresses}
use Rattle.pg_fold.proofs.AddressLemmas.{numbered_push}

-- where no element passes, each one fails
pub each_fails : {X : Type 0} (p : X → Bool) (xs : List X) → list_any p xs ≡ false → All (λ x. p x ≡ false) xs
each_fails p xs none k d lt = false_from_ne_true (p (get_or xs k d)) (λ passes. both_ways (list_any p xs) none (list_any_at p xs k d lt passes))

-- texts that compare unequal are different ones
pub differ : (name other : List ℕ) → bytes_eq name other ≡ false → name ≢ other
differ name other unequal = not_from_Decides (bytes_eq name other) (bytes_eq-Decides name other) unequal

pub addresses_push : (rows : List AddressRow) (row : AddressRow) → AreAddresses rows → row.id ≡ length rows + 1 → has_address_named rows row.name ≡ false → length rows < MOST_ADDRESSES
    → are_settings row.max row.page row.ahead row.dup ≡ true → AreAddresses (rows ++ row ∷ [])
addresses_push rows row sound next new room settings = record {
  numbered = numbered_push rows row sound.numbered next;
  names = all_pairs_push (λ a b. a.name ≢ b.name) rows row sound.names (λ k d lt. differ (get_or rows k d).name row.name (each_fails (λ r. bytes_eq r.name row.name) rows new k d lt));
  few = omega (arith, room, length-append rows (row ∷ []));
  settings = All-push (λ r. are_settings r.max r.page r.ahead r.dup ≡ true) rows row sound.settings settings;
}

-- those that were there are there still
pub still_address : (rows : List AddressRow) (row : AddressRow) (id : ℕ) → has_address rows id ≡ true → has_address (rows ++ row ∷ []) id ≡ true
still_address rows row id is = list_any-append (λ r. r.id == id) rows (row ∷ []) ∙ or_left _ _ is
