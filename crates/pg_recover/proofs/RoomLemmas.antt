-- How much the messages of each address weigh.
use Rattle.std.proofs.Common.{◌≡◌, ℕ, ◌+◌, ◌≤◌, ◌<◌, min, Bool, true, false, cond, List, [], ◌∷◌, ◌++◌, length, map, take, get_or, refl, sym, ◌∙◌, ap, subst, arith}
use Rattle.std.specs.Prelude.{filter, sum_by, ◌==◌, ◌↔◌}
use Rattle.std.specs.List.{All}
use Rattle.std.proofs.lemmas.Bool.{and_parts, leb-true}
use Rattle.std.proofs.lemmas.List.{map-append, take_more, take_all}
use Rattle.std.proofs.lemmas.List.Elements.{filter-append, All-weaker}
use Rattle.std.proofs.lemmas.List.Sums.{sum_by-append}
use Rattle.pg_msg.specs.Messages.{weight_of}
use Rattle.pg_fold.specs.declared.durable.Durable.{Durable}
use Rattle.pg_fold.specs.declared.rows.AddressRow.{AddressRow}
use Rattle.pg_fold.specs.declared.rows.JournaledRow.{JournaledRow}
use Rattle.pg_fold.specs.Fold.{are_settings}
use Rattle.pg_fold.specs.Rows.{AreNumbered}
use Rattle.pg_fold.specs.Sound.{IsSound}
use Rattle.pg_recover.specs.Denotation.{weight_at}
use Rattle.pg_recover.specs.WellFormed.{AreRoomy}

-- what one more message adds
abbrev pub more_at : ℕ → JournaledRow → ℕ
more_at address row = cond (row.address == address) (weight_of row.message) 0

abbrev sum_of : List JournaledRow → ℕ
sum_of rows = sum_by weight_of (map (λ row. row.message) rows)

weight_one : (address : ℕ) (row : JournaledRow) → weight_at address (row ∷ []) ≡ more_at address row
weight_one address row = one (row.address == address)
  where
    one : (b : Bool) → sum_of (cond b (row ∷ []) []) ≡ cond b (weight_of row.message) 0
    one true = omega arith
    one false = refl

pub weight_push : (address : ℕ) (rows : List JournaledRow) (row : JournaledRow) → weight_at address (rows ++ row ∷ []) ≡ weight_at address rows + more_at address row
weight_push address rows row =
    ap sum_of (filter-append (λ r. r.address == address) rows (row ∷ []))
    ∙ ap (sum_by weight_of) (map-append (λ r. r.message) (filter (λ r. r.address == address) rows) (filter (λ r. r.address == address) (row ∷ [])))
    ∙ sum_by-append weight_of (map (λ r. r.message) (filter (λ r. r.address == address) rows)) (map (λ r. r.message) (filter (λ r. r.address == address) (row ∷ [])))
    ∙ ap (λ n. weight_at address rows + n) (weight_one address row)

-- sums that stay at the end of their type are those so far
abbrev pub most : ℕ
most = 18446744073709551615

pub weights_next : (rows : List JournaledRow) (index : ℕ) (row : JournaledRow) (old new : List ℕ) → index < length rows → row ≡ get_or rows index row → length new ≡ length old
    → ((k : ℕ) → k < length new → get_or new k 0 ≡ min (get_or old k 0 + more_at (k + 1) row) most)
    → ((k : ℕ) → k < length old → get_or old k 0 ≡ min (weight_at (k + 1) (take index rows)) most)
    → (k : ℕ) → k < length new → get_or new k 0 ≡ min (weight_at (k + 1) (take (index + 1) rows)) most
weights_next rows index row old new inside there size adds so_far k lt =
    let was = so_far k (omega (arith, lt, size)) in
    let now = adds k lt in
    let is : weight_at (k + 1) (take (index + 1) rows) ≡ weight_at (k + 1) (take index rows) + more_at (k + 1) row =
    ap (weight_at (k + 1)) (take_more rows index row inside) ∙ weight_push (k + 1) (take index rows) (get_or rows index row) ∙ ap (λ r. weight_at (k + 1) (take index rows) + more_at (k + 1) r) (sym there) in
    capped (get_or new k 0) (get_or old k 0) (weight_at (k + 1) (take (index + 1) rows)) (weight_at (k + 1) (take index rows)) (more_at (k + 1) row) now was is
  where
    capped : (n o x y w : ℕ) → n ≡ min (o + w) most → o ≡ min y most → x ≡ y + w → n ≡ min x most
    capped n o x y w now was is = omega (arith, now, was, is)

pub weights_done : (rows : List JournaledRow) (index : ℕ) (sums : List ℕ) → length rows ≤ index → ((k : ℕ) → k < length sums → get_or sums k 0 ≡ min (weight_at (k + 1) (take index rows)) most)
    → (k : ℕ) → k < length sums → get_or sums k 0 ≡ min (weight_at (k + 1) rows) most
weights_done rows index sums past so_far k lt = so_far k lt ∙ ap (λ l. min (weight_at (k + 1) l) most) (take_all index rows past)

-- A sum below a limit is the weight itself, and a sum at the limit shows a weight that isn't below it.
pub light_or_not : (rows : List AddressRow) (journaled : List JournaledRow) (sums : List ℕ) → AreNumbered rows → All (λ (row : AddressRow). row.max ≤ 1000000000000) rows → length sums ≡ length rows
    → ((k : ℕ) → k < length sums → get_or sums k 0 ≡ min (weight_at (k + 1) journaled) most)
    → (k : ℕ) (d : AddressRow) → k < length rows → (get_or sums k 0 < (get_or rows k d).max + 102400) ↔ (weight_at (get_or rows k d).id journaled < (get_or rows k d).max + 102400)
light_or_not rows journaled sums numbered limited count each k d lt =
    let id = numbered k d lt in
    let max = limited k d lt in
    let sum = each k (omega (arith, lt, count)) in
    let weight : weight_at (get_or rows k d).id journaled ≡ weight_at (k + 1) journaled = ap (λ n. weight_at n journaled) id in
    both (get_or sums k 0) (get_or rows k d).max (weight_at (get_or rows k d).id journaled) (weight_at (k + 1) journaled) max sum weight
  where
    both : (s m w x : ℕ) → m ≤ 1000000000000 → s ≡ min x most → w ≡ x → (s < m + 102400) ↔ (w < m + 102400)
    both s m w x max sum weight = (λ below. omega (arith, below, max, sum, weight), λ below. omega (arith, below, max, sum, weight))

-- so the sums tell whether each address has room
abbrev pub AreLight : List AddressRow → List ℕ → Type 0
AreLight rows sums = (k : ℕ) (d : AddressRow) → k < length rows → get_or sums k 0 < (get_or rows k d).max + 102400

abbrev pub AreSums : List JournaledRow → List ℕ → Type 0
AreSums journaled sums = (k : ℕ) → k < length sums → get_or sums k 0 ≡ min (weight_at (k + 1) journaled) most

-- the limits of the addresses are in their range
are_limited : (d : Durable) → IsSound d → All (λ (row : AddressRow). row.max ≤ 1000000000000) d.addresses
are_limited d sound =
    All-weaker (λ (row : AddressRow). are_settings row.max row.page row.ahead row.dup ≡ true) (λ row. row.max ≤ 1000000000000) (λ row are. leb-true row.max 1000000000000 (and_parts _ _ are).0) d.addresses
    sound.addresses.settings

light_tells : (d : Durable) (sums : List ℕ) → IsSound d → length sums ≡ length d.addresses → AreSums d.journaled sums → AreLight d.addresses sums ↔ AreRoomy d
light_tells d sums sound count each = (
  λ light k row lt. (light_or_not d.addresses d.journaled sums sound.addresses.numbered (are_limited d sound) count each k row lt).0 (light k row lt),
  λ roomy k row lt. (light_or_not d.addresses d.journaled sums sound.addresses.numbered (are_limited d sound) count each k row lt).1 (roomy k row lt),
)

pub room_tells : (d : Durable) (rows : List AddressRow) (journaled : List JournaledRow) (sums here : List ℕ) (told : Type 0) → IsSound d → rows ≡ d.addresses → journaled ≡ d.journaled → here ≡ sums
    → length sums ≡ length rows → AreSums journaled sums → (told ↔ AreLight rows here) → told ↔ AreRoomy d
room_tells d rows journaled sums here told sound addresses messages is count each tells =
    let light = light_tells d sums sound (count ∙ ap length addresses) (subst (λ l. AreSums l sums) messages each) in
    let same = subst (λ l. told ↔ AreLight d.addresses l) is (subst (λ l. told ↔ AreLight l here) addresses tells) in
    (λ yes. light.0 (same.0 yes), λ roomy. same.1 (light.1 roomy))
