-- The frames of pages are one list, and what stands at a place of a page is the batch with its index.
use Rattle.std.proofs.Common.{◌≡◌, ◌≢◌, ◌⊎◌, inl, inr, ℕ, ◌+◌, ◌^◌, ◌≤◌, ◌<◌, List, [], ◌∷◌, ◌++◌, length, drop, slice_get, Option, Some, None, refl, sym, ◌∙◌, ap, subst, arith, append_assoc, length-append}
use Rattle.std.specs.Int.{to_be_bytes, w64}
use Rattle.std.specs.List.{All}
use Rattle.std.proofs.lemmas.List.{take_at}
use Rattle.std.proofs.lemmas.List.Elements.{All-cons, All-nil, All-take}
use Rattle.pg_acks.specs.declared.position.Position.{Position}
use Rattle.pg_disk.proofs.Bytes.{holds_all}
use Rattle.pg_gate.specs.Gated.{opened, AllFit, Batches, HasBatches}
use Rattle.pg_gate.proofs.Unique.{back_of, batches_fit, batches_unique, fits_first, fits_rest, front_of, head_of, none_fit, opened_fit, same_length, tail_of}
use Rattle.pg_page.specs.declared.frame.Frame.{Frame}
use Rattle.pg_page.specs.declared.place.Place.{Place}
use Rattle.pg_page.specs.Pages.{AllEntriesFit, Entry, HasFrames, HasPages, Pages, SpellFrames, positioned, positioned_in}
use Rattle.pg_page.specs.Places.{IsAt, Passes}
use Rattle.pg_page.proofs.FrameLaws.{frame_short, same_frame}

-- ---- the batch at a place

-- batches that stand at the front of others are the first of these
prefix_of : (xs ys : List (List ℕ)) (h : ℕ) (d rest : List ℕ) → AllFit xs → AllFit ys → h ≢ 1 → opened xs ++ rest ≡ opened ys ++ h ∷ d → (zs : List (List ℕ)) × (ys ≡ xs ++ zs)
prefix_of [] ys h d rest fit fits closed e = (ys, refl)
prefix_of (p ∷ xs) [] h d rest fit fits closed e = absurd (closed (sym (head_of 1 h _ _ e)))
prefix_of (p ∷ xs) (q ∷ ys) h d rest fit fits closed e =
    let left : List ℕ = opened xs ++ rest in
    let right : List ℕ = opened ys ++ h ∷ d in
    let joined : to_be_bytes w64 (length p) ++ (p ++ left) ≡ to_be_bytes w64 (length q) ++ (q ++ right) =
    ap (λ (l : List ℕ). to_be_bytes w64 (length p) ++ l) (sym (append_assoc p (opened xs) rest))
    ∙ tail_of 1 1 _ _ e
    ∙ ap (λ (l : List ℕ). to_be_bytes w64 (length q) ++ l) (append_assoc q (opened ys) (h ∷ d)) in
    let size : length p ≡ length q = same_length (length p) (length q) (fits_first p xs fit) (fits_first q ys fits) (front_of (to_be_bytes w64 (length p)) (p ++ left) (to_be_bytes w64 (length q)) (q ++ right) refl joined) in
    let body : p ++ left ≡ q ++ right = back_of (to_be_bytes w64 (length p)) (p ++ left) (to_be_bytes w64 (length q)) (q ++ right) refl joined in
    let one : p ≡ q = front_of p left q right size body in
    let more = prefix_of xs ys h d rest (fits_rest p xs fit) (fits_rest q ys fits) closed (back_of p left q right size body) in
    (more.0, λ i. sym one i ∷ more.1 i)

nothing_passed : (bytes : List ℕ) (passed : List (List ℕ)) → length bytes ≤ 1 → Passes bytes passed → passed ≡ []
nothing_passed bytes [] few passes = refl
nothing_passed bytes (p ∷ ps) few passes = absurd (omega (arith, few, passes.gate, length-append p (opened ps)))

-- what is passed are the first of the page's batches
pub passed_are : (bytes : List ℕ) (batches passed : List (List ℕ)) → AllFit passed → AllFit batches → Batches bytes batches → Passes bytes passed → (zs : List (List ℕ)) × (batches ≡ passed ++ zs)
passed_are bytes batches passed fit fits (inl none) passes = ([], none.1 ∙ ap (λ (l : List (List ℕ)). l ++ []) (sym (nothing_passed bytes passed none.0 passes)))
passed_are bytes batches passed fit fits (inr some) passes =
    prefix_of passed batches some.0 some.1 (drop (length (opened passed)) bytes) fit fits some.2 (sym (holds_all bytes (opened passed) passes.stand) ∙ some.3)

-- in a page of fewer than 2^64 bytes the lengths of those that are passed have their spelling
pub passed_fit : (bytes : List ℕ) (passed : List (List ℕ)) → length bytes < 2 ^ 64 → Passes bytes passed → AllFit passed
passed_fit bytes passed short passes = opened_fit passed (length bytes) (omega (arith, passes.gate)) short

-- and those of its batches
pub short_fit : (bytes : List ℕ) (batches : List (List ℕ)) → length bytes < 2 ^ 64 → Passes bytes batches ⊎ Batches bytes batches → AllFit batches
short_fit bytes batches short (inl passes) = passed_fit bytes batches short passes
short_fit bytes batches short (inr are) = batches_fit bytes batches short are

-- the last of these
get_last : (before : List (List ℕ)) (payload : List ℕ) (zs : List (List ℕ)) → slice_get ((before ++ payload ∷ []) ++ zs) (length before) ≡ Some payload
get_last [] payload zs = refl
get_last (p ∷ before) payload zs = get_last before payload zs

pub batch_at : (bytes : List ℕ) (place : Place) (before : List (List ℕ)) (payload : List ℕ) (batches : List (List ℕ)) → AllFit (before ++ payload ∷ []) → AllFit batches → IsAt bytes place before payload → Batches bytes batches
    → slice_get batches place.position.index ≡ Some payload
batch_at bytes place before payload batches fit fits at are =
    let parts = passed_are bytes batches (before ++ payload ∷ []) fit fits are at.stands.passes in
    ap (λ (l : List (List ℕ)). slice_get l place.position.index) parts.1 ∙ ap (slice_get ((before ++ payload ∷ []) ++ parts.0)) at.index ∙ get_last before payload parts.0

-- ---- the frames

-- payloads that spell frames are short
pub entries_fit : (entries : List Entry) (frames : List (Position × Frame)) → SpellFrames entries frames → AllEntriesFit entries
entries_fit [] frames spells = All-nil (λ (entry : Entry). length entry.1 < 2 ^ 64)
entries_fit (entry ∷ entries) frames spells =
    All-cons (λ (entry : Entry). length entry.1 < 2 ^ 64) entry entries (omega (arith, frame_short entry.1 spells.0 spells.2)) (entries_fit entries spells.1 spells.3)

-- what is so of all is so of those in front
pub all_front : {X : Type 0} (P : X → Type 0) (xs ys : List X) → All P (xs ++ ys) → All P xs
all_front P xs ys all = subst (All P) (take_at xs ys (length xs) refl) (All-take P (length xs) (xs ++ ys) all)

-- so those of each page are
pub spelled_fit : (page index : ℕ) (payloads : List (List ℕ)) (rest : List Entry) (frames : List (Position × Frame)) → SpellFrames (positioned_in page index payloads ++ rest) frames
    → AllFit payloads × ((more : List (Position × Frame)) × SpellFrames rest more)
spelled_fit page index [] rest frames spells = (none_fit, (frames, spells))
spelled_fit page index (p ∷ payloads) rest frames spells =
    let others = spelled_fit page (index + 1) payloads rest spells.1 spells.3 in
    (All-cons (λ payload. length payload < 2 ^ 64) p payloads (omega (arith, frame_short p spells.0 spells.2)) others.0, others.1)

-- so a page has one list of them
pub one_page : (xs ys : List (List ℕ)) (bytes : Option (List ℕ)) → AllFit xs → AllFit ys → HasBatches xs bytes → HasBatches ys bytes → xs ≡ ys
one_page xs ys None fit fits these those = absurd these
one_page xs ys (Some bytes) fit fits these those = batches_unique bytes xs ys fit fits these those

not_there : (xs : List (List ℕ)) (bytes : Option (List ℕ)) → bytes ≡ None → HasBatches xs bytes → ⊥
not_there xs None e has = has
not_there xs (Some bytes) e has = cc

one_pages : (first : ℕ) (xs ys : List (List (List ℕ))) (pages : Pages) (a b : List (Position × Frame)) → HasPages first xs pages → HasPages first ys pages → SpellFrames (positioned first xs) a → SpellFrames (positioned first ys) b → xs ≡ ys
one_pages first [] [] pages a b these those spells spelled = refl
one_pages first [] (y ∷ ys) pages a b these those spells spelled = absurd (not_there y (pages first) (these first (omega arith)) those.0)
one_pages first (x ∷ xs) [] pages a b these those spells spelled = absurd (not_there x (pages first) (those first (omega arith)) these.0)
one_pages first (x ∷ xs) (y ∷ ys) pages a b these those spells spelled =
    let left = spelled_fit first 0 x (positioned (first + 1) xs) a spells in
    let right = spelled_fit first 0 y (positioned (first + 1) ys) b spelled in
    let one : x ≡ y = one_page x y (pages first) left.0 right.0 these.0 those.0 in
    let more : xs ≡ ys = one_pages (first + 1) xs ys pages left.1.0 right.1.0 these.1 those.1 left.1.1 right.1.1 in
    λ i. one i ∷ more i

one_spelling : (entries : List Entry) (a b : List (Position × Frame)) → SpellFrames entries a → SpellFrames entries b → a ≡ b
one_spelling [] a b spells spelled = spells ∙ sym spelled
one_spelling (entry ∷ entries) a b spells spelled =
    let one : spells.0 ≡ spelled.0 = same_frame entry.1 spells.0 spelled.0 spells.2 spelled.2 in
    let more : spells.1 ≡ spelled.1 = one_spelling entries spells.1 spelled.1 spells.3 spelled.3 in
    spells.4 ∙ ap (λ (f : Frame). (entry.0, f) ∷ spells.1) one ∙ ap (λ (l : List (Position × Frame)). (entry.0, spelled.0) ∷ l) more ∙ sym spelled.4

pub frames_once : (first : ℕ) (pages : Pages) (a b : List (Position × Frame)) → HasFrames first a pages → HasFrames first b pages → a ≡ b
frames_once first pages a b these those =
    let spells : SpellFrames (positioned first these.has.payloads) a = subst (λ (es : List Entry). SpellFrames es a) these.has.are these.spelled in
    let spelled : SpellFrames (positioned first those.has.payloads) b = subst (λ (es : List Entry). SpellFrames es b) those.has.are those.spelled in
    let same = one_pages first these.has.payloads those.has.payloads pages a b these.has.has those.has.has spells spelled in
    one_spelling (positioned first those.has.payloads) a b (subst (λ (ps : List (List (List ℕ))). SpellFrames (positioned first ps) a) same spells) spelled
