-- Payloads and the frames that they spell, and pages that read as whole.
use Rattle.std.proofs.Common.{◌≡◌, ◌⊎◌, inl, inr, ℕ, ◌+◌, ◌<◌, ◌≤◌, List, [], ◌∷◌, ◌++◌, length, Option, Some, None, refl, sym, ap, subst, arith}
use Rattle.std.proofs.lemmas.List.{append-nil, ext_get_or}
use Rattle.pg_disk.specs.Account.{FileState, IsQuietAt, IsSound}
use Rattle.pg_disk.specs.Image.{IsIn, IsLeftAt}
use Rattle.pg_disk.specs.Views.{bytes_of}
use Rattle.pg_gate.specs.Gated.{AllFit, Batches, HasBatches}
use Rattle.pg_page.specs.declared.frame.Frame.{Frame}
use Rattle.pg_page.specs.Frames.{SpellsFrame}
use Rattle.pg_page.specs.Pages.{Entry, HasPages, Pages, SpellFrames, positioned}
use Rattle.pg_page.proofs.PageLaws.{spelled_fit}
use Rattle.pg_store.specs.Framed.{Frames}
use Rattle.pg_store.specs.Pages.{HasNoneFrom, IsLast, QuietBefore, States, SurelyHas, SurelyHave}
use Rattle.pg_store.proofs.Positions.{positioned-append}

-- ---- spelling

-- one frame more
pub spell_more : (entries : List Entry) (frames : Frames) (entry : Entry) (frame : Frame) → SpellFrames entries frames → SpellsFrame entry.1 frame → SpellFrames (entries ++ entry ∷ []) (frames ++ (entry.0, frame) ∷ [])
spell_more [] frames entry frame spells one = subst (λ (fs : Frames). SpellFrames (entry ∷ []) (fs ++ (entry.0, frame) ∷ [])) (sym spells) (frame, [], one, refl, refl)
spell_more (e ∷ entries) frames entry frame spells one =
    (spells.0, spells.1 ++ (entry.0, frame) ∷ [], spells.2, spell_more entries spells.1 entry frame spells.3 one, ap (λ (fs : Frames). fs ++ (entry.0, frame) ∷ []) spells.4)

-- what is spelled behind a front
spelled_behind : (xs ys : List Entry) (frames : Frames) → SpellFrames (xs ++ ys) frames → (behind : Frames) × SpellFrames ys behind
spelled_behind [] ys frames spells = (frames, spells)
spelled_behind (x ∷ xs) ys frames spells = spelled_behind xs ys spells.1 spells.3

-- the payloads of the last page are short where they spell frames
pub last_fit : (first : ℕ) (closed : List (List (List ℕ))) (payloads : List (List ℕ)) (frames : Frames) → SpellFrames (positioned first (closed ++ payloads ∷ [])) frames → AllFit payloads
last_fit first closed payloads frames spells =
    let page : ℕ = first + length closed in
    let behind = spelled_behind (positioned first closed) (positioned page (payloads ∷ [])) frames (subst (λ (es : List Entry). SpellFrames es frames) (positioned-append first closed (payloads ∷ [])) spells) in
    (spelled_fit page 0 payloads [] behind.0 behind.1).0

-- ---- what a page reads as

-- what a sound file reads as may be left of it
pub read_left : (s : Option FileState) → ((u : FileState) → s ≡ Some u → IsSound u) → IsLeftAt s (bytes_of s)
read_left None sound = tt
read_left (Some s) sound = let is = sound s refl in record { no_shorter = is.no_shorter; no_longer = is.no_longer; as_read = λ i lt clear. refl }

-- nothing else may be left of a file of which nothing is pending
quiet_has : (payloads : List (List ℕ)) (s : Option FileState) → IsQuietAt s → HasBatches payloads (bytes_of s) → SurelyHas payloads s
quiet_has payloads None quiet has left is = absurd has
quiet_has payloads (Some s) quiet has None is = absurd is
quiet_has payloads (Some s) quiet has (Some left) is =
    let long : length left ≡ length s.bytes = omega (arith, is.no_shorter, is.no_longer, quiet.synced, quiet.greatest) in
    let same : left ≡ s.bytes = ext_get_or 0 left s.bytes long (λ i lt. is.as_read i (omega (arith, lt, long, quiet.synced)) (λ within. subst (λ rs. IsIn rs i) quiet.ranges within)) in
    subst (λ (bytes : List ℕ). Batches bytes payloads) (sym same) has

-- the same of pages one behind the other, whatever is behind them
pub quiet_have : (first : ℕ) (closed more : List (List (List ℕ))) (s : States) → ((page : ℕ) → page < first + length closed → IsQuietAt (s page)) → HasPages first (closed ++ more) (λ page. bytes_of (s page)) → SurelyHave first closed s
quiet_have first [] more s quiet has = tt
quiet_have first (payloads ∷ closed) more s quiet has =
    (quiet_has payloads (s first) (quiet first (omega arith)) has.0, quiet_have (first + 1) closed more s (λ page lt. quiet page (omega (arith, lt))) has.1)

pub all_quiet_have : (first : ℕ) (pages : List (List (List ℕ))) (s : States) → QuietBefore (Some (first + length pages)) s → HasPages first pages (λ page. bytes_of (s page)) → SurelyHave first pages s
all_quiet_have first pages s quiet has = quiet_have first pages [] s quiet (subst (λ (l : List (List (List ℕ))). HasPages first l (λ page. bytes_of (s page))) (sym (append-nil pages)) has)

-- ---- which page is the last

le_or_lt : (m n : ℕ) → (m ≤ n) ⊎ (n < m)
le_or_lt m n = grind arith

-- a page without bytes isn't there, and one that is there has some batches or none
not_there : {X : Type 0} (s : Option FileState) (u : FileState) → s ≡ Some u → bytes_of s ≡ None → X
not_there None u is none = cc
not_there (Some s) u is none = cc

not_gone : {X : Type 0} (payloads : List (List ℕ)) (s : Option FileState) → s ≡ None → HasBatches payloads (bytes_of s) → X
not_gone payloads None is has = absurd has
not_gone payloads (Some s) is has = cc

-- where there is none
pub no_pages : (first : ℕ) (pages : List (List (List ℕ))) (s : States) → HasNoneFrom first s → HasPages first pages (λ page. bytes_of (s page)) → pages ≡ []
no_pages first [] s none has = refl
no_pages first (payloads ∷ pages) s none has = not_gone payloads (s first) (none first (omega arith)) has.0

-- these pages end with the last one
pub record EndWith (first last : ℕ) (pages : List (List (List ℕ))) : Type 0 where
  pub closed : List (List (List ℕ))
  pub payloads : List (List ℕ)
  pub are : pages ≡ closed ++ payloads ∷ []
  pub place : last ≡ first + length closed

pub end_with : (first last : ℕ) (pages : List (List (List ℕ))) (s : States) → IsLast first (Some last) s → HasPages first pages (λ page. bytes_of (s page)) → EndWith first last pages
end_with first last [] s is has = not_there (s last) is.1.0 is.1.1 (has last is.0)
end_with first last (payloads ∷ []) s is has = record {
  closed = [];
  payloads = payloads;
  are = refl;
  place = elim (le_or_lt (first + 1) last) [
    | inl le ↦ not_there (s last) is.1.0 is.1.1 (has.1 last le)
    | inr lt ↦ omega (arith, lt, is.0)
  ];
}
end_with first last (payloads ∷ next ∷ pages) s is has = elim (le_or_lt (first + 1) last) [
  | inl le ↦
      let more = end_with (first + 1) last (next ∷ pages) s (le, is.1, is.2) has.1 in
      record { closed = payloads ∷ more.closed; payloads = more.payloads; are = ap (λ (l : List (List (List ℕ))). payloads ∷ l) more.are; place = omega (arith, more.place) }
  | inr lt ↦ not_gone next (s (first + 1)) (is.2 (first + 1) (omega (arith, lt))) has.1.0
]

-- and it has its payloads
pub last_has : (first : ℕ) (closed : List (List (List ℕ))) (payloads : List (List ℕ)) (pages : Pages) → HasPages first (closed ++ payloads ∷ []) pages → HasBatches payloads (pages (first + length closed))
last_has first [] payloads pages has = subst (λ (n : ℕ). HasBatches payloads (pages n)) {x = first} (omega arith) has.0
last_has first (p ∷ closed) payloads pages has = subst (λ (n : ℕ). HasBatches payloads (pages n)) {x = (first + 1) + length closed} (omega arith) (last_has (first + 1) closed payloads pages has.1)

-- so those before it surely have theirs where nothing of them is pending
pub before_last : (first last : ℕ) (pages : List (List (List ℕ))) (s : States) → IsLast first (Some last) s → QuietBefore (Some last) s → HasPages first pages (λ page. bytes_of (s page))
    → (closed : List (List (List ℕ))) × (payloads : List (List ℕ)) × (pages ≡ closed ++ payloads ∷ []) × (last ≡ first + length closed) × SurelyHave first closed s
before_last first last pages s is quiet has =
    let parts = end_with first last pages s is has in (
      parts.closed,
      parts.payloads,
      parts.are,
      parts.place,
      quiet_have first parts.closed (parts.payloads ∷ []) s (λ page lt. quiet page (omega (arith, lt, parts.place))) (subst (λ (l : List (List (List ℕ))). HasPages first l (λ page. bytes_of (s page))) parts.are has),
    )
