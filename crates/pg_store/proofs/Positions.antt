-- Payloads with their positions, and pages one behind the other.
use Rattle.std.proofs.Common.{◌≡◌, ℕ, suc, ◌+◌, ◌<◌, List, [], ◌∷◌, ◌++◌, length, Option, Some, None, refl, sym, ◌∙◌, ap, subst, arith, append_assoc}
use Rattle.std.proofs.lemmas.List.{append-nil}
use Rattle.pg_acks.specs.declared.position.Position.{Position}
use Rattle.pg_disk.specs.Account.{FileState}
use Rattle.pg_disk.specs.Image.{IsLeftAt}
use Rattle.pg_page.specs.Pages.{Entry, HasPages, Pages, position_at, positioned, positioned_in}
use Rattle.pg_store.specs.Pages.{States, SurelyHas, SurelyHave}

none_more : (n : ℕ) → n + 0 ≡ n
none_more n = omega arith

none_before : (n : ℕ) → 0 + n ≡ n
none_before n = omega arith

one_further : (n count : ℕ) → (n + 1) + count ≡ n + suc count
one_further n count = omega arith

-- those of pages, and of pages behind them
pub positioned-append : (first : ℕ) (pages more : List (List (List ℕ))) → positioned first (pages ++ more) ≡ positioned first pages ++ positioned (first + length pages) more
positioned-append first [] more = ap (λ (n : ℕ). positioned n more) (sym (none_more first))
positioned-append first (payloads ∷ pages) more =
    let own : List Entry = positioned_in first 0 payloads in
    ap (λ (l : List Entry). own ++ l) (positioned-append (first + 1) pages more)
    ∙ ap (λ (n : ℕ). own ++ (positioned (first + 1) pages ++ positioned n more)) (one_further first (length pages))
    ∙ sym (append_assoc own (positioned (first + 1) pages) (positioned (first + length (payloads ∷ pages)) more))

-- one payload more in a page
pub positioned_in-last : (page index : ℕ) (payloads : List (List ℕ)) (payload : List ℕ) → positioned_in page index (payloads ++ payload ∷ []) ≡ positioned_in page index payloads ++ (position_at page (index + length payloads), payload) ∷ []
positioned_in-last page index [] payload = ap (λ (n : ℕ). positioned_in page n (payload ∷ [])) (sym (none_more index)) ∙ refl
positioned_in-last page index (p ∷ payloads) payload =
    let own : Position × List ℕ = (position_at page index, p) in
    ap (λ (l : List Entry). own ∷ l) (positioned_in-last page (index + 1) payloads payload)
    ∙ ap (λ (n : ℕ). own ∷ (positioned_in page (index + 1) payloads ++ (position_at page n, payload) ∷ [])) (one_further index (length payloads))

-- a page without payloads behind them adds none
pub positioned-none : (first : ℕ) (pages : List (List (List ℕ))) → positioned first (pages ++ [] ∷ []) ≡ positioned first pages
positioned-none first pages = positioned-append first pages ([] ∷ []) ∙ append-nil (positioned first pages)

-- those of a last page
one_page : (page : ℕ) (payloads : List (List ℕ)) → positioned page (payloads ∷ []) ≡ positioned_in page 0 payloads
one_page page payloads = append-nil (positioned_in page 0 payloads)

-- one payload more in the last page
pub positioned-last : (first : ℕ) (closed : List (List (List ℕ))) (last : List (List ℕ)) (payload : List ℕ)
    → positioned first (closed ++ (last ++ payload ∷ []) ∷ []) ≡ positioned first (closed ++ last ∷ []) ++ (position_at (first + length closed) (length last), payload) ∷ []
positioned-last first closed last payload =
    let page : ℕ = first + length closed in
    let front : List Entry = positioned first closed in
    let new : List Entry = (position_at page (length last), payload) ∷ [] in
    let grown : positioned page ((last ++ payload ∷ []) ∷ []) ≡ positioned page (last ∷ []) ++ new =
    one_page page (last ++ payload ∷ []) ∙ positioned_in-last page 0 last payload ∙ ap (λ (n : ℕ). positioned_in page 0 last ++ (position_at page n, payload) ∷ []) (none_before (length last)) ∙ ap (λ (l : List Entry). l ++ new) (sym (one_page page last)) in
    positioned-append first closed ((last ++ payload ∷ []) ∷ [])
    ∙ ap (λ (l : List Entry). front ++ l) grown
    ∙ sym (append_assoc front (positioned page (last ∷ [])) new)
    ∙ ap (λ (l : List Entry). l ++ new) (sym (positioned-append first closed (last ∷ [])))

-- ---- pages

-- what isn't there isn't left
pub none_left : (s : Option FileState) (left : Option (List ℕ)) → s ≡ None → IsLeftAt s left → left ≡ None
none_left None None e is = refl
none_left None (Some bytes) e is = absurd is
none_left (Some s) left e is = cc

-- what is left of pages, with what stands behind them
pub left_behind : (first : ℕ) (closed more : List (List (List ℕ))) (states : States) (left : Pages) → SurelyHave first closed states
    → ((page : ℕ) → page < first + length closed → IsLeftAt (states page) (left page)) → HasPages (first + length closed) more left → HasPages first (closed ++ more) left
left_behind first [] more states left have is has = subst (λ (n : ℕ). HasPages n more left) (none_more first) has
left_behind first (payloads ∷ closed) more states left have is has = (
  have.0 (left first) (is first (omega arith)),
  left_behind (first + 1) closed more states left have.1 (λ page lt. is page (omega (arith, lt))) (subst (λ (n : ℕ). HasPages n more left) (sym (one_further first (length closed))) has),
)

-- pages that stay have what they had
pub have_still : (first : ℕ) (closed : List (List (List ℕ))) (s t : States) → SurelyHave first closed s → ((page : ℕ) → page < first + length closed → t page ≡ s page) → SurelyHave first closed t
have_still first [] s t have same = tt
have_still first (payloads ∷ closed) s t have same =
    (subst (SurelyHas payloads) (sym (same first (omega arith))) have.0, have_still (first + 1) closed s t have.1 (λ page lt. same page (omega (arith, lt))))

-- one page more
pub have_more : (first : ℕ) (closed : List (List (List ℕ))) (payloads : List (List ℕ)) (s : States) → SurelyHave first closed s → SurelyHas payloads (s (first + length closed)) → SurelyHave first (closed ++ payloads ∷ []) s
have_more first [] payloads s have has = (subst (λ (n : ℕ). SurelyHas payloads (s n)) (none_more first) has, tt)
have_more first (page ∷ closed) payloads s have has =
    (have.0, have_more (first + 1) closed payloads s have.1 (subst (λ (n : ℕ). SurelyHas payloads (s n)) (sym (one_further first (length closed))) has))
