-- Texts that are cut into lines.
use Rattle.std.proofs.Common.{◌≡◌, ◌≢◌, inl, inr, ℕ, List, [], ◌∷◌, ◌++◌, refl, sym, ◌∙◌, ap, append_assoc}
use Rattle.std.proofs.lemmas.Bool.{cases_eq}
use Rattle.pg_lines.specs.Lines.{HasNoLineEnd, HaveNoLineEnd, ended, IsCut, lines_of}

pub ended-append : (xs ys : List (List ℕ)) → ended (xs ++ ys) ≡ ended xs ++ ended ys
ended-append [] ys = refl
ended-append (x ∷ xs) ys = ap (λ (l : List ℕ). x ++ (10 ∷ l)) (ended-append xs ys) ∙ sym (append_assoc x (10 ∷ ended xs) (ended ys))

pub HaveNoLineEnd-append : (xs ys : List (List ℕ)) → HaveNoLineEnd xs → HaveNoLineEnd ys → HaveNoLineEnd (xs ++ ys)
HaveNoLineEnd-append [] ys h k = k
HaveNoLineEnd-append (x ∷ xs) ys h k = (h.0, HaveNoLineEnd-append xs ys h.1 k)

-- with one line more
pub ended-push : (lines : List (List ℕ)) (line rest : List ℕ) → ended lines ++ (line ++ (10 ∷ rest)) ≡ ended (lines ++ (line ∷ [])) ++ rest
ended-push lines line rest =
    ap (λ (l : List ℕ). ended lines ++ l) (sym (append_assoc line (10 ∷ []) rest)) ∙ (sym (append_assoc (ended lines) (line ++ (10 ∷ [])) rest) ∙ ap (λ (l : List ℕ). l ++ rest) (sym (ended-append lines (line ∷ []))))

-- any text has lines
pub record HasCut (text : List ℕ) : Type 0 where
  pub whole : List (List ℕ)
  pub behind : List ℕ
  pub cut : IsCut text whole behind

with_byte : (byte : ℕ) (text : List ℕ) → byte ≢ 10 → (whole : List (List ℕ)) (behind : List ℕ) → IsCut text whole behind → HasCut (byte ∷ text)
with_byte byte text other [] behind cut = record {
  whole = [];
  behind = byte ∷ behind;
  cut = record { joined = ap (λ (l : List ℕ). byte ∷ l) cut.joined; whole_lines = tt; last_line = (other, cut.last_line) };
}
with_byte byte text other (line ∷ lines) behind cut = record {
  whole = (byte ∷ line) ∷ lines;
  behind = behind;
  cut = record { joined = ap (λ (l : List ℕ). byte ∷ l) cut.joined; whole_lines = ((other, cut.whole_lines.0), cut.whole_lines.1); last_line = cut.last_line };
}

pub has_cut : (text : List ℕ) → HasCut text
has_cut [] = record { whole = []; behind = []; cut = record { joined = refl; whole_lines = tt; last_line = tt } }
has_cut (byte ∷ text) =
    let more = has_cut text in
    elim (cases_eq byte 10) [
      | inl is ↦ record {
        whole = [] ∷ more.whole;
        behind = more.behind;
        cut = record { joined = ap (λ (b : ℕ). b ∷ text) is ∙ ap (λ (l : List ℕ). 10 ∷ l) more.cut.joined; whole_lines = (tt, more.cut.whole_lines); last_line = more.cut.last_line };
      }
      | inr other ↦ with_byte byte text other more.whole more.behind more.cut
    ]

-- whole lines before a text that is cut
pub cut_then : (lines : List (List ℕ)) (text : List ℕ) (whole : List (List ℕ)) (behind : List ℕ) → HaveNoLineEnd lines → IsCut text whole behind → IsCut (ended lines ++ text) (lines ++ whole) behind
cut_then lines text whole behind none cut = record {
  joined = ap (λ (l : List ℕ). ended lines ++ l) cut.joined ∙ (sym (append_assoc (ended lines) (ended whole) behind) ∙ ap (λ (l : List ℕ). l ++ behind) (sym (ended-append lines whole)));
  whole_lines = HaveNoLineEnd-append lines whole none cut.whole_lines;
  last_line = cut.last_line;
}

pub cut_last : (lines : List (List ℕ)) (text : List ℕ) → HaveNoLineEnd lines → HasNoLineEnd text → IsCut (ended lines ++ text) lines text
cut_last lines text none last = record { joined = refl; whole_lines = none; last_line = last }

-- a line that isn't empty, behind the others
pub lines_of-some : (whole : List (List ℕ)) (behind : List ℕ) → behind ≢ [] → lines_of whole behind ≡ whole ++ (behind ∷ [])
lines_of-some whole [] some = absurd (some refl)
lines_of-some whole (b ∷ behind) some = refl

-- a line before a text that is cut
pub cut_line : (line text : List ℕ) (whole : List (List ℕ)) (behind : List ℕ) → HasNoLineEnd line → IsCut text whole behind → IsCut (line ++ (10 ∷ text)) (line ∷ whole) behind
cut_line line text whole behind none cut = record {
  joined = ap (λ (l : List ℕ). line ++ (10 ∷ l)) cut.joined ∙ sym (append_assoc line (10 ∷ ended whole) behind);
  whole_lines = (none, cut.whole_lines);
  last_line = cut.last_line;
}
