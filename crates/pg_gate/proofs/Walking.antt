-- The bytes of a file from gate to gate.
use Rattle.std.proofs.Common.{◌≡◌, ◌≢◌, ◌⊎◌, inl, inr, ℕ, suc, ◌+◌, ◌-◌, ◌^◌, ◌≤◌, ◌<◌, List, [], ◌∷◌, ◌++◌, length, take, drop, get_or, Option, Some, None, refl, sym, ◌∙◌, ap, subst, arith, append_assoc, length-append}
use Rattle.std.specs.Option.{SomeIff, unwrap_or}
use Rattle.std.specs.Int.{to_be_bytes, from_be_bytes, w64}
use Rattle.std.proofs.lemmas.Nat.{be_bytes_8}
use Rattle.std.proofs.lemmas.List.{ext_get_or, get_or-take, get_or-drop, length-take-le, length-drop, append-nil, take_all, take_at, get_or_past}
use Rattle.pg_disk.specs.declared.file_id.FileId.{FileId}
use Rattle.pg_disk.specs.Account.{Account}
use Rattle.pg_disk.specs.Calls.{Changes, Holds, Reads, ReadsAt}
use Rattle.pg_disk.proofs.Bytes.{holds_front, holds_back, holds_join, holds_none, holds_one, holds_all}
use Rattle.pg_gate.specs.declared.spans.Span.{Span}
use Rattle.pg_gate.specs.Gated.{opened, Batches, AllFit}
use Rattle.pg_gate.specs.Spans.{spans_of, AsRead, HasSpans, IsWholeAt, IsCutAt, IsSoFar, IsWalked, IsCut}
use Rattle.pg_gate.proofs.Reading.{as_read_before}
use Rattle.pg_gate.proofs.Sealing.{opened-push, length-opened_push, batches_from}
use Rattle.pg_gate.proofs.Unique.{back_of, front_of, tail_of, head_of, fits_first, fits_rest, same_length, opened_fit, batches_fit}

-- what is taken of a file stands there
pub holds_taken : (file : List ℕ) (at n : ℕ) → at + n ≤ length file → Holds file at (take n (drop at file))
holds_taken file at n le =
    let size : length (take n (drop at file)) ≡ n = length-take-le n (drop at file) (omega (arith, le, length-drop at file)) in
    record {
      within = omega (arith, le, size);
      each = λ i lt. sym (get_or-take n (drop at file) i 0 (omega (arith, lt, size)) ∙ get_or-drop at file i 0);
    }

-- what stands there is taken
pub taken_holds : (file xs : List ℕ) (at : ℕ) → Holds file at xs → take (length xs) (drop at file) ≡ xs
taken_holds file xs at h =
    let size : length (take (length xs) (drop at file)) ≡ length xs = length-take-le (length xs) (drop at file) (omega (arith, h.within, length-drop at file)) in
    ext_get_or 0 _ _ size (λ i lt. get_or-take (length xs) (drop at file) i 0 (omega (arith, lt, size)) ∙ get_or-drop at file i 0 ∙ h.each i (omega (arith, lt, size)))

-- the first bytes of the buffer are the file's
pub head_read : (at n : ℕ) (bytes old new : List ℕ) → ReadsAt at n bytes old new → take n new ≡ take n (drop at bytes)
head_read at n bytes old new read =
    let size : length (take n (drop at bytes)) ≡ n = length-take-le n (drop at bytes) (omega (arith, read.count, length-drop at bytes)) in
    ap (take n) read.bytes_are ∙ take_at (take n (drop at bytes)) (drop n old) n size

-- of a number of bytes that are read at a place within the file the first is the file's
pub first_read : (at n : ℕ) (bytes old new : List ℕ) → length old ≡ 9 → at < length bytes → ReadsAt at n bytes old new → get_or new 0 0 ≡ get_or bytes at 0
first_read at n bytes old new nine lt read =
    sym (get_or-take n new 0 0 (omega (arith, read.count, nine, lt)))
    ∙ ap (λ l. get_or l 0 0) (head_read at n bytes old new read)
    ∙ get_or-take n (drop at bytes) 0 0 (omega (arith, read.count, nine, lt))
    ∙ get_or-drop at bytes 0 0
    ∙ ap (λ (k : ℕ). get_or bytes k 0) (omega arith)

-- nine bytes that begin with an open gate
nine_are : (head : List ℕ) (size : ℕ) → length head ≡ 9 → get_or head 0 0 ≡ 1 → to_be_bytes w64 size ≡ take 8 (drop 1 head) → head ≡ 1 ∷ to_be_bytes w64 size
nine_are [] size nine one is = absurd (omega (arith, nine))
nine_are (x ∷ xs) size nine one is =
    let tail : to_be_bytes w64 size ≡ xs = is ∙ take_all 8 xs (omega (arith, nine)) in
    λ i. one i ∷ sym tail i

module _ (at n : ℕ) (bytes old new : List ℕ) (nine : length old ≡ 9) (within : at < length bytes) (read : ReadsAt at n bytes old new) (size : ℕ) (fits : size < 2 ^ 64)
    (whole : 9 ≤ length (take n new) → to_be_bytes w64 size ≡ take 8 (drop 1 (take n new))) (few : length (take n new) < 9 → size ≡ 2 ^ 64 - 1) where
  head_length : length (take n new) ≡ n
  head_length = ap length (head_read at n bytes old new read) ∙ length-take-le n (drop at bytes) (omega (arith, read.count, length-drop at bytes))

  -- where the length leaves room for the next gate
  pub is_whole : get_or new 0 0 ≡ 1 → length bytes < 2 ^ 64 → size < (length bytes - at) - 9 → IsWholeAt bytes at size
  is_whole one short room =
      let n_is : n ≡ 9 = omega (arith, head_length, read.count, nine, room) in
      let head_is : take n new ≡ 1 ∷ to_be_bytes w64 size = nine_are (take n new) size (head_length ∙ n_is) (get_or-take n new 0 0 (omega (arith, n_is)) ∙ one) (whole (omega (arith, head_length, n_is))) in
      record {
        opens = subst (λ l. Holds bytes at l) (sym (head_read at n bytes old new read) ∙ head_is) (holds_taken bytes at n (omega (arith, n_is, room)));
        room = omega (arith, room);
      }

  -- where it doesn't
  pub is_cut : get_or new 0 0 ≡ 1 → length bytes < 2 ^ 64 → (length bytes - at) - 9 ≤ size → IsCutAt bytes at
  is_cut one short room = record {
    opens = sym (first_read at n bytes old new nine within read) ∙ one;
    cut = λ other small found.
        let n_is : n ≡ 9 = omega (arith, found.room, read.count, nine) in
        let head_is : take n new ≡ 1 ∷ to_be_bytes w64 other =
        head_read at n bytes old new read ∙ ap (λ (k : ℕ). take k (drop at bytes)) n_is ∙ taken_holds bytes (1 ∷ to_be_bytes w64 other) at found.opens in
        let same : to_be_bytes w64 size ≡ to_be_bytes w64 other = whole (omega (arith, head_length, n_is)) ∙ ap (λ (l : List ℕ). take 8 (drop 1 l)) head_is in
        let equal : size ≡ other = same_length size other fits small same in
        omega (arith, equal, found.room, room);
  }

-- the places of one payload more
spans-push : (gate : ℕ) (batches : List (List ℕ)) (piece : List ℕ) → spans_of gate (batches ++ piece ∷ []) ≡ spans_of gate batches ++ record { at = gate + length (opened batches) + 9; length = length piece } ∷ []
spans-push gate [] piece =
    let e : gate + 9 ≡ gate + 0 + 9 = omega arith in
    ap (λ (k : ℕ). let one : Span = record { at = k; length = length piece } in one ∷ []) e
spans-push gate (p ∷ batches) piece =
    let size = length-append p (opened batches) in
    let e : gate + 9 + length p + length (opened batches) + 9 ≡ gate + length (opened (p ∷ batches)) + 9 = omega (arith, size) in
    ap (λ l. record { at = gate + 9; length = length p } ∷ l)
    (spans-push (gate + 9 + length p) batches piece ∙ ap (λ (k : ℕ). let one : Span = record { at = k; length = length piece } in spans_of (gate + 9 + length p) batches ++ one ∷ []) e)

pub so_far_first : (bytes : List ℕ) → IsSoFar bytes 0 []
so_far_first bytes = record { batches = []; stands = holds_none bytes 0 (omega arith); place = refl; places = refl }

-- one batch more
pub so_far_more : (bytes : List ℕ) (gate : ℕ) (spans : List Span) (span : Span) → IsSoFar bytes gate spans → IsWholeAt bytes gate span.length → span.at ≡ gate + 9 → IsSoFar bytes (span.at + span.length) (spans ++ span ∷ [])
so_far_more bytes gate spans span so_far whole at_is =
    let piece : List ℕ = take span.length (drop (gate + 9) bytes) in
    let size : length piece ≡ span.length = length-take-le span.length (drop (gate + 9) bytes) (omega (arith, whole.room, length-drop (gate + 9) bytes)) in
    let number : Holds bytes gate (1 ∷ to_be_bytes w64 (length piece)) = subst (λ (k : ℕ). Holds bytes gate (1 ∷ to_be_bytes w64 k)) (sym size) whole.opens in
    let body : Holds bytes gate (1 ∷ (to_be_bytes w64 (length piece) ++ piece)) =
    holds_join bytes (1 ∷ to_be_bytes w64 (length piece)) piece gate (gate + 9) (omega arith) number (holds_taken bytes (gate + 9) span.length (omega (arith, whole.room))) in
    let all : Holds bytes 0 (opened so_far.batches ++ 1 ∷ (to_be_bytes w64 (length piece) ++ piece)) = holds_join bytes (opened so_far.batches) _ 0 gate (omega (arith, so_far.place)) so_far.stands body in
    let same : opened so_far.batches ++ 1 ∷ (to_be_bytes w64 (length piece) ++ piece) ≡ opened (so_far.batches ++ piece ∷ []) =
    ap (λ (l : List ℕ). opened so_far.batches ++ 1 ∷ (to_be_bytes w64 (length piece) ++ l)) (sym (append-nil piece)) ∙ sym (opened-push so_far.batches piece []) ∙ append-nil (opened (so_far.batches ++ piece ∷ [])) in
    let one : span ≡ record { at = 0 + length (opened so_far.batches) + 9; length = length piece } = span_is span (0 + length (opened so_far.batches) + 9) (length piece) (omega (arith, at_is, so_far.place)) (sym size) in
    record {
      batches = so_far.batches ++ piece ∷ [];
      stands = subst (λ l. Holds bytes 0 l) same all;
      place = omega (arith, at_is, size, so_far.place, length-opened_push so_far.batches piece);
      places = ap (λ l. l ++ span ∷ []) so_far.places ∙ ap (λ (s : Span). spans_of 0 so_far.batches ++ s ∷ []) one ∙ sym (spans-push 0 so_far.batches piece);
    }
  where
    span_is : (s : Span) (a n : ℕ) → s.at ≡ a → s.length ≡ n → s ≡ record { at = a; length = n }
    span_is s a n e f = λ i. record { at = e i; length = f i }

-- the front of a file that was walked
pub walked_front : (bytes : List ℕ) (gate : ℕ) (spans : List Span) → gate < length bytes → (walked : IsWalked bytes gate spans) → Holds bytes 0 (opened walked.so_far.batches ++ get_or bytes gate 0 ∷ [])
walked_front bytes gate spans within walked = holds_join bytes (opened walked.so_far.batches) _ 0 gate (omega (arith, walked.so_far.place)) walked.so_far.stands (holds_one bytes gate within)

-- the batches end at a gate that isn't open
pub walked_spans : (bytes : List ℕ) (gate : ℕ) (spans : List Span) → gate < length bytes → gate < 2 ^ 64 → IsWalked bytes gate spans → HasSpans bytes spans
walked_spans bytes gate spans within short walked = record {
  batches = walked.so_far.batches;
  are = batches_from bytes walked.so_far.batches (get_or bytes gate 0) walked.shut (walked_front bytes gate spans within walked);
  fit = opened_fit walked.so_far.batches gate (omega (arith, walked.so_far.place)) short;
  places = walked.so_far.places;
}

-- an open gate behind batches, in a text that has batches, has one more behind it
more_behind : (xs ys : List (List ℕ)) (h : ℕ) (d rest : List ℕ) → AllFit xs → AllFit ys → h ≢ 1 → get_or rest 0 0 ≡ 1 → opened xs ++ rest ≡ opened ys ++ h ∷ d
    → (p : List ℕ) × (ps : List (List ℕ)) × (length p < 2 ^ 64) × (rest ≡ 1 ∷ (to_be_bytes w64 (length p) ++ (p ++ (opened ps ++ h ∷ d))))
more_behind [] [] h d rest fit fits closed opens e = absurd (closed (sym (ap (λ (l : List ℕ). get_or l 0 0) e) ∙ opens))
more_behind [] (q ∷ ys) h d rest fit fits closed opens e =
    (q, ys, fits_first q ys fits, e ∙ ap (λ (l : List ℕ). 1 ∷ (to_be_bytes w64 (length q) ++ l)) (append_assoc q (opened ys) (h ∷ d)))
more_behind (p ∷ xs) [] h d rest fit fits closed opens e = absurd (closed (sym (head_of 1 h _ _ e)))
more_behind (p ∷ xs) (q ∷ ys) h d rest fit fits closed opens e =
    let left : List ℕ = opened xs ++ rest in
    let right : List ℕ = opened ys ++ h ∷ d in
    let joined : to_be_bytes w64 (length p) ++ (p ++ left) ≡ to_be_bytes w64 (length q) ++ (q ++ right) =
    ap (λ (l : List ℕ). to_be_bytes w64 (length p) ++ l) (sym (append_assoc p (opened xs) rest))
    ∙ tail_of 1 1 _ _ e
    ∙ ap (λ (l : List ℕ). to_be_bytes w64 (length q) ++ l) (append_assoc q (opened ys) (h ∷ d)) in
    let size : length p ≡ length q = same_length (length p) (length q) (fits_first p xs fit) (fits_first q ys fits) (front_of (to_be_bytes w64 (length p)) (p ++ left) (to_be_bytes w64 (length q)) (q ++ right) refl joined) in
    let body : p ++ left ≡ q ++ right = back_of (to_be_bytes w64 (length p)) (p ++ left) (to_be_bytes w64 (length q)) (q ++ right) refl joined in
    more_behind xs ys h d rest (fits_rest p xs fit) (fits_rest q ys fits) closed opens (back_of p left q right size body)

holds_whole : (file : List ℕ) → Holds file 0 file
holds_whole file = record { within = omega arith; each = λ i lt. ap (λ (j : ℕ). get_or file j 0) (omega arith) }

-- a whole payload behind an open gate
whole_behind : (bytes before rest tail : List ℕ) (gate size : ℕ) → bytes ≡ before ++ rest → rest ≡ 1 ∷ (to_be_bytes w64 size ++ tail) → gate ≡ length before → size < length tail → IsWholeAt bytes gate size
whole_behind bytes before rest tail gate size are rest_is place room =
    let back : Holds bytes gate rest = holds_back bytes before rest 0 gate (omega (arith, place)) (subst (λ l. Holds bytes 0 l) are (holds_whole bytes)) in
    record {
      opens = holds_front bytes (1 ∷ to_be_bytes w64 size) tail gate (subst (λ l. Holds bytes gate l) rest_is back);
      room = omega (arith, back.within, ap length rest_is, room);
    }

-- a cut file has no list of batches
pub cut_file : (bytes : List ℕ) (gate : ℕ) (spans : List Span) → 1 < length bytes → length bytes < 2 ^ 64 → IsSoFar bytes gate spans → IsCutAt bytes gate → IsCut bytes gate
cut_file bytes gate spans long short so_far cut = record { before = xs; stands = so_far.stands; place = so_far.place; here = cut; none = none }
  where
    xs : List (List ℕ)
    xs = so_far.batches

    rest : List ℕ
    rest = drop (length (opened xs)) bytes

    are : bytes ≡ opened xs ++ rest
    are = holds_all bytes (opened xs) so_far.stands

    opens_here : get_or rest 0 0 ≡ 1
    opens_here = get_or-drop (length (opened xs)) bytes 0 0 ∙ ap (λ (k : ℕ). get_or bytes k 0) (omega (arith, so_far.place)) ∙ cut.opens

    none : (batches : List (List ℕ)) → Batches bytes batches → ⊥
    none batches (inl few) = absurd (omega (arith, few.0))
    none batches (inr some) =
        let fit : AllFit xs = opened_fit xs (length bytes) (omega (arith, so_far.stands.within)) short in
        let more = more_behind xs batches some.0 some.1 rest fit (batches_fit bytes batches short (inr some)) some.2 opens_here (sym are ∙ some.3) in
        let tail : List ℕ = more.0 ++ (opened more.1 ++ some.0 ∷ some.1) in
        cut.cut (length more.0) more.2
        (whole_behind bytes (opened xs) rest tail gate (length more.0) are more.3 so_far.place (omega (arith, length-append more.0 (opened more.1 ++ some.0 ∷ some.1), length-append (opened more.1) (some.0 ∷ some.1))))

-- the length behind a gate is spelled in its bytes
pub length_spelled : (head : List ℕ) (o : Option ℕ) (n : ℕ) → ((i : ℕ) → get_or head i 0 < 256) → SomeIff o (9 ≤ length head) (from_be_bytes w64 (take 8 (drop 1 head))) → n ≡ unwrap_or o 18446744073709551615 → 9 ≤ length head
    → to_be_bytes w64 n ≡ take 8 (drop 1 head)
length_spelled head None n small few is nine = absurd (few nine)
length_spelled [] (Some v) n small some is nine = absurd (omega (arith, nine))
length_spelled (x ∷ xs) (Some v) n small some is nine =
    let size : length (take 8 xs) ≡ 8 = length-take-le 8 xs (omega (arith, nine)) in
    be_bytes_8 (take 8 xs) n size (λ i. elim (cases_lt i 8) [
      | inl below ↦ subst (λ (v : ℕ). v < 256) (sym (get_or-take 8 xs i 0 below)) (small (suc i))
      | inr above ↦ subst (λ (v : ℕ). v < 256) (sym (get_or_past (take 8 xs) i 0 (omega (arith, above, size)))) (omega arith)
    ]) (is ∙ some.1)
  where
    cases_lt : (a b : ℕ) → (a < b) ⊎ (b ≤ a)
    cases_lt a b = grind arith

-- a walk that goes on, ends or meets a cut batch, seen from its start
module _ (file : FileId) (old mid : Option Account) (n gate end : ℕ) (spans : List Span) (change : Changes old mid (Reads n)) (so_far : AsRead file old (λ bytes. end ≡ length bytes → IsSoFar bytes gate spans)) where
  pub cut_now : 1 < end → end < 2 ^ 64 → (at : ℕ) → (at ≡ gate) × AsRead file mid (λ bytes. end ≡ length bytes → IsCutAt bytes gate) → AsRead file old (λ bytes. end ≡ length bytes → IsCut bytes at)
  cut_now long short at cut = λ honest s there end_is.
      subst (λ (k : ℕ). IsCut s.bytes k) (sym cut.0)
      (cut_file s.bytes gate spans (omega (arith, long, end_is)) (omega (arith, short, end_is)) (so_far honest s there end_is)
      (as_read_before file old mid n (λ bytes. end ≡ length bytes → IsCutAt bytes gate) change cut.1 honest s there end_is))

  pub more_now : (span : Span) → span.at ≡ gate + 9 → AsRead file mid (λ bytes. end ≡ length bytes → IsWholeAt bytes gate span.length) → AsRead file old (λ bytes. end ≡ length bytes → IsSoFar bytes (span.at + span.length) (spans ++ span ∷ []))
  more_now span at_is next = λ honest s there end_is.
      so_far_more s.bytes gate spans span (so_far honest s there end_is) (as_read_before file old mid n (λ bytes. end ≡ length bytes → IsWholeAt bytes gate span.length) change next honest s there end_is) at_is
