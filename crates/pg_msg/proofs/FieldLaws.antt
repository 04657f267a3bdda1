-- A field that is read is the one that was spelled, and what was spelled is read again, whatever stands behind it.
use Rattle.std.proofs.Common.{◌≡◌, ℕ, zero, suc, ◌+◌, ◌^◌, ◌<◌, ◌≤◌, List, [], ◌∷◌, ◌++◌, length, get_or, take, drop, map, Option, Some, None, refl, sym, ap, subst, ◌∙◌, append_assoc, arith, inl, inr}
use Rattle.std.specs.Prelude.{All}
use Rattle.std.specs.Int.{Width, w8, w16, w32, w64, byte_len, from_be_bytes, to_be_bytes}
use Rattle.std.proofs.lemmas.Bool.{cases_lt, leb-true, le-leb}
use Rattle.std.proofs.lemmas.Option.{cond_some}
use Rattle.std.proofs.lemmas.List.Elements.{All-nil, All-cons, All-head, All-tail}
use Rattle.std.proofs.lemmas.List.{take_at, drop_at, take-append-drop, length-append, length-take, get_or-drop, get_or-take, get_or_past}
use Rattle.std.proofs.lemmas.Nat.{be_bytes_2, be_bytes_4, be_bytes_8, from_be_bytes-to_be_bytes_2, from_be_bytes-to_be_bytes_4, from_be_bytes-to_be_bytes_8}
use Rattle.pg_msg.specs.declared.limits.TheConstants.{MOST_QUEUES}
use Rattle.pg_msg.specs.declared.message.MessageId.{MessageId}
use Rattle.pg_msg.specs.Names.{IsBetween, IsName}
use Rattle.pg_msg.specs.Lists.{ids_bytes, queues_bytes, AreQueues, rows_bytes, pages_bytes, IsPageRow, ArePages}
use Rattle.pg_msg.specs.Messages.{id_bytes, IsMessageId}
use Rattle.pg_msg.specs.Reading.{◌>>=◌, Read, guarded, is_between, counted_at, number_at, octets_at, positive_at, id_at, name_at, ids_at, queues_at, row_at, rows_at, pages_at}
use Rattle.pg_msg.proofs.TestLaws.{between_decides, name_decides, ascends_decides}

-- each number of the list is a byte
abbrev pub IsBytes : List ℕ → Type 0
IsBytes bytes = (i : ℕ) → get_or bytes i 0 < 256

pub IsBytes-drop : (n : ℕ) (bytes : List ℕ) → IsBytes bytes → IsBytes (drop n bytes)
IsBytes-drop n bytes fits i = rw get_or-drop (fits (n + i))

pub IsBytes-take : (n : ℕ) (bytes : List ℕ) → IsBytes bytes → IsBytes (take n bytes)
IsBytes-take n bytes fits i =
    elim (cases_lt i n) [
      | inl below ↦ rw (get_or-take n bytes i 0 below) (fits i)
      | inr past ↦ rw (get_or_past (take n bytes) i 0 (omega (arith, length-take n bytes))) (omega arith)
    ]

-- the first part was taken from the front, and the second is left
pub record Takes (bytes front rest : List ℕ) : Type 0 where
  pub parts : bytes ≡ front ++ rest
  pub rest_fits : IsBytes rest

pub Takes-then : (a x b y c : List ℕ) → Takes a x b → Takes b y c → Takes a (x ++ y) c
Takes-then a x b y c first second = record {
  parts = first.parts ∙ ap (λ (t : List ℕ). x ++ t) second.parts ∙ sym (append_assoc x y c);
  rest_fits = second.rest_fits;
}

-- the steps of something that was read
pub bind_some : {A B : Type 0} (step : Option A) (f : A → Option B) (y : B) → (step >>= f) ≡ Some y → (x : A) × (step ≡ Some x) × (f x ≡ Some y)
bind_some (Some x) f y e = (x, refl, e)
bind_some None f y e = absurd cc

abbrev pub some_of : {A : Type 0} → A → Option A
some_of x = Some x

pub some_is : {A : Type 0} (x y : A) → some_of x ≡ some_of y → x ≡ y
some_is x y e = cc

-- ---- numbers

-- numbers below the limit have this width
pub record IsWide (w : Width) (limit : ℕ) : Type 0 where
  pub len : (n : ℕ) → length (to_be_bytes w n) ≡ byte_len w
  pub back : (bytes : List ℕ) → length bytes ≡ byte_len w → IsBytes bytes → to_be_bytes w (from_be_bytes w bytes) ≡ bytes
  pub again : (n : ℕ) → n < limit → from_be_bytes w (to_be_bytes w n) ≡ n
  pub below : (bytes : List ℕ) → IsBytes bytes → from_be_bytes w bytes < limit

pub wide16 : IsWide w16 (2 ^ 16)
wide16 = record {
  len = λ n. refl;
  back = λ bytes len fits. be_bytes_2 bytes _ len fits refl;
  again = λ n lt. from_be_bytes-to_be_bytes_2 n lt;
  below = λ bytes fits. omega (arith, fits 0, fits 1);
}

pub wide32 : IsWide w32 (2 ^ 32)
wide32 = record {
  len = λ n. refl;
  back = λ bytes len fits. be_bytes_4 bytes _ len fits refl;
  again = λ n lt. from_be_bytes-to_be_bytes_4 n lt;
  below = λ bytes fits. omega (arith, fits 0, fits 1, fits 2, fits 3);
}

pub wide64 : IsWide w64 (2 ^ 64)
wide64 = record {
  len = λ n. refl;
  back = λ bytes len fits. be_bytes_8 bytes _ len fits refl;
  again = λ n lt. from_be_bytes-to_be_bytes_8 n lt;
  below = λ bytes fits. omega (arith, fits 0, fits 1, fits 2, fits 3, fits 4, fits 5, fits 6, fits 7);
}

pub number_takes : (w : Width) (limit : ℕ) (wide : IsWide w limit) (bytes : List ℕ) (n : ℕ) (rest : List ℕ) → IsBytes bytes → number_at w bytes ≡ Some (n, rest) → Takes bytes (to_be_bytes w n) rest × (n < limit)
number_takes w limit wide bytes n rest fits e =
    let read = cond_some _ _ _ e in
    let long : byte_len w ≤ length bytes = leb-true _ _ read.0 in
    let front = take (byte_len w) bytes in
    let front_fits = IsBytes-take (byte_len w) bytes fits in
    let spelled : to_be_bytes w (from_be_bytes w front) ≡ front = wide.back front (omega (arith, length-take (byte_len w) bytes)) front_fits in
    let taken : Takes bytes (to_be_bytes w (from_be_bytes w front)) (drop (byte_len w) bytes) = record { parts = rw spelled (sym (take-append-drop (byte_len w) bytes)); rest_fits = IsBytes-drop (byte_len w) bytes fits } in
    subst (λ (x : ℕ × List ℕ). Takes bytes (to_be_bytes w x.0) x.1 × (x.0 < limit)) read.1 (taken, wide.below front front_fits)

pub number_again : (w : Width) (limit : ℕ) (wide : IsWide w limit) (n : ℕ) (rest : List ℕ) → n < limit → number_at w (to_be_bytes w n ++ rest) ≡ Some (n, rest)
number_again w limit wide n rest lt =
    let len = wide.len n in
    let long = le-leb (byte_len w) (length (to_be_bytes w n ++ rest)) (omega (arith, length-append (to_be_bytes w n) rest)) in
    rw (long, take_at (to_be_bytes w n) rest (byte_len w) len, drop_at (to_be_bytes w n) rest (byte_len w) len, wide.again n lt) refl

-- ---- one byte

pub byte_takes : (bytes : List ℕ) (n : ℕ) (rest : List ℕ) → IsBytes bytes → number_at w8 bytes ≡ Some (n, rest) → Takes bytes (n ∷ []) rest × (n < 2 ^ 8)
byte_takes [] n rest fits e = absurd cc
byte_takes (b ∷ bytes) n rest fits e =
    let read = cond_some _ _ _ e in
    subst (λ (x : ℕ × List ℕ). Takes (b ∷ bytes) (x.0 ∷ []) x.1 × (x.0 < 2 ^ 8)) read.1 (record { parts = refl; rest_fits = λ i. fits (suc i) }, fits 0)

pub byte_again : (n : ℕ) (rest : List ℕ) → number_at w8 (n ∷ rest) ≡ Some (n, rest)
byte_again n rest = rw (le-leb 1 (suc (length rest)) (omega arith)) refl

-- ---- so many bytes

pub octets_takes : (count : ℕ) (bytes front rest : List ℕ) → IsBytes bytes → octets_at count bytes ≡ Some (front, rest) → Takes bytes front rest × (length front ≡ count)
octets_takes count bytes front rest fits e =
    let read = cond_some _ _ _ e in
    let long : count ≤ length bytes = leb-true _ _ read.0 in
    let taken : Takes bytes (take count bytes) (drop count bytes) = record { parts = sym (take-append-drop count bytes); rest_fits = IsBytes-drop count bytes fits } in
    subst (λ (x : List ℕ × List ℕ). Takes bytes x.0 x.1 × (length x.0 ≡ count)) read.1 (taken, omega (arith, length-take count bytes))

pub octets_again : (front rest : List ℕ) → octets_at (length front) (front ++ rest) ≡ Some (front, rest)
octets_again front rest =
    let long = le-leb (length front) (length (front ++ rest)) (omega (arith, length-append front rest)) in
    rw (long, take_at front rest (length front) refl, drop_at front rest (length front) refl) refl

-- ---- numbers from 1

pub positive_takes : (w : Width) (limit : ℕ) (wide : IsWide w limit) (bytes : List ℕ) (n : ℕ) (rest : List ℕ) → IsBytes bytes → positive_at w bytes ≡ Some (n, rest) → Takes bytes (to_be_bytes w n) rest × (1 ≤ n) × (n < limit)
unfolding positive_at
positive_takes w limit wide bytes n rest fits e =
    let a = bind_some (number_at w bytes) _ (n, rest) e in
    let taken = number_takes w limit wide bytes a.0.0 a.0.1 fits a.1 in
    let passed = cond_some _ _ _ a.2 in
    subst (λ (x : ℕ × List ℕ). Takes bytes (to_be_bytes w x.0) x.1 × (1 ≤ x.0) × (x.0 < limit)) passed.1 (taken.0, leb-true 1 a.0.0 passed.0, taken.1)

pub positive_again : (w : Width) (limit : ℕ) (wide : IsWide w limit) (n : ℕ) (rest : List ℕ) → 1 ≤ n → n < limit → positive_at w (to_be_bytes w n ++ rest) ≡ Some (n, rest)
unfolding positive_at
positive_again w limit wide n rest some lt = rw (number_again w limit wide n rest lt, le-leb 1 n some) refl

-- ---- the id of a message

pub id_takes : (bytes : List ℕ) (id : MessageId) (rest : List ℕ) → IsBytes bytes → id_at bytes ≡ Some (id, rest) → Takes bytes (id_bytes id) rest × IsMessageId id
unfolding id_at
id_takes bytes id rest fits e =
    let a = bind_some (positive_at w32 bytes) _ (id, rest) e in
    let b = bind_some (positive_at w32 a.0.1) _ (id, rest) a.2 in
    let epoch = positive_takes w32 (2 ^ 32) wide32 bytes a.0.0 a.0.1 fits a.1 in
    let number = positive_takes w32 (2 ^ 32) wide32 a.0.1 b.0.0 b.0.1 epoch.0.rest_fits b.1 in
    let made : MessageId × List ℕ = (record { epoch = a.0.0; number = b.0.0 }, b.0.1) in
    let both = Takes-then bytes (to_be_bytes w32 a.0.0) a.0.1 (to_be_bytes w32 b.0.0) b.0.1 epoch.0 number.0 in
    subst (λ (x : MessageId × List ℕ). Takes bytes (id_bytes x.0) x.1 × IsMessageId x.0) (some_is made (id, rest) b.2) (both, record { epoch = epoch.1; epoch_fits = epoch.2; number = number.1; number_fits = number.2 })

pub id_again : (id : MessageId) (rest : List ℕ) → IsMessageId id → id_at (id_bytes id ++ rest) ≡ Some (id, rest)
unfolding id_at
id_again id rest is =
    ap id_at (append_assoc (to_be_bytes w32 id.epoch) (to_be_bytes w32 id.number) rest)
    ∙ rw (positive_again w32 (2 ^ 32) wide32 id.epoch (to_be_bytes w32 id.number ++ rest) is.epoch is.epoch_fits, positive_again w32 (2 ^ 32) wide32 id.number rest is.number is.number_fits) refl

-- ---- names

pub name_takes : (bytes name rest : List ℕ) → IsBytes bytes → name_at bytes ≡ Some (name, rest) → Takes bytes (length name ∷ name) rest × IsName name
unfolding name_at
name_takes bytes name rest fits e =
    let a = bind_some (number_at w8 bytes) _ (name, rest) e in
    let b = bind_some (octets_at a.0.0 a.0.1) _ (name, rest) a.2 in
    let count = byte_takes bytes a.0.0 a.0.1 fits a.1 in
    let text = octets_takes a.0.0 a.0.1 b.0.0 b.0.1 count.0.rest_fits b.1 in
    let passed = cond_some _ _ _ b.2 in
    let both = Takes-then bytes (a.0.0 ∷ []) a.0.1 b.0.0 b.0.1 count.0 text.0 in
    let whole : Takes bytes (length b.0.0 ∷ b.0.0) b.0.1 = subst (λ (n : ℕ). Takes bytes (n ∷ b.0.0) b.0.1) (sym text.1) both in
    subst (λ (x : List ℕ × List ℕ). Takes bytes (length x.0 ∷ x.0) x.1 × IsName x.0) passed.1 (whole, (name_decides b.0.0).0 passed.0)

pub name_again : (name rest : List ℕ) → IsName name → name_at ((length name ∷ name) ++ rest) ≡ Some (name, rest)
unfolding name_at
name_again name rest is = rw (byte_again (length name) (name ++ rest), octets_again name rest, (name_decides name).1 is) refl

-- ---- so many values of one kind

-- what is read is what was spelled, and what was spelled is read
pub record IsField {X : Type 0} (value_at : List ℕ → Read X) (value_bytes : X → List ℕ) (InRange : X → Type 0) : Type 0 where
  pub takes : (bytes : List ℕ) (x : X) (rest : List ℕ) → IsBytes bytes → value_at bytes ≡ Some (x, rest) → Takes bytes (value_bytes x) rest × InRange x
  pub again : (x : X) (rest : List ℕ) → InRange x → value_at (value_bytes x ++ rest) ≡ Some (x, rest)

-- all of them are spelled one behind the other
pub record IsChain {X : Type 0} (value_bytes : X → List ℕ) (all_bytes : List X → List ℕ) : Type 0 where
  pub none : all_bytes [] ≡ []
  pub more : (x : X) (xs : List X) → all_bytes (x ∷ xs) ≡ value_bytes x ++ all_bytes xs

pub counted_takes : {X : Type 0} (value_at : List ℕ → Read X) (value_bytes : X → List ℕ) (InRange : X → Type 0) (all_bytes : List X → List ℕ) → IsField value_at value_bytes InRange → IsChain value_bytes all_bytes → (count : ℕ) (bytes : List ℕ) (xs : List X) (rest : List ℕ) → IsBytes bytes → counted_at value_at count bytes ≡ Some (xs, rest)
    → Takes bytes (all_bytes xs) rest × (length xs ≡ count) × All InRange xs
unfolding counted_at
counted_takes {X} value_at value_bytes InRange all_bytes field chain zero bytes xs rest fits e =
    let none : List X × List ℕ = ([], bytes) in
    let taken : Takes bytes (all_bytes []) bytes = record { parts = ap (λ (front : List ℕ). front ++ bytes) (sym chain.none); rest_fits = fits } in
    subst (λ (x : List X × List ℕ). Takes bytes (all_bytes x.0) x.1 × (length x.0 ≡ 0) × All InRange x.0) (some_is none (xs, rest) e) (taken, refl, All-nil InRange)
counted_takes {X} value_at value_bytes InRange all_bytes field chain (suc count) bytes xs rest fits e =
    let a = bind_some (value_at bytes) _ (xs, rest) e in
    let b = bind_some (counted_at value_at count a.0.1) _ (xs, rest) a.2 in
    let first = field.takes bytes a.0.0 a.0.1 fits a.1 in
    let others = counted_takes value_at value_bytes InRange all_bytes field chain count a.0.1 b.0.0 b.0.1 first.0.rest_fits b.1 in
    let made : List X × List ℕ = (a.0.0 ∷ b.0.0, b.0.1) in
    let both : Takes bytes (value_bytes a.0.0 ++ all_bytes b.0.0) b.0.1 = Takes-then bytes (value_bytes a.0.0) a.0.1 (all_bytes b.0.0) b.0.1 first.0 others.0 in
    let whole : Takes bytes (all_bytes (a.0.0 ∷ b.0.0)) b.0.1 = subst (λ (front : List ℕ). Takes bytes front b.0.1) (sym (chain.more a.0.0 b.0.0)) both in
    subst (λ (x : List X × List ℕ). Takes bytes (all_bytes x.0) x.1 × (length x.0 ≡ suc count) × All InRange x.0) (some_is made (xs, rest) b.2) (whole, ap suc others.1, All-cons InRange a.0.0 b.0.0 first.1 others.2)

pub counted_again : {X : Type 0} (value_at : List ℕ → Read X) (value_bytes : X → List ℕ) (InRange : X → Type 0) (all_bytes : List X → List ℕ) → IsField value_at value_bytes InRange → IsChain value_bytes all_bytes → (xs : List X) (rest : List ℕ) → All InRange xs
    → counted_at value_at (length xs) (all_bytes xs ++ rest) ≡ Some (xs, rest)
unfolding counted_at
counted_again value_at value_bytes InRange all_bytes field chain [] rest each = ap (λ (front : List ℕ). Some ([], front ++ rest)) chain.none
counted_again value_at value_bytes InRange all_bytes field chain (x ∷ xs) rest each =
    let regrouped : all_bytes (x ∷ xs) ++ rest ≡ value_bytes x ++ (all_bytes xs ++ rest) = ap (λ (front : List ℕ). front ++ rest) (chain.more x xs) ∙ append_assoc (value_bytes x) (all_bytes xs) rest in
    let first = field.again x (all_bytes xs ++ rest) (All-head InRange x xs each) in
    let others = counted_again value_at value_bytes InRange all_bytes field chain xs rest (All-tail InRange x xs each) in
    rw (regrouped, first, others) refl

-- ---- lists of queues

abbrev pub IsQueue : ℕ → Type 0
IsQueue id = id < 2 ^ 32

pub id_field : IsField (number_at w32) (to_be_bytes w32) IsQueue
id_field = record { takes = number_takes w32 (2 ^ 32) wide32; again = number_again w32 (2 ^ 32) wide32 }

pub id_chain : IsChain (to_be_bytes w32) ids_bytes
id_chain = record { none = refl; more = λ _ _. refl }

pub ids_takes : (count : ℕ) (bytes ids rest : List ℕ) → IsBytes bytes → ids_at count bytes ≡ Some (ids, rest) → Takes bytes (ids_bytes ids) rest × (length ids ≡ count) × All (λ id. id < 2 ^ 32) ids
ids_takes = counted_takes (number_at w32) (to_be_bytes w32) IsQueue ids_bytes id_field id_chain

pub ids_again : (ids rest : List ℕ) → All (λ id. id < 2 ^ 32) ids → ids_at (length ids) (ids_bytes ids ++ rest) ≡ Some (ids, rest)
ids_again = counted_again (number_at w32) (to_be_bytes w32) IsQueue ids_bytes id_field id_chain

pub queues_takes : (bytes queues rest : List ℕ) → IsBytes bytes → queues_at bytes ≡ Some (queues, rest) → Takes bytes (queues_bytes queues) rest × AreQueues queues
unfolding queues_at
queues_takes bytes queues rest fits e =
    let a = bind_some (number_at w16 bytes) _ (queues, rest) e in
    let in_range = bind_some (guarded (is_between 1 MOST_QUEUES a.0.0) a.0) _ (queues, rest) a.2 in
    let few = cond_some _ _ _ in_range.1 in
    let same : in_range.0 ≡ a.0 = sym few.1 in
    let b = bind_some (ids_at in_range.0.0 in_range.0.1) _ (queues, rest) in_range.2 in
    let passed = cond_some _ _ _ b.2 in
    let count = number_takes w16 (2 ^ 16) wide16 bytes a.0.0 a.0.1 fits a.1 in
    let read : ids_at a.0.0 a.0.1 ≡ Some (b.0.0, b.0.1) = subst (λ (x : ℕ × List ℕ). ids_at x.0 x.1 ≡ Some (b.0.0, b.0.1)) same b.1 in
    let ids = ids_takes a.0.0 a.0.1 b.0.0 b.0.1 count.0.rest_fits read in
    let both = Takes-then bytes (to_be_bytes w16 a.0.0) a.0.1 (ids_bytes b.0.0) b.0.1 count.0 ids.0 in
    let whole : Takes bytes (queues_bytes b.0.0) b.0.1 = subst (λ (n : ℕ). Takes bytes (to_be_bytes w16 n ++ ids_bytes b.0.0) b.0.1) (sym ids.1) both in
    let between : IsBetween 1 MOST_QUEUES (length b.0.0) = rw ids.1 ((between_decides 1 MOST_QUEUES a.0.0).0 few.0) in
    subst (λ (x : List ℕ × List ℕ). Takes bytes (queues_bytes x.0) x.1 × AreQueues x.0) passed.1 (whole, record { count = between; each = ids.2; ascending = (ascends_decides b.0.0).0 passed.0 })

pub queues_again : (queues rest : List ℕ) → AreQueues queues → queues_at (queues_bytes queues ++ rest) ≡ Some (queues, rest)
unfolding queues_at
queues_again queues rest are =
    let between = (between_decides 1 MOST_QUEUES (length queues)).1 are.count in
    ap queues_at (append_assoc (to_be_bytes w16 (length queues)) (ids_bytes queues) rest)
    ∙ rw (number_again w16 (2 ^ 16) wide16 (length queues) (ids_bytes queues ++ rest) (omega (arith, are.count.1)), between, ids_again queues rest are.each, (ascends_decides queues).1 are.ascending) refl

-- ---- lists of pages

abbrev pub row_bytes : ℕ × ℕ → List ℕ
row_bytes row = to_be_bytes w32 row.0 ++ to_be_bytes w64 row.1

row_takes : (bytes : List ℕ) (row : ℕ × ℕ) (rest : List ℕ) → IsBytes bytes → row_at bytes ≡ Some (row, rest) → Takes bytes (row_bytes row) rest × IsPageRow row
unfolding row_at
row_takes bytes row rest fits e =
    let a = bind_some (number_at w32 bytes) _ (row, rest) e in
    let b = bind_some (number_at w64 a.0.1) _ (row, rest) a.2 in
    let address = number_takes w32 (2 ^ 32) wide32 bytes a.0.0 a.0.1 fits a.1 in
    let page = number_takes w64 (2 ^ 64) wide64 a.0.1 b.0.0 b.0.1 address.0.rest_fits b.1 in
    let made : (ℕ × ℕ) × List ℕ = ((a.0.0, b.0.0), b.0.1) in
    let both = Takes-then bytes (to_be_bytes w32 a.0.0) a.0.1 (to_be_bytes w64 b.0.0) b.0.1 address.0 page.0 in
    subst (λ (x : (ℕ × ℕ) × List ℕ). Takes bytes (row_bytes x.0) x.1 × IsPageRow x.0) (some_is made (row, rest) b.2) (both, (address.1, page.1))

row_again : (row : ℕ × ℕ) (rest : List ℕ) → IsPageRow row → row_at (row_bytes row ++ rest) ≡ Some (row, rest)
unfolding row_at
row_again row rest is =
    ap row_at (append_assoc (to_be_bytes w32 row.0) (to_be_bytes w64 row.1) rest)
    ∙ rw (number_again w32 (2 ^ 32) wide32 row.0 (to_be_bytes w64 row.1 ++ rest) is.0, number_again w64 (2 ^ 64) wide64 row.1 rest is.1) refl

pub row_field : IsField row_at row_bytes IsPageRow
row_field = record { takes = row_takes; again = row_again }

pub row_chain : IsChain row_bytes rows_bytes
row_chain = record { none = refl; more = λ row rows. sym (append_assoc (to_be_bytes w32 row.0) (to_be_bytes w64 row.1) (rows_bytes rows)) }

pub rows_takes : (count : ℕ) (bytes : List ℕ) (rows : List (ℕ × ℕ)) (rest : List ℕ) → IsBytes bytes → rows_at count bytes ≡ Some (rows, rest) → Takes bytes (rows_bytes rows) rest × (length rows ≡ count) × All IsPageRow rows
rows_takes = counted_takes row_at row_bytes IsPageRow rows_bytes row_field row_chain

pub rows_again : (rows : List (ℕ × ℕ)) (rest : List ℕ) → All IsPageRow rows → rows_at (length rows) (rows_bytes rows ++ rest) ≡ Some (rows, rest)
rows_again = counted_again row_at row_bytes IsPageRow rows_bytes row_field row_chain

pub pages_takes : (bytes : List ℕ) (rows : List (ℕ × ℕ)) (rest : List ℕ) → IsBytes bytes → pages_at bytes ≡ Some (rows, rest) → Takes bytes (pages_bytes rows) rest × ArePages rows
unfolding pages_at
pages_takes bytes rows rest fits e =
    let a = bind_some (positive_at w16 bytes) _ (rows, rest) e in
    let b = bind_some (rows_at a.0.0 a.0.1) _ (rows, rest) a.2 in
    let count = positive_takes w16 (2 ^ 16) wide16 bytes a.0.0 a.0.1 fits a.1 in
    let read = rows_takes a.0.0 a.0.1 b.0.0 b.0.1 count.0.rest_fits b.1 in
    let both = Takes-then bytes (to_be_bytes w16 a.0.0) a.0.1 (rows_bytes b.0.0) b.0.1 count.0 read.0 in
    let whole : Takes bytes (pages_bytes b.0.0) b.0.1 = subst (λ (n : ℕ). Takes bytes (to_be_bytes w16 n ++ rows_bytes b.0.0) b.0.1) (sym read.1) both in
    let between : IsBetween 1 65535 (length b.0.0) = rw read.1 (count.1, omega (arith, count.2)) in
    let passed = cond_some _ _ _ b.2 in
    subst (λ (x : List (ℕ × ℕ) × List ℕ). Takes bytes (pages_bytes x.0) x.1 × ArePages x.0) passed.1 (whole, record { count = between; each = read.2; ascending = (ascends_decides (map (λ row. row.0) b.0.0)).0 passed.0 })

pub pages_again : (rows : List (ℕ × ℕ)) (rest : List ℕ) → ArePages rows → pages_at (pages_bytes rows ++ rest) ≡ Some (rows, rest)
unfolding pages_at
pages_again rows rest are =
    ap pages_at (append_assoc (to_be_bytes w16 (length rows)) (rows_bytes rows) rest)
    ∙ rw (positive_again w16 (2 ^ 16) wide16 (length rows) (rows_bytes rows ++ rest) are.count.0 (omega (arith, are.count.1)), rows_again rows rest are.each, (ascends_decides (map (λ row. row.0) rows)).1 are.ascending) refl
