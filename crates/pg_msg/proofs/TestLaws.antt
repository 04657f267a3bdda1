-- The tests of a reader say what the definitions say.
use Rattle.std.proofs.Common.{◌≡◌, ℕ, zero, suc, ◌+◌, ◌<◌, ◌||◌, ◌&&◌, not, Bool, true, false, List, [], ◌∷◌, Decides, length, get_or, map, refl, sym, ap, ◌∙◌, subst, leb, ltb, eqb, arith}
use Rattle.std.specs.Prelude.{All, slice_index}
use Rattle.std.specs.Cmp.Lexicographic.{bytes_decides, nat_list_eq_equiv}
use Rattle.std.specs.List.{list_all, list_any, AllAdjacentBelow, IsAllAdjacentAnswer}
use Rattle.std.specs.Str.{is_utf8, bytes_eq, str_to_ascii_lowercase}
use Rattle.std.proofs.lemmas.Bool.{leb-true, le-leb, and_from, and_left, and_right}
use Rattle.std.proofs.lemmas.Bool.Decides.{Decides-and, Decides-at, Decides-or, Decides-not, Decides-eqb, Decides-ltb, Decides-like, Decides-by_and}
use Rattle.std.proofs.lemmas.List.Elements.{All-weaker}
use Rattle.std.proofs.lemmas.Map.Views.{Contains-from_any, list_any-from_Contains}
use Rattle.std.proofs.lemmas.Str.{IsUtf8-from_ascii, is_utf8-from_IsUtf8}
use Rattle.std.proofs.lemmas.Str.Ascii.{IsAscii-from_all}
use Rattle.pg_msg.specs.declared.limits.TheConstants.{LONGEST_NAME}
use Rattle.pg_msg.specs.Names.{IsBetween, IsNameStart, IsNameByte, IsName, IsPropertyNameStart, IsPropertyNameByte, IsPropertyName, IsReserved, reserved_words}
use Rattle.pg_msg.specs.Lists.{IsBelowFirst, Ascends}
use Rattle.pg_msg.specs.Messages.{IsNotAmong, AreDistinct}
use Rattle.pg_msg.specs.Reading.{is_between, is_name_start, is_name_byte, is_name, is_property_name_start, is_property_name_byte, is_property_name, is_reserved, is_below_first, ascends, are_distinct}

pub between_decides : (low high n : ℕ) → Decides (is_between low high n) (IsBetween low high n)
between_decides low high n = Decides-and (leb low n) (leb n high) (leb-true low n, le-leb low n) (leb-true n high, le-leb n high)

-- ---- names

start_decides : (byte : ℕ) → Decides (is_name_start byte) (IsNameStart byte)
start_decides byte =
    Decides-or (is_between 65 90 byte) (is_between 97 122 byte || eqb byte 95) (between_decides 65 90 byte)
    (Decides-or (is_between 97 122 byte) (eqb byte 95) (between_decides 97 122 byte) (Decides-eqb byte 95))

byte_decides : (byte : ℕ) → Decides (is_name_byte byte) (IsNameByte byte)
byte_decides byte =
    Decides-or (is_name_start byte) (is_between 48 57 byte || (eqb byte 46 || eqb byte 45)) (start_decides byte)
    (Decides-or (is_between 48 57 byte) (eqb byte 46 || eqb byte 45) (between_decides 48 57 byte)
    (Decides-or (eqb byte 46) (eqb byte 45) (Decides-eqb byte 46) (Decides-eqb byte 45)))

pub name_decides : (name : List ℕ) → Decides (is_name name) (IsName name)
name_decides name =
    let each : Decides (list_all is_name_byte name) (All IsNameByte name) = Decides-by_and is_name_byte IsNameByte (list_all is_name_byte) byte_decides refl (λ _ _. refl) name in
    let behind = Decides-and (is_name_start (slice_index name 0)) (list_all is_name_byte name) (start_decides (slice_index name 0)) each in
    let whole = Decides-and (is_between 1 LONGEST_NAME (length name)) (is_name_start (slice_index name 0) && list_all is_name_byte name) (between_decides 1 LONGEST_NAME (length name)) behind in
    Decides-like (is_name name) (λ parts. record { some = parts.0.0; short = parts.0.1; first = parts.1.0; each = parts.1.1 }) (λ is. ((is.some, is.short), (is.first, is.each))) whole

name_byte_is_ascii : (byte : ℕ) → IsNameByte byte → byte < 128
name_byte_is_ascii byte is = omega arith

-- a name is a text
pub name_is_utf8 : (name : List ℕ) → IsName name → is_utf8 name ≡ true
name_is_utf8 name is = is_utf8-from_IsUtf8 name (IsUtf8-from_ascii name (IsAscii-from_all name (All-weaker IsNameByte (λ byte. byte < 128) name_byte_is_ascii name is.each)))

-- ---- names of properties

property_start_decides : (byte : ℕ) → Decides (is_property_name_start byte) (IsPropertyNameStart byte)
property_start_decides byte = Decides-or (is_name_start byte) (eqb byte 36) (start_decides byte) (Decides-eqb byte 36)

property_byte_decides : (byte : ℕ) → Decides (is_property_name_byte byte) (IsPropertyNameByte byte)
property_byte_decides byte = Decides-or (is_property_name_start byte) (is_between 48 57 byte) (property_start_decides byte) (between_decides 48 57 byte)

pub reserved_decides : (name : List ℕ) → Decides (is_reserved name) (IsReserved name)
reserved_decides name =
    let lower = str_to_ascii_lowercase name in
    (Contains-from_any {eq = bytes_eq} (λ x y. (bytes_decides x y).0) lower reserved_words, list_any-from_Contains nat_list_eq_equiv lower reserved_words)

pub property_name_decides : (name : List ℕ) → Decides (is_property_name name) (IsPropertyName name)
unfolding is_property_name
property_name_decides name =
    let each : Decides (list_all is_property_name_byte name) (All IsPropertyNameByte name) = Decides-by_and is_property_name_byte IsPropertyNameByte (list_all is_property_name_byte) property_byte_decides refl (λ _ _. refl) name in
    let unreserved = Decides-not (is_reserved name) (reserved_decides name) in
    let bytes = Decides-and (list_all is_property_name_byte name) (not (is_reserved name)) each unreserved in
    let behind = Decides-and (is_property_name_start (slice_index name 0)) (list_all is_property_name_byte name && not (is_reserved name)) (property_start_decides (slice_index name 0)) bytes in
    let whole = Decides-and (is_between 1 LONGEST_NAME (length name)) (is_property_name_start (slice_index name 0) && (list_all is_property_name_byte name && not (is_reserved name))) (between_decides 1 LONGEST_NAME (length name)) behind in
    Decides-like (is_property_name name) (λ parts. record { some = parts.0.0; short = parts.0.1; first = parts.1.0; each = parts.1.1.0; unreserved = parts.1.1.1 }) (λ is. ((is.some, is.short), (is.first, (is.each, is.unreserved)))) whole

property_byte_is_ascii : (byte : ℕ) → IsPropertyNameByte byte → byte < 128
property_byte_is_ascii byte is = omega arith

-- a name of a property is a text
pub property_name_is_utf8 : (name : List ℕ) → IsPropertyName name → is_utf8 name ≡ true
property_name_is_utf8 name is = is_utf8-from_IsUtf8 name (IsUtf8-from_ascii name (IsAscii-from_all name (All-weaker IsPropertyNameByte (λ byte. byte < 128) property_byte_is_ascii name is.each)))

-- ---- numbers that ascend

below_decides : (id : ℕ) (ids : List ℕ) → Decides (is_below_first id ids) (IsBelowFirst id ids)
below_decides id [] = (λ _. tt, λ _. refl)
below_decides id (next ∷ ids) = Decides-ltb id next

pub ascends_decides : (ids : List ℕ) → Decides (ascends ids) (Ascends ids)
ascends_decides [] = (λ _. tt, λ _. refl)
ascends_decides (id ∷ ids) = Decides-and (is_below_first id ids) (ascends ids) (below_decides id ids) (ascends_decides ids)

ascends_everywhere : {X : Type 0} (key : X → ℕ) (xs : List X) → AllAdjacentBelow (λ x y. true ≡ ltb (key x) (key y)) xs (length xs) → ascends (map key xs) ≡ true
ascends_everywhere key [] each = refl
ascends_everywhere key (x ∷ []) each = refl
ascends_everywhere {X} key (x ∷ y ∷ ys) each =
    let behind : AllAdjacentBelow (λ (a b : X). true ≡ ltb (key a) (key b)) (y ∷ ys) (length (y ∷ ys)) = λ k d below.
    let next : suc k + 1 ≡ suc (k + 1) = omega arith in
    subst (λ (n : ℕ). true ≡ ltb (key (get_or (x ∷ y ∷ ys) (suc k) d)) (key (get_or (x ∷ y ∷ ys) n d))) next (each (suc k) d (omega arith)) in
    and_from _ _ (sym (each 0 x (omega arith))) (ascends_everywhere key (y ∷ ys) behind)

ascends_nowhere : {X : Type 0} (key : X → ℕ) (xs : List X) (k : ℕ) (d : X) → k + 1 < length xs → false ≡ ltb (key (get_or xs k d)) (key (get_or xs (k + 1) d)) → ascends (map key xs) ≡ false
ascends_nowhere key [] k d below same = absurd (omega arith)
ascends_nowhere key (x ∷ []) k d below same = absurd (omega arith)
ascends_nowhere key (x ∷ y ∷ ys) zero d below same = and_left _ _ (sym same)
ascends_nowhere key (x ∷ y ∷ ys) (suc k) d below same =
    let next : suc k + 1 ≡ suc (k + 1) = omega arith in
    and_right _ _ (ascends_nowhere key (y ∷ ys) k d (omega arith) (subst (λ (n : ℕ). false ≡ ltb (key (get_or (x ∷ y ∷ ys) (suc k) d)) (key (get_or (x ∷ y ∷ ys) n d))) next same))

-- what was answered over neighbours tells whether the keys ascend
pub ascends_answer : {X : Type 0} (key : X → ℕ) (xs : List X) (answer : Bool) → IsAllAdjacentAnswer (λ x y b. b ≡ ltb (key x) (key y)) xs answer → answer ≡ ascends (map key xs)
ascends_answer key xs true each = sym (ascends_everywhere key xs each)
ascends_answer key [] false some = absurd (omega arith)
ascends_answer key (x ∷ xs) false some = sym (ascends_nowhere key (x ∷ xs) some.0 x some.1 (some.2 x))

-- ---- names that differ

not_or : (a b : Bool) → not (a || b) ≡ (not a && not b)
not_or true b = refl
not_or false b = refl

apart_decides : (name : List ℕ) (names : List (List ℕ)) → Decides (not (list_any (bytes_eq name) names)) (IsNotAmong name names)
apart_decides name [] = (λ _. tt, λ _. refl)
apart_decides name (other ∷ others) =
    let same = bytes_eq name other in
    let again = list_any (bytes_eq name) others in
    Decides-at (not (same || again)) (not same && not again) (not_or same again) (Decides-and (not same) (not again) (Decides-not same (bytes_decides name other)) (apart_decides name others))

pub distinct_decides : (names : List (List ℕ)) → Decides (are_distinct names) (AreDistinct names)
distinct_decides [] = (λ _. tt, λ _. refl)
distinct_decides (name ∷ names) = Decides-and (not (list_any (bytes_eq name) names)) (are_distinct names) (apart_decides name names) (distinct_decides names)

pub any_mapped : {X Y : Type 0} (p : Y → Bool) (f : X → Y) (xs : List X) → list_any p (map f xs) ≡ list_any (λ x. p (f x)) xs
any_mapped p f [] = refl
any_mapped p f (x ∷ xs) = ap (λ (rest : Bool). p (f x) || rest) (any_mapped p f xs)

-- no other has the first name, so those behind it decide
pub differs_behind : {X : Type 0} (name : X → List ℕ) (first : X) (behind rest all : List X) → rest ≡ first ∷ behind → false ≡ list_any (λ x. bytes_eq (name first) (name x)) behind → are_distinct (map name rest) ≡ are_distinct (map name all) → are_distinct (map name behind) ≡ are_distinct (map name all)
differs_behind {X} name first behind rest all parts none so_far =
    let unseen : list_any (bytes_eq (name first)) (map name behind) ≡ false = any_mapped (bytes_eq (name first)) name behind ∙ sym none in
    let step : are_distinct (map name (first ∷ behind)) ≡ are_distinct (map name behind) = ap (λ (seen : Bool). not seen && are_distinct (map name behind)) unseen in
    sym step ∙ ap (λ (xs : List X). are_distinct (map name xs)) (sym parts) ∙ so_far

-- another has the first name
pub differs_not : {X : Type 0} (name : X → List ℕ) (first : X) (behind rest all : List X) → rest ≡ first ∷ behind → true ≡ list_any (λ x. bytes_eq (name first) (name x)) behind → are_distinct (map name rest) ≡ are_distinct (map name all) → false ≡ are_distinct (map name all)
differs_not {X} name first behind rest all parts some so_far =
    let seen : list_any (bytes_eq (name first)) (map name behind) ≡ true = any_mapped (bytes_eq (name first)) name behind ∙ sym some in
    let step : are_distinct (map name (first ∷ behind)) ≡ false = ap (λ (again : Bool). not again && are_distinct (map name behind)) seen in
    sym step ∙ ap (λ (xs : List X). are_distinct (map name xs)) (sym parts) ∙ so_far
