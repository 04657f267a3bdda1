-- Reading from left to right: a value and the bytes behind it, or nothing where no value is spelled there.
use Rattle.std.specs.Prelude.{◌≡◌, ◌+◌, ℕ, zero, suc, Bool, true, ◌&&◌, ◌||◌, not, List, [], ◌∷◌, length, take, drop, map, slice_index, Option, Some, None, Result, Ok, Err, nat_lt, nat_le, ◌==◌, if◌then◌else◌}
use Rattle.std.specs.Int.{Width, w8, w16, w32, w64, byte_len, from_be_bytes, cast_signed}
use Rattle.std.specs.List.{list_all, list_any}
use Rattle.std.specs.Str.{is_utf8, bytes_eq, str_to_ascii_lowercase}
use Rattle.pg_msg.specs.declared.fields.Unread.{Unread}
use Rattle.pg_msg.specs.declared.fields.Unread.TheVariants as unread
use Rattle.pg_msg.specs.declared.limits.TheConstants.{LONGEST_DUPLICATE_ID, LONGEST_NAME, MOST_PROPERTIES, MOST_QUEUES, WEIGHT_LIMIT}
use Rattle.pg_msg.specs.declared.message.MessageId.{MessageId}
use Rattle.pg_msg.specs.declared.message.Body.{Body}
use Rattle.pg_msg.specs.declared.message.Body.TheVariants.{Plain, Large}
use Rattle.pg_msg.specs.declared.message.Message.{Message}
use Rattle.pg_msg.specs.declared.properties.Property.{Property}
use Rattle.pg_msg.specs.declared.properties.Value.{Value}
use Rattle.pg_msg.specs.declared.properties.Value.TheVariants.{Text, Whole, Truth}
use Rattle.pg_msg.specs.Names.{reserved_words}

-- a value and the bytes behind it
abbrev pub Read : Type 0 → Type 0
Read X = Option (X × List ℕ)

infixl 10 ◌>>=◌
abbrev pub ◌>>=◌ : {A B : Type 0} → Option A → (A → Option B) → Option B
(Some x) >>= f = f x
None >>= f = None

-- What a function returned, seen by view, is what reading gives, unless memory ran out.
abbrev pub Misses : {Y : Type 0} → Unread → Option Y → Type 0
Misses unread.Memory read = Unit {0}
Misses unread.Malformed read = read ≡ None

abbrev pub Gives : {X Y : Type 0} → (X → Y) → Result X Unread → Option Y → Type 0
Gives view (Ok x) read = read ≡ Some (view x)
Gives view (Err error) read = Misses error read

-- the value, if it passes the test
abbrev pub guarded : {X : Type 0} → Bool → X → Option X
guarded test x = if test then Some x else None

-- so many values, one behind the other
unfoldable pub counted_at : {X : Type 0} → (List ℕ → Read X) → ℕ → List ℕ → Read (List X)
counted_at value_at zero bytes = Some ([], bytes)
counted_at value_at (suc count) bytes = do
  first ← value_at bytes
  others ← counted_at value_at count first.1
  Some (first.0 ∷ others.0, others.1)

-- a number of this width
abbrev pub number_at : Width → List ℕ → Read ℕ
number_at w bytes =
    guarded (nat_le (byte_len w) (length bytes)) (from_be_bytes w (take (byte_len w) bytes), drop (byte_len w) bytes)

-- so many bytes
abbrev pub octets_at : ℕ → List ℕ → Read (List ℕ)
octets_at count bytes = guarded (nat_le count (length bytes)) (take count bytes, drop count bytes)

-- a number that is at least 1
unfoldable pub positive_at : Width → List ℕ → Read ℕ
positive_at w bytes = do
  n ← number_at w bytes
  guarded (nat_le 1 n.0) n

unfoldable pub id_at : List ℕ → Read MessageId
id_at bytes = do
  epoch ← positive_at w32 bytes
  number ← positive_at w32 epoch.1
  Some (record { epoch = epoch.0; number = number.0 }, number.1)

abbrev pub is_between : ℕ → ℕ → ℕ → Bool
is_between low high n = nat_le low n && nat_le n high

abbrev pub is_name_start : ℕ → Bool
is_name_start byte = is_between 65 90 byte || (is_between 97 122 byte || (byte == 95))

abbrev pub is_name_byte : ℕ → Bool
is_name_byte byte = is_name_start byte || (is_between 48 57 byte || ((byte == 46) || (byte == 45)))

abbrev pub is_name : List ℕ → Bool
is_name name =
    is_between 1 LONGEST_NAME (length name) && (is_name_start (slice_index name 0) && list_all is_name_byte name)

abbrev pub is_property_name_start : ℕ → Bool
is_property_name_start byte = is_name_start byte || (byte == 36)

abbrev pub is_property_name_byte : ℕ → Bool
is_property_name_byte byte = is_property_name_start byte || is_between 48 57 byte

abbrev pub is_reserved : List ℕ → Bool
is_reserved name = list_any (bytes_eq (str_to_ascii_lowercase name)) reserved_words

unfoldable pub is_property_name : List ℕ → Bool
is_property_name name =
    is_between 1 LONGEST_NAME (length name) &&
    (is_property_name_start (slice_index name 0) && (list_all is_property_name_byte name && not (is_reserved name)))

-- a length byte and so many bytes, which are a name
unfoldable pub name_at : List ℕ → Read (List ℕ)
name_at bytes = do
  count ← number_at w8 bytes
  name ← octets_at count.0 count.1
  guarded (is_name name.0) name

-- so many ids
abbrev pub ids_at : ℕ → List ℕ → Read (List ℕ)
ids_at count bytes = counted_at (number_at w32) count bytes

abbrev pub is_below_first : ℕ → List ℕ → Bool
is_below_first id [] = true
is_below_first id (next ∷ ids) = nat_lt id next

abbrev pub ascends : List ℕ → Bool
ascends [] = true
ascends (id ∷ ids) = is_below_first id ids && ascends ids

-- a count and so many ids, which ascend
unfoldable pub queues_at : List ℕ → Read (List ℕ)
queues_at bytes = do
  count ← number_at w16 bytes
  in_range ← guarded (is_between 1 MOST_QUEUES count.0) count
  ids ← ids_at in_range.0 in_range.1
  guarded (ascends ids.0) ids

-- an address and its last page
unfoldable pub row_at : List ℕ → Read (ℕ × ℕ)
row_at bytes = do
  address ← number_at w32 bytes
  page ← number_at w64 address.1
  Some ((address.0, page.0), page.1)

abbrev pub rows_at : ℕ → List ℕ → Read (List (ℕ × ℕ))
rows_at count bytes = counted_at row_at count bytes

-- a count and so many addresses, which ascend, with their last pages
unfoldable pub pages_at : List ℕ → Read (List (ℕ × ℕ))
pages_at bytes = do
  count ← positive_at w16 bytes
  rows ← rows_at count.0 count.1
  guarded (ascends (map (λ row. row.0) rows.0)) rows

unfoldable pub dup_at : List ℕ → Read (Option (List ℕ))
dup_at bytes = do
  count ← number_at w8 bytes
  in_range ← guarded (nat_le count.0 LONGEST_DUPLICATE_ID) count
  id ← octets_at in_range.0 in_range.1
  Some (if count.0 == 0 then None else Some id.0, id.1)

unfoldable pub text_at : List ℕ → Read Value
text_at bytes = do
  count ← number_at w16 bytes
  text ← octets_at count.0 count.1
  guarded (is_utf8 text.0) (Text text.0, text.1)

unfoldable pub whole_at : List ℕ → Read Value
whole_at bytes = do
  number ← number_at w64 bytes
  Some (Whole (cast_signed w64 number.0), number.1)

unfoldable pub truth_at : List ℕ → Read Value
truth_at bytes = do
  truth ← number_at w8 bytes
  guarded (nat_le truth.0 1) (Truth (truth.0 == 1), truth.1)

-- what stands behind a value's kind
abbrev pub value_of : ℕ → List ℕ → Read Value
value_of kind bytes =
    if kind == 1 then text_at bytes else (if kind == 2 then whole_at bytes else
    (if kind == 3 then truth_at bytes else None))

unfoldable pub value_at : List ℕ → Read Value
value_at bytes = do
  kind ← number_at w8 bytes
  value_of kind.0 kind.1

-- a length byte and so many bytes, which name a property
unfoldable pub property_name_at : List ℕ → Read (List ℕ)
property_name_at bytes = do
  count ← number_at w8 bytes
  name ← octets_at count.0 count.1
  guarded (is_property_name name.0) name

unfoldable pub property_at : List ℕ → Read Property
property_at bytes = do
  name ← property_name_at bytes
  value ← value_at name.1
  Some (record { name = name.0; value = value.0 }, value.1)

-- the names differ
abbrev pub are_distinct : List (List ℕ) → Bool
are_distinct [] = true
are_distinct (name ∷ names) = not (list_any (bytes_eq name) names) && are_distinct names

-- a count and so many properties, whose names differ
unfoldable pub properties_at : List ℕ → Read (List Property)
properties_at bytes = do
  count ← number_at w8 bytes
  in_range ← guarded (nat_le count.0 MOST_PROPERTIES) count
  properties ← counted_at property_at in_range.0 in_range.1
  guarded (are_distinct (map (λ property. property.name) properties.0)) properties

-- so many bytes behind their count
unfoldable pub plain_at : List ℕ → Read (List ℕ)
plain_at bytes = do
  count ← number_at w32 bytes
  octets_at count.0 count.1

-- the bytes that tell the body of this kind: those of a plain one, and the length of a large one
abbrev pub part_at : ℕ → List ℕ → Read (List ℕ)
part_at kind bytes = if kind == 1 then plain_at bytes else (if kind == 2 then octets_at 8 bytes else None)

abbrev pub body_of : ℕ → List ℕ → Body
body_of kind part = if kind == 1 then Plain part else Large (from_be_bytes w64 part)

-- the message, if it isn't too heavy
unfoldable pub message_at : List ℕ → Read Message
message_at bytes = do
  id ← id_at bytes
  kind ← number_at w8 id.1
  dup ← dup_at kind.1
  properties ← properties_at dup.1
  part ← part_at kind.0 properties.1
  guarded (nat_lt (length bytes) (length part.1 + WEIGHT_LIMIT)) (
    record {
      id =
          id.0;
      dup = dup.0;
      properties = properties.0;
      body = body_of kind.0 part.0;
    },
    part.1,
  )
