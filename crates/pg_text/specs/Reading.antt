-- Reading the pieces of a line from left to right: a value and the bytes behind it, or nothing where none stands there.
use Rattle.std.specs.Prelude.{◌≡◌, ◌≢◌, ◌^◌, ◌-◌, ℕ, ℤ, pos, negsuc, zero, suc, Bool, true, false, ◌&&◌, List, [], ◌∷◌, ◌++◌, length, slice_index, take, drop, map, Option, Some, None, Result, Ok, Err, codes, nat_lt, nat_le, ◌==◌, if◌then◌else◌}
use Rattle.std.specs.Fmt.{decimal}
use Rattle.std.specs.List.{position_or_len}
use Rattle.std.specs.Str.{is_utf8, bytes_eq}
use Rattle.std.specs.Str.Parse.{digits_value}
use Rattle.hex.specs.declared.error.FromHexError.{FromHexError}
use Rattle.hex.specs.declared.error.FromHexError.TheVariants.{OutOfMemory, InvalidHexCharacter, OddLength, InvalidStringLength}
use Rattle.pg_msg.specs.declared.fields.Unread.{Unread}
use Rattle.pg_msg.specs.declared.fields.Unread.TheVariants.{Malformed, Memory}
use Rattle.hex.specs.Hex.{decode_of}
use Rattle.pg_msg.specs.declared.limits.TheConstants.{LONGEST_DUPLICATE_ID, LONGEST_FILTER, MOST_PROPERTIES}
use Rattle.pg_msg.specs.declared.message.MessageId.{MessageId}
use Rattle.pg_msg.specs.declared.properties.Property.{Property}
use Rattle.pg_msg.specs.declared.properties.Value.{Value}
use Rattle.pg_msg.specs.declared.properties.Value.TheVariants.{Text, Whole, Truth}
use Rattle.pg_msg.specs.Reading.{Read, ◌>>=◌, guarded, is_between, is_name, is_property_name, are_distinct}

-- no sign stands in front, and a zero only alone
pub record BeginsAsNumber (digits : List ℕ) : Type 0 where
  pub unsigned : slice_index digits 0 ≢ 43
  pub canonical : slice_index digits 0 ≡ 48 → length digits ≡ 1

-- the bytes before the first such byte, and those from it on
unfoldable pub before : ℕ → List ℕ → List ℕ
before mark line = take (position_or_len (λ byte. byte == mark) line) line

unfoldable pub onward : ℕ → List ℕ → List ℕ
onward mark line = drop (position_or_len (λ byte. byte == mark) line) line

-- what is behind the keyword
unfoldable pub behind : List ℕ → List ℕ → Option (List ℕ)
behind keyword line = guarded (bytes_eq (take (length keyword) line) keyword) (drop (length keyword) line)

abbrev pub is_empty : List ℕ → Bool
is_empty [] = true
is_empty (byte ∷ bytes) = false

-- the value, if nothing is behind it
abbrev pub last_of : {X : Type 0} → X × List ℕ → Option X
last_of read = guarded (is_empty read.1) read.0

-- the number, if these are the digits that it is written with, and it has 64 bits
abbrev pub written_as : List ℕ → ℕ → Option ℕ
written_as digits number = guarded (bytes_eq digits (decimal number) && nat_lt number (2 ^ 64)) number

-- the number that the digits write, with no sign and no zero in front of another digit
unfoldable pub number_of : List ℕ → Option ℕ
number_of digits = written_as digits (digits_value 10 digits)

-- a whole word that is a name
unfoldable pub name_at : List ℕ → Read (List ℕ)
name_at line = guarded (is_name (before 32 line)) (before 32 line, onward 32 line)

-- the keyword, and a name
unfoldable pub name_behind : List ℕ → List ℕ → Read (List ℕ)
name_behind keyword line = do
  rest ← behind keyword line
  name_at rest

-- the keyword, and a name at the end
unfoldable pub last_name_behind : List ℕ → List ℕ → Option (List ℕ)
last_name_behind keyword line = do
  name ← name_behind keyword line
  last_of name

-- the keyword, and a number from `least` to `most`
unfoldable pub number_behind : List ℕ → ℕ → ℕ → List ℕ → Read ℕ
number_behind keyword least most line = do
  rest ← behind keyword line
  number ← number_of (before 32 rest)
  guarded (is_between least most number) (number, onward 32 rest)

-- one of the two numbers of a message's id
unfoldable pub id_part_of : List ℕ → Option ℕ
id_part_of digits = do
  number ← number_of digits
  guarded (is_between 1 4294967295 number) number

-- a space, and a word that is the id of a message
unfoldable pub message_id_at : List ℕ → Read MessageId
message_id_at line = do
  rest ← behind (32 ∷ []) line
  epoch ← id_part_of (before 45 (before 32 rest))
  digits ← behind (45 ∷ []) (onward 45 (before 32 rest))
  number ← id_part_of digits
  Some (record { epoch = epoch; number = number }, onward 32 rest)

-- some bytes
abbrev pub some_bytes : Result (List ℕ) FromHexError → Option (List ℕ)
some_bytes (Ok []) = None
some_bytes (Ok (byte ∷ bytes)) = Some (byte ∷ bytes)
some_bytes (Err error) = None

-- what the digits spell
unfoldable pub hex_of : List ℕ → Option (List ℕ)
hex_of digits = if bytes_eq digits (45 ∷ []) then Some [] else some_bytes (decode_of digits)

-- why they weren't read
abbrev pub unread_of : FromHexError → Unread
unread_of OutOfMemory = Memory
unread_of (InvalidHexCharacter digit place) = Malformed
unread_of OddLength = Malformed
unread_of InvalidStringLength = Malformed

-- ---- parts that may be missing

abbrev pub tx_from : Option (List ℕ) → List ℕ → Read (Option (List ℕ))
tx_from None line = Some (None, line)
tx_from (Some rest) line = do
  name ← name_at rest
  Some (Some name.0, name.1)

-- a transaction, or nothing
unfoldable pub tx_at : List ℕ → Read (Option (List ℕ))
tx_at line = tx_from (behind (codes " tx ") line) line

-- a duplicate id
unfoldable pub id_of : List ℕ → Option (List ℕ)
id_of digits = do
  id ← hex_of digits
  guarded (is_between 1 LONGEST_DUPLICATE_ID (length id)) id

abbrev pub id_from : Option (List ℕ) → List ℕ → Read (Option (List ℕ))
id_from None line = Some (None, line)
id_from (Some rest) line = do
  id ← id_of (before 32 rest)
  Some (Some id, onward 32 rest)

-- a duplicate id, or nothing
unfoldable pub id_at : List ℕ → Read (Option (List ℕ))
id_at line = id_from (behind (codes " id ") line) line

abbrev pub filter_from : Option (List ℕ) → List ℕ → Option (Option (List ℕ))
filter_from None line = guarded (is_empty line) None
filter_from (Some rest) line = guarded (is_utf8 rest && nat_le (length rest) LONGEST_FILTER) (Some rest)

-- a filter to the end of the line, or the end
unfoldable pub filter_at : List ℕ → Option (Option (List ℕ))
filter_at line = filter_from (behind (codes " where ") line) line

abbrev pub body_from : Option (List ℕ) → List ℕ → Option (List ℕ)
body_from None line = do
  digits ← behind (codes " hex ") line
  hex_of digits
body_from (Some rest) line = Some rest

-- a body, to the end of the line
unfoldable pub body_at : List ℕ → Option (List ℕ)
body_at line = body_from (behind (codes " body ") line) line

-- ---- values and properties

abbrev pub joined : {X : Type 0} → List X → Read (List X) → Read (List X)
joined front None = None
joined front (Some read) = Some (front ++ read.0, read.1)

-- the text up to the quote that ends it, where `true` says that a quote was the byte before
unfoldable pub quoted_from : Bool → List ℕ → Read (List ℕ)
quoted_from false [] = None
quoted_from true [] = Some ([], [])
quoted_from false (byte ∷ line) =
    if byte == 39 then quoted_from true line else joined (byte ∷ []) (quoted_from false line)
quoted_from true (byte ∷ line) =
    if byte == 39 then joined (39 ∷ []) (quoted_from false line) else Some ([], byte ∷ line)

-- what is left behind a byte of the text, and nothing where the byte is the quote that ends it
abbrev pub behind_byte : ℕ → List ℕ → Option (List ℕ)
behind_byte first line = if first == 39 then behind (39 ∷ []) line else Some line

-- a text behind the quote in front of it
unfoldable pub text_at : List ℕ → Read Value
text_at line = do
  text ← quoted_from false line
  guarded (is_utf8 text.0 && nat_le (length text.0) 65535) (Text text.0, text.1)

abbrev pub whole_from : Option (List ℕ) → List ℕ → Option ℤ
whole_from None word = do
  number ← number_of word
  guarded (nat_lt number (2 ^ 63)) (pos number)
whole_from (Some digits) word = do
  number ← number_of digits
  guarded (is_between 1 (2 ^ 63) number) (negsuc (number - 1))

-- a whole number of 64 bits, with a minus or no sign
unfoldable pub whole_of : List ℕ → Option ℤ
whole_of word = whole_from (behind (45 ∷ []) word) word

unfoldable pub whole_at : List ℕ → Option Value
whole_at word = do
  number ← whole_of word
  Some (Whole number)

-- a truth or a number
unfoldable pub word_value : List ℕ → Option Value
word_value word =
    if bytes_eq word (codes "TRUE") then Some (Truth true) else
    (if bytes_eq word (codes "FALSE") then Some (Truth false) else whole_at word)

abbrev pub value_from : Option (List ℕ) → List ℕ → Read Value
value_from None line = do
  value ← word_value (before 32 line)
  Some (value, onward 32 line)
value_from (Some rest) line = text_at rest

unfoldable pub value_at : List ℕ → Read Value
value_at line = value_from (behind (39 ∷ []) line) line

-- a whole word that names a property
unfoldable pub property_name_at : List ℕ → Read (List ℕ)
property_name_at line = guarded (is_property_name (before 32 line)) (before 32 line, onward 32 line)

-- a name, a space and a value
unfoldable pub property_at : List ℕ → Read Property
property_at line = do
  name ← property_name_at line
  rest ← behind (32 ∷ []) name.1
  value ← value_at rest
  Some (record { name = name.0; value = value.0 }, value.1)

-- a property where ` prop ` was read, and then the others; and no property where it wasn't
abbrev pub more_at : (List ℕ → Read (List Property)) → Option (List ℕ) → List ℕ → Read (List Property)
more_at others None line = Some ([], line)
more_at others (Some rest) line = do
  property ← property_at rest
  read ← others property.1
  Some (property.0 ∷ read.0, read.1)

-- properties, so many at most
unfoldable pub each_at : ℕ → List ℕ → Read (List Property)
each_at zero line = more_at (λ _. None) (behind (codes " prop ") line) line
each_at (suc most) line = more_at (each_at most) (behind (codes " prop ") line) line

-- properties whose names differ
unfoldable pub properties_at : List ℕ → Read (List Property)
properties_at line = do
  properties ← each_at MOST_PROPERTIES line
  guarded (are_distinct (map (λ property. property.name) properties.0)) properties
