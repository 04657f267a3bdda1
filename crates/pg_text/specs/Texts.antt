-- The texts that commands and replies are made of.
use Rattle.std.specs.Prelude.{◌≡◌, ℕ, List, [], ◌∷◌, ◌++◌, Option, Some, None, Ok, codes, ◌==◌, if◌then◌else◌}
use Rattle.std.specs.Fmt.{decimal, signed_decimal}
use Rattle.hex.specs.Hex.{decode_of}
use Rattle.pg_msg.specs.declared.message.MessageId.{MessageId}
use Rattle.pg_msg.specs.declared.properties.Property.{Property}
use Rattle.pg_msg.specs.declared.properties.Value.{Value}
use Rattle.pg_msg.specs.declared.properties.Value.TheVariants.{Text, Whole, Truth}

-- the epoch and the number, as in `2-10`
abbrev pub id_text : MessageId → List ℕ
id_text id = decimal id.epoch ++ (45 ∷ decimal id.number)

-- The digits spell the bytes: two for each byte, in either case of their letters, and `-` for no bytes. So `6f` and
-- `6F` spell the byte 111.
abbrev pub SpellsHex : List ℕ → List ℕ → Type 0
SpellsHex digits [] = digits ≡ codes "-"
SpellsHex digits (byte ∷ bytes) = decode_of digits ≡ Ok (byte ∷ bytes)

-- each quote is written twice
abbrev pub doubled : List ℕ → List ℕ
doubled [] = []
doubled (byte ∷ bytes) = if byte == 39 then 39 ∷ 39 ∷ doubled bytes else byte ∷ doubled bytes

-- a text between quotes, as in `'it''s'`, a whole number, as in `-5`, or `TRUE` or `FALSE`
abbrev pub value_text : Value → List ℕ
value_text (Text text) = 39 ∷ (doubled text ++ (39 ∷ []))
value_text (Whole number) = signed_decimal number
value_text (Truth truth) = if truth then codes "TRUE" else codes "FALSE"

-- ` prop NAME VALUE`, as in ` prop region 'EU'`
abbrev pub property_text : Property → List ℕ
property_text property = codes " prop " ++ (property.name ++ (32 ∷ value_text property.value))

abbrev pub properties_text : List Property → List ℕ
properties_text [] = []
properties_text (property ∷ properties) = property_text property ++ properties_text properties

-- ` tx NAME`, or nothing
abbrev pub tx_text : Option (List ℕ) → List ℕ
tx_text None = []
tx_text (Some name) = codes " tx " ++ name

-- ` where FILTER`, or nothing
abbrev pub filter_text : Option (List ℕ) → List ℕ
filter_text None = []
filter_text (Some filter) = codes " where " ++ filter
