-- How a message is spelled, and what it weighs.
use Rattle.std.specs.Prelude.{◌≡◌, ◌≢◌, ◌<◌, ◌≤◌, ◌^◌, ℕ, List, [], ◌∷◌, ◌++◌, length, map, All, Option, Some, None, IfSome, IsUtf8, FitsSigned, if◌then◌else◌}
use Rattle.std.specs.Int.{to_be_bytes, cast_unsigned, w16, w32, w64}
use Rattle.pg_msg.specs.declared.limits.TheConstants.{LONGEST_DUPLICATE_ID, MOST_PROPERTIES, WEIGHT_LIMIT}
use Rattle.pg_msg.specs.declared.message.MessageId.{MessageId}
use Rattle.pg_msg.specs.declared.message.Body.{Body}
use Rattle.pg_msg.specs.declared.message.Body.TheVariants.{Plain, Large}
use Rattle.pg_msg.specs.declared.message.Message.{Message}
use Rattle.pg_msg.specs.declared.properties.Property.{Property}
use Rattle.pg_msg.specs.declared.properties.Value.{Value}
use Rattle.pg_msg.specs.declared.properties.Value.TheVariants.{Text, Whole, Truth}
use Rattle.pg_msg.specs.Names.{IsBetween, IsPropertyName}

-- the epoch and the number, each in 4 bytes
abbrev pub id_bytes : MessageId → List ℕ
id_bytes id = to_be_bytes w32 id.epoch ++ to_be_bytes w32 id.number

-- one byte with the length, which is 0 where there is no id, and the id
abbrev pub dup_bytes : Option (List ℕ) → List ℕ
dup_bytes None = 0 ∷ []
dup_bytes (Some id) = length id ∷ id

-- its kind, and the text behind its length, the number in two's complement, or 0 or 1
abbrev pub value_bytes : Value → List ℕ
value_bytes (Text text) = 1 ∷ (to_be_bytes w16 (length text) ++ text)
value_bytes (Whole number) = 2 ∷ to_be_bytes w64 (cast_unsigned w64 number)
value_bytes (Truth truth) = 3 ∷ ((if truth then 1 else 0) ∷ [])

-- its name behind the name's length, and its value
abbrev pub property_bytes : Property → List ℕ
property_bytes property = length property.name ∷ (property.name ++ value_bytes property.value)

abbrev pub properties_bytes : List Property → List ℕ
properties_bytes [] = []
properties_bytes (property ∷ properties) = property_bytes property ++ properties_bytes properties

-- 1 for a plain message, 2 for a large one
abbrev pub kind_of : Body → ℕ
kind_of (Plain body) = 1
kind_of (Large size) = 2

-- a plain body behind its length, and of a large one its length alone
abbrev pub body_bytes : Body → List ℕ
body_bytes (Plain body) = to_be_bytes w32 (length body) ++ body
body_bytes (Large size) = to_be_bytes w64 size

-- the id, the kind, the duplicate id, the properties behind their count, and the body
abbrev pub message_bytes : Message → List ℕ
message_bytes message =
    id_bytes message.id ++ (kind_of message.body ∷
    (dup_bytes message.dup ++ (length message.properties ∷
    (properties_bytes message.properties ++ body_bytes message.body))))

-- how many bytes it takes
abbrev pub weight_of : Message → ℕ
weight_of message = length (message_bytes message)

-- both parts are at least 1
pub record IsMessageId (id : MessageId) : Type 0 where
  pub epoch : 1 ≤ id.epoch
  pub epoch_fits : id.epoch < 2 ^ 32
  pub number : 1 ≤ id.number
  pub number_fits : id.number < 2 ^ 32

-- a duplicate id has some bytes, and not too many
abbrev pub IsDuplicateId : List ℕ → Type 0
IsDuplicateId id = IsBetween 1 LONGEST_DUPLICATE_ID (length id)

-- a text is UTF-8 of at most 65,535 bytes, and a number has 64 bits
abbrev pub IsValue : Value → Type 0
IsValue (Text text) = IsUtf8 text × (length text ≤ 65535)
IsValue (Whole number) = FitsSigned w64 number
IsValue (Truth truth) = Unit {0}

abbrev pub IsProperty : Property → Type 0
IsProperty property = IsPropertyName property.name × IsValue property.value

-- no two of the names are the same
abbrev pub IsNotAmong : List ℕ → List (List ℕ) → Type 0
IsNotAmong name [] = Unit {0}
IsNotAmong name (other ∷ others) = (name ≢ other) × IsNotAmong name others

abbrev pub AreDistinct : List (List ℕ) → Type 0
AreDistinct [] = Unit {0}
AreDistinct (name ∷ names) = IsNotAmong name names × AreDistinct names

-- not too many properties, whose names differ
pub record AreProperties (properties : List Property) : Type 0 where
  pub count : length properties ≤ MOST_PROPERTIES
  pub each : All IsProperty properties
  pub distinct : AreDistinct (map (λ property. property.name) properties)

-- the length of the body has its place
abbrev pub IsBody : Body → Type 0
IsBody (Plain body) = length body < 2 ^ 32
IsBody (Large size) = size < 2 ^ 64

-- each field of the message is in its range
pub record HasFields (message : Message) : Type 0 where
  pub id : IsMessageId message.id
  pub dup : IfSome message.dup IsDuplicateId
  pub properties : AreProperties message.properties
  pub body : IsBody message.body

-- and it isn't too heavy
pub record IsMessage (message : Message) : Type 0 where
  pub fields : HasFields message
  pub light : weight_of message < WEIGHT_LIMIT

-- the bytes spell the message
pub record SpellsMessage (bytes : List ℕ) (message : Message) : Type 0 where
  pub spelled : bytes ≡ message_bytes message
  pub in_range : IsMessage message
