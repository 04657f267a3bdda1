-- The bytes of replies.
use Rattle.std.specs.Prelude.{◌≡◌, ◌≢◌, ℕ, Bool, List, [], ◌∷◌, ◌++◌, Option, Some, None, codes, if◌then◌else◌}
use Rattle.std.specs.Fmt.{decimal}
use Rattle.hex.specs.Hex.{encode_lower}
use Rattle.pg_msg.specs.declared.message.Body.{Body}
use Rattle.pg_msg.specs.declared.message.Body.TheVariants.{Plain, Large}
use Rattle.pg_msg.specs.declared.message.Message.{Message}
use Rattle.pg_msg.specs.declared.reply.Reply.{Reply}
use Rattle.pg_msg.specs.declared.reply.Reply.TheVariants as replies
use Rattle.pg_msg.specs.declared.reply.Refusal.{Refusal}
use Rattle.pg_msg.specs.declared.reply.Refusal.TheVariants as refusals
use Rattle.pg_text.specs.Texts.{id_text, properties_text}

-- the word of a refusal, and of a filter without a reading also the place where that fails
abbrev pub refusal_text : Refusal → List ℕ
refusal_text refusals.Line = codes "line"
refusal_text refusals.Name = codes "name"
refusal_text refusals.Room = codes "room"
refusal_text refusals.Address = codes "address"
refusal_text refusals.Queue = codes "queue"
refusal_text (refusals.Filter at) = codes "filter " ++ decimal at
refusal_text refusals.ConsumerOpen = codes "consumer-open"
refusal_text refusals.Tx = codes "tx"
refusal_text refusals.TxFailed = codes "failed"
refusal_text refusals.Size = codes "size"
refusal_text refusals.Duplicate = codes "duplicate"
refusal_text refusals.Ids = codes "ids"
refusal_text refusals.Consumer = codes "consumer"
refusal_text refusals.Delivery = codes "delivery"
refusal_text refusals.Large = codes "large"
refusal_text refusals.Range = codes "range"

-- two digits for each byte, with lower-case letters, and `-` for no bytes
abbrev pub hex_text : List ℕ → List ℕ
hex_text [] = codes "-"
hex_text (byte ∷ bytes) = encode_lower (byte ∷ bytes)

-- ` id DIGITS`, or nothing
abbrev pub dup_text : Option (List ℕ) → List ℕ
dup_text None = []
dup_text (Some id) = codes " id " ++ hex_text id

-- ` hex DIGITS` of a plain body, and ` large LENGTH` of a large one
abbrev pub body_text : Body → List ℕ
body_text (Plain bytes) = codes " hex " ++ hex_text bytes
body_text (Large size) = codes " large " ++ decimal size

-- the id, the duplicate id, the properties and the body
abbrev pub message_text : Message → List ℕ
message_text message =
    codes "msg " ++ (id_text message.id ++
    (dup_text message.dup ++ (properties_text message.properties ++ body_text message.body)))

abbrev pub mode_text : Bool → List ℕ
mode_text paging = if paging then codes "paging" else codes "normal"

-- `stat MODE resident N loaded N pages N first N`
abbrev pub stat_text : Bool → ℕ → ℕ → ℕ → ℕ → List ℕ
stat_text paging resident loaded pages first =
    codes "stat " ++ (mode_text paging ++ (codes " resident " ++ (decimal resident ++
    (codes " loaded " ++ (decimal loaded ++ (codes " pages " ++ (decimal pages ++ (codes " first " ++ decimal first))))))))

abbrev pub reply_text : Reply → List ℕ
reply_text replies.Done = codes "ok"
reply_text (replies.Sent id) = codes "sent " ++ id_text id
reply_text replies.Unrouted = codes "unrouted"
reply_text (replies.Given message) = message_text message
reply_text replies.Empty = codes "empty"
reply_text (replies.Bytes octets) = codes "bytes " ++ hex_text octets
reply_text (replies.Removed page) = codes "removed " ++ decimal page
reply_text (replies.First page) = codes "first " ++ decimal page
reply_text replies.Nothing = codes "nothing"
reply_text (replies.Stat paging resident loaded pages first) = stat_text paging resident loaded pages first
reply_text (replies.Count count) = codes "count " ++ decimal count
reply_text (replies.No refusal) = codes "no " ++ refusal_text refusal

-- with its line end
abbrev pub reply_line : Reply → List ℕ
reply_line reply = reply_text reply ++ (10 ∷ [])

abbrev pub reply_bytes : List Reply → List ℕ
reply_bytes [] = []
reply_bytes (reply ∷ replies) = reply_line reply ++ reply_bytes replies

-- of the next reply a part was told that isn't the whole
abbrev pub BeginsNext : List ℕ → List Reply → Type 0
BeginsNext part [] = part ≡ []
BeginsNext part (reply ∷ replies) = (rest : List ℕ) × (rest ≢ []) × (reply_line reply ≡ part ++ rest)
