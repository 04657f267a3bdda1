-- How a line spells a command.
use Rattle.std.specs.Prelude.{◌≡◌, ◌≤◌, ◌⊎◌, ℕ, List, [], ◌∷◌, ◌++◌, length, Option, Some, None, codes}
use Rattle.std.specs.Fmt.{decimal}
use Rattle.pg_msg.specs.declared.command.Command.{Command}
use Rattle.pg_msg.specs.declared.command.Command.TheVariants.{Address, Queue, DropQueue, Send, Begin, Commit, Rollback, Consumer, Receive, Ack, Cancel, Close, Large, Part, End, PartOf, Cleanup, Ahead, Checkpoint, Stat, Count}
use Rattle.pg_msg.specs.declared.properties.Property.{Property}
use Rattle.pg_msg.specs.Commands.{IsInRange}
use Rattle.pg_lines.specs.Lines.{longest_line}
use Rattle.pg_text.specs.Texts.{SpellsHex, filter_text, id_text, properties_text, tx_text}

-- `address NAME max N page N ahead N dup N`
abbrev pub address_line : List ℕ → ℕ → ℕ → ℕ → ℕ → List ℕ
address_line name max page ahead dup =
    codes "address " ++ (name ++
    (codes " max " ++ (decimal max ++
    (codes " page " ++ (decimal page ++ (codes " ahead " ++ (decimal ahead ++ (codes " dup " ++ decimal dup))))))))

-- ` id DIGITS` spells a duplicate id, and nothing none
abbrev pub SpellsId : List ℕ → Option (List ℕ) → Type 0
SpellsId part None = part ≡ []
SpellsId part (Some id) = (digits : List ℕ) × SpellsHex digits id × (part ≡ codes " id " ++ digits)

-- ` hex DIGITS` spells a body
pub record SpellsInHex (part body : List ℕ) : Type 0 where
  pub digits : List ℕ
  pub spelled : SpellsHex digits body
  pub bytes : part ≡ codes " hex " ++ digits

-- ` body BYTES` spells the bytes themselves, all that are left of the line, and ` hex DIGITS` what the digits spell
abbrev pub SpellsBody : List ℕ → List ℕ → Type 0
SpellsBody part body = (part ≡ codes " body " ++ body) ⊎ SpellsInHex part body

-- `send NAME`, then ` tx NAME`, ` id DIGITS` and ` prop NAME VALUE` as far as they are wanted, and the body
pub record SpellsSend (line address : List ℕ) (tx id : Option (List ℕ)) (properties : List Property) (body : List ℕ)
    : Type 0 where
  pub id_part : List ℕ
  pub is_id : SpellsId id_part id
  pub body_part : List ℕ
  pub is_body : SpellsBody body_part body
  pub bytes : line ≡ codes "send " ++ (address ++ (tx_text tx ++ (id_part ++ (properties_text properties ++ body_part))))

-- `large NAME NAME`, and then ` id DIGITS` and ` prop NAME VALUE` as far as they are wanted
pub record SpellsLarge (line address name : List ℕ) (id : Option (List ℕ)) (properties : List Property) : Type 0 where
  pub id_part : List ℕ
  pub is_id : SpellsId id_part id
  pub bytes : line ≡ codes "large " ++ (address ++ (32 ∷ (name ++ (id_part ++ properties_text properties))))

-- `part NAME DIGITS`
pub record SpellsPart (line name bytes : List ℕ) : Type 0 where
  pub digits : List ℕ
  pub spelled : SpellsHex digits bytes
  pub whole : line ≡ codes "part " ++ (name ++ (32 ∷ digits))

-- the line has the words of the command, with one space between each two
abbrev pub HasWords : List ℕ → Command → Type 0
HasWords line (Address name max page ahead dup) = line ≡ address_line name max page ahead dup
HasWords line (Queue name address filter) =
    line ≡ codes "queue " ++ (name ++ (codes " on " ++ (address ++ filter_text filter)))
HasWords line (DropQueue name) = line ≡ codes "drop " ++ name
HasWords line (Send address tx id properties body) = SpellsSend line address tx id properties body
HasWords line (Begin tx) = line ≡ codes "begin " ++ tx
HasWords line (Commit tx) = line ≡ codes "commit " ++ tx
HasWords line (Rollback tx) = line ≡ codes "rollback " ++ tx
HasWords line (Consumer name queue) = line ≡ codes "consumer " ++ (name ++ (codes " on " ++ queue))
HasWords line (Receive consumer) = line ≡ codes "receive " ++ consumer
HasWords line (Ack consumer message tx) =
    line ≡ codes "ack " ++ (consumer ++ (32 ∷ (id_text message ++ tx_text tx)))
HasWords line (Cancel consumer message) = line ≡ codes "cancel " ++ (consumer ++ (32 ∷ id_text message))
HasWords line (Close consumer) = line ≡ codes "close " ++ consumer
HasWords line (Large address name id properties) = SpellsLarge line address name id properties
HasWords line (Part name bytes) = SpellsPart line name bytes
HasWords line (End name) = line ≡ codes "end " ++ name
HasWords line (PartOf consumer message start size) =
    line ≡ codes "part-of " ++ (consumer ++ (32 ∷ (id_text message ++ (32 ∷ (decimal start ++ (32 ∷ decimal size))))))
HasWords line (Cleanup address) = line ≡ codes "cleanup " ++ address
HasWords line (Ahead queue) = line ≡ codes "ahead " ++ queue
HasWords line Checkpoint = line ≡ codes "checkpoint"
HasWords line (Stat address) = line ≡ codes "stat " ++ address
HasWords line (Count queue) = line ≡ codes "count " ++ queue

-- the line spells the command, and what the command holds is in its range
pub record Spells (line : List ℕ) (command : Command) : Type 0 where
  pub words : HasWords line command
  pub in_range : IsInRange command

-- A line is read as the command that it spells. A line that spells none, and one that is too long, is unreadable.
abbrev pub ReadsAs : List ℕ → Option Command → Type 0
ReadsAs line (Some command) = (length line ≤ longest_line) × Spells line command
ReadsAs line None = (command : Command) → length line ≤ longest_line → Spells line command → ⊥

-- the items are what the first lines are read as, one each
abbrev pub ReadAs : List (List ℕ) → List (Option Command) → Type 0
ReadAs lines [] = Unit {0}
ReadAs [] (item ∷ items) = ⊥
ReadAs (line ∷ lines) (item ∷ items) = ReadsAs line item × ReadAs lines items
