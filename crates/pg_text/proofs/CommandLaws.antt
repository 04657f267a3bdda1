-- Each command is read from the line that spells it, and a line that is read spells what is read.
use Rattle.std.proofs.Common.{◌≡◌, ℕ, ◌<◌, ◌≤◌, List, [], ◌∷◌, ◌++◌, length, Option, Some, None, inl, inr, refl, ap, sym, subst, ◌∙◌, arith}
use Rattle.std.specs.Prelude.{codes, IfSome}
use Rattle.std.specs.Fmt.{decimal}
use Rattle.std.specs.Str.{bytes_eq}
use Rattle.std.proofs.lemmas.List.{append-nil}
use Rattle.std.proofs.lemmas.Slice.Eq.{bytes_eq-Decides}
use Rattle.pg_msg.specs.declared.command.Command.{Command}
use Rattle.pg_msg.specs.declared.command.Command.TheVariants as command
use Rattle.pg_msg.specs.declared.limits.TheConstants.{GREATEST_MAX, GREATEST_PAGE, GREATEST_AHEAD, GREATEST_DUP, LONGEST_PIECE, FILE_LIMIT}
use Rattle.pg_msg.specs.declared.message.MessageId.{MessageId}
use Rattle.pg_msg.specs.declared.properties.Property.{Property}
use Rattle.pg_msg.specs.Commands.{AreSettings, IsFilterText}
use Rattle.pg_msg.specs.Messages.{AreProperties, IsDuplicateId, IsMessageId}
use Rattle.pg_msg.specs.Names.{IsName}
use Rattle.pg_msg.proofs.FieldLaws.{bind_some, some_is}
use Rattle.pg_msg.proofs.ValueLaws.{chosen}
use Rattle.pg_text.specs.declared.verbs.Verb.{Verb}
use Rattle.pg_text.specs.declared.verbs.Verb.TheVariants as verb
use Rattle.pg_text.specs.declared.verbs.Single.{Single}
use Rattle.pg_text.specs.declared.verbs.Single.TheVariants as single
use Rattle.pg_text.specs.Texts.{SpellsHex, filter_text, id_text, properties_text, tx_text}
use Rattle.pg_text.specs.Spelling.{address_line, ReadsAs, Spells, SpellsId, SpellsBody}
use Rattle.pg_lines.specs.Lines.{longest_line}
use Rattle.pg_text.specs.Reading.{before, onward, behind, last_of, name_behind, last_name_behind, number_behind, message_id_at, hex_of, tx_at, id_at, filter_at, body_at, properties_at}
use Rattle.pg_text.specs.Arguments.{single_of, one_of, verb_of, single_command, address_at, queue_at, send_at, large_at, consumer_at, ack_at, cancel_at, part_at, part_of_at, single_at, arguments_at, command_at}
use Rattle.pg_text.proofs.NumeralLemmas.{Lacks, EndsAt}
use Rattle.pg_text.proofs.PieceLaws.{cut_parts, before_again, onward_again, behind_again, behind_takes}
use Rattle.pg_text.proofs.WordLaws.{Lacks-test, name_behind_again, name_behind_takes, last_takes, last_name_again, last_name_takes, number_behind_again, number_behind_takes, id_again, id_takes, hex_again, hex_takes}
use Rattle.pg_text.proofs.PartLaws.{tx_again, tx_takes, dup_again, dup_takes, filter_again, filter_takes, body_again, body_takes, nothing_follows, body_follows, properties_no_id, properties_no_tx, id_no_tx, ends_id, ends_tx, ends_filter}
use Rattle.pg_text.proofs.ValueLaws.{ends_properties, properties_again, properties_takes}

-- ---- first words

abbrev pub word_of_single : Single → List ℕ
word_of_single single.Drop = codes "drop"
word_of_single single.Begin = codes "begin"
word_of_single single.Commit = codes "commit"
word_of_single single.Rollback = codes "rollback"
word_of_single single.Receive = codes "receive"
word_of_single single.Close = codes "close"
word_of_single single.End = codes "end"
word_of_single single.Cleanup = codes "cleanup"
word_of_single single.Ahead = codes "ahead"
word_of_single single.Stat = codes "stat"
word_of_single single.Count = codes "count"

abbrev pub word_of : Verb → List ℕ
word_of verb.Address = codes "address"
word_of verb.Queue = codes "queue"
word_of verb.Send = codes "send"
word_of verb.Consumer = codes "consumer"
word_of verb.Ack = codes "ack"
word_of verb.Cancel = codes "cancel"
word_of verb.Large = codes "large"
word_of verb.Part = codes "part"
word_of verb.PartOf = codes "part-of"
word_of verb.Checkpoint = codes "checkpoint"
word_of (verb.One what) = word_of_single what

single_word : (word : List ℕ) (what : Single) → single_of word ≡ Some what → word ≡ word_of_single what
single_word word what found = elim (chosen (bytes_eq word (codes "drop")) _ _ _ found) [
  | inl is ↦ (bytes_eq-Decides word (codes "drop")).0 is.0 ∙ ap word_of_single (some_is single.Drop what is.1)
  | inr other1 ↦ elim (chosen (bytes_eq word (codes "begin")) _ _ _ other1.1) [
    | inl is ↦ (bytes_eq-Decides word (codes "begin")).0 is.0 ∙ ap word_of_single (some_is single.Begin what is.1)
    | inr other2 ↦ elim (chosen (bytes_eq word (codes "commit")) _ _ _ other2.1) [
      | inl is ↦ (bytes_eq-Decides word (codes "commit")).0 is.0 ∙ ap word_of_single (some_is single.Commit what is.1)
      | inr other3 ↦ elim (chosen (bytes_eq word (codes "rollback")) _ _ _ other3.1) [
        | inl is ↦ (bytes_eq-Decides word (codes "rollback")).0 is.0 ∙ ap word_of_single (some_is single.Rollback what is.1)
        | inr other4 ↦ elim (chosen (bytes_eq word (codes "receive")) _ _ _ other4.1) [
          | inl is ↦ (bytes_eq-Decides word (codes "receive")).0 is.0 ∙ ap word_of_single (some_is single.Receive what is.1)
          | inr other5 ↦ elim (chosen (bytes_eq word (codes "close")) _ _ _ other5.1) [
            | inl is ↦ (bytes_eq-Decides word (codes "close")).0 is.0 ∙ ap word_of_single (some_is single.Close what is.1)
            | inr other6 ↦ elim (chosen (bytes_eq word (codes "end")) _ _ _ other6.1) [
              | inl is ↦ (bytes_eq-Decides word (codes "end")).0 is.0 ∙ ap word_of_single (some_is single.End what is.1)
              | inr other7 ↦ elim (chosen (bytes_eq word (codes "cleanup")) _ _ _ other7.1) [
                | inl is ↦ (bytes_eq-Decides word (codes "cleanup")).0 is.0 ∙ ap word_of_single (some_is single.Cleanup what is.1)
                | inr other8 ↦ elim (chosen (bytes_eq word (codes "ahead")) _ _ _ other8.1) [
                  | inl is ↦ (bytes_eq-Decides word (codes "ahead")).0 is.0 ∙ ap word_of_single (some_is single.Ahead what is.1)
                  | inr other9 ↦ elim (chosen (bytes_eq word (codes "stat")) _ _ _ other9.1) [
                    | inl is ↦ (bytes_eq-Decides word (codes "stat")).0 is.0 ∙ ap word_of_single (some_is single.Stat what is.1)
                    | inr other10 ↦ elim (chosen (bytes_eq word (codes "count")) _ _ _ other10.1) [
                      | inl is ↦ (bytes_eq-Decides word (codes "count")).0 is.0 ∙ ap word_of_single (some_is single.Count what is.1)
                      | inr other11 ↦ absurd (let never = other11.1 in cc)
                    ]
                  ]
                ]
              ]
            ]
          ]
        ]
      ]
    ]
  ]
]

one_found : (word : List ℕ) (what : Verb) (read : Option Single) → single_of word ≡ read → one_of read ≡ Some what → word ≡ word_of what
one_found word what None none found = absurd (let never = found in cc)
one_found word what (Some single) is found = single_word word single is ∙ ap word_of (some_is (verb.One single) what found)

verb_word : (word : List ℕ) (what : Verb) → verb_of word ≡ Some what → word ≡ word_of what
verb_word word what found = elim (chosen (bytes_eq word (codes "address")) _ _ _ found) [
  | inl is ↦ (bytes_eq-Decides word (codes "address")).0 is.0 ∙ ap word_of (some_is verb.Address what is.1)
  | inr other1 ↦ elim (chosen (bytes_eq word (codes "queue")) _ _ _ other1.1) [
    | inl is ↦ (bytes_eq-Decides word (codes "queue")).0 is.0 ∙ ap word_of (some_is verb.Queue what is.1)
    | inr other2 ↦ elim (chosen (bytes_eq word (codes "send")) _ _ _ other2.1) [
      | inl is ↦ (bytes_eq-Decides word (codes "send")).0 is.0 ∙ ap word_of (some_is verb.Send what is.1)
      | inr other3 ↦ elim (chosen (bytes_eq word (codes "consumer")) _ _ _ other3.1) [
        | inl is ↦ (bytes_eq-Decides word (codes "consumer")).0 is.0 ∙ ap word_of (some_is verb.Consumer what is.1)
        | inr other4 ↦ elim (chosen (bytes_eq word (codes "ack")) _ _ _ other4.1) [
          | inl is ↦ (bytes_eq-Decides word (codes "ack")).0 is.0 ∙ ap word_of (some_is verb.Ack what is.1)
          | inr other5 ↦ elim (chosen (bytes_eq word (codes "cancel")) _ _ _ other5.1) [
            | inl is ↦ (bytes_eq-Decides word (codes "cancel")).0 is.0 ∙ ap word_of (some_is verb.Cancel what is.1)
            | inr other6 ↦ elim (chosen (bytes_eq word (codes "large")) _ _ _ other6.1) [
              | inl is ↦ (bytes_eq-Decides word (codes "large")).0 is.0 ∙ ap word_of (some_is verb.Large what is.1)
              | inr other7 ↦ elim (chosen (bytes_eq word (codes "part")) _ _ _ other7.1) [
                | inl is ↦ (bytes_eq-Decides word (codes "part")).0 is.0 ∙ ap word_of (some_is verb.Part what is.1)
                | inr other8 ↦ elim (chosen (bytes_eq word (codes "part-of")) _ _ _ other8.1) [
                  | inl is ↦ (bytes_eq-Decides word (codes "part-of")).0 is.0 ∙ ap word_of (some_is verb.PartOf what is.1)
                  | inr other9 ↦ elim (chosen (bytes_eq word (codes "checkpoint")) _ _ _ other9.1) [
                    | inl is ↦ (bytes_eq-Decides word (codes "checkpoint")).0 is.0 ∙ ap word_of (some_is verb.Checkpoint what is.1)
                    | inr other10 ↦ one_found word what (single_of word) refl other10.1
                  ]
                ]
              ]
            ]
          ]
        ]
      ]
    ]
  ]
]

-- a line with this first word is read as that command with the arguments
begins : (word arguments : List ℕ) (what : Verb) → Lacks 32 word → EndsAt 32 arguments → verb_of word ≡ Some what → command_at (word ++ arguments) ≡ arguments_at what arguments
unfolding command_at
begins word arguments what lacking ends is = rw (before_again 32 word arguments lacking ends, onward_again 32 word arguments lacking ends, is) refl

-- ---- each command is read as it was spelled

address_again : (name : List ℕ) (max page ahead dup : ℕ) → IsName name → AreSettings max page ahead dup → address_at (codes " " ++ (name ++ (codes " max " ++ (decimal max ++ (codes " page " ++ (decimal page ++ (codes " ahead " ++ (decimal ahead ++ (codes " dup " ++ decimal dup))))))))) ≡ Some (command.Address name max page ahead dup)
unfolding address_at
address_again name max page ahead dup is are =
    let last : decimal dup ≡ decimal dup ++ [] = sym (append-nil (decimal dup)) in
    let read = number_behind_again (codes " dup ") 0 GREATEST_DUP dup [] (omega arith, are.dup_fits) (omega arith) tt in
    rw (
      name_behind_again (codes " ") name (codes " max " ++ (decimal max ++ (codes " page " ++ (decimal page ++ (codes " ahead " ++ (decimal ahead ++ (codes " dup " ++ decimal dup))))))) is refl,
      number_behind_again (codes " max ") 0 GREATEST_MAX max (codes " page " ++ (decimal page ++ (codes " ahead " ++ (decimal ahead ++ (codes " dup " ++ decimal dup))))) (omega arith, are.max_fits) (omega arith) refl,
      number_behind_again (codes " page ") 1 GREATEST_PAGE page (codes " ahead " ++ (decimal ahead ++ (codes " dup " ++ decimal dup))) are.page_fits (omega arith) refl,
      number_behind_again (codes " ahead ") 0 GREATEST_AHEAD ahead (codes " dup " ++ decimal dup) (omega arith, are.ahead_fits) (omega arith) refl,
      last,
      read,
    ) refl

queue_again : (name address : List ℕ) (filter : Option (List ℕ)) → IsName name → IsName address → IfSome filter IsFilterText → queue_at (codes " " ++ (name ++ (codes " on " ++ (address ++ filter_text filter)))) ≡ Some (command.Queue name address filter)
unfolding queue_at
queue_again name address filter is_name is_address is_filter =
    rw (
      name_behind_again (codes " ") name (codes " on " ++ (address ++ filter_text filter)) is_name refl,
      name_behind_again (codes " on ") address (filter_text filter) is_address (ends_filter filter),
      filter_again filter is_filter,
    ) refl

send_again : (address : List ℕ) (tx id : Option (List ℕ)) (properties : List Property) (body id_part body_part : List ℕ) → IsName address → IfSome tx IsName → IfSome id IsDuplicateId → AreProperties properties → SpellsId id_part id → SpellsBody body_part body
    → send_at (codes " " ++ (address ++ (tx_text tx ++ (id_part ++ (properties_text properties ++ body_part))))) ≡ Some (command.Send address tx id properties body)
unfolding send_at
send_again address tx id properties body id_part body_part is_address is_tx in_range are is_id is_body =
    let follows = body_follows body_part body is_body in
    let behind_id = properties_text properties ++ body_part in
    let ends_behind_id = ends_properties properties body_part follows.ends in
    let ends_behind_tx = ends_id id_part id behind_id is_id ends_behind_id in
    rw (
      name_behind_again (codes " ") address (tx_text tx ++ (id_part ++ behind_id)) is_address (ends_tx tx (id_part ++ behind_id) ends_behind_tx),
      tx_again tx (id_part ++ behind_id) is_tx ends_behind_tx (id_no_tx id_part id behind_id is_id (properties_no_tx properties body_part follows.no_tx)),
      dup_again id_part id behind_id is_id in_range ends_behind_id (properties_no_id properties body_part follows.no_id),
      properties_again properties body_part are follows.ends follows.no_property,
      body_again body_part body is_body,
    ) refl

large_again : (address name : List ℕ) (id : Option (List ℕ)) (properties : List Property) (id_part : List ℕ) → IsName address → IsName name → IfSome id IsDuplicateId → AreProperties properties → SpellsId id_part id
    → large_at (codes " " ++ (address ++ (32 ∷ (name ++ (id_part ++ properties_text properties))))) ≡ Some (command.Large address name id properties)
unfolding large_at
large_again address name id properties id_part is_address is_name in_range are is_id =
    let last : properties_text properties ≡ properties_text properties ++ [] = sym (append-nil (properties_text properties)) in
    let behind_id = properties_text properties ++ [] in
    let ends_behind_id = ends_properties properties [] tt in
    rw (
      last,
      name_behind_again (codes " ") address (32 ∷ (name ++ (id_part ++ behind_id))) is_address refl,
      name_behind_again (32 ∷ []) name (id_part ++ behind_id) is_name (ends_id id_part id behind_id is_id ends_behind_id),
      dup_again id_part id behind_id is_id in_range ends_behind_id (properties_no_id properties [] nothing_follows.no_id),
      properties_again properties [] are tt nothing_follows.no_property,
    ) refl

consumer_again : (name queue : List ℕ) → IsName name → IsName queue → consumer_at (codes " " ++ (name ++ (codes " on " ++ queue))) ≡ Some (command.Consumer name queue)
unfolding consumer_at
consumer_again name queue is_name is_queue = rw (name_behind_again (codes " ") name (codes " on " ++ queue) is_name refl, last_name_again (codes " on ") queue is_queue) refl

ack_again : (consumer : List ℕ) (message : MessageId) (tx : Option (List ℕ)) → IsName consumer → IsMessageId message → IfSome tx IsName → ack_at (codes " " ++ (consumer ++ (32 ∷ (id_text message ++ tx_text tx)))) ≡ Some (command.Ack consumer message tx)
unfolding ack_at
ack_again consumer message tx is_consumer is_message is_tx =
    let last : tx_text tx ≡ tx_text tx ++ [] = sym (append-nil (tx_text tx)) in
    rw (
      last,
      name_behind_again (codes " ") consumer (32 ∷ (id_text message ++ (tx_text tx ++ []))) is_consumer refl,
      id_again message (tx_text tx ++ []) is_message (ends_tx tx [] tt),
      tx_again tx [] is_tx tt nothing_follows.no_tx,
    ) refl

cancel_again : (consumer : List ℕ) (message : MessageId) → IsName consumer → IsMessageId message → cancel_at (codes " " ++ (consumer ++ (32 ∷ id_text message))) ≡ Some (command.Cancel consumer message)
unfolding cancel_at
cancel_again consumer message is_consumer is_message =
    let last : id_text message ≡ id_text message ++ [] = sym (append-nil (id_text message)) in
    ap (λ (xs : List ℕ). cancel_at (codes " " ++ (consumer ++ (32 ∷ xs)))) last
    ∙ rw (name_behind_again (codes " ") consumer (32 ∷ (id_text message ++ [])) is_consumer refl, id_again message [] is_message tt) refl

part_again : (name digits bytes : List ℕ) → IsName name → SpellsHex digits bytes → part_at (codes " " ++ (name ++ (32 ∷ digits))) ≡ Some (command.Part name bytes)
unfolding part_at
part_again name digits bytes is spelled = rw (name_behind_again (codes " ") name (32 ∷ digits) is refl, behind_again (32 ∷ []) digits, hex_again digits bytes spelled) refl

part_of_again : (consumer : List ℕ) (message : MessageId) (start size : ℕ) → IsName consumer → IsMessageId message → start ≤ FILE_LIMIT → size ≤ LONGEST_PIECE
    → part_of_at (codes " " ++ (consumer ++ (32 ∷ (id_text message ++ (32 ∷ (decimal start ++ (32 ∷ decimal size))))))) ≡ Some (command.PartOf consumer message start size)
unfolding part_of_at
part_of_again consumer message start size is_consumer is_message starts sized =
    let last : decimal size ≡ decimal size ++ [] = sym (append-nil (decimal size)) in
    ap (λ (xs : List ℕ). part_of_at (codes " " ++ (consumer ++ (32 ∷ (id_text message ++ (32 ∷ (decimal start ++ (32 ∷ xs)))))))) last
    ∙ rw (
      name_behind_again (codes " ") consumer (32 ∷ (id_text message ++ (32 ∷ (decimal start ++ (32 ∷ (decimal size ++ [])))))) is_consumer refl,
      id_again message (32 ∷ (decimal start ++ (32 ∷ (decimal size ++ [])))) is_message refl,
      number_behind_again (32 ∷ []) 0 FILE_LIMIT start (32 ∷ (decimal size ++ [])) (omega arith, starts) (omega arith) refl,
      number_behind_again (32 ∷ []) 0 LONGEST_PIECE size [] (omega arith, sized) (omega arith) tt,
    ) refl

single_again : (what : Single) (name : List ℕ) → IsName name → single_at what (codes " " ++ name) ≡ Some (single_command what name)
unfolding single_at
single_again what name is = rw (last_name_again (codes " ") name is) refl

checkpoint_again : command_at (codes "checkpoint") ≡ Some command.Checkpoint
checkpoint_again = begins (codes "checkpoint") [] verb.Checkpoint (Lacks-test 32 (codes "checkpoint") refl) tt refl

-- the line of a command is read as that command
pub command_again : (line : List ℕ) (what : Command) → Spells line what → command_at line ≡ Some what
command_again line (command.Address name max page ahead dup) is = ap command_at is.words ∙ begins (codes "address") (codes " " ++ (name ++ (codes " max " ++ (decimal max ++ (codes " page " ++ (decimal page ++ (codes " ahead " ++ (decimal ahead ++ (codes " dup " ++ decimal dup))))))))) (verb.Address) (Lacks-test 32 (codes "address") refl) refl refl ∙ address_again name max page ahead dup is.in_range.0 is.in_range.1
command_again line (command.Queue name address filter) is = ap command_at is.words ∙ begins (codes "queue") (codes " " ++ (name ++ (codes " on " ++ (address ++ filter_text filter)))) (verb.Queue) (Lacks-test 32 (codes "queue") refl) refl refl ∙ queue_again name address filter is.in_range.0 is.in_range.1 is.in_range.2
command_again line (command.Send address tx id properties body) is = ap command_at is.words.bytes ∙ begins (codes "send") (codes " " ++ (address ++ (tx_text tx ++ (is.words.id_part ++ (properties_text properties ++ is.words.body_part))))) (verb.Send) (Lacks-test 32 (codes "send") refl) refl refl ∙ send_again address tx id properties body is.words.id_part is.words.body_part is.in_range.0 is.in_range.1 is.in_range.2 is.in_range.3 is.words.is_id is.words.is_body
command_again line (command.Consumer name queue) is = ap command_at is.words ∙ begins (codes "consumer") (codes " " ++ (name ++ (codes " on " ++ queue))) (verb.Consumer) (Lacks-test 32 (codes "consumer") refl) refl refl ∙ consumer_again name queue is.in_range.0 is.in_range.1
command_again line (command.Ack consumer message tx) is = ap command_at is.words ∙ begins (codes "ack") (codes " " ++ (consumer ++ (32 ∷ (id_text message ++ tx_text tx)))) (verb.Ack) (Lacks-test 32 (codes "ack") refl) refl refl ∙ ack_again consumer message tx is.in_range.0 is.in_range.1 is.in_range.2
command_again line (command.Cancel consumer message) is = ap command_at is.words ∙ begins (codes "cancel") (codes " " ++ (consumer ++ (32 ∷ id_text message))) (verb.Cancel) (Lacks-test 32 (codes "cancel") refl) refl refl ∙ cancel_again consumer message is.in_range.0 is.in_range.1
command_again line (command.Large address name id properties) is = ap command_at is.words.bytes ∙ begins (codes "large") (codes " " ++ (address ++ (32 ∷ (name ++ (is.words.id_part ++ properties_text properties))))) (verb.Large) (Lacks-test 32 (codes "large") refl) refl refl ∙ large_again address name id properties is.words.id_part is.in_range.0 is.in_range.1 is.in_range.2 is.in_range.3 is.words.is_id
command_again line (command.Part name bytes) is = ap command_at is.words.whole ∙ begins (codes "part") (codes " " ++ (name ++ (32 ∷ is.words.digits))) (verb.Part) (Lacks-test 32 (codes "part") refl) refl refl ∙ part_again name is.words.digits bytes is.in_range is.words.spelled
command_again line (command.PartOf consumer message start size) is = ap command_at is.words ∙ begins (codes "part-of") (codes " " ++ (consumer ++ (32 ∷ (id_text message ++ (32 ∷ (decimal start ++ (32 ∷ decimal size))))))) (verb.PartOf) (Lacks-test 32 (codes "part-of") refl) refl refl ∙ part_of_again consumer message start size is.in_range.0 is.in_range.1 is.in_range.2 is.in_range.3
command_again line (command.DropQueue name) is = ap command_at is.words ∙ begins (codes "drop") (codes " " ++ name) (verb.One single.Drop) (Lacks-test 32 (codes "drop") refl) refl refl ∙ single_again single.Drop name is.in_range
command_again line (command.Begin name) is = ap command_at is.words ∙ begins (codes "begin") (codes " " ++ name) (verb.One single.Begin) (Lacks-test 32 (codes "begin") refl) refl refl ∙ single_again single.Begin name is.in_range
command_again line (command.Commit name) is = ap command_at is.words ∙ begins (codes "commit") (codes " " ++ name) (verb.One single.Commit) (Lacks-test 32 (codes "commit") refl) refl refl ∙ single_again single.Commit name is.in_range
command_again line (command.Rollback name) is = ap command_at is.words ∙ begins (codes "rollback") (codes " " ++ name) (verb.One single.Rollback) (Lacks-test 32 (codes "rollback") refl) refl refl ∙ single_again single.Rollback name is.in_range
command_again line (command.Receive name) is = ap command_at is.words ∙ begins (codes "receive") (codes " " ++ name) (verb.One single.Receive) (Lacks-test 32 (codes "receive") refl) refl refl ∙ single_again single.Receive name is.in_range
command_again line (command.Close name) is = ap command_at is.words ∙ begins (codes "close") (codes " " ++ name) (verb.One single.Close) (Lacks-test 32 (codes "close") refl) refl refl ∙ single_again single.Close name is.in_range
command_again line (command.End name) is = ap command_at is.words ∙ begins (codes "end") (codes " " ++ name) (verb.One single.End) (Lacks-test 32 (codes "end") refl) refl refl ∙ single_again single.End name is.in_range
command_again line (command.Cleanup name) is = ap command_at is.words ∙ begins (codes "cleanup") (codes " " ++ name) (verb.One single.Cleanup) (Lacks-test 32 (codes "cleanup") refl) refl refl ∙ single_again single.Cleanup name is.in_range
command_again line (command.Ahead name) is = ap command_at is.words ∙ begins (codes "ahead") (codes " " ++ name) (verb.One single.Ahead) (Lacks-test 32 (codes "ahead") refl) refl refl ∙ single_again single.Ahead name is.in_range
command_again line (command.Stat name) is = ap command_at is.words ∙ begins (codes "stat") (codes " " ++ name) (verb.One single.Stat) (Lacks-test 32 (codes "stat") refl) refl refl ∙ single_again single.Stat name is.in_range
command_again line (command.Count name) is = ap command_at is.words ∙ begins (codes "count") (codes " " ++ name) (verb.One single.Count) (Lacks-test 32 (codes "count") refl) refl refl ∙ single_again single.Count name is.in_range
command_again line command.Checkpoint is = ap command_at is.words ∙ checkpoint_again

-- ---- what is read of each command was spelled

address_takes : (arguments : List ℕ) (what : Command) → address_at arguments ≡ Some what → Spells (codes "address" ++ arguments) what
unfolding address_at
address_takes arguments what found =
    let a = bind_some (name_behind (codes " ") arguments) _ what found in
    let max = bind_some (number_behind (codes " max ") 0 GREATEST_MAX a.0.1) _ what a.2 in
    let page = bind_some (number_behind (codes " page ") 1 GREATEST_PAGE max.0.1) _ what max.2 in
    let ahead = bind_some (number_behind (codes " ahead ") 0 GREATEST_AHEAD page.0.1) _ what page.2 in
    let dup = bind_some (number_behind (codes " dup ") 0 GREATEST_DUP ahead.0.1) _ what ahead.2 in
    let end = last_takes (command.Address a.0.0 max.0.0 page.0.0 ahead.0.0 dup.0.0) dup.0.1 what dup.2 in
    let name_is = name_behind_takes (codes " ") arguments a.0.0 a.0.1 a.1 in
    let max_is = number_behind_takes (codes " max ") 0 GREATEST_MAX a.0.1 max.0.0 max.0.1 max.1 in
    let page_is = number_behind_takes (codes " page ") 1 GREATEST_PAGE max.0.1 page.0.0 page.0.1 page.1 in
    let ahead_is = number_behind_takes (codes " ahead ") 0 GREATEST_AHEAD page.0.1 ahead.0.0 ahead.0.1 ahead.1 in
    let dup_is = number_behind_takes (codes " dup ") 0 GREATEST_DUP ahead.0.1 dup.0.0 dup.0.1 dup.1 in
    let dup_text : ahead.0.1 ≡ codes " dup " ++ decimal dup.0.0 = dup_is.0 ∙ ap (λ (xs : List ℕ). codes " dup " ++ (decimal dup.0.0 ++ xs)) end.1 ∙ ap (λ (xs : List ℕ). codes " dup " ++ xs) (append-nil (decimal dup.0.0)) in
    let whole : codes "address" ++ arguments ≡ address_line a.0.0 max.0.0 page.0.0 ahead.0.0 dup.0.0 =
    ap (λ (xs : List ℕ). codes "address" ++ xs) (name_is.0
    ∙ ap (λ (xs : List ℕ). codes " " ++ (a.0.0 ++ xs)) (max_is.0
    ∙ ap (λ (xs : List ℕ). codes " max " ++ (decimal max.0.0 ++ xs)) (page_is.0
    ∙ ap (λ (xs : List ℕ). codes " page " ++ (decimal page.0.0 ++ xs)) (ahead_is.0
    ∙ ap (λ (xs : List ℕ). codes " ahead " ++ (decimal ahead.0.0 ++ xs)) dup_text)))) in
    subst (Spells (codes "address" ++ arguments)) end.0 (record {
      words = whole;
      in_range = (name_is.1, record { max_fits = max_is.1.1; page_fits = page_is.1; ahead_fits = ahead_is.1.1; dup_fits = dup_is.1.1 });
    })

queue_takes : (arguments : List ℕ) (what : Command) → queue_at arguments ≡ Some what → Spells (codes "queue" ++ arguments) what
unfolding queue_at
queue_takes arguments what found =
    let a = bind_some (name_behind (codes " ") arguments) _ what found in
    let b = bind_some (name_behind (codes " on ") a.0.1) _ what a.2 in
    let f = bind_some (filter_at b.0.1) _ what b.2 in
    let name_is = name_behind_takes (codes " ") arguments a.0.0 a.0.1 a.1 in
    let address_is = name_behind_takes (codes " on ") a.0.1 b.0.0 b.0.1 b.1 in
    let filter_is = filter_takes b.0.1 f.0 f.1 in
    let whole : codes "queue" ++ arguments ≡ codes "queue " ++ (a.0.0 ++ (codes " on " ++ (b.0.0 ++ filter_text f.0))) =
    ap (λ (xs : List ℕ). codes "queue" ++ xs) (name_is.0 ∙ ap (λ (xs : List ℕ). codes " " ++ (a.0.0 ++ xs)) (address_is.0 ∙ ap (λ (xs : List ℕ). codes " on " ++ (b.0.0 ++ xs)) filter_is.0)) in
    subst (Spells (codes "queue" ++ arguments)) (some_is (command.Queue a.0.0 b.0.0 f.0) what f.2) (record { words = whole; in_range = (name_is.1, address_is.1, filter_is.1) })

send_takes : (arguments : List ℕ) (what : Command) → send_at arguments ≡ Some what → Spells (codes "send" ++ arguments) what
unfolding send_at
send_takes arguments what found =
    let a = bind_some (name_behind (codes " ") arguments) _ what found in
    let t = bind_some (tx_at a.0.1) _ what a.2 in
    let i = bind_some (id_at t.0.1) _ what t.2 in
    let p = bind_some (properties_at i.0.1) _ what i.2 in
    let b = bind_some (body_at p.0.1) _ what p.2 in
    let address_is = name_behind_takes (codes " ") arguments a.0.0 a.0.1 a.1 in
    let tx_is = tx_takes a.0.1 t.0.0 t.0.1 t.1 in
    let id_is = dup_takes t.0.1 i.0.0 i.0.1 i.1 in
    let properties_are = properties_takes i.0.1 p.0.0 p.0.1 p.1 in
    let body_is = body_takes p.0.1 b.0 b.1 in
    let whole : codes "send" ++ arguments ≡ codes "send " ++ (a.0.0 ++ (tx_text t.0.0 ++ (id_is.part ++ (properties_text p.0.0 ++ p.0.1)))) =
    ap (λ (xs : List ℕ). codes "send" ++ xs) (address_is.0
    ∙ ap (λ (xs : List ℕ). codes " " ++ (a.0.0 ++ xs)) (tx_is.0
    ∙ ap (λ (xs : List ℕ). tx_text t.0.0 ++ xs) (id_is.parts
    ∙ ap (λ (xs : List ℕ). id_is.part ++ xs) properties_are.0))) in
    subst (Spells (codes "send" ++ arguments)) (some_is (command.Send a.0.0 t.0.0 i.0.0 p.0.0 b.0) what b.2) (record {
      words = record { id_part = id_is.part; is_id = id_is.spelled; body_part = p.0.1; is_body = body_is; bytes = whole };
      in_range = (address_is.1, tx_is.1, id_is.in_range, properties_are.1);
    })

large_takes : (arguments : List ℕ) (what : Command) → large_at arguments ≡ Some what → Spells (codes "large" ++ arguments) what
unfolding large_at
large_takes arguments what found =
    let a = bind_some (name_behind (codes " ") arguments) _ what found in
    let n = bind_some (name_behind (32 ∷ []) a.0.1) _ what a.2 in
    let i = bind_some (id_at n.0.1) _ what n.2 in
    let p = bind_some (properties_at i.0.1) _ what i.2 in
    let end = last_takes (command.Large a.0.0 n.0.0 i.0.0 p.0.0) p.0.1 what p.2 in
    let address_is = name_behind_takes (codes " ") arguments a.0.0 a.0.1 a.1 in
    let name_is = name_behind_takes (32 ∷ []) a.0.1 n.0.0 n.0.1 n.1 in
    let id_is = dup_takes n.0.1 i.0.0 i.0.1 i.1 in
    let properties_are = properties_takes i.0.1 p.0.0 p.0.1 p.1 in
    let whole : codes "large" ++ arguments ≡ codes "large " ++ (a.0.0 ++ (32 ∷ (n.0.0 ++ (id_is.part ++ properties_text p.0.0)))) =
    ap (λ (xs : List ℕ). codes "large" ++ xs) (address_is.0
    ∙ ap (λ (xs : List ℕ). codes " " ++ (a.0.0 ++ xs)) (name_is.0
    ∙ ap (λ (xs : List ℕ). 32 ∷ (n.0.0 ++ xs)) (id_is.parts
    ∙ ap (λ (xs : List ℕ). id_is.part ++ xs) (properties_are.0 ∙ ap (λ (xs : List ℕ). properties_text p.0.0 ++ xs) end.1 ∙ append-nil (properties_text p.0.0))))) in
    subst (Spells (codes "large" ++ arguments)) end.0 (record {
      words = record { id_part = id_is.part; is_id = id_is.spelled; bytes = whole };
      in_range = (address_is.1, name_is.1, id_is.in_range, properties_are.1);
    })

consumer_takes : (arguments : List ℕ) (what : Command) → consumer_at arguments ≡ Some what → Spells (codes "consumer" ++ arguments) what
unfolding consumer_at
consumer_takes arguments what found =
    let a = bind_some (name_behind (codes " ") arguments) _ what found in
    let q = bind_some (last_name_behind (codes " on ") a.0.1) _ what a.2 in
    let name_is = name_behind_takes (codes " ") arguments a.0.0 a.0.1 a.1 in
    let queue_is = last_name_takes (codes " on ") a.0.1 q.0 q.1 in
    let whole : codes "consumer" ++ arguments ≡ codes "consumer " ++ (a.0.0 ++ (codes " on " ++ q.0)) =
    ap (λ (xs : List ℕ). codes "consumer" ++ xs) (name_is.0 ∙ ap (λ (xs : List ℕ). codes " " ++ (a.0.0 ++ xs)) queue_is.0) in
    subst (Spells (codes "consumer" ++ arguments)) (some_is (command.Consumer a.0.0 q.0) what q.2) (record { words = whole; in_range = (name_is.1, queue_is.1) })

ack_takes : (arguments : List ℕ) (what : Command) → ack_at arguments ≡ Some what → Spells (codes "ack" ++ arguments) what
unfolding ack_at
ack_takes arguments what found =
    let a = bind_some (name_behind (codes " ") arguments) _ what found in
    let m = bind_some (message_id_at a.0.1) _ what a.2 in
    let t = bind_some (tx_at m.0.1) _ what m.2 in
    let end = last_takes (command.Ack a.0.0 m.0.0 t.0.0) t.0.1 what t.2 in
    let consumer_is = name_behind_takes (codes " ") arguments a.0.0 a.0.1 a.1 in
    let message_is = id_takes a.0.1 m.0.0 m.0.1 m.1 in
    let tx_is = tx_takes m.0.1 t.0.0 t.0.1 t.1 in
    let whole : codes "ack" ++ arguments ≡ codes "ack " ++ (a.0.0 ++ (32 ∷ (id_text m.0.0 ++ tx_text t.0.0))) =
    ap (λ (xs : List ℕ). codes "ack" ++ xs) (consumer_is.0
    ∙ ap (λ (xs : List ℕ). codes " " ++ (a.0.0 ++ xs)) (message_is.0
    ∙ ap (λ (xs : List ℕ). 32 ∷ (id_text m.0.0 ++ xs)) (tx_is.0 ∙ ap (λ (xs : List ℕ). tx_text t.0.0 ++ xs) end.1 ∙ append-nil (tx_text t.0.0)))) in
    subst (Spells (codes "ack" ++ arguments)) end.0 (record { words = whole; in_range = (consumer_is.1, message_is.1, tx_is.1) })

cancel_takes : (arguments : List ℕ) (what : Command) → cancel_at arguments ≡ Some what → Spells (codes "cancel" ++ arguments) what
unfolding cancel_at
cancel_takes arguments what found =
    let a = bind_some (name_behind (codes " ") arguments) _ what found in
    let m = bind_some (message_id_at a.0.1) _ what a.2 in
    let end = last_takes (command.Cancel a.0.0 m.0.0) m.0.1 what m.2 in
    let consumer_is = name_behind_takes (codes " ") arguments a.0.0 a.0.1 a.1 in
    let message_is = id_takes a.0.1 m.0.0 m.0.1 m.1 in
    let whole : codes "cancel" ++ arguments ≡ codes "cancel " ++ (a.0.0 ++ (32 ∷ id_text m.0.0)) =
    ap (λ (xs : List ℕ). codes "cancel" ++ xs) (consumer_is.0
    ∙ ap (λ (xs : List ℕ). codes " " ++ (a.0.0 ++ xs)) (message_is.0
    ∙ ap (λ (xs : List ℕ). 32 ∷ xs) (ap (λ (xs : List ℕ). id_text m.0.0 ++ xs) end.1 ∙ append-nil (id_text m.0.0)))) in
    subst (Spells (codes "cancel" ++ arguments)) end.0 (record { words = whole; in_range = (consumer_is.1, message_is.1) })

part_takes : (arguments : List ℕ) (what : Command) → part_at arguments ≡ Some what → Spells (codes "part" ++ arguments) what
unfolding part_at
part_takes arguments what found =
    let a = bind_some (name_behind (codes " ") arguments) _ what found in
    let d = bind_some (behind (32 ∷ []) a.0.1) _ what a.2 in
    let h = bind_some (hex_of d.0) _ what d.2 in
    let name_is = name_behind_takes (codes " ") arguments a.0.0 a.0.1 a.1 in
    let whole : codes "part" ++ arguments ≡ codes "part " ++ (a.0.0 ++ (32 ∷ d.0)) =
    ap (λ (xs : List ℕ). codes "part" ++ xs) (name_is.0 ∙ ap (λ (xs : List ℕ). codes " " ++ (a.0.0 ++ xs)) (behind_takes (32 ∷ []) a.0.1 d.0 d.1)) in
    subst (Spells (codes "part" ++ arguments)) (some_is (command.Part a.0.0 h.0) what h.2) (record { words = record { digits = d.0; spelled = hex_takes d.0 h.0 h.1; whole = whole }; in_range = name_is.1 })

part_of_takes : (arguments : List ℕ) (what : Command) → part_of_at arguments ≡ Some what → Spells (codes "part-of" ++ arguments) what
unfolding part_of_at
part_of_takes arguments what found =
    let a = bind_some (name_behind (codes " ") arguments) _ what found in
    let m = bind_some (message_id_at a.0.1) _ what a.2 in
    let f = bind_some (number_behind (32 ∷ []) 0 FILE_LIMIT m.0.1) _ what m.2 in
    let s = bind_some (number_behind (32 ∷ []) 0 LONGEST_PIECE f.0.1) _ what f.2 in
    let end = last_takes (command.PartOf a.0.0 m.0.0 f.0.0 s.0.0) s.0.1 what s.2 in
    let consumer_is = name_behind_takes (codes " ") arguments a.0.0 a.0.1 a.1 in
    let message_is = id_takes a.0.1 m.0.0 m.0.1 m.1 in
    let start_is = number_behind_takes (32 ∷ []) 0 FILE_LIMIT m.0.1 f.0.0 f.0.1 f.1 in
    let size_is = number_behind_takes (32 ∷ []) 0 LONGEST_PIECE f.0.1 s.0.0 s.0.1 s.1 in
    let whole : codes "part-of" ++ arguments ≡ codes "part-of " ++ (a.0.0 ++ (32 ∷ (id_text m.0.0 ++ (32 ∷ (decimal f.0.0 ++ (32 ∷ decimal s.0.0)))))) =
    ap (λ (xs : List ℕ). codes "part-of" ++ xs) (consumer_is.0
    ∙ ap (λ (xs : List ℕ). codes " " ++ (a.0.0 ++ xs)) (message_is.0
    ∙ ap (λ (xs : List ℕ). 32 ∷ (id_text m.0.0 ++ xs)) (start_is.0
    ∙ ap (λ (xs : List ℕ). 32 ∷ (decimal f.0.0 ++ xs)) (size_is.0
    ∙ ap (λ (xs : List ℕ). 32 ∷ xs) (ap (λ (xs : List ℕ). decimal s.0.0 ++ xs) end.1 ∙ append-nil (decimal s.0.0)))))) in
    subst (Spells (codes "part-of" ++ arguments)) end.0 (record { words = whole; in_range = (consumer_is.1, message_is.1, start_is.1.1, size_is.1.1) })

spells_single : (what : Single) (arguments name : List ℕ) → arguments ≡ codes " " ++ name → IsName name → Spells (word_of_single what ++ arguments) (single_command what name)
spells_single single.Drop arguments name parts is = record { words = ap (λ (xs : List ℕ). codes "drop" ++ xs) parts; in_range = is }
spells_single single.Begin arguments name parts is = record { words = ap (λ (xs : List ℕ). codes "begin" ++ xs) parts; in_range = is }
spells_single single.Commit arguments name parts is = record { words = ap (λ (xs : List ℕ). codes "commit" ++ xs) parts; in_range = is }
spells_single single.Rollback arguments name parts is = record { words = ap (λ (xs : List ℕ). codes "rollback" ++ xs) parts; in_range = is }
spells_single single.Receive arguments name parts is = record { words = ap (λ (xs : List ℕ). codes "receive" ++ xs) parts; in_range = is }
spells_single single.Close arguments name parts is = record { words = ap (λ (xs : List ℕ). codes "close" ++ xs) parts; in_range = is }
spells_single single.End arguments name parts is = record { words = ap (λ (xs : List ℕ). codes "end" ++ xs) parts; in_range = is }
spells_single single.Cleanup arguments name parts is = record { words = ap (λ (xs : List ℕ). codes "cleanup" ++ xs) parts; in_range = is }
spells_single single.Ahead arguments name parts is = record { words = ap (λ (xs : List ℕ). codes "ahead" ++ xs) parts; in_range = is }
spells_single single.Stat arguments name parts is = record { words = ap (λ (xs : List ℕ). codes "stat" ++ xs) parts; in_range = is }
spells_single single.Count arguments name parts is = record { words = ap (λ (xs : List ℕ). codes "count" ++ xs) parts; in_range = is }

single_takes : (which : Single) (arguments : List ℕ) (what : Command) → single_at which arguments ≡ Some what → Spells (word_of_single which ++ arguments) what
unfolding single_at
single_takes which arguments what found =
    let a = bind_some (last_name_behind (codes " ") arguments) _ what found in
    let name_is = last_name_takes (codes " ") arguments a.0 a.1 in
    subst (Spells (word_of_single which ++ arguments)) (some_is (single_command which a.0) what a.2) (spells_single which arguments a.0 name_is.0 name_is.1)

checkpoint_takes : (arguments : List ℕ) (what : Command) → last_of (command.Checkpoint, arguments) ≡ Some what → Spells (codes "checkpoint" ++ arguments) what
checkpoint_takes arguments what found =
    let end = last_takes command.Checkpoint arguments what found in
    subst (Spells (codes "checkpoint" ++ arguments)) end.0 (record { words = ap (λ (xs : List ℕ). codes "checkpoint" ++ xs) end.1; in_range = tt })

arguments_take : (which : Verb) (arguments : List ℕ) (what : Command) → arguments_at which arguments ≡ Some what → Spells (word_of which ++ arguments) what
arguments_take verb.Address arguments what found = address_takes arguments what found
arguments_take verb.Queue arguments what found = queue_takes arguments what found
arguments_take verb.Send arguments what found = send_takes arguments what found
arguments_take verb.Consumer arguments what found = consumer_takes arguments what found
arguments_take verb.Ack arguments what found = ack_takes arguments what found
arguments_take verb.Cancel arguments what found = cancel_takes arguments what found
arguments_take verb.Large arguments what found = large_takes arguments what found
arguments_take verb.Part arguments what found = part_takes arguments what found
arguments_take verb.PartOf arguments what found = part_of_takes arguments what found
arguments_take verb.Checkpoint arguments what found = checkpoint_takes arguments what found
arguments_take (verb.One which) arguments what found = single_takes which arguments what found

-- what is read of a line, the line spells
pub command_takes : (line : List ℕ) (what : Command) → command_at line ≡ Some what → Spells line what
unfolding command_at
command_takes line what found =
    let a = bind_some (verb_of (before 32 line)) _ what found in
    let whole : line ≡ word_of a.0 ++ onward 32 line = cut_parts 32 line ∙ ap (λ (xs : List ℕ). xs ++ onward 32 line) (verb_word (before 32 line) a.0 a.1) in
    subst (λ (l : List ℕ). Spells l what) (sym whole) (arguments_take a.0 (onward 32 line) what a.2)

-- so a line spells one command at most
pub one_command : (line : List ℕ) (what other : Command) → Spells line what → Spells line other → what ≡ other
one_command line what other spells spells_too = some_is what other (sym (command_again line what spells) ∙ command_again line other spells_too)

-- ---- what a line is read as

pub reads_some : (line : List ℕ) (what : Command) → length line ≤ longest_line → command_at line ≡ Some what → ReadsAs line (Some what)
reads_some line what short found = (short, command_takes line what found)

pub reads_none : (line : List ℕ) → command_at line ≡ None → ReadsAs line None
reads_none line none what short spells = let found = command_again line what spells in cc

pub reads_no_long : (line : List ℕ) → longest_line < length line → ReadsAs line None
reads_no_long line long what short spells = omega arith
