-- A frame that is read is the one that was spelled, and what was spelled is read.
use Rattle.std.proofs.Common.{◌≡◌, ℕ, ◌*◌, ◌^◌, ◌<◌, ◌≤◌, Bool, true, false, ◌&&◌, ◌==◌, cond, List, [], ◌∷◌, ◌++◌, length, Option, Some, None, IfSome, refl, sym, ap, subst, ◌∙◌, append_assoc, length-append, arith}
use Rattle.std.specs.Prelude.{nat_le}
use Rattle.std.specs.Int.{w8, w16, w32, to_be_bytes}
use Rattle.std.proofs.lemmas.Bool.{eqb-true, leb-true, le-leb}
use Rattle.std.proofs.lemmas.List.{append-nil, nil_from_length}
use Rattle.std.proofs.lemmas.Option.{cond_some}
use Rattle.pg_msg.specs.declared.message.MessageId.{MessageId}
use Rattle.pg_msg.specs.Lists.{ids_bytes, queues_bytes}
use Rattle.pg_msg.specs.Messages.{IsMessageId, message_bytes}
use Rattle.pg_msg.specs.Reading.{guarded, number_at, queues_at, message_at}
use Rattle.pg_msg.proofs.FieldLaws.{IsBytes, Takes, Takes-then, bind_some, some_is, wide16, wide32, number_takes, number_again, byte_takes, byte_again, queues_takes, queues_again}
use Rattle.pg_msg.proofs.MessageLaws.{message_takes, message_again}
use Rattle.pg_page.specs.declared.frame.Frame.{Frame}
use Rattle.pg_page.specs.Frames.{IsFrame, SpellsFrame, SpellsNone, frame_bytes, tx_bytes}
use Rattle.pg_page.specs.Reading.{frame_at, tx_at, tx_of}

-- ---- the transaction

both_true : (a b : Bool) → a && b ≡ true → (a ≡ true) × (b ≡ true)
both_true true true e = (refl, refl)
both_true true false e = absurd cc
both_true false b e = absurd cc

both_hold : (a b : Bool) → a ≡ true → b ≡ true → a && b ≡ true
both_hold a b one two = rw (one, two) refl

-- the bytes of the two parts are those of the transaction
abbrev Parts : ℕ → ℕ → Option MessageId → Type 0
Parts epoch number tx = (to_be_bytes w32 epoch ++ to_be_bytes w32 number ≡ tx_bytes tx) × IfSome tx IsMessageId

tx_cases : (epoch number : ℕ) (zero some : Bool) (tx : Option MessageId) → epoch < 2 ^ 32 → number < 2 ^ 32 → (zero ≡ true → (epoch ≡ 0) × (number ≡ 0)) → (some ≡ true → (1 ≤ epoch) × (1 ≤ number))
    → cond zero (Some None) (cond some (Some (Some (record { epoch = epoch; number = number }))) None) ≡ Some tx → Parts epoch number tx
tx_cases epoch number true some tx small little zeros above e =
    let are = zeros refl in
    let none : Option MessageId = None in
    subst (Parts epoch number) {x = none} (some_is none tx e) (ap (λ (n : ℕ). to_be_bytes w32 n ++ to_be_bytes w32 number) are.0 ∙ ap (λ (n : ℕ). to_be_bytes w32 0 ++ to_be_bytes w32 n) are.1, tt)
tx_cases epoch number false some tx small little zeros above e =
    let id : MessageId = record { epoch = epoch; number = number } in
    let made : Option MessageId = Some id in
    let passed = cond_some some made tx e in
    let are = above passed.0 in
    subst (Parts epoch number) {x = made} passed.1 (refl, record { epoch = are.0; epoch_fits = small; number = are.1; number_fits = little })

tx_parts : (epoch number : ℕ) (tx : Option MessageId) → epoch < 2 ^ 32 → number < 2 ^ 32 → tx_of epoch number ≡ Some tx → Parts epoch number tx
tx_parts epoch number tx small little e =
    tx_cases epoch number ((epoch == 0) && (number == 0)) (nat_le 1 epoch && nat_le 1 number) tx small little
    (λ zero. let both = both_true (epoch == 0) (number == 0) zero in (eqb-true epoch 0 both.0, eqb-true number 0 both.1))
    (λ some. let both = both_true (nat_le 1 epoch) (nat_le 1 number) some in (leb-true 1 epoch both.0, leb-true 1 number both.1)) e

tx_takes : (bytes : List ℕ) (tx : Option MessageId) (rest : List ℕ) → IsBytes bytes → tx_at bytes ≡ Some (tx, rest) → Takes bytes (tx_bytes tx) rest × IfSome tx IsMessageId
unfolding tx_at
tx_takes bytes tx rest fits e =
    let a = bind_some (number_at w32 bytes) _ (tx, rest) e in
    let b = bind_some (number_at w32 a.0.1) _ (tx, rest) a.2 in
    let d = bind_some (tx_of a.0.0 b.0.0) _ (tx, rest) b.2 in
    let epoch = number_takes w32 (2 ^ 32) wide32 bytes a.0.0 a.0.1 fits a.1 in
    let number = number_takes w32 (2 ^ 32) wide32 a.0.1 b.0.0 b.0.1 epoch.0.rest_fits b.1 in
    let parts = tx_parts a.0.0 b.0.0 d.0 epoch.1 number.1 d.1 in
    let both = Takes-then bytes (to_be_bytes w32 a.0.0) a.0.1 (to_be_bytes w32 b.0.0) b.0.1 epoch.0 number.0 in
    let made : Option MessageId × List ℕ = (d.0, b.0.1) in
    subst (λ (x : Option MessageId × List ℕ). Takes bytes (tx_bytes x.0) x.1 × IfSome x.0 IsMessageId) {x = made} (some_is made (tx, rest) d.2) (subst (λ (l : List ℕ). Takes bytes l b.0.1) parts.0 both, parts.1)

two_numbers : (epoch number : ℕ) (tx : Option MessageId) (rest : List ℕ) → epoch < 2 ^ 32 → number < 2 ^ 32 → tx_of epoch number ≡ Some tx → tx_at ((to_be_bytes w32 epoch ++ to_be_bytes w32 number) ++ rest) ≡ Some (tx, rest)
unfolding tx_at
two_numbers epoch number tx rest small little e =
    ap tx_at (append_assoc (to_be_bytes w32 epoch) (to_be_bytes w32 number) rest)
    ∙ rw (number_again w32 (2 ^ 32) wide32 epoch (to_be_bytes w32 number ++ rest) small, number_again w32 (2 ^ 32) wide32 number rest little, e) refl

tx_again : (tx : Option MessageId) (rest : List ℕ) → IfSome tx IsMessageId → tx_at (tx_bytes tx ++ rest) ≡ Some (tx, rest)
tx_again None rest is = two_numbers 0 0 None rest (omega arith) (omega arith) refl
tx_again (Some id) rest is = two_numbers id.epoch id.number (Some id) rest is.epoch_fits is.number_fits (is_some id.epoch id.number is.epoch is.number)
  where
    is_some : (epoch number : ℕ) → 1 ≤ epoch → 1 ≤ number → tx_of epoch number ≡ Some (Some (record { epoch = epoch; number = number }))
    is_some epoch number one two = rw (not_zero epoch one, both_hold (nat_le 1 epoch) (nat_le 1 number) (le-leb 1 epoch one) (le-leb 1 number two)) refl
      where
        not_zero : (n : ℕ) → 1 ≤ n → (n == 0) ≡ false
        not_zero n some = grind arith

-- ---- the frame

-- nothing is left
ends_all : (bytes front rest : List ℕ) → Takes bytes front rest → rest ≡ [] → bytes ≡ front
ends_all bytes front rest taken none = taken.parts ∙ ap (λ (l : List ℕ). front ++ l) none ∙ append-nil front

pub frame_takes : (bytes : List ℕ) (frame : Frame) → IsBytes bytes → frame_at bytes ≡ Some frame → SpellsFrame bytes frame
unfolding frame_at
frame_takes bytes frame fits e =
    let a = bind_some (number_at w8 bytes) _ frame e in
    let k = bind_some (guarded (a.0.0 == 1) a.0) _ frame a.2 in
    let known = cond_some (a.0.0 == 1) a.0 k.0 k.1 in
    let same : k.0 ≡ a.0 = sym known.1 in
    let b = bind_some (tx_at k.0.1) _ frame k.2 in
    let d = bind_some (queues_at b.0.1) _ frame b.2 in
    let f = bind_some (message_at d.0.1) _ frame d.2 in
    let made : Frame = record { tx = b.0.0; queues = d.0.0; message = f.0.0 } in
    let passed = cond_some (length f.0.1 == 0) made frame f.2 in
    let format = byte_takes bytes a.0.0 a.0.1 fits a.1 in
    let tx_read : tx_at a.0.1 ≡ Some (b.0.0, b.0.1) = subst (λ (x : ℕ × List ℕ). tx_at x.1 ≡ Some (b.0.0, b.0.1)) same b.1 in
    let tx = tx_takes a.0.1 b.0.0 b.0.1 format.0.rest_fits tx_read in
    let queues = queues_takes b.0.1 d.0.0 d.0.1 tx.0.rest_fits d.1 in
    let message = message_takes d.0.1 f.0.0 f.0.1 queues.0.rest_fits f.1 in
    let from_queues = Takes-then b.0.1 (queues_bytes d.0.0) d.0.1 (message_bytes f.0.0) f.0.1 queues.0 message.0 in
    let from_tx = Takes-then a.0.1 (tx_bytes b.0.0) b.0.1 (queues_bytes d.0.0 ++ message_bytes f.0.0) f.0.1 tx.0 from_queues in
    let one : Takes bytes (1 ∷ []) a.0.1 = subst (λ (n : ℕ). Takes bytes (n ∷ []) a.0.1) (eqb-true a.0.0 1 known.0) format.0 in
    let whole = Takes-then bytes (1 ∷ []) a.0.1 (tx_bytes b.0.0 ++ (queues_bytes d.0.0 ++ message_bytes f.0.0)) f.0.1 one from_tx in
    let nothing : f.0.1 ≡ [] = nil_from_length f.0.1 (eqb-true (length f.0.1) 0 passed.0) in
    let all : bytes ≡ frame_bytes made = ends_all bytes (frame_bytes made) f.0.1 whole nothing in
    subst (SpellsFrame bytes) {x = made} passed.1 (record { spelled = all; in_range = record { tx = tx.1; queues = queues.1; message = message.1 } })

frame_read : (frame : Frame) → IsFrame frame → frame_at (frame_bytes frame) ≡ Some frame
unfolding frame_at
frame_read frame is =
    let behind_queues = message_bytes frame.message in
    let behind_tx = queues_bytes frame.queues ++ behind_queues in
    let message : message_at behind_queues ≡ Some (frame.message, []) = ap message_at (sym (append-nil behind_queues)) ∙ message_again frame.message [] is.message in
    rw (byte_again 1 (tx_bytes frame.tx ++ behind_tx), tx_again frame.tx behind_tx is.tx, queues_again frame.queues behind_queues is.queues, message) refl

pub frame_again : (bytes : List ℕ) (frame : Frame) → SpellsFrame bytes frame → frame_at bytes ≡ Some frame
frame_again bytes frame spells = ap frame_at spells.spelled ∙ frame_read frame spells.in_range

-- bytes spell at most one frame
pub same_frame : (bytes : List ℕ) (a b : Frame) → SpellsFrame bytes a → SpellsFrame bytes b → a ≡ b
same_frame bytes a b spells_a spells_b = some_is a b (sym (frame_again bytes a spells_a) ∙ frame_again bytes b spells_b)

-- what was read is what is spelled
pub read_only : (bytes : List ℕ) (read frame : Frame) → frame_at bytes ≡ Some read → SpellsFrame bytes frame → Some read ≡ Some frame
read_only bytes read frame e spells = sym e ∙ frame_again bytes frame spells

-- where nothing was read, nothing is spelled
pub none_spelled : (bytes : List ℕ) → frame_at bytes ≡ None → SpellsNone bytes
none_spelled bytes e = λ frame spells. let both : None ≡ Some frame = sym e ∙ frame_again bytes frame spells in cc

-- ---- how long a frame is

tx_long : (tx : Option MessageId) → length (tx_bytes tx) ≡ 8
tx_long None = refl
tx_long (Some id) = length-append (to_be_bytes w32 id.epoch) (to_be_bytes w32 id.number)

ids_long : (ids : List ℕ) → length (ids_bytes ids) ≡ 4 * length ids
ids_long [] = refl
ids_long (id ∷ ids) = omega (arith, length-append (to_be_bytes w32 id) (ids_bytes ids), wide32.len id, ids_long ids)

pub frame_short : (bytes : List ℕ) (frame : Frame) → SpellsFrame bytes frame → length bytes ≤ 106410
frame_short bytes frame spells =
    omega (
      arith,
      ap length spells.spelled,
      length-append (tx_bytes frame.tx) (queues_bytes frame.queues ++ message_bytes frame.message),
      tx_long frame.tx,
      length-append (queues_bytes frame.queues) (message_bytes frame.message),
      length-append (to_be_bytes w16 (length frame.queues)) (ids_bytes frame.queues),
      wide16.len (length frame.queues),
      ids_long frame.queues,
      spells.in_range.queues.count.1,
      spells.in_range.message.light,
    )
