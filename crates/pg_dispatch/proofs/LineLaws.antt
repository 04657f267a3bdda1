-- The messages of a queue's line, where lines come, go and change.
use Rattle.std.proofs.Common.{◌≡◌, ℕ, Bool, true, false, not, ◌&&◌, ◌==◌, List, [], ◌∷◌, ◌++◌, refl, ◌∙◌, inl, inr, ◌⊎◌, arith}
use Rattle.std.proofs.lemmas.Grind.{common_steps}
use Rattle.std.specs.Prelude.{map, filter}
use Rattle.std.proofs.lemmas.Bool.{cases_Bool, eqb-true, or_left}
use Rattle.std.proofs.lemmas.List.Folds.{list_any-append}
use Rattle.pg_msg.specs.declared.message.MessageId.{MessageId}
use Rattle.pg_model.specs.Changes.{has_number}
use Rattle.pg_dispatch.specs.Dispatch.{Line, given_line, has_id, has_in_line, has_in_lines, has_line, relieved_line}
use Rattle.pg_dispatch.specs.Matching.{ids_in}
use Rattle.pg_dispatch.proofs.Flying.{has_without, is_that}

-- the line stands for that queue
abbrev pub is_of : ℕ → Line → Bool
is_of queue line = line.queue == queue

-- ---- a line is found
-- what the line of a queue has, some line of the queue has
pub found_in_line : (queue : ℕ) (id : MessageId) (lines : List Line) → has_id id (ids_in queue lines) ≡ true → has_in_line queue id lines ≡ true
found_in_line queue id [] has = absurd (grind (arith, common_steps, has))
found_in_line queue id (line ∷ lines) has =
    elim (cases_Bool (is_of queue line)) [
      | inl here ↦ grind (arith, common_steps, here, has)
      | inr there ↦
          let rest : has_in_line queue id lines ≡ true = found_in_line queue id lines (grind (arith, common_steps, there, has)) in
          grind (arith, common_steps, there, rest)
    ]

-- where no line has the message, that of a queue doesn't
pub nowhere : (queue : ℕ) (id : MessageId) (lines : List Line) → has_in_lines id lines ≡ false → has_id id (ids_in queue lines) ≡ false
nowhere queue id [] none = refl
nowhere queue id (line ∷ lines) none =
    elim (cases_Bool (is_of queue line)) [
      | inl here ↦ grind (arith, common_steps, here, none)
      | inr there ↦
          let rest : has_id id (ids_in queue lines) ≡ false = nowhere queue id lines (grind (arith, common_steps, none)) in
          grind (arith, common_steps, there, rest)
    ]

-- ---- a line comes or goes
pub ids_with_line : (queue other : ℕ) (lines : List Line) → ids_in other (lines ++ record { queue = queue; ids = [] } ∷ []) ≡ ids_in other lines
ids_with_line queue other [] =
    elim (cases_Bool (queue == other)) [
      | inl same ↦ grind (arith, common_steps, same)
      | inr apart ↦ grind (arith, common_steps, apart)
    ]
ids_with_line queue other (line ∷ lines) =
    elim (cases_Bool (is_of other line)) [
      | inl here ↦ grind (arith, common_steps, here)
      | inr there ↦ grind (arith, common_steps, there, ids_with_line queue other lines)
    ]

pub line_stays : (other : ℕ) (lines : List Line) (line : Line) → has_line other lines ≡ true → has_line other (lines ++ line ∷ []) ≡ true
line_stays other lines line has = list_any-append (is_of other) lines (line ∷ []) ∙ or_left _ _ has

pub ids_without_line : (queue other : ℕ) (lines : List Line) → (other == queue) ≡ false
    → ids_in other (filter (λ line. not (line.queue == queue)) lines) ≡ ids_in other lines
ids_without_line queue other [] apart = refl
ids_without_line queue other (line ∷ lines) apart =
    elim (cases_Bool (is_of queue line)) [
      | inl gone ↦
          let its : line.queue ≡ queue = eqb-true line.queue queue gone in
          let differ : is_of other line ≡ false = grind (arith, common_steps, its, apart) in
          grind (arith, common_steps, gone, differ, ids_without_line queue other lines apart)
      | inr stays ↦
          elim (cases_Bool (is_of other line)) [
            | inl here ↦ grind (arith, common_steps, stays, here)
            | inr there ↦ grind (arith, common_steps, stays, there, ids_without_line queue other lines apart)
          ]
    ]

pub line_left : (queue other : ℕ) (lines : List Line) → (other == queue) ≡ false → has_line other (filter (λ line. not (line.queue == queue)) lines) ≡ has_line other lines
line_left queue other [] apart = refl
line_left queue other (line ∷ lines) apart =
    elim (cases_Bool (is_of queue line)) [
      | inl gone ↦
          let its : line.queue ≡ queue = eqb-true line.queue queue gone in
          let differ : is_of other line ≡ false = grind (arith, common_steps, its, apart) in
          grind (arith, common_steps, gone, differ, line_left queue other lines apart)
      | inr stays ↦ grind (arith, common_steps, stays, line_left queue other lines apart)
    ]

-- ---- lines change, each for its queue
pub line_given : (queues : List ℕ) (id : MessageId) (other : ℕ) (lines : List Line) → has_line other (map (given_line queues id) lines) ≡ has_line other lines
line_given queues id other [] = refl
line_given queues id other (line ∷ lines) =
    elim (cases_Bool (has_number queues line.queue)) [
      | inl gets ↦ grind (arith, common_steps, gets, line_given queues id other lines)
      | inr stays ↦ grind (arith, common_steps, stays, line_given queues id other lines)
    ]

pub id_given : (queues : List ℕ) (id : MessageId) (other : ℕ) (message : MessageId) (lines : List Line) → has_id message (ids_in other lines) ≡ true
    → has_id message (ids_in other (map (given_line queues id) lines)) ≡ true
id_given queues id other message [] has = has
id_given queues id other message (line ∷ lines) has =
    elim (cases_Bool (is_of other line)) [
      | inl here ↦ at_line here (cases_Bool (has_number queues line.queue)) (grind (arith, common_steps, here, has))
      | inr there ↦
          let rest : has_id message (ids_in other (map (given_line queues id) lines)) ≡ true = id_given queues id other message lines (grind (arith, common_steps, there, has)) in
          elim (cases_Bool (has_number queues line.queue)) [
            | inl gets ↦ grind (arith, common_steps, there, gets, rest)
            | inr stays ↦ grind (arith, common_steps, there, stays, rest)
          ]
    ]
  where
    at_line : is_of other line ≡ true → (has_number queues line.queue ≡ true) ⊎ (has_number queues line.queue ≡ false) → has_id message line.ids ≡ true
        → has_id message (ids_in other (map (given_line queues id) (line ∷ lines))) ≡ true
    at_line here (inl gets) has =
        let more : has_id message (line.ids ++ id ∷ []) ≡ true = list_any-append _ line.ids (id ∷ []) ∙ or_left _ _ has in
        grind (arith, common_steps, here, gets, more)
    at_line here (inr stays) has = grind (arith, common_steps, here, stays, has)

pub line_relieved : (queue : ℕ) (id : MessageId) (other : ℕ) (lines : List Line) → has_line other (map (relieved_line queue id) lines) ≡ has_line other lines
line_relieved queue id other [] = refl
line_relieved queue id other (line ∷ lines) =
    elim (cases_Bool (is_of queue line)) [
      | inl gets ↦ grind (arith, common_steps, gets, line_relieved queue id other lines)
      | inr stays ↦ grind (arith, common_steps, stays, line_relieved queue id other lines)
    ]

pub id_relieved : (queue : ℕ) (id : MessageId) (other : ℕ) (message : MessageId) (lines : List Line)
    → has_id message (ids_in other (map (relieved_line queue id) lines)) ≡ (not (is_that queue id other message) && has_id message (ids_in other lines))
id_relieved queue id other message [] = grind (arith, common_steps)
id_relieved queue id other message (line ∷ lines) =
    elim (cases_Bool (is_of queue line)) [
      | inl gets ↦
          let its : line.queue ≡ queue = eqb-true line.queue queue gets in
          elim (cases_Bool (is_of other line)) [
            | inl here ↦ grind (arith, common_steps, gets, here, its, has_without id message line.ids)
            | inr there ↦ grind (arith, common_steps, gets, there, its, id_relieved queue id other message lines)
          ]
      | inr stays ↦
          elim (cases_Bool (is_of other line)) [
            | inl here ↦
                let its : line.queue ≡ other = eqb-true line.queue other here in
                let differ : (queue == other) ≡ false = grind (arith, common_steps, its, stays) in
                grind (arith, common_steps, stays, here, differ)
            | inr there ↦ grind (arith, common_steps, stays, there, id_relieved queue id other message lines)
          ]
    ]
