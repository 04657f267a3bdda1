-- One message for several queues, one after the other.
use Rattle.std.proofs.Common.{◌≡◌, ◌⊎◌, ℕ, ◌+◌, ◌<◌, true, false, ◌||◌, ◌==◌, List, [], ◌∷◌, ◌++◌, refl, sym, ap, ◌∙◌, subst, inl, inr, take, length, get_or, arith}
use Rattle.std.proofs.lemmas.Grind.{common_steps}
use Rattle.std.specs.Prelude.{map}
use Rattle.std.proofs.lemmas.Bool.{cases_Bool, eqb-true, or_left, or_right}
use Rattle.std.proofs.lemmas.List.{take_more}
use Rattle.std.proofs.lemmas.List.Folds.{list_any-append}
use Rattle.pg_msg.specs.declared.message.MessageId.{MessageId}
use Rattle.pg_model.specs.Changes.{has_number}
use Rattle.pg_dispatch.specs.Dispatch.{Dispatch, Line, given_line, has_id, has_in_lines, with_message}
use Rattle.pg_dispatch.specs.Matching.{given_once, ids_in}
use Rattle.pg_dispatch.proofs.Flying.{same_itself}
use Rattle.pg_dispatch.proofs.LineLaws.{is_of}
use Rattle.pg_dispatch.proofs.Steps.{once_new, once_there}

abbrev pub given_lines : List ℕ → MessageId → List Line → List Line
given_lines queues id lines = map (given_line queues id) lines

-- a number more
pub number_more : (queues : List ℕ) (queue number : ℕ) → has_number (queues ++ queue ∷ []) number ≡ (has_number queues number || (queue == number))
number_more queues queue number = list_any-append (λ other. other == number) queues (queue ∷ []) ∙ ap (λ b. has_number queues number || b) (grind (arith, common_steps))

pub none_yet : (id : MessageId) (lines : List Line) → given_lines [] id lines ≡ lines
none_yet id [] = refl
none_yet id (line ∷ lines) = ap (λ rest. line ∷ rest) (none_yet id lines)

-- a queue that is among them has the message
pub has_it : (id : MessageId) (ids : List MessageId) → has_id id (ids ++ id ∷ []) ≡ true
has_it id ids = list_any-append _ ids (id ∷ []) ∙ or_right _ _ (or_left _ _ (same_itself id))

pub among_already : (queues : List ℕ) (queue : ℕ) (id : MessageId) (lines : List Line) → has_number queues queue ≡ true → given_lines (queues ++ queue ∷ []) id lines ≡ given_lines queues id lines
among_already queues queue id [] among = refl
among_already queues queue id (line ∷ lines) among =
    elim (cases_Bool (queue == line.queue)) [
      | inl its ↦
          let same : queue ≡ line.queue = eqb-true queue line.queue its in
          let has : has_number queues line.queue ≡ true = subst (λ q. has_number queues q ≡ true) same among in
          grind (arith, common_steps, has, number_more queues queue line.queue, among_already queues queue id lines among)
      | inr another ↦ grind (arith, common_steps, another, number_more queues queue line.queue, among_already queues queue id lines among)
    ]

-- where a queue among them doesn't have it, there is no such queue
pub no_such_line : (queues : List ℕ) (queue : ℕ) (id : MessageId) (lines : List Line) → has_number queues queue ≡ true → has_id id (ids_in queue (given_lines queues id lines)) ≡ false
    → given_lines (queue ∷ []) id (given_lines queues id lines) ≡ given_lines queues id lines
no_such_line queues queue id [] among none = refl
no_such_line queues queue id (line ∷ lines) among none =
    elim (cases_Bool (is_of queue line)) [
      | inl here ↦
          let its : line.queue ≡ queue = eqb-true line.queue queue here in
          let gets : has_number queues line.queue ≡ true = subst (λ q. has_number queues q ≡ true) (sym its) among in
          absurd (grind (arith, common_steps, here, gets, none, has_it id line.ids))
      | inr there ↦
          let apart : (queue == line.queue) ≡ false = grind (arith, common_steps, there) in
          elim (cases_Bool (has_number queues line.queue)) [
            | inl gets ↦
                let rest = no_such_line queues queue id lines among (grind (arith, common_steps, there, gets, none)) in
                grind (arith, common_steps, gets, apart, rest)
            | inr stays ↦
                let rest = no_such_line queues queue id lines among (grind (arith, common_steps, there, stays, none)) in
                grind (arith, common_steps, stays, apart, rest)
          ]
    ]

-- a queue that isn't among them doesn't have it
pub not_yet : (queues : List ℕ) (queue : ℕ) (id : MessageId) (lines : List Line) → has_number queues queue ≡ false → has_in_lines id lines ≡ false
    → has_id id (ids_in queue (given_lines queues id lines)) ≡ false
not_yet queues queue id [] apart none = refl
not_yet queues queue id (line ∷ lines) apart none =
    elim (cases_Bool (is_of queue line)) [
      | inl here ↦
          let its : line.queue ≡ queue = eqb-true line.queue queue here in
          let stays : has_number queues line.queue ≡ false = subst (λ q. has_number queues q ≡ false) (sym its) apart in
          grind (arith, common_steps, here, stays, none)
      | inr there ↦
          let rest = not_yet queues queue id lines apart (grind (arith, common_steps, none)) in
          elim (cases_Bool (has_number queues line.queue)) [
            | inl gets ↦ grind (arith, common_steps, there, gets, rest)
            | inr stays ↦ grind (arith, common_steps, there, stays, rest)
          ]
    ]

pub one_behind : (queues : List ℕ) (queue : ℕ) (id : MessageId) (lines : List Line) → has_number queues queue ≡ false
    → given_lines (queue ∷ []) id (given_lines queues id lines) ≡ given_lines (queues ++ queue ∷ []) id lines
one_behind queues queue id [] apart = refl
one_behind queues queue id (line ∷ lines) apart =
    elim (cases_Bool (queue == line.queue)) [
      | inl its ↦
          let same : queue ≡ line.queue = eqb-true queue line.queue its in
          let stays : has_number queues line.queue ≡ false = subst (λ q. has_number queues q ≡ false) same apart in
          grind (arith, common_steps, its, stays, number_more queues queue line.queue, one_behind queues queue id lines apart)
      | inr another ↦
          elim (cases_Bool (has_number queues line.queue)) [
            | inl gets ↦ grind (arith, common_steps, another, gets, number_more queues queue line.queue, one_behind queues queue id lines apart)
            | inr stays ↦ grind (arith, common_steps, another, stays, number_more queues queue line.queue, one_behind queues queue id lines apart)
          ]
    ]

-- ---- a queue more, in the loop
abbrev pub with_lines : Dispatch → List Line → Dispatch
with_lines d lines = record d { lines = lines }

pub one_more : (queues : List ℕ) (queue : ℕ) (id : MessageId) (d : Dispatch) → has_in_lines id d.lines ≡ false
    → given_once queue id (with_message queues id d) ≡ with_message (queues ++ queue ∷ []) id d
one_more queues queue id d new =
    elim (cases_Bool (has_id id (ids_in queue (given_lines queues id d.lines)))) [
      | inl has ↦ once_there queue id (with_message queues id d) has ∙ if_there has (cases_Bool (has_number queues queue))
      | inr none ↦ once_new queue id (with_message queues id d) none ∙ if_new none (cases_Bool (has_number queues queue))
    ]
  where
    if_there : has_id id (ids_in queue (given_lines queues id d.lines)) ≡ true → (has_number queues queue ≡ true) ⊎ (has_number queues queue ≡ false)
        → with_message queues id d ≡ with_message (queues ++ queue ∷ []) id d
    if_there has (inl among) = ap (with_lines d) (sym (among_already queues queue id d.lines among))
    if_there has (inr apart) = absurd (grind (arith, common_steps, has, not_yet queues queue id d.lines apart new))

    if_new : has_id id (ids_in queue (given_lines queues id d.lines)) ≡ false → (has_number queues queue ≡ true) ⊎ (has_number queues queue ≡ false)
        → with_message (queue ∷ []) id (with_message queues id d) ≡ with_message (queues ++ queue ∷ []) id d
    if_new none (inl among) = ap (with_lines d) (no_such_line queues queue id d.lines among none ∙ sym (among_already queues queue id d.lines among))
    if_new none (inr apart) = ap (with_lines d) (one_behind queues queue id d.lines apart)

pub given_more : (queues : List ℕ) (i : ℕ) (id : MessageId) (d now new : Dispatch) → i < length queues → has_in_lines id d.lines ≡ false → now ≡ with_message (take i queues) id d
    → new ≡ given_once (get_or queues i 0) id now → new ≡ with_message (take (i + 1) queues) id d
given_more queues i id d now new below none before once =
    once
    ∙ ap (given_once (get_or queues i 0) id) before
    ∙ one_more (take i queues) (get_or queues i 0) id d none
    ∙ ap (λ (numbers : List ℕ). with_message numbers id d) (sym (take_more queues i 0 below))
