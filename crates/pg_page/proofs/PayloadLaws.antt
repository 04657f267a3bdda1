-- The payload at a place, and the frame that it spells.
use Rattle.std.proofs.Common.{◌≡◌, ℕ, ◌-◌, ◌<◌, List, ◌∷◌, ◌++◌, length, take, drop, Option, Result, Ok, Err, IfOk, IfErr, refl, sym, ◌∙◌, ap, subst, arith}
use Rattle.std.specs.Int.{to_be_bytes, w64}
use Rattle.pg_disk.specs.declared.fault.Fault.{Fault}
use Rattle.pg_disk.specs.declared.fault.Fault.TheVariants.{Failed, Damaged, Spent, Memory}
use Rattle.pg_disk.specs.declared.fault.Rule.{Rule}
use Rattle.pg_disk.specs.declared.fault.Rule.TheVariants.{Spelling}
use Rattle.pg_disk.specs.declared.file_id.FileId.{FileId}
use Rattle.pg_disk.specs.Account.{Account}
use Rattle.pg_disk.specs.Calls.{Changes, Holds, Reads}
use Rattle.pg_disk.proofs.Bytes.{holds_back}
use Rattle.pg_gate.specs.declared.spans.Span.{Span}
use Rattle.pg_gate.specs.Gated.{opened}
use Rattle.pg_gate.specs.Payloads.{payload_at}
use Rattle.pg_gate.specs.Spans.{AsRead, IsCutFault, IsNotSpent}
use Rattle.pg_gate.proofs.Reading.{as_read_before}
use Rattle.pg_gate.proofs.Sealing.{length-number}
use Rattle.pg_gate.proofs.Walking.{taken_holds}
use Rattle.pg_page.specs.declared.frame.Frame.{Frame}
use Rattle.pg_page.specs.declared.place.Place.{Place}
use Rattle.pg_page.specs.Faults.{BreaksAt, IsPageFault}
use Rattle.pg_page.specs.Frames.{SpellsFrame, SpellsNone}
use Rattle.pg_page.specs.Places.{IsAt, IsPlace, StandsAt, StandsSome}
use Rattle.pg_page.proofs.FaultLaws.{Breaks, fault_weaker}
use Rattle.pg_page.proofs.FrameLaws.{frame_short}
use Rattle.pg_page.proofs.PlaceLaws.{opened_more}

-- a payload that stands at an offset is there
pub holds_there : (bytes : List ℕ) (offset : ℕ) (before : List (List ℕ)) (payload : List ℕ) → StandsAt bytes offset before payload → Holds bytes offset payload
holds_there bytes offset before payload stands =
    let gate : ℕ = length (opened before) in
    let all : Holds bytes 0 (opened before ++ 1 ∷ (to_be_bytes w64 (length payload) ++ payload)) = subst (λ (l : List ℕ). Holds bytes 0 l) (sym (opened_more before payload)) stands.passes.stand in
    let batch : Holds bytes gate ((1 ∷ to_be_bytes w64 (length payload)) ++ payload) = holds_back bytes (opened before) (1 ∷ (to_be_bytes w64 (length payload) ++ payload)) 0 gate (omega arith) all in
    holds_back bytes (1 ∷ to_be_bytes w64 (length payload)) payload gate offset (omega (arith, stands.at, length-number (length payload))) batch

-- what was answered has what this one has
pub ok_is : {T E : Type 0} (result : Result T E) (x : T) (P : T → Type 0) → IfOk result (λ y. y ≡ x) → P x → IfOk result P
ok_is (Ok y) x P same p = subst P (sym same) p
ok_is (Err e) x P same p = tt

-- the place of the payload at this offset
abbrev pub IsSpanOf : ℕ → Span → List ℕ → Type 0
IsSpanOf offset span bytes = (before : List (List ℕ)) (payload : List ℕ) → StandsAt bytes offset before payload → (span.at ≡ offset) × (span.length ≡ length payload)

module _ (file : FileId) (old : Option Account) (offset : ℕ) (span : Span) (some : AsRead file old (StandsSome offset)) (is : AsRead file old (IsSpanOf offset span)) where
  -- a payload that is too long is no frame
  pub too_long : {T : Type 0} (result : Result T Fault) → IfErr result (IsPageFault file (λ damage. (damage.rule ≡ Spelling) × (damage.at ≡ span.at) × (106410 < span.length))) → IfErr result (IsPageFault file (Breaks file old))
  too_long (Ok x) fault = tt
  too_long (Err e) fault =
      fault_weaker file (λ damage. (damage.rule ≡ Spelling) × (damage.at ≡ span.at) × (106410 < span.length)) (Breaks file old) e
      (λ damage broken h s there.
      let at = some h s there in
      let same = is h s there at.0 at.1 at.2 in
      let none : SpellsNone at.1 = λ frame spells. omega (arith, frame_short at.1 frame spells, same.1, broken.2) in
      let stands : StandsAt s.bytes damage.at at.0 at.1 = subst (λ (k : ℕ). StandsAt s.bytes k at.0 at.1) (sym (broken.1 ∙ same.0)) at.2 in
      subst (λ (r : Rule). BreaksAt s.bytes damage.at r) (sym broken.0) (at.0, at.1, stands, none)) fault

  module _ (mid : Option Account) (n : ℕ) (change : Changes old mid (Reads n)) where
    -- the bytes there are the payload
    pub is_payload : {E : Type 0} (result : Result (List ℕ) E) → IfOk result (λ octets. AsRead file mid (λ bytes. octets ≡ payload_at bytes span))
        → IfOk result (λ octets. AsRead file old (λ bytes. (before : List (List ℕ)) (payload : List ℕ) → StandsAt bytes offset before payload → octets ≡ payload))
    is_payload (Ok octets) reads = λ h s there before payload stands.
        let same = is h s there before payload stands in
        as_read_before file old mid n (λ bytes. octets ≡ payload_at bytes span) change reads h s there
        ∙ ap (λ (k : ℕ). take k (drop span.at s.bytes)) same.1
        ∙ ap (λ (k : ℕ). take (length payload) (drop k s.bytes)) same.0
        ∙ taken_holds s.bytes payload offset (holds_there s.bytes offset before payload stands)
    is_payload (Err e) reads = tt

    -- and none is wanting
    pub none_wanting : {T : Type 0} (result : Result T Fault) → IfErr result IsNotSpent → IfErr result (IsCutFault file (λ at. (at ≡ span.at) × AsRead file mid (λ bytes. length bytes - span.at < span.length)))
        → IfErr result (IsPageFault file (Breaks file old))
    none_wanting (Ok x) unspent cut = tt
    none_wanting (Err Failed) unspent cut = tt
    none_wanting (Err (Damaged damage)) unspent cut = (
      cut.0,
      λ h s there.
          let at = some h s there in
          let same = is h s there at.0 at.1 at.2 in
          let few : length s.bytes - span.at < span.length = as_read_before file old mid n (λ bytes. length bytes - span.at < span.length) change cut.2.1 h s there in
          absurd (omega (arith, few, same.0, same.1, (holds_there s.bytes offset at.0 at.1 at.2).within)),
    )
    none_wanting (Err Spent) unspent cut = absurd (unspent refl)
    none_wanting (Err Memory) unspent cut = tt

-- the frame that a payload spells, by the page's name
module _ (file name : FileId) (same : file ≡ name) (old : Option Account) (place : Place) (octets : List ℕ)
    (read : AsRead file old (λ bytes. (before : List (List ℕ)) (payload : List ℕ) → StandsAt bytes place.offset before payload → octets ≡ payload)) where
  named : AsRead name old (λ bytes. (before : List (List ℕ)) (payload : List ℕ) → StandsAt bytes place.offset before payload → octets ≡ payload)
  named = subst (λ f. AsRead f old (λ bytes. (before : List (List ℕ)) (payload : List ℕ) → StandsAt bytes place.offset before payload → octets ≡ payload)) same read

  pub frame_answer : (result : Result Frame Fault) → IfOk result (SpellsFrame octets) → IfOk result (λ frame. AsRead name old (λ bytes. (before : List (List ℕ)) (payload : List ℕ) → IsAt bytes place before payload → SpellsFrame payload frame))
  frame_answer (Ok frame) spells = λ h s there before payload at. subst (λ (l : List ℕ). SpellsFrame l frame) (named h s there before payload at.stands) spells
  frame_answer (Err e) spells = tt

  pub frame_fault : AsRead name old (IsPlace place) → (result : Result Frame Fault) → IfErr result (IsPageFault file (λ damage. (damage.rule ≡ Spelling) × (damage.at ≡ place.offset) × SpellsNone octets)) → IfErr result (IsPageFault name (Breaks name old))
  frame_fault some (Ok frame) fault = tt
  frame_fault some (Err e) fault =
      fault_weaker name (λ damage. (damage.rule ≡ Spelling) × (damage.at ≡ place.offset) × SpellsNone octets) (Breaks name old) e
      (λ damage broken h s there.
      let at = some h s there in
      let none : SpellsNone at.1 = subst SpellsNone (named h s there at.0 at.1 at.2.stands) broken.2 in
      let stands : StandsAt s.bytes damage.at at.0 at.1 = subst (λ (k : ℕ). StandsAt s.bytes k at.0 at.1) (sym broken.1) at.2.stands in
      subst (λ (r : Rule). BreaksAt s.bytes damage.at r) (sym broken.0) (at.0, at.1, stands, none))
      (subst (λ f. IsPageFault f (λ damage. (damage.rule ≡ Spelling) × (damage.at ≡ place.offset) × SpellsNone octets) e) same fault)
