-- How many bytes are read from gate to gate, and where the payloads lie.
use Rattle.std.proofs.Common.{◌≡◌, ℕ, ◌+◌, ◌*◌, ◌≤◌, ◌<◌, ◌-◌, List, [], ◌∷◌, ◌++◌, length, Option, Result, Ok, Err, OnErr, refl, ap, arith, ◌∙◌, length-append}
use Rattle.std.proofs.lemmas.List.Sums.{sum_by_push}
use Rattle.std.specs.FinMap.{get}
use Rattle.pg_disk.specs.declared.file_id.FileId.{FileId}
use Rattle.pg_disk.specs.Account.{Account, account}
use Rattle.pg_disk.specs.Calls.{Changes, Reads}
use Rattle.pg_gate.specs.declared.spans.Span.{Span}
use Rattle.pg_gate.specs.Spans.{AsRead, LieBehind, Occupy, ReadsGates, ReadsGateAt, ReadsWithin}

-- for each place so far at most a gate and a length were read
abbrev pub ReadsSpans : List Span → Account → Account → Type 0
ReadsSpans spans old new = new.taken ≤ old.taken + 9 * length spans

-- one payload more
lie_more : (first gate : ℕ) (spans : List Span) (span : Span) → LieBehind first spans (gate + 1) → span.at ≡ gate + 9 → LieBehind first (spans ++ span ∷ []) (span.at + span.length + 1)
lie_more first gate [] span lie at_is = (omega (arith, lie, at_is), refl)
lie_more first gate (s ∷ spans) span lie at_is = (lie.0, lie_more (s.at + s.length) gate spans span lie.1 at_is)

pub occupy_more : (spans : List Span) (span : Span) (gate : ℕ) → Occupy spans (gate + 1) → span.at ≡ gate + 9 → Occupy (spans ++ span ∷ []) (span.at + span.length + 1)
occupy_more spans span gate occupy at_is = record {
  lie = lie_more 0 gate spans span occupy.lie at_is;
  sum = omega (arith, occupy.sum, at_is, length-append spans (span ∷ []), sum_by_push (λ (s : Span). s.length) spans span);
}

-- one place more
pub spans_more : (file : FileId) (old mid new : Option Account) (n gate : ℕ) (spans : List Span) (span : Span) → Changes old mid (Reads n) → AsRead file old (λ _. ReadsSpans spans (account old) (account mid))
    → AsRead file mid (λ bytes. ReadsGateAt bytes gate (account mid) (account new)) → AsRead file old (λ _. ReadsSpans (spans ++ span ∷ []) (account old) (account new))
spans_more file old mid new n gate spans span change so_far next h s there =
    let gate_read = next (change.kept h) s (ap (λ m. get m file) (change.step h).files ∙ there) in
    omega (arith, so_far h s there, gate_read.few, length-append spans (span ∷ []))

-- the gate behind them
pub gates_read : (file : FileId) (old mid new : Option Account) (n gate end : ℕ) (spans : List Span) → Changes old mid (Reads n) → Occupy spans (gate + 1) → gate < end → AsRead file old (λ _. ReadsSpans spans (account old) (account mid))
    → AsRead file mid (λ bytes. ReadsGateAt bytes gate (account mid) (account new)) → AsRead file old (λ bytes. end ≡ length bytes → ReadsGates bytes spans (account old) (account new))
gates_read file old mid new n gate end spans change stands within so_far next h s there end_is =
    let gate_read = next (change.kept h) s (ap (λ m. get m file) (change.step h).files ∙ there) in
    let before = so_far h s there in
    record {
      gates = omega (arith, before, gate_read.few);
      outside = omega (arith, before, gate_read.within, stands.sum, within, end_is);
    }

-- whatever it comes to, where it is an error
pub gates_within : {T E : Type 0} (result : Result T E) (file : FileId) (old new : Option Account) (end : ℕ) (spans : List Span) → AsRead file old (λ bytes. end ≡ length bytes → ReadsGates bytes spans (account old) (account new))
    → OnErr result (AsRead file old (λ bytes. end ≡ length bytes → ReadsWithin bytes (account old) (account new)))
gates_within (Ok x) file old new end spans read = tt
gates_within (Err e) file old new end spans read = λ h s there end_is. omega (arith, (read h s there end_is).outside)

-- the length is asked for first
pub gates_after : (file : FileId) (old mid new : Option Account) (end : ℕ) (spans : List Span) → Changes old mid (Reads 0) → AsRead file old (λ bytes. end ≡ length bytes)
    → AsRead file mid (λ bytes. end ≡ length bytes → ReadsGates bytes spans (account mid) (account new)) → AsRead file old (λ bytes. ReadsGates bytes spans (account old) (account new))
gates_after file old mid new end spans change size read h s there =
    let step = change.step h in
    let found = read (change.kept h) s (ap (λ m. get m file) step.files ∙ there) (size h s there) in
    record { gates = omega (arith, found.gates, step.taken); outside = omega (arith, found.outside, step.taken) }

-- nothing is read of a file without batches
pub none_read : (file : FileId) (old new : Option Account) (spans : List Span) → spans ≡ [] → Changes old new (Reads 0) → AsRead file old (λ bytes. ReadsGates bytes spans (account old) (account new))
none_read file old new spans none change = λ h s there. rw none (record { gates = omega (arith, (change.step h).taken); outside = omega (arith, (change.step h).taken) })

-- nor of one that was mended, but for its gate
pub mended_taken : (file : FileId) (old mid new : Option Account) (end : ℕ) (spans : List Span) → spans ≡ [] → Changes old mid (Reads 0) → AsRead file old (λ bytes. end ≡ length bytes) → end ≤ 1
    → AsRead file mid (λ bytes. ReadsWithin bytes (account mid) (account new)) → AsRead file old (λ bytes. ReadsGates bytes spans (account old) (account new))
mended_taken file old mid new end spans none change size short read = λ h s there.
    let step = change.step h in
    let few = read (change.kept h) s (ap (λ m. get m file) step.files ∙ there) in
    rw none (record { gates = omega (arith, few, step.taken, size h s there, short); outside = omega (arith, few, step.taken) })

-- a read of so many bytes at a gate, at most nine
pub gate_taken : (file : FileId) (old new : Option Account) (n gate : ℕ) → Changes old new (Reads n) → n ≤ 9 → AsRead file old (λ bytes. n ≤ length bytes - gate) → AsRead file old (λ bytes. ReadsGateAt bytes gate (account old) (account new))
gate_taken file old new n gate change few within = λ h s there. record { few = omega (arith, (change.step h).taken); within = omega (arith, (change.step h).taken, within h s there) }
