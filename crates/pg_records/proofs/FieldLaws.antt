-- The fields of entries alone: one that is read is the one that was spelled, and what was spelled is read again.
use Rattle.std.proofs.Common.{◌≡◌, ℕ, ◌^◌, List, [], ◌∷◌, ◌++◌, length, Some, sym, ap, subst, ◌∙◌, append_assoc, refl, arith}
use Rattle.std.specs.Int.{w8, w16, to_be_bytes}
use Rattle.std.proofs.lemmas.Option.{cond_some}
use Rattle.std.proofs.lemmas.Str.{IsUtf8-from_is_utf8, is_utf8-from_IsUtf8}
use Rattle.pg_msg.specs.declared.limits.TheConstants.{LONGEST_DUPLICATE_ID}
use Rattle.pg_msg.specs.Messages.{IsDuplicateId}
use Rattle.pg_msg.specs.Reading.{number_at, octets_at}
use Rattle.pg_msg.proofs.TestLaws.{between_decides}
use Rattle.pg_msg.proofs.FieldLaws.{IsBytes, Takes, Takes-then, bind_some, wide16, number_takes, number_again, byte_takes, byte_again, octets_takes, octets_again}
use Rattle.pg_records.specs.Entries.{short_bytes, filter_bytes, IsFilterText}
use Rattle.pg_records.specs.Reading.{filter_at, duplicate_id_at}

pub filter_takes : (bytes filter rest : List ℕ) → IsBytes bytes → filter_at bytes ≡ Some (filter, rest) → Takes bytes (filter_bytes filter) rest × IsFilterText filter
unfolding filter_at
filter_takes bytes filter rest fits e =
    let a = bind_some (number_at w16 bytes) _ (filter, rest) e in
    let b = bind_some (octets_at a.0.0 a.0.1) _ (filter, rest) a.2 in
    let count = number_takes w16 (2 ^ 16) wide16 bytes a.0.0 a.0.1 fits a.1 in
    let text = octets_takes a.0.0 a.0.1 b.0.0 b.0.1 count.0.rest_fits b.1 in
    let passed = cond_some _ _ _ b.2 in
    let both = Takes-then bytes (to_be_bytes w16 a.0.0) a.0.1 b.0.0 b.0.1 count.0 text.0 in
    let whole : Takes bytes (filter_bytes b.0.0) b.0.1 = subst (λ (n : ℕ). Takes bytes (to_be_bytes w16 n ++ b.0.0) b.0.1) (sym text.1) both in
    subst (λ (x : List ℕ × List ℕ). Takes bytes (filter_bytes x.0) x.1 × IsFilterText x.0) passed.1 (whole, (IsUtf8-from_is_utf8 b.0.0 passed.0, omega (arith, text.1, count.1)))

pub filter_again : (filter rest : List ℕ) → IsFilterText filter → filter_at (filter_bytes filter ++ rest) ≡ Some (filter, rest)
unfolding filter_at
filter_again filter rest is =
    ap filter_at (append_assoc (to_be_bytes w16 (length filter)) filter rest)
    ∙ rw (number_again w16 (2 ^ 16) wide16 (length filter) (filter ++ rest) (omega (arith, is.1)), octets_again filter rest, is_utf8-from_IsUtf8 filter is.0) refl

pub duplicate_id_takes : (bytes id rest : List ℕ) → IsBytes bytes → duplicate_id_at bytes ≡ Some (id, rest) → Takes bytes (short_bytes id) rest × IsDuplicateId id
unfolding duplicate_id_at
duplicate_id_takes bytes id rest fits e =
    let a = bind_some (number_at w8 bytes) _ (id, rest) e in
    let b = bind_some (octets_at a.0.0 a.0.1) _ (id, rest) a.2 in
    let count = byte_takes bytes a.0.0 a.0.1 fits a.1 in
    let content = octets_takes a.0.0 a.0.1 b.0.0 b.0.1 count.0.rest_fits b.1 in
    let passed = cond_some _ _ _ b.2 in
    let both = Takes-then bytes (a.0.0 ∷ []) a.0.1 b.0.0 b.0.1 count.0 content.0 in
    let whole : Takes bytes (short_bytes b.0.0) b.0.1 = subst (λ (n : ℕ). Takes bytes (n ∷ b.0.0) b.0.1) (sym content.1) both in
    let in_range : IsDuplicateId b.0.0 = rw content.1 ((between_decides 1 LONGEST_DUPLICATE_ID a.0.0).0 passed.0) in
    subst (λ (x : List ℕ × List ℕ). Takes bytes (short_bytes x.0) x.1 × IsDuplicateId x.0) passed.1 (whole, in_range)

pub duplicate_id_again : (id rest : List ℕ) → IsDuplicateId id → duplicate_id_at (short_bytes id ++ rest) ≡ Some (id, rest)
unfolding duplicate_id_at
duplicate_id_again id rest is = rw (byte_again (length id) (id ++ rest), octets_again id rest, (between_decides 1 LONGEST_DUPLICATE_ID (length id)).1 is) refl
