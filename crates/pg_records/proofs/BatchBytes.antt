-- The bytes of entries, one entry at a time.
use Rattle.std.proofs.Common.{◌≡◌, ℕ, ◌+◌, ◌<◌, ◌≤◌, List, ◌∷◌, ◌++◌, length, get_or, drop, ap, sym, subst, ◌∙◌, append_assoc}
use Rattle.std.proofs.lemmas.List.{drop_more, drop_all, append-nil}
use Rattle.pg_records.specs.declared.entry.Entry.{Entry}
use Rattle.pg_records.specs.Entries.{entry_bytes, batch_bytes, HasFields, HaveFields}

-- the entries from an index on begin with the one there
next_entry : (entries : List Entry) (i : ℕ) (entry : Entry) → i < length entries → entry ≡ get_or entries i entry → drop i entries ≡ entry ∷ drop (i + 1) entries
next_entry entries i entry inside there = drop_more entries i entry inside ∙ ap (λ x. x ∷ drop (i + 1) entries) (sym there)

-- the bytes so far, and those of the entries that are left, are all of the bytes
pub spells_next : (entries : List Entry) (i : ℕ) (entry : Entry) (before after : List ℕ) → i < length entries → entry ≡ get_or entries i entry → before ++ batch_bytes (drop i entries) ≡ batch_bytes entries → after ≡ before ++ entry_bytes entry → after ++ batch_bytes (drop (i + 1) entries) ≡ batch_bytes entries
spells_next entries i entry before after inside there so_far more =
    ap (λ bytes. bytes ++ batch_bytes (drop (i + 1) entries)) more
    ∙ append_assoc before (entry_bytes entry) (batch_bytes (drop (i + 1) entries))
    ∙ sym (ap (λ rest. before ++ batch_bytes rest) (next_entry entries i entry inside there))
    ∙ so_far

-- no entry is left
pub spells_all : (entries : List Entry) (i : ℕ) (bytes : List ℕ) → length entries ≤ i → bytes ++ batch_bytes (drop i entries) ≡ batch_bytes entries → bytes ≡ batch_bytes entries
spells_all entries i bytes past so_far = sym (append-nil bytes) ∙ sym (ap (λ rest. bytes ++ batch_bytes rest) (drop_all i entries past)) ∙ so_far

-- the next entry is in range, and so are those behind it
pub next_fields : (entries : List Entry) (i : ℕ) (entry : Entry) → i < length entries → entry ≡ get_or entries i entry → HaveFields (drop i entries) → HasFields entry × HaveFields (drop (i + 1) entries)
next_fields entries i entry inside there fields = subst HaveFields (next_entry entries i entry inside there) fields
