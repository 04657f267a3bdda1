-- A list of entries that is read is the one that was spelled, and what was spelled is read again.
use Rattle.std.proofs.Common.{◌≡◌, ℕ, zero, suc, ◌-◌, ◌<◌, ◌≤◌, true, false, ◌==◌, List, [], ◌∷◌, ◌++◌, length, Option, Some, None, refl, sym, ap, subst, ◌∙◌, append_assoc, arith}
use Rattle.std.specs.Prelude.{◌≢◌}
use Rattle.std.proofs.lemmas.Bool.{eqb-true}
use Rattle.std.proofs.lemmas.List.{append-nil, nil_from_length}
use Rattle.std.proofs.lemmas.Option.{cond_some}
use Rattle.pg_msg.specs.declared.fields.Unread.{Unread}
use Rattle.pg_msg.specs.declared.fields.Unread.TheVariants as unread
use Rattle.pg_msg.specs.Reading.{◌>>=◌, Misses}
use Rattle.pg_msg.proofs.FieldLaws.{IsBytes, bind_some, some_is}
use Rattle.pg_records.specs.declared.entry.Entry.{Entry}
use Rattle.pg_records.specs.Entries.{entry_bytes, batch_bytes, HaveFields, SpellsBatch}
use Rattle.pg_records.specs.Reading.{entry_at, entries_at, is_some_list, batch_at}
use Rattle.pg_records.proofs.EntryLaws.{entry_takes, entry_again, entry_shortens}

-- what the entries read so far and those behind them are
abbrev pub with_front : List Entry → Option (List Entry) → Option (List Entry)
with_front front read = read >>= λ entries. Some (front ++ entries)

nothing_there : entry_at [] ≡ None
unfolding entry_at
nothing_there = refl

-- an entry, and those behind it
pub one_more : (most : ℕ) (bytes : List ℕ) (x : Entry × List ℕ) → entry_at bytes ≡ Some x → entries_at (suc most) bytes ≡ with_front (x.0 ∷ []) (entries_at most x.1)
unfolding entries_at
one_more most [] x e = absurd (let nothing : None ≡ Some x = sym nothing_there ∙ e in cc)
one_more most (byte ∷ bytes) x e = rw e refl

-- where no entry is, there are no entries
pub none_more : (most : ℕ) (byte : ℕ) (bytes : List ℕ) → entry_at (byte ∷ bytes) ≡ None → entries_at most (byte ∷ bytes) ≡ None
unfolding entries_at
none_more zero byte bytes e = refl
none_more (suc most) byte bytes e = rw e refl

-- where no bytes are left, there are no more entries
pub no_more : (most : ℕ) → entries_at most [] ≡ Some []
unfolding entries_at
no_more zero = refl
no_more (suc most) = refl

entries_take : (most : ℕ) (bytes : List ℕ) (entries : List Entry) → IsBytes bytes → entries_at most bytes ≡ Some entries → (bytes ≡ batch_bytes entries) × HaveFields entries
unfolding entries_at
entries_take zero [] entries fits e = subst (λ (es : List Entry). ([] ≡ batch_bytes es) × HaveFields es) (some_is [] entries e) (refl, tt)
entries_take zero (byte ∷ bytes) entries fits e = absurd cc
entries_take (suc most) [] entries fits e = subst (λ (es : List Entry). ([] ≡ batch_bytes es) × HaveFields es) (some_is [] entries e) (refl, tt)
entries_take (suc most) (byte ∷ bytes) entries fits e =
    let a = bind_some (entry_at (byte ∷ bytes)) _ entries e in
    let b = bind_some (entries_at most a.0.1) _ entries a.2 in
    let first = entry_takes (byte ∷ bytes) a.0 fits a.1 in
    let others = entries_take most a.0.1 b.0 first.0.rest_fits b.1 in
    let whole : byte ∷ bytes ≡ batch_bytes (a.0.0 ∷ b.0) = first.0.parts ∙ ap (λ (t : List ℕ). entry_bytes a.0.0 ++ t) others.0 in
    subst (λ (es : List Entry). (byte ∷ bytes ≡ batch_bytes es) × HaveFields es) (some_is (a.0.0 ∷ b.0) entries b.2) (whole, (first.1, others.1))

entries_again : (most : ℕ) (entries : List Entry) → HaveFields entries → length (batch_bytes entries) ≤ most → entries_at most (batch_bytes entries) ≡ Some entries
entries_again most [] fields enough = no_more most
entries_again zero (entry ∷ entries) fields enough = absurd (let shorter = entry_shortens entry (batch_bytes entries) in omega arith)
entries_again (suc most) (entry ∷ entries) fields enough =
    let shorter = entry_shortens entry (batch_bytes entries) in
    one_more most (entry_bytes entry ++ batch_bytes entries) (entry, batch_bytes entries) (entry_again entry (batch_bytes entries) fields.0)
    ∙ ap (with_front (entry ∷ [])) (entries_again most entries fields.1 (omega arith))

is_some : (entries : List Entry) → is_some_list entries ≡ true → entries ≢ []
is_some [] e = absurd cc
is_some (entry ∷ entries) e = λ none. absurd cc

pub batch_takes : (bytes : List ℕ) (entries : List Entry) → IsBytes bytes → batch_at bytes ≡ Some entries → SpellsBatch bytes entries
unfolding batch_at
batch_takes bytes entries fits e =
    let a = bind_some (entries_at (length bytes) bytes) _ entries e in
    let passed = cond_some _ _ _ a.2 in
    let read = entries_take (length bytes) bytes a.0 fits a.1 in
    subst (SpellsBatch bytes) passed.1 (record { bytes = read.0; some = is_some a.0 passed.0; fields = read.1 })

has_some : (entries : List Entry) → entries ≢ [] → is_some_list entries ≡ true
has_some [] some = absurd (some refl)
has_some (entry ∷ entries) some = refl

pub batch_again : (bytes : List ℕ) (entries : List Entry) → SpellsBatch bytes entries → batch_at bytes ≡ Some entries
unfolding batch_at
batch_again bytes entries spells =
    let read : entries_at (length bytes) bytes ≡ Some entries = subst (λ (t : List ℕ). entries_at (length t) t ≡ Some entries) (sym spells.bytes) (entries_again (length (batch_bytes entries)) entries spells.fields (omega arith)) in
    rw (read, has_some entries spells.some) refl

-- bytes spell at most one list
pub same_batch : (bytes : List ℕ) (a b : List Entry) → SpellsBatch bytes a → SpellsBatch bytes b → a ≡ b
same_batch bytes a b spells_a spells_b = some_is a b (sym (batch_again bytes a spells_a) ∙ batch_again bytes b spells_b)

-- what was read is what is spelled
pub reads_only : (bytes : List ℕ) (read entries : List Entry) → batch_at bytes ≡ Some read → SpellsBatch bytes entries → read ≡ entries
reads_only bytes read entries e spells = some_is read entries (sym e ∙ batch_again bytes entries spells)

-- where nothing was read, nothing is spelled
pub reads_none : (bytes : List ℕ) (entries : List Entry) → batch_at bytes ≡ None → SpellsBatch bytes entries → ⊥
reads_none bytes entries e spells = let both : None ≡ Some entries = sym e ∙ batch_again bytes entries spells in cc

-- ---- the loop

-- the entries of the bytes are those that were read, and those that the rest is
pub record ReadSoFar (bytes rest : List ℕ) (entries : List Entry) : Type 0 where
  pub fits : IsBytes rest
  pub most : ℕ
  pub enough : length rest ≤ most
  pub so_far : with_front entries (entries_at most rest) ≡ entries_at (length bytes) bytes

with_none : (read : Option (List Entry)) → with_front [] read ≡ read
with_none (Some entries) = refl
with_none None = refl

-- nothing is read at the start
pub starts : (bytes : List ℕ) → IsBytes bytes → ReadSoFar bytes bytes []
starts bytes fits = record { fits = fits; most = length bytes; enough = omega arith; so_far = with_none (entries_at (length bytes) bytes) }

regroup : (front : List Entry) (entry : Entry) (read : Option (List Entry)) → with_front front (with_front (entry ∷ []) read) ≡ with_front (front ++ entry ∷ []) read
regroup front entry (Some entries) = ap (λ (es : List Entry). Some es) (sym (append_assoc front (entry ∷ []) entries))
regroup front entry None = refl

-- fewer bytes are left behind an entry that was read
pub shorter : (bytes : List ℕ) (x : Entry × List ℕ) → IsBytes bytes → entry_at bytes ≡ Some x → length x.1 < length bytes
shorter bytes x fits e = let taken = entry_takes bytes x fits e in rw taken.0.parts (entry_shortens x.0 x.1)

-- one entry more is read
pub keeps_reading : (bytes rest : List ℕ) (entries : List Entry) (x : Entry × List ℕ) → ReadSoFar bytes rest entries → entry_at rest ≡ Some x → ReadSoFar bytes x.1 (entries ++ x.0 ∷ [])
keeps_reading bytes rest entries x read e =
    let less = shorter rest x read.fits e in
    let enough = read.enough in
    let more : read.most ≡ suc (read.most - 1) = omega arith in
    let one : with_front entries (entries_at read.most rest) ≡ with_front (entries ++ x.0 ∷ []) (entries_at (read.most - 1) x.1) =
    ap (λ (most : ℕ). with_front entries (entries_at most rest)) more
    ∙ ap (with_front entries) (one_more (read.most - 1) rest x e)
    ∙ regroup entries x.0 (entries_at (read.most - 1) x.1) in
    record { fits = (entry_takes rest x read.fits e).0.rest_fits; most = read.most - 1; enough = omega arith; so_far = sym one ∙ read.so_far }

-- no entry stands where bytes are left
pub stops : (bytes rest : List ℕ) (entries : List Entry) (error : Unread) → ReadSoFar bytes rest entries → (length rest == 0) ≡ false → Misses error (entry_at rest) → Misses error (entries_at (length bytes) bytes)
stops bytes rest entries unread.Memory read some misses = tt
stops bytes [] entries unread.Malformed read some misses = absurd cc
stops bytes (byte ∷ rest) entries unread.Malformed read some misses = sym read.so_far ∙ ap (with_front entries) (none_more read.most byte rest misses)

-- no bytes are left
pub finishes : (bytes rest : List ℕ) (entries : List Entry) → ReadSoFar bytes rest entries → (length rest == 0) ≡ true → entries_at (length bytes) bytes ≡ Some entries
finishes bytes rest entries read none =
    sym read.so_far
    ∙ ap (λ (t : List ℕ). with_front entries (entries_at read.most t)) (nil_from_length rest (eqb-true _ _ none))
    ∙ ap (with_front entries) (no_more read.most)
    ∙ ap (λ (es : List Entry). Some es) (append-nil entries)
