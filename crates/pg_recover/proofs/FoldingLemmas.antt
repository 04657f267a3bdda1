-- Payload after payload is folded, up to the end or to one that is broken.
use Rattle.std.proofs.Common.{◌≡◌, inl, inr, ℕ, ◌+◌, ◌<◌, ◌≤◌, List, [], ◌∷◌, ◌++◌, length, map, get_or, take, drop, Result, Ok, Err, refl, sym, ◌∙◌, ap, subst, arith}
use Rattle.std.specs.Prelude.{IfOk, IfErr}
use Rattle.std.proofs.lemmas.List.{drop_more, map-append, take_all, take_more, take-append-drop}
use Rattle.pg_disk.specs.declared.fault.Damage.{Damage}
use Rattle.pg_disk.specs.declared.fault.Fault.{Fault}
use Rattle.pg_disk.specs.declared.fault.Fault.TheVariants.{Failed, Damaged, Spent}
use Rattle.pg_disk.specs.declared.fault.Fault.TheVariants.{Memory as NoMemory}
use Rattle.pg_disk.specs.declared.fault.Rule.{Rule}
use Rattle.pg_disk.specs.declared.file_id.FileId.{FileId}
use Rattle.pg_gate.specs.declared.spans.Span.{Span}
use Rattle.pg_records.specs.declared.entry.Entry.{Entry}
use Rattle.pg_records.specs.Entries.{SpellsBatch}
use Rattle.pg_records.proofs.BatchLaws.{same_batch}
use Rattle.pg_fold.specs.declared.durable.Durable.{Durable}
use Rattle.pg_fold.specs.declared.fold_error.FoldError.{FoldError}
use Rattle.pg_fold.specs.declared.fold_error.FoldError.TheVariants.{Broken, Memory}
use Rattle.pg_fold.specs.Fold.{Breaks, Folds, IsApplied}
use Rattle.pg_fold.proofs.FoldLaws.{broken_never, folds_applied, folds_cut, folds_one, folds_parts}
use Rattle.pg_recover.specs.Folding.{FoldsPayload, FoldsFrom, HaveBroken, IsBroken, IsBrokenAmong, IsBrokenPayload, IsDamage, IsDamageAt}

-- a payload leads to one state
one_state : (d e f : Durable) (payload : List ℕ) → FoldsPayload d payload e → FoldsPayload d payload f → e ≡ f
one_state d e f payload this that = folds_one d e f that.entries (subst (λ es. Folds d es e) (same_batch payload this.entries that.entries this.spelled that.spelled) this.folded) that.folded

-- a payload, and those behind it
pub payload_first : (d e after : Durable) (payload : List ℕ) (payloads : List (List ℕ)) → FoldsPayload d payload e → FoldsFrom e payloads after → FoldsFrom d (payload ∷ payloads) after
payload_first d e after payload payloads this folds = record {
  entries = this.entries ++ folds.entries;
  spelled = (this.entries, folds.entries, this.spelled, folds.spelled, refl);
  folded = folds_parts d e after this.entries folds.entries this.folded folds.folded;
}

-- the first payload, and those behind it
pub parts : (d after : Durable) (payload : List ℕ) (payloads : List (List ℕ)) → FoldsFrom d (payload ∷ payloads) after → (m : Durable) × FoldsPayload d payload m × FoldsFrom m payloads after
parts d after payload payloads folds =
    let first = folds.spelled.0 in
    let others = folds.spelled.1 in
    let m = folds_cut d after first others (subst (λ es. Folds d es after) folds.spelled.4 folds.folded) in (
      m.0,
      record { entries = first; spelled = folds.spelled.2; folded = m.1 },
      record { entries = others; spelled = folds.spelled.3; folded = m.2 },
    )

pub folds_nothing : (d : Durable) → FoldsFrom d [] d
folds_nothing d = record { entries = []; spelled = refl; folded = refl }

pub nothing_folds : (d after : Durable) → FoldsFrom d [] after → d ≡ after
nothing_folds d after folds = sym (subst (λ es. Folds d es after) folds.spelled folds.folded)

-- all of the payloads in front
pub front_parts : (d after : Durable) (ps qs : List (List ℕ)) → FoldsFrom d (ps ++ qs) after → (m : Durable) × FoldsFrom d ps m × FoldsFrom m qs after
front_parts d after [] qs folds = (d, folds_nothing d, folds)
front_parts d after (p ∷ ps) qs folds =
    let one = parts d after p (ps ++ qs) folds in
    let more = front_parts one.0 after ps qs one.2 in
    (more.0, payload_first d one.0 more.0 p ps one.1 more.1, more.2)

-- payloads, and others behind them
pub folds_then : (d e after : Durable) (ps qs : List (List ℕ)) → FoldsFrom d ps e → FoldsFrom e qs after → FoldsFrom d (ps ++ qs) after
folds_then d e after [] qs first second = subst (λ s. FoldsFrom s qs after) (sym (nothing_folds d e first)) second
folds_then d e after (p ∷ ps) qs first second = let one = parts d e p ps first in payload_first d one.0 after p (ps ++ qs) one.1 (folds_then one.0 e after ps qs one.2 second)

-- payloads lead to one state
pub one_end : (d e f : Durable) (ps : List (List ℕ)) → FoldsFrom d ps e → FoldsFrom d ps f → e ≡ f
one_end d e f [] this that = sym (nothing_folds d e this) ∙ nothing_folds d f that
one_end d e f (p ∷ ps) this that =
    let one = parts d e p ps this in
    let other = parts d f p ps that in
    one_end one.0 e f ps one.2 (subst (λ s. FoldsFrom s ps f) (one_state d other.0 one.0 p other.1 one.1) other.2)

-- ---- entry after entry
-- the entries in front lead to a state, and the condition of the next one holds there
pub entry_applied : (start d after : Durable) (entries : List Entry) (n : ℕ) (x : Entry) → n < length entries → x ≡ get_or entries n x → Folds start (take n entries) d → IsApplied d x after
    → Folds start (take (n + 1) entries) after
entry_applied start d after entries n x inside is so_far here =
    subst (λ es. Folds start es after) (sym (take_more entries n x inside ∙ ap (λ e. take n entries ++ e ∷ []) (sym is))) (folds_applied start d after (take n entries) x so_far here)

-- or fails
pub entry_broken : (start d : Durable) (entries : List Entry) (n : ℕ) (x : Entry) (rule : Rule) → n < length entries → x ≡ get_or entries n x → Folds start (take n entries) d → Breaks d x rule → HaveBroken start entries rule
entry_broken start d entries n x rule inside is so_far broken = record {
  before = take n entries;
  entry = x;
  behind = drop (n + 1) entries;
  are = sym (take-append-drop n entries) ∙ ap (λ l. take n entries ++ l) (drop_more entries n x inside ∙ ap (λ e. e ∷ drop (n + 1) entries) (sym is));
  state = d;
  folded = so_far;
  broken = broken;
}

pub entries_done : (start d : Durable) (entries : List Entry) (n : ℕ) → n ≡ length entries → Folds start (take n entries) d → Folds start entries d
entries_done start d entries n is so_far = subst (λ es. Folds start es d) (take_all n entries (omega (arith, is))) so_far

-- a payload that was decoded, whose entries were folded
pub payload_folds : (d : Durable) (payload : List ℕ) (entries : List Entry) → SpellsBatch payload entries → (result : Result Durable FoldError) → IfOk result (Folds d entries) → IfOk result (FoldsPayload d payload)
payload_folds d payload entries spelled (Ok after) folded = record { entries = entries; spelled = spelled; folded = folded }
payload_folds d payload entries spelled (Err e) folded = tt

-- or weren't
pub payload_breaks : (d : Durable) (payload : List ℕ) (entries : List Entry) → SpellsBatch payload entries → (result : Result Durable FoldError) → IfErr result (IsBroken (HaveBroken d entries)) → IfErr result (IsBroken (IsBrokenPayload d payload))
payload_breaks d payload entries spelled (Ok after) breaks = tt
payload_breaks d payload entries spelled (Err (Broken rule)) breaks = inr (entries, spelled, breaks)
payload_breaks d payload entries spelled (Err Memory) breaks = tt

-- a broken payload leads nowhere
pub broken_nowhere : (d after : Durable) (payload : List ℕ) (rule : Rule) → IsBrokenPayload d payload rule → FoldsPayload d payload after → ⊥
broken_nowhere d after payload rule (inl unspelled) folds = unspelled.1 folds.entries folds.spelled
broken_nowhere d after payload rule (inr broken) folds = broken_never this.state halves.2.0 this.entry rule this.broken (subst (λ s. IsApplied s this.entry halves.2.0) at halves.2.1)
  where
    this : HaveBroken d broken.0 rule
    this = broken.2

    same : broken.0 ≡ folds.entries
    same = same_batch payload broken.0 folds.entries broken.1 folds.spelled

    halves : (between : Durable) × Folds d this.before between × Folds between (this.entry ∷ this.behind) after
    halves = folds_cut d after this.before (this.entry ∷ this.behind) (subst (λ es. Folds d es after) (sym same ∙ this.are) folds.folded)

    at : halves.0 ≡ this.state
    at = folds_one d halves.0 this.state this.before halves.1 this.folded

-- places of payloads, one after the other
module _ (payload : Span → List ℕ) (start d : Durable) (spans : List Span) (i : ℕ) (default : Span) (inside : i < length spans) (so_far : FoldsFrom start (map payload (take i spans)) d) where
  pub span_step : (e : Durable) → FoldsPayload d (payload (get_or spans i default)) e → FoldsFrom start (map payload (take (i + 1) spans)) e
  span_step e folds =
      subst (λ ps. FoldsFrom start ps e) (sym (ap (map payload) (take_more spans i default inside) ∙ map-append payload (take i spans) (get_or spans i default ∷ [])))
      (folds_then start d e (map payload (take i spans)) (payload (get_or spans i default) ∷ []) so_far (payload_first d e e (payload (get_or spans i default)) [] folds (folds_nothing e)))

  pub span_broken : (file : FileId) (damage : Damage) (read : List ℕ) → read ≡ payload (get_or spans i default) → IsDamageAt file (get_or spans i default).at (IsBrokenPayload d read) damage
      → IsBrokenAmong payload file start spans damage
  span_broken file damage read is named = record {
    before = take i spans;
    place = get_or spans i default;
    behind = drop (i + 1) spans;
    are = sym (take-append-drop i spans) ∙ ap (λ l. take i spans ++ l) (drop_more spans i default inside);
    state = d;
    folds = so_far;
    named = subst (λ p. IsDamageAt file (get_or spans i default).at (IsBrokenPayload d p) damage) is named;
  }

pub spans_done : (payload : Span → List ℕ) (start d : Durable) (spans : List Span) (i : ℕ) → length spans ≤ i → FoldsFrom start (map payload (take i spans)) d → FoldsFrom start (map payload spans) d
spans_done payload start d spans i past so_far = subst (λ l. FoldsFrom start (map payload l) d) (take_all i spans past) so_far

-- what is said of damage
pub damage_weaker : (P Q : Damage → Type 0) (e : Fault) → ((damage : Damage) → P damage → Q damage) → IsDamage P e → IsDamage Q e
damage_weaker P Q Failed then is = is
damage_weaker P Q (Damaged damage) then is = then damage is
damage_weaker P Q Spent then is = is
damage_weaker P Q NoMemory then is = tt
