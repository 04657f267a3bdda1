-- What damage names is broken, so the files aren't well formed.
use Rattle.std.proofs.Common.{◌≡◌, ◌≢◌, inl, inr, ℕ, ◌+◌, ◌-◌, List, [], ◌∷◌, ◌++◌, length, map, Option, Some, None, Result, Ok, Err, refl, sym, ◌∙◌, ap, subst, arith}
use Rattle.std.specs.Prelude.{IfErr}
use Rattle.std.specs.List.{Contains}
use Rattle.std.proofs.lemmas.List.{length-append, map-append}
use Rattle.std.proofs.lemmas.List.Elements.{All-contains, All-nil}
use Rattle.pg_disk.specs.declared.fault.Damage.{Damage}
use Rattle.pg_disk.specs.declared.fault.Fault.{Fault}
use Rattle.pg_disk.specs.declared.fault.Fault.TheVariants.{Failed, Damaged, Spent, Memory}
use Rattle.pg_disk.specs.declared.fault.Rule.{Rule}
use Rattle.pg_disk.specs.declared.file_id.FileId.{FileId}
use Rattle.pg_disk.specs.declared.file_id.Kind.{Kind}
use Rattle.pg_disk.specs.declared.file_id.Kind.TheVariants.{Journal, Large}
use Rattle.pg_disk.specs.Account.{Account, account, IsHonest}
use Rattle.pg_disk.specs.Views.{Contents, as_read, bytes_of}
use Rattle.pg_gate.specs.declared.spans.Span.{Span}
use Rattle.pg_gate.specs.Gated.{HasNone, opened}
use Rattle.pg_gate.specs.Spans.{spans_of}
use Rattle.pg_fold.specs.declared.durable.Durable.{Durable}
use Rattle.pg_fold.specs.Fold.{fresh}
use Rattle.pg_journal.specs.Generations.{GoesOn, IsGeneration, JournalOf}
use Rattle.pg_journal.specs.Looks.{IsCutGeneration}
use Rattle.pg_journal.proofs.Law.{journal_unique}
use Rattle.pg_recover.specs.Damaging.{HasBroken, HasNoRoom, IsBehindGap, IsBrokenFile, IsBrokenThere, OnDamage}
use Rattle.pg_recover.specs.Folding.{FoldsFrom, IsBrokenAmong, IsBrokenPayload, IsDamageOnly}
use Rattle.pg_gate.specs.Payloads.{payload_at, payloads_at}
use Rattle.pg_recover.specs.Recovered.{IsIllFormed}
use Rattle.pg_recover.specs.WellFormed.{AreRoomy, IsGapless, IsNamed, WellFormed}
use Rattle.pg_recover.proofs.FoldingLemmas.{broken_nowhere, front_parts, nothing_folds, one_end, parts}
use Rattle.pg_recover.proofs.OneState.{folds_of, one_folded, state_is}

-- where the journal has a batch, the file with which it goes on has its batches
none_there : (contents : Contents) → ((file : FileId) → file.kind ≡ Journal → contents file ≡ None) → (file : FileId) → file.kind ≡ Journal → HasNone (contents file)
none_there contents none file kind = subst HasNone (sym (none file kind)) tt

pub generation_of : (contents : Contents) (file : FileId) (batches : List (List ℕ)) → GoesOn contents file → JournalOf contents batches → batches ≢ [] → IsGeneration contents file batches
generation_of contents file batches (inl own) says some = subst (IsGeneration contents file) (journal_unique contents own.0 batches (inl (file, own.1)) says) own.1
generation_of contents file batches (inr (inl last)) says some = absurd (some (journal_unique contents batches [] says (inr (last.0, refl))))
generation_of contents file batches (inr (inr none)) says some = absurd (some (journal_unique contents batches [] says (inr (none_there contents none.0, refl))))

abbrev first_at : List Span → ℕ
first_at [] = 0
first_at (span ∷ spans) = span.at

-- the payload at one of the places of the batches begins behind those in front, a gate and a length
place_behind : (f : Span → List ℕ) (gate : ℕ) (batches : List (List ℕ)) (before : List Span) (place : Span) (behind : List Span) → spans_of gate batches ≡ before ++ place ∷ behind → map f (spans_of gate batches) ≡ batches
    → place.at ≡ gate + length (opened (map f before)) + 9
place_behind f gate [] [] place behind are payloads = cc
place_behind f gate [] (span ∷ before) place behind are payloads = cc
place_behind f gate (p ∷ ps) [] place behind are payloads = at_first gate (length p) (spans_of (gate + 9 + length p) ps) place behind are
  where
    at_first : (gate size : ℕ) (spans : List Span) (place : Span) (behind : List Span) → ◌≡◌ {A = List Span} (record { at = gate + 9; length = size } ∷ spans) (place ∷ behind) → place.at ≡ gate + 0 + 9
    at_first gate size spans place behind are = omega (arith, ap first_at are)
place_behind f gate (p ∷ ps) (span ∷ before) place behind are payloads =
    let one : f span ≡ p = sym (ap f (head_is (record { at = gate + 9; length = length p }) span (spans_of (gate + 9 + length p) ps) (before ++ place ∷ behind) are)) ∙ head_is _ p _ ps payloads in
    let more = place_behind f (gate + 9 + length p) ps before place behind (tail_is _ span _ (before ++ place ∷ behind) are) (tail_is _ p _ ps payloads) in
    let size : length (f span) ≡ length p = ap length one in
    omega (arith, more, size, length-append (f span) (opened (map f before)))
  where
    head_is : {X : Type 0} (x y : X) (xs ys : List X) → ◌≡◌ {A = List X} (x ∷ xs) (y ∷ ys) → x ≡ y
    head_is x y xs ys e = cc

    tail_is : {X : Type 0} (x y : X) (xs ys : List X) → ◌≡◌ {A = List X} (x ∷ xs) (y ∷ ys) → xs ≡ ys
    tail_is x y xs ys e = cc

-- a payload that is broken among those at the places of the journal's batches
pub placed_broken : (contents : Contents) (file : FileId) (bytes : List ℕ) (batches : List (List ℕ)) (damage : Damage) → JournalOf contents batches → GoesOn contents file → payloads_at bytes (spans_of 0 batches) ≡ batches
    → IsBrokenAmong (payload_at bytes) file fresh (spans_of 0 batches) damage → HasBroken contents damage.file damage.at damage.rule
placed_broken contents file bytes batches damage says goes_on placed broken = record {
  before = payloads_at bytes broken.before;
  payload = payload_at bytes broken.place;
  behind = payloads_at bytes broken.behind;
  journal = subst (λ f. IsGeneration contents f (payloads_at bytes broken.before ++ payload_at bytes broken.place ∷ payloads_at bytes broken.behind)) (sym broken.named.of_file) (subst (IsGeneration contents file) are (generation_of contents file batches goes_on says (λ none. apart (payloads_at bytes broken.before) (sym none ∙ are))));
  offset = omega (arith, broken.named.offset, place_behind (payload_at bytes) 0 batches broken.before broken.place broken.behind broken.are placed);
  state = broken.state;
  folds = broken.folds;
  broken = broken.named.breaks;
}
  where
    are : batches ≡ payloads_at bytes broken.before ++ payload_at bytes broken.place ∷ payloads_at bytes broken.behind
    are = sym placed ∙ ap (payloads_at bytes) broken.are ∙ map-append (payload_at bytes) broken.before (broken.place ∷ broken.behind)

    apart : (l : List (List ℕ)) → ◌≡◌ {A = List (List ℕ)} [] (l ++ payload_at bytes broken.place ∷ payloads_at bytes broken.behind) → ⊥
    apart [] e = cc
    apart (p ∷ ps) e = cc

-- a generation that is cut
pub cut_named : (tells : Option Account) (e : Fault) → IsCutGeneration tells e → IsDamageOnly (λ damage. IsHonest tells → IsBrokenThere (as_read (account tells).files) damage) e
cut_named tells Failed is = tt
cut_named tells (Damaged damage) is = λ honest. let cut = is.2 honest in inl (is.1, record { kind = is.0; bytes = cut.state.bytes; there = ap bytes_of cut.there; cut = cut.cut })
cut_named tells Spent is = is
cut_named tells Memory is = tt

-- a state without room isn't that of a journal without a batch
pub no_room : (contents : Contents) (file : FileId) (batches : List (List ℕ)) (d : Durable) → GoesOn contents file → JournalOf contents batches → FoldsFrom fresh batches d → (AreRoomy d → ⊥) → HasNoRoom contents file
no_room contents file batches d goes_on says folds full = record {
  batches = batches;
  journal = generation_of contents file batches goes_on says (λ none. full (subst AreRoomy (nothing_folds fresh d (subst (λ bs. FoldsFrom fresh bs d) none folds)) (All-nil _)));
  state = d;
  folds = folds;
  full = full;
}

-- none of that is so of files that are well formed
broken_ill : (contents : Contents) (file : FileId) (at : ℕ) (rule : Rule) → HasBroken contents file at rule → WellFormed contents → ⊥
broken_ill contents file at rule broken well =
    let batches = broken.before ++ broken.payload ∷ broken.behind in
    let folds = folds_of contents batches well.state (inl (file, broken.journal)) well.folds in
    let front = front_parts fresh well.state broken.before (broken.payload ∷ broken.behind) folds in
    let one = parts front.0 well.state broken.payload broken.behind front.2 in
    let same : front.0 ≡ broken.state = one_end fresh front.0 broken.state broken.before front.1 broken.folds in
    broken_nowhere front.0 one.0 broken.payload rule (subst (λ d. IsBrokenPayload d broken.payload rule) (sym same) broken.broken) one.1

gap_ill : (contents : Contents) (file : FileId) → IsBehindGap contents file → WellFormed contents → ⊥
gap_ill contents file gap well =
    let same : gap.state ≡ well.state = one_folded contents gap.state well.state gap.folds well.folds in
    let gapless = All-contains (IsGapless contents) well.state.addresses gap.row well.gapless (subst (λ (d : Durable). Contains d.addresses gap.row) same gap.known) in
    let before = gapless file.number (gap.there.0, sym (ap contents gap.page) ∙ gap.there.1) (file.number - 1) (omega (arith, gap.past)) (omega arith) in
    none_is before.0 (sym gap.gap ∙ before.1)
  where
    none_is : (bytes : List ℕ) → ◌≡◌ {A = Option (List ℕ)} None (Some bytes) → ⊥
    none_is bytes e = cc

file_ill : (contents : Contents) (file : FileId) (rule : Rule) → IsBrokenFile contents file rule → WellFormed contents → ⊥
file_ill contents file rule (inl named) well =
    let same : named.1.state ≡ well.state = one_folded contents named.1.state well.state named.1.folds well.folds in
    named.1.misnamed (subst (λ (d : Durable). IsNamed d.addresses file) (sym same) (well.named file named.1.there))
file_ill contents file rule (inr (inl gap)) well = gap_ill contents file gap.1 well
file_ill contents file rule (inr (inr room)) well =
    room.1.full (subst AreRoomy (state_is contents room.1.batches room.1.state well.state (inl (file, room.1.journal)) room.1.folds well.folds) well.roomy)

journal_not_large : (kind : Kind) → kind ≡ Journal → kind ≢ Large
journal_not_large kind is large = apart (sym is ∙ large)
  where
    apart : Journal ≡ Large → ⊥
    apart e = cc

pub names_ill : (contents : Contents) (damage : Damage) → IsBrokenThere contents damage → WellFormed contents → ⊥
names_ill contents damage (inl cut) well = let whole = well.whole damage.file (journal_not_large damage.file.kind cut.1.kind) cut.1.bytes cut.1.there in cut.1.cut.none whole.0 whole.1
names_ill contents damage (inr (inl broken)) well = broken_ill contents damage.file damage.at damage.rule broken well
names_ill contents damage (inr (inr broken)) well = file_ill contents damage.file damage.rule broken.1 well

-- so damage comes only where the files aren't
pub all_ill : {T : Type 0} (tells : Option Account) (result : Result T Fault) → IfErr result (OnDamage (λ damage. IsHonest tells → IsBrokenThere (as_read (account tells).files) damage)) → IfErr result (IsIllFormed tells)
all_ill tells (Ok parts) is = tt
all_ill tells (Err Failed) is = tt
all_ill tells (Err (Damaged damage)) is = λ honest well. names_ill (as_read (account tells).files) damage (is honest) well
all_ill tells (Err Spent) is = tt
all_ill tells (Err Memory) is = tt
