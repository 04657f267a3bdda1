-- The generations are scanned from the last one back.
use Rattle.std.proofs.Common.{◌≡◌, ◌≢◌, ◌⊎◌, inl, inr, ⊎_elim, ℕ, true, false, List, [], ◌∷◌, ◌++◌, length, Option, Some, None, Vec, refl, sym, ◌∙◌, ap, subst, arith}
use Rattle.std.specs.Prelude.{◌==◌, MatchOption}
use Rattle.std.specs.Option.{option_or}
use Rattle.std.specs.declared.alloc.Global.{Global}
use Rattle.std.specs.FinMap.{FinMap, get}
use Rattle.std.specs.List.{AllPairs, Contains}
use Rattle.std.proofs.lemmas.List.Elements.{Contains-append_left, Contains-push, Contains-push_cases}
use Rattle.pg_disk.specs.declared.file_id.FileId.{FileId}
use Rattle.pg_disk.specs.declared.file_id.Kind.TheVariants.{Journal as OfJournal}
use Rattle.pg_disk.specs.Files.{file_cmp}
use Rattle.pg_disk.specs.Account.{FileState}
use Rattle.pg_disk.specs.Image.{IsFileThere}
use Rattle.pg_gate.specs.Gated.{opened, Batches, HasBatches, HasNone, RestsAt, file_of}
use Rattle.pg_gate.specs.Spans.{IsScanned, spans_of}
use Rattle.pg_gate.specs.declared.at_rest.Rest.{Rest}
use Rattle.pg_gate.specs.declared.spans.Span.{Span}
use Rattle.pg_gate.proofs.Sealing.{batches_from}
use Rattle.pg_gate.proofs.Unique.{stands_fit}
use Rattle.pg_journal.specs.declared.journal.Journal.{Journal}
use Rattle.pg_journal.specs.Generations.{IsAscending, IsBefore, IsGeneration, IsLastThere, HasNoGeneration, HasNoneThere}
use Rattle.pg_disk.specs.Views.{as_read, bytes_of}
use Rattle.pg_journal.specs.Looks.{AreGenerations, IsFound}
use Rattle.pg_journal.specs.Stands.{name_of, IsIdle, ComesToRest, StaysOrComesToRest}
use Rattle.pg_journal.proofs.Cuts.{none_placed, some_placed}
use Rattle.pg_journal.proofs.Law.{none_alone}
use Rattle.pg_journal.proofs.Order.{same_or_not, not_itself_by}
use Rattle.pg_journal.proofs.Peeking.{InOrder, front_pairs, with_last, none_behind, contains_none}

-- a file at rest without a batch has none
pub rests_none : (gate : ℕ) (s : FileState) → RestsAt gate [] (Some s) → Batches s.bytes []
rests_none gate s rests = batches_from s.bytes [] rests.front.closed rests.front.shut rests.front.holds

rests_first : (gate : ℕ) (o : Option FileState) → RestsAt gate [] o → gate ≡ 0
rests_first gate None rests = absurd rests
rests_first gate (Some s) rests = rests.front.place

rests_idle : (gate : ℕ) (o : Option FileState) → RestsAt gate [] o → IsIdle o
rests_idle gate None rests = absurd rests
rests_idle gate (Some s) rests = (rests.quiet, rests_none gate s rests)

pub settles_idle : (s t : Option FileState) → ComesToRest s t → IsIdle t
settles_idle None t settles = subst IsIdle (sym settles) tt
settles_idle (Some s) t settles = rests_idle 0 t settles.1

pub settles_none : (s t : Option FileState) → ComesToRest s t → HasNone (bytes_of s)
settles_none None t settles = tt
settles_none (Some s) t settles = settles.0

-- what was there is there
pub stays_there : (s : FileState) (t : Option FileState) → StaysOrComesToRest (Some s) t → (u : FileState) × (t ≡ Some u)
stays_there s t (inl same) = (s, same)
stays_there s None (inr settles) = absurd settles.1
stays_there s (Some u) (inr settles) = (u, refl)

-- and what isn't isn't
pub stays_away : (s t : Option FileState) → s ≡ None → StaysOrComesToRest s t → t ≡ None
stays_away s t absent (inl same) = same ∙ absent
stays_away None t absent (inr settles) = settles
stays_away (Some s) t absent (inr settles) = cc

one_state : (u s : FileState) → ◌≡◌ {A = Option FileState} (Some u) (Some s) → u ≡ s
one_state u s e = cc

-- of the bytes as they are now those at first had no batch
none_first : (s u : FileState) → StaysOrComesToRest (Some s) (Some u) → Batches u.bytes [] → Batches s.bytes []
none_first s u (inl same) none = subst (λ (v : FileState). Batches v.bytes []) (one_state u s same) none
none_first s u (inr settles) none = settles.0

-- where they have some they are as at first
some_first : (s : Option FileState) (u : FileState) (batches : List (List ℕ)) → StaysOrComesToRest s (Some u) → Batches u.bytes batches → batches ≢ [] → s ≡ Some u
some_first s u batches (inl same) has some = sym same
some_first None u batches (inr settles) has some = cc
some_first (Some s) u batches (inr settles) has some = absurd (some (none_alone u.bytes batches (rests_none 0 u settles.1) has))

-- the last generation that is there, which was scanned and has no batch
pub record IsLast (journal : Journal) (spans : List Span) (old now : FinMap file_cmp FileState) : Type 0 where
  pub is_last : IsLastThere (as_read old) (name_of journal)
  pub rests : RestsAt journal.rest.gate [] (get now (name_of journal))
  pub none : spans ≡ []

-- that one, or no generation was scanned
abbrev pub LastOf : List FileId → Option (Journal × Vec Span Global) → FinMap file_cmp FileState → FinMap file_cmp FileState → Type 0
LastOf left None old now = (file : FileId) → file.kind ≡ OfJournal → Contains left file ⊎ (get old file ≡ None)
LastOf left (Some found) old now = IsLast found.0 found.1.items old now

-- These generations are left to be scanned, and each other one had no batch and is at rest without one.
pub record IsScannedTo (left : List FileId) (found : Option (Journal × Vec Span Global)) (old now : FinMap file_cmp FileState) : Type 0 where
  pub ascending : IsAscending left
  pub distinct : AllPairs (λ a b. a ≢ b) left
  pub fresh : (file : FileId) → Contains left file → get now file ≡ get old file
  pub there : (file : FileId) → Contains left file → (file.kind ≡ OfJournal) × IsFileThere file old
  pub each : (file : FileId) → file.kind ≡ OfJournal → StaysOrComesToRest (get old file) (get now file)
  pub behind : (file : FileId) → file.kind ≡ OfJournal → Contains left file ⊎ ComesToRest (get old file) (get now file)
  pub last : LastOf left found old now

pub none_scanned : (generations : List FileId) (files : FinMap file_cmp FileState) → AreGenerations generations files → IsScannedTo generations None files files
none_scanned generations files are = record {
  ascending = are.ascending;
  distinct = are.distinct;
  fresh = λ file is_in. refl;
  there = are.there;
  each = λ file kind. inl refl;
  behind = λ file kind. ⊎_elim inl (λ absent. inr (subst (λ o. ComesToRest o o) (sym absent) refl)) (are.all file kind);
  last = are.all;
}

module _ (old mid : FinMap file_cmp FileState) (left : List FileId) (file : FileId) (last : Option (Journal × Vec Span Global)) (so_far : IsScannedTo (left ++ file ∷ []) last old mid) where
  pub next_there : (file.kind ≡ OfJournal) × IsFileThere file old
  next_there = so_far.there file (Contains-push left file)

  pub next_now : IsFileThere file mid
  next_now = stays_there next_there.1.0 (get mid file) (subst (λ s. StaysOrComesToRest s (get mid file)) next_there.1.1 (so_far.each file next_there.0))

  next_stays : StaysOrComesToRest (Some next_there.1.0) (Some next_now.0)
  next_stays = subst (λ t. StaysOrComesToRest (Some next_there.1.0) t) next_now.1 (subst (λ s. StaysOrComesToRest s (get mid file)) next_there.1.1 (so_far.each file next_there.0))

  module _ (now : FinMap file_cmp FileState) (rest : Rest) (spans : Vec Span Global) (own : file_of rest ≡ file) (scanned : (s : FileState) → get mid file ≡ Some s → IsScanned s.bytes rest spans.items (get now file))
      (others : (f : FileId) → f ≢ file → get now f ≡ get mid f) where
    is : IsScanned next_now.0.bytes rest spans.items (get now file)
    is = scanned next_now.0 next_now.1

    -- where the next one has no batch
    module _ (none : true ≡ (spans.len == 0)) where
      no_batch : is.batches ≡ []
      no_batch = none_placed spans.items spans.len is.batches is.places spans.ok.0 none

      at_first_gate : rest.gate ≡ 0
      at_first_gate = omega (arith, is.counted, ap (λ (bs : List (List ℕ)). length (opened bs)) no_batch)

      rests : RestsAt 0 [] (get now file)
      rests = subst (λ (gate : ℕ). RestsAt gate [] (get now file)) at_first_gate (subst (λ bs. RestsAt rest.gate bs (get now file)) no_batch is.stands)

      settled : ComesToRest (get old file) (get now file)
      settled = subst (λ s. ComesToRest s (get now file)) (sym next_there.1.1) (none_first next_there.1.0 next_now.0 next_stays (subst (λ bs. Batches next_now.0.bytes bs) no_batch is.are), rests)

      keeps_last : (l : Option (Journal × Vec Span Global)) → LastOf (left ++ file ∷ []) l old mid → LastOf left (option_or l (Some (record { rest = rest }, spans))) old now
      keeps_last None all = record {
        is_last = subst (IsLastThere (as_read old)) (sym own) (record {
          kind = next_there.0;
          there = (next_there.1.0.bytes, ap bytes_of next_there.1.1);
          last = λ other kind before. ⊎_elim (λ is_in. absurd (none_behind left file other so_far.ascending is_in before)) (λ absent. ap bytes_of absent) (all other kind);
        });
        rests = subst (λ (gate : ℕ). RestsAt gate [] (get now (file_of rest))) (sym at_first_gate) (subst (λ f. RestsAt 0 [] (get now f)) (sym own) rests);
        none = is.places ∙ ap (spans_of 0) no_batch;
      }
      keeps_last (Some found) was = record {
        is_last = was.is_last;
        rests = ⊎_elim (λ same. subst (λ (gate : ℕ). RestsAt gate [] (get now (name_of found.0))) (sym (rests_first found.0.rest.gate (get mid (name_of found.0)) was.rests)) (subst (λ f. RestsAt 0 [] (get now f)) (sym same) rests))
            (λ other. subst (λ o. RestsAt found.0.rest.gate [] o) (sym (others (name_of found.0) other)) was.rests) (same_or_not (name_of found.0) file);
        none = was.none;
      }

      pub one_scanned : IsScannedTo left (option_or last (Some (record { rest = rest }, spans))) old now
      one_scanned = record {
        ascending = front_pairs InOrder left file so_far.ascending;
        distinct = front_pairs (λ a b. a ≢ b) left file so_far.distinct;
        fresh = λ other is_in. others other (with_last (λ a b. a ≢ b) left file so_far.distinct other is_in) ∙ so_far.fresh other (Contains-append_left left (file ∷ []) other is_in);
        there = λ other is_in. so_far.there other (Contains-append_left left (file ∷ []) other is_in);
        each = λ other kind. ⊎_elim (λ same. inr (settles_by other same)) (λ ne. subst (λ t. StaysOrComesToRest (get old other) t) (sym (others other ne)) (so_far.each other kind)) (same_or_not other file);
        behind = λ other kind. ⊎_elim (λ same. inr (settles_by other same)) (λ ne. behind other ne (so_far.behind other kind)) (same_or_not other file);
        last = keeps_last last so_far.last;
      }
        where
          settles_by : (other : FileId) → other ≡ file → ComesToRest (get old other) (get now other)
          settles_by other same = subst (λ f. ComesToRest (get old f) (get now f)) (sym same) settled

          behind : (other : FileId) → other ≢ file → Contains (left ++ file ∷ []) other ⊎ ComesToRest (get old other) (get mid other) → Contains left other ⊎ ComesToRest (get old other) (get now other)
          behind other ne (inl is_in) = ⊎_elim inl (λ same. absurd (ne (sym same))) (Contains-push_cases left file other is_in)
          behind other ne (inr settles) = inr (subst (λ t. ComesToRest (get old other) t) (sym (others other ne)) settles)

    -- where it has one
    module _ (some : false ≡ (spans.len == 0)) where
      a_batch : is.batches ≢ []
      a_batch = some_placed spans.items spans.len is.batches is.places spans.ok.0 some

      as_first : get old file ≡ Some next_now.0
      as_first = some_first (get old file) next_now.0 is.batches (subst (λ t. StaysOrComesToRest (get old file) t) next_now.1 (so_far.each file next_there.0)) is.are a_batch

      generation : IsGeneration (as_read old) file is.batches
      generation = record {
        kind = next_there.0;
        has = subst (λ o. HasBatches is.batches (bytes_of o)) (sym as_first) is.are;
        fit = stands_fit rest is.batches (get now file) is.stands;
        some = a_batch;
        last = λ other kind before. ⊎_elim (λ is_in. absurd (none_behind left file other so_far.ascending is_in before)) (settles_none (get old other) (get mid other)) (so_far.behind other kind);
      }

      pub one_found : IsFound (record { rest = rest }) spans.items old now
      one_found = record {
        batches = is.batches;
        says = inl (file, generation);
        stands = record {
          kind = subst (λ (f : FileId). f.kind ≡ OfJournal) (sym own) next_there.0;
          stands = subst (λ f. RestsAt rest.gate is.batches (get now f)) (sym own) is.stands;
          last = λ other kind before. idle other kind (subst (λ f. IsBefore f other) own before);
          alone = λ none. absurd (a_batch none);
        };
        places = is.places;
        goes_on = inl (is.batches, subst (λ f. IsGeneration (as_read old) f is.batches) (sym own) generation);
        others = λ other kind ne. subst (λ t. StaysOrComesToRest (get old other) t) (sym (others other (subst (λ f. other ≢ f) own ne))) (so_far.each other kind);
      }
        where
          idle : (other : FileId) → other.kind ≡ OfJournal → IsBefore file other → IsIdle (get now other)
          idle other kind before = ⊎_elim (λ is_in. absurd (none_behind left file other so_far.ascending is_in before))
              (λ settles. subst IsIdle (sym (others other (λ same. not_itself_by file other same before))) (settles_idle (get old other) (get mid other) settles)) (so_far.behind other kind)

pub none_left : (left : List FileId) → length left ≡ 0 → left ≡ []
none_left [] none = refl
none_left (file ∷ left) none = absurd (omega (arith, none))

-- where none is left
module _ (old now : FinMap file_cmp FileState) where
  all_settled : (last : Option (Journal × Vec Span Global)) → IsScannedTo [] last old now → (file : FileId) → file.kind ≡ OfJournal → ComesToRest (get old file) (get now file)
  all_settled last so_far file kind = ⊎_elim (λ is_in. absurd (contains_none file is_in)) (λ settles. settles) (so_far.behind file kind)

  none_now : IsScannedTo [] None old now → (file : FileId) → file.kind ≡ OfJournal → (get old file ≡ None) × (get now file ≡ None)
  none_now so_far file kind =
      let absent : get old file ≡ None = ⊎_elim (λ is_in. absurd (contains_none file is_in)) (λ absent. absent) (so_far.last file kind) in
      (absent, stays_away (get old file) (get now file) absent (so_far.each file kind))

  pub all_scanned : (last : Option (Journal × Vec Span Global)) → IsScannedTo [] last old now
      → MatchOption last (HasNoneThere (as_read old) × HasNoneThere (as_read now)) (λ found. IsFound found.0 found.1.items old now)
  all_scanned None so_far = (λ file kind. ap bytes_of (none_now so_far file kind).0, λ file kind. ap bytes_of (none_now so_far file kind).1)
  all_scanned (Some found) so_far = record {
    batches = [];
    says = inr (none, refl);
    stands = record {
      kind = so_far.last.is_last.kind;
      stands = so_far.last.rests;
      last = λ other kind before. settles_idle (get old other) (get now other) (settled other kind);
      alone = λ _ other kind ne. settles_idle (get old other) (get now other) (settled other kind);
    };
    places = so_far.last.none;
    goes_on = inr (inl (none, so_far.last.is_last));
    others = λ other kind ne. inr (settled other kind);
  }
    where
      settled : (file : FileId) → file.kind ≡ OfJournal → ComesToRest (get old file) (get now file)
      settled = all_settled (Some found) so_far

      none : HasNoGeneration (as_read old)
      none file kind = settles_none (get old file) (get now file) (settled file kind)
