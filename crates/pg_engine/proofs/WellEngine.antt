-- Files that are well formed stay so while the journal alone gets a batch.
use Rattle.std.proofs.Common.{◌≡◌, ◌≢◌, ◌⊎◌, inl, inr, ℕ, ◌+◌, ◌-◌, ◌<◌, get_or, Bool, true, false, List, [], ◌∷◌, ◌++◌, length, Option, Some, None, refl, sym, ◌∙◌, ap, subst, arith}
use Rattle.std.specs.Prelude.{All}
use Rattle.std.specs.FinMap.{FinMap, get}
use Rattle.std.proofs.lemmas.Bool.{both_ways}
use Rattle.std.proofs.lemmas.List.{get_or_append_left, get_or_push, length-append}
use Rattle.std.proofs.lemmas.List.Elements.{All-push, All-weaker}
use Rattle.pg_disk.specs.declared.file_id.FileId.{FileId}
use Rattle.pg_disk.specs.declared.file_id.Kind.{Kind}
use Rattle.pg_disk.specs.declared.file_id.Kind.TheVariants.{Journal as OfJournal, Page, Large}
use Rattle.pg_disk.specs.Account.{FileState, IsQuietAt, AllQuiet}
use Rattle.pg_disk.specs.Files.{file_cmp, Files}
use Rattle.pg_disk.specs.Image.{IsLeftAt}
use Rattle.pg_gate.specs.Gated.{Batches, HasBatches, HasNone, RestsAt}
use Rattle.pg_records.specs.declared.entry.Entry.{Entry}
use Rattle.pg_records.specs.Entries.{HaveFields, SpellBatches}
use Rattle.pg_fold.specs.declared.durable.Durable.{Durable}
use Rattle.pg_fold.specs.declared.rows.AddressRow.{AddressRow}
use Rattle.pg_fold.specs.Rows.{has_address, AreNumbered}
use Rattle.pg_fold.specs.Sound.{IsSound}
use Rattle.pg_fold.proofs.SoundAddresses.{still_address}
use Rattle.pg_fold.proofs.SoundLaws.{sound_folded}
use Rattle.pg_journal.specs.declared.journal.Journal.{Journal}
use Rattle.pg_journal.specs.Generations.{JournalOf}
use Rattle.pg_disk.specs.Views.{Contents, as_left, as_read, bytes_of}
use Rattle.pg_journal.specs.Stands.{Stands, name_of}
use Rattle.pg_journal.proofs.Order.{same_or_not}
use Rattle.pg_journal.proofs.Saying.{stands_reads, stands_there}
use Rattle.pg_recover.specs.Denotation.{FoldsTo}
use Rattle.pg_recover.specs.Recovered.{Owns}
use Rattle.pg_recover.specs.WellFormed.{AreRoomy, IsGapless, IsNamed, IsNamedAs, IsThere, WellFormed, page_file}
use Rattle.pg_recover.specs.Viewing.{ArePaged, HasPage, IsMarked}
use Rattle.pg_recover.proofs.OneState.{one_folded}
use Rattle.pg_recover.proofs.WellLemmas.{left_as_read}
use Rattle.pg_engine.specs.Outcomes.{GrowsTo}

-- the addresses are as before, or there is one more, whose id is new
abbrev pub Grows : List AddressRow → List AddressRow → Type 0
Grows rows more = (more ≡ rows) ⊎ ((row : AddressRow) × (more ≡ rows ++ row ∷ []) × (has_address rows row.id ≡ false))

pub grown : (rows more : List AddressRow) (paged now : List Bool) → GrowsTo rows paged more now → Grows rows more
grown rows more paged now (inl same) = inl same.0
grown rows more paged now (inr one) = inr (one.0, one.1, one.2)

-- an address that was there is there still
known_still : (rows more : List AddressRow) (id : ℕ) → Grows rows more → has_address rows id ≡ true → has_address more id ≡ true
known_still rows more id (inl same) is = subst (λ (l : List AddressRow). has_address l id ≡ true) (sym same) is
known_still rows more id (inr grown) is = subst (λ (l : List AddressRow). has_address l id ≡ true) (sym grown.1) (still_address rows grown.0 id is)

-- so a file keeps its name
named_still : (rows more : List AddressRow) → Grows rows more → (kind : Kind) (owner number : ℕ) → IsNamedAs rows kind owner number → IsNamedAs more kind owner number
named_still rows more grows OfJournal owner number is = is
named_still rows more grows Page owner number is = (known_still rows more owner grows is.0, is.1)
named_still rows more grows Large owner number is = tt

-- entries that batches spell have their fields in their ranges
fields_append : (first others : List Entry) → HaveFields first → HaveFields others → HaveFields (first ++ others)
fields_append [] others fields more = more
fields_append (e ∷ first) others fields more = (fields.0, fields_append first others fields.1 more)

pub have_fields : (batches : List (List ℕ)) (entries : List Entry) → SpellBatches batches entries → HaveFields entries
have_fields [] entries none = subst HaveFields (sym none) tt
have_fields (p ∷ batches) entries spelled = subst HaveFields (sym spelled.4) (fields_append spelled.0 spelled.1 spelled.2.fields (have_fields batches spelled.1 spelled.3))

-- no batch of the journal's own file is cut, where the journal says something and no other generation is there
has_whole : (o : Option (List ℕ)) (batches : List (List ℕ)) (bytes : List ℕ) → o ≡ Some bytes → HasBatches batches o → (own : List (List ℕ)) × Batches bytes own
has_whole o batches bytes is has = (batches, subst (λ (s : Option (List ℕ)). HasBatches batches s) is has)

none_whole : (o : Option (List ℕ)) (bytes : List ℕ) → o ≡ Some bytes → HasNone o → (own : List (List ℕ)) × Batches bytes own
none_whole o bytes is none = ([], subst HasNone is none)

own_whole : (contents : Contents) (own : FileId) → own.kind ≡ OfJournal → (batches : List (List ℕ)) → JournalOf contents batches → ((file : FileId) → file.kind ≡ OfJournal → file ≢ own → contents file ≡ None)
    → (bytes : List ℕ) → contents own ≡ Some bytes → (whole : List (List ℕ)) × Batches bytes whole
own_whole contents own kind batches (inl found) alone bytes is = elim (same_or_not found.0 own) [
  | inl same ↦ has_whole (contents own) batches bytes is (subst (λ (f : FileId). HasBatches batches (contents f)) same found.1.has)
  | inr other ↦ absurd (subst (λ (s : Option (List ℕ)). HasBatches batches s) (alone found.0 found.1.kind other) found.1.has)
]
own_whole contents own kind batches (inr none) alone bytes is = none_whole (contents own) bytes is (none.0 own kind)

-- each file but the journal's is as it was
module _ (old new : Contents) (own : FileId) (kind : own.kind ≡ OfJournal) (same : (file : FileId) → file ≢ own → new file ≡ old file) where
  no_page : (k : Kind) → k ≡ Page → k ≡ OfJournal → ⊥
  no_page OfJournal page journal = cc
  no_page Page page journal = cc
  no_page Large page journal = cc

  page_same : (address number : ℕ) → new (page_file address number) ≡ old (page_file address number)
  page_same address number = same (page_file address number) (λ is. no_page own.kind (ap (λ (f : FileId). f.kind) (sym is)) kind)

  page_was : (address number : ℕ) → IsThere new (page_file address number) → IsThere old (page_file address number)
  page_was address number there = (there.0, sym (page_same address number) ∙ there.1)

  gapless_still : (row : AddressRow) → IsGapless old row → IsGapless new row
  gapless_still row is number there other from to = let was = is number (page_was row.id number there) other from to in (was.0, page_same row.id other ∙ was.1)

  module _ (rows more : List AddressRow) (grows : Grows rows more) (named : (file : FileId) → IsThere old file → IsNamed rows file) where
    -- an address that is new has no page
    gapless_new : (row : AddressRow) → has_address rows row.id ≡ false → IsGapless new row
    gapless_new row new number there other from to = absurd (both_ways (has_address rows row.id) new (named (page_file row.id number) (page_was row.id number there)).0)

    still : All (IsGapless old) rows → All (IsGapless new) rows
    still all = All-weaker (IsGapless old) (IsGapless new) gapless_still rows all

    gapless_all : All (IsGapless old) rows → All (IsGapless new) more
    gapless_all all = elim grows [
      | inl as_before ↦ subst (λ (l : List AddressRow). All (IsGapless new) l) (sym as_before) (still all)
      | inr grown ↦ subst (λ (l : List AddressRow). All (IsGapless new) l) (sym grown.1) (All-push (IsGapless new) rows grown.0 (still all) (gapless_new grown.0 grown.2))
    ]

    pub named_all : IsThere old own → (file : FileId) → IsThere new file → IsNamed more file
    named_all own_there file there = named_still rows more grows file.kind file.owner file.number (named file (elim (same_or_not file own) [
      | inl is ↦ subst (λ (f : FileId). IsThere old f) (sym is) own_there
      | inr other ↦ (there.0, sym (same file other) ∙ there.1)
    ]))

  -- so well formed files are still, where the journal gives a state that has room, with the addresses from before or one more
  pub well_kept : (d e : Durable) → FoldsTo old d → FoldsTo new e → Grows d.addresses e.addresses → (AreRoomy d → AreRoomy e) → IsThere old own → ((file : FileId) → file.kind ≡ OfJournal → file ≢ own → old file ≡ None)
      → WellFormed old → WellFormed new
  well_kept d e folds now grows roomy there alone well =
      let one : well.state ≡ d = one_folded old well.state d well.folds folds in
      let named : (file : FileId) → IsThere old file → IsNamed d.addresses file = subst (λ (s : Durable). (file : FileId) → IsThere old file → IsNamed s.addresses file) one well.named in
      record {
        state = e;
        folds = now;
        whole = λ file small bytes is. elim (same_or_not file own) [
          | inl it ↦ own_whole new own kind now.batches now.says (λ f of_journal other. same f other ∙ alone f of_journal other) bytes (subst (λ (f : FileId). new f ≡ Some bytes) it is)
          | inr other ↦ well.whole file small bytes (sym (same file other) ∙ is)
        ];
        named = named_all d.addresses e.addresses grows named there;
        gapless = gapless_all d.addresses e.addresses grows named (subst (λ (s : Durable). All (IsGapless old) s.addresses) one well.gapless);
        roomy = roomy (subst AreRoomy one well.roomy);
      }

-- among files that the journal owns
module _ (journal : Journal) (d : Durable) (files : FinMap file_cmp FileState) (owns : Owns journal d files) where
  pub owned_folds : FoldsTo (as_read files) d
  owned_folds = record { batches = owns.batches; entries = owns.entries; says = stands_reads journal owns.batches files owns.stands; spelled = owns.spelled; folded = owns.folded }

  pub own_there : IsThere (as_read files) (name_of journal)
  own_there = let there = stands_there journal owns.batches files owns.stands in (there.0.bytes, ap bytes_of there.1)

  alone_read : (file : FileId) → file.kind ≡ OfJournal → file ≢ name_of journal → as_read files file ≡ None
  alone_read file kind other = ap bytes_of (owns.alone file kind other)

  pub owned_sound : IsSound d
  owned_sound = sound_folded d owns.entries (have_fields owns.batches owns.entries owns.spelled) owns.folded

  -- what a crash leaves of them, where the journal's own file may be another
  pub left_well : (image : Files) (e : Durable) → AllQuiet files → ((file : FileId) → file ≢ name_of journal → IsLeftAt (get files file) (get image file)) → FoldsTo (as_left image) e → Grows d.addresses e.addresses
      → (AreRoomy d → AreRoomy e) → WellFormed (as_read files) → WellFormed (as_left image)
  left_well image e quiet others now grows roomy =
      well_kept (as_read files) (as_left image) (name_of journal) owns.stands.kind (λ file other. left_as_read (get files file) (get image file) (quiet file) (others file other)) d e owned_folds now grows roomy own_there alone_read

  -- and those that there are once it has a batch more
  module _ (next : Journal) (batches : List (List ℕ)) (now : FinMap file_cmp FileState) (as_before : name_of next ≡ name_of journal) (stands : Stands next batches now)
      (others : (file : FileId) → file ≢ name_of journal → get now file ≡ get files file) where
    pub read_well : (e : Durable) → FoldsTo (as_read now) e → Grows d.addresses e.addresses → (AreRoomy d → AreRoomy e) → WellFormed (as_read files) → WellFormed (as_read now)
    read_well e folds grows roomy =
        well_kept (as_read files) (as_read now) (name_of journal) owns.stands.kind (λ file other. ap bytes_of (others file other)) d e owned_folds folds grows roomy own_there alone_read

    rests_quiet : (gate : ℕ) (bs : List (List ℕ)) (s : Option FileState) → RestsAt gate bs s → IsQuietAt s
    rests_quiet gate bs None is = absurd is
    rests_quiet gate bs (Some s) is = is.quiet

    pub still_quiet : AllQuiet files → AllQuiet now
    still_quiet quiet file = elim (same_or_not file (name_of next)) [
      | inl own ↦ subst (λ (f : FileId). IsQuietAt (get now f)) (sym own) (rests_quiet next.rest.gate batches (get now (name_of next)) stands.stands)
      | inr other ↦ subst IsQuietAt (sym (others file (subst (λ (f : FileId). file ≢ f) as_before other))) (quiet file)
    ]

-- what is known of the pages is still so, where every other file is as it was
module _ (old new : Contents) (own : FileId) (kind : own.kind ≡ OfJournal) (same : (file : FileId) → file ≢ own → new file ≡ old file) where
  has_still : (row : AddressRow) → HasPage old row → HasPage new row
  has_still row has = (has.0, has.1, (has.2.0, page_same old new own kind same row.id has.0 ∙ has.2.1))

  had : (row : AddressRow) → HasPage new row → HasPage old row
  had row has = (has.0, has.1, page_was old new own kind same row.id has.0 has.2)

  paged_still : (row : AddressRow) (b : Bool) → IsMarked old row b → IsMarked new row b
  paged_still row b is = (λ marked. has_still row (is.0 marked), λ has. is.1 (had row has))

  pages_still : (rows : List AddressRow) (paged : List Bool) → ArePaged old rows paged → ArePaged new rows paged
  pages_still rows paged are = record {
    count = are.count;
    each = All-weaker (λ row. IsMarked old row (get_or paged (row.id - 1) false)) (λ row. IsMarked new row (get_or paged (row.id - 1) false)) (λ row is. paged_still row (get_or paged (row.id - 1) false) is) rows are.each;
  }

  -- and so it is with an address more, whose id is new
  pub pages_grown : (rows more : List AddressRow) (paged now : List Bool) → GrowsTo rows paged more now → AreNumbered rows → AreNumbered more → ((address number : ℕ) → IsThere old (page_file address number) → has_address rows address ≡ true) → ArePaged old rows paged → ArePaged new more now
  pages_grown rows more paged now (inl as_before) numbered more_numbered named are =
      subst (λ (l : List AddressRow). ArePaged new l now) (sym as_before.0) (subst (λ (l : List Bool). ArePaged new rows l) (sym as_before.1) (pages_still rows paged are))
  pages_grown rows more paged now (inr one) numbered more_numbered named are =
      let row = one.0 in
      let is : now ≡ paged ++ false ∷ [] = one.3 in
      let still = pages_still rows paged are in
      record {
        count = ap length is ∙ length-append paged (false ∷ []) ∙ ap (λ n. n + 1) are.count ∙ sym (ap length one.1 ∙ length-append rows (row ∷ []));
        each = subst (λ (l : List AddressRow). All (λ r. IsMarked new r (get_or now (r.id - 1) false)) l) (sym one.1)
            (subst (λ (marks : List Bool). All (λ r. IsMarked new r (get_or marks (r.id - 1) false)) (rows ++ row ∷ [])) (sym is)
            (All-push (λ r. IsMarked new r (get_or (paged ++ false ∷ []) (r.id - 1) false)) rows row (λ k d within. older k d within still.each) (newest (at_end more_numbered))));
      }
    where
      older : (k : ℕ) (d : AddressRow) → k < length rows → All (λ r. IsMarked new r (get_or paged (r.id - 1) false)) rows → IsMarked new (get_or rows k d) (get_or (paged ++ false ∷ []) ((get_or rows k d).id - 1) false)
      older k d within all =
          let at = numbered k d within in
          subst (IsMarked new (get_or rows k d)) (sym (get_or_append_left paged (false ∷ []) false ((get_or rows k d).id - 1) (omega (arith, at, within, are.count)))) (all k d within)

      at_end : AreNumbered more → one.0.id ≡ length rows + 1
      at_end all =
          let count : length more ≡ length rows + 1 = ap length one.1 ∙ length-append rows (one.0 ∷ []) in
          ap (λ (r : AddressRow). r.id) (sym (get_or_push rows one.0 one.0 (length rows) refl) ∙ ap (λ (l : List AddressRow). get_or l (length rows) one.0) (sym one.1)) ∙ all (length rows) one.0 (omega (arith, count))

      none_there : HasPage new one.0 → ⊥
      none_there has = both_ways (has_address rows one.0.id) one.2 (named one.0.id has.0 (page_was old new own kind same one.0.id has.0 has.2))

      newest : one.0.id ≡ length rows + 1 → IsMarked new one.0 (get_or (paged ++ false ∷ []) (one.0.id - 1) false)
      newest id = subst (IsMarked new one.0) (sym (get_or_push paged false false (one.0.id - 1) (omega (arith, id, are.count)))) ((λ marked. cc), (λ has. absurd (none_there has)))

  pub pages_known : (rows more : List AddressRow) → Grows rows more → ((address number : ℕ) → IsThere old (page_file address number) → has_address rows address ≡ true)
      → (address number : ℕ) → IsThere new (page_file address number) → has_address more address ≡ true
  pages_known rows more grows known address number there = known_still rows more address grows (known address number (page_was old new own kind same address number there))
