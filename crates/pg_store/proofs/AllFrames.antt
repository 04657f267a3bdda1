-- The frames of all addresses.
use Rattle.std.proofs.Common.{◌≡◌, ◌≢◌, inl, inr, ⊎_elim, ℕ, ◌+◌, cond, List, [], ◌∷◌, ◌++◌, length, Option, None, refl, sym, ◌∙◌, ap, subst, eq-eqb, ne_eqb, ◌≤◌, arith}
use Rattle.std.specs.FinMap.{get}
use Rattle.std.proofs.lemmas.Bool.{cases_eq}
use Rattle.std.proofs.lemmas.Option.{slice_get_within}
use Rattle.pg_acks.specs.declared.position.Position.{Position}
use Rattle.pg_disk.specs.Account.{Account, account, IsHonest}
use Rattle.pg_disk.specs.Files.{Files}
use Rattle.pg_disk.specs.Image.{IsLeftAt}
use Rattle.pg_disk.specs.Views.{as_left, as_read}
use Rattle.pg_page.specs.declared.frame.Frame.{Frame}
use Rattle.pg_page.specs.declared.place.Place.{Place}
use Rattle.pg_page.specs.Frames.{SpellsFrame}
use Rattle.pg_page.specs.Pages.{HasFrames, Pages, page_file, pages_of}
use Rattle.pg_store.specs.declared.store.Store.{Store}
use Rattle.pg_store.specs.declared.store.Store.TheVariants.{Normal, Paging}
use Rattle.pg_store.specs.Every.{Appends, AreReady, HaveFrames, HaveOldFramesOrMore, IsStoreOf, IsStoreWith, MayPageAt, PagedAt, StandForAll, StayElsewhere}
use Rattle.pg_store.specs.Framed.{Frames, FramesOf, HasOldFramesOrMore, StandsForFrames, with_frame}
use Rattle.pg_store.specs.Pages.{ChangesPages, FilesNow, HasNoneFrom, IsLast, LeavesPages, LeftPages, QuietBefore, SamePages, States, states_of}
use Rattle.pg_store.specs.Stores.{IsReady, MayPageInto, PagedInto, Reopens, address_of_store, first_of_store, last_of_store}
use Rattle.pg_store.proofs.Framing.{read_left, spell_more}
use Rattle.pg_store.proofs.FrameKnowing.{frames_known, frames_opened, frames_ready, frames_still}
use Rattle.pg_store.proofs.Knowing.{no_page_of, ready_still}
use Rattle.pg_store.proofs.Listed.{each_more, each_none, each_with, store_once}

-- ---- one address

-- it takes a frame
frames_into : (store : Store) (payload : List ℕ) (next : Store) (place : Place) (frames : Frames) (frame : Frame) (s t : States) → SpellsFrame payload frame → PagedInto store payload next place s t → StandsForFrames store frames s
    → StandsForFrames next (frames ++ (place.position, frame) ∷ []) t
frames_into store payload next place frames frame s t spells paged stands = record {
  entries = stands.entries ++ (place.position, payload) ∷ [];
  stands = paged.adds stands.entries stands.stands;
  spelled = spell_more stands.entries frames (place.position, payload) frame stands.spelled spells;
}

-- while it takes it
frames_may : (store : Store) (payload : List ℕ) (frames : Frames) (frame : Frame) (s : States) (left : Pages) → SpellsFrame payload frame → StandsForFrames store frames s → MayPageInto store payload s left → HasOldFramesOrMore (first_of_store store) frames frame left
frames_may store payload frames frame s left spells stands may = elim (may stands.entries stands.stands) [
  | inl old ↦ inl (record { entries = stands.entries; has = old; spelled = stands.spelled })
  | inr more ↦
      inr (
        more.0,
        more.1,
        record {
          entries = stands.entries ++ (more.0, payload) ∷ [];
          has = more.2;
          spelled = spell_more stands.entries frames (more.0, payload) frame stands.spelled spells;
        },
      )
]

-- it has no page
normal_ready : (store : Store) (s : States) → last_of_store store ≡ None → HasNoneFrom (first_of_store store) s → IsReady store s
normal_ready (Normal store) s none has = has
normal_ready (Paging store) s none has = cc

normal_stands : (store : Store) (s : States) → last_of_store store ≡ None → HasNoneFrom (first_of_store store) s → StandsForFrames store [] s
normal_stands (Normal store) s none has = record { entries = []; stands = (has, refl); spelled = refl }
normal_stands (Paging store) s none has = cc

-- ---- with a frame more

frame_here : (address : ℕ) (frame : Position × Frame) (frames : FramesOf) → with_frame address frame frames address ≡ frames address ++ frame ∷ []
frame_here address frame frames = ap (λ b. cond b (frames address ++ frame ∷ []) (frames address)) (eq-eqb address address refl)

frame_elsewhere : (address other : ℕ) (frame : Position × Frame) (frames : FramesOf) → other ≢ address → with_frame address frame frames other ≡ frames other
frame_elsewhere address other frame frames differ = ap (λ b. cond b (frames other ++ frame ∷ []) (frames other)) (ne_eqb other address differ)

-- ---- all of them

within : (address : ℕ) (stores : List Store) (store : Store) → IsStoreOf address stores store → address ≤ length stores
within address stores store at = omega (arith, at.1, slice_get_within stores at.0 store at.2)

pub none_stand : (frames : FramesOf) (files : FilesNow) → AreReady [] files × StandForAll [] frames files
none_stand frames files = (λ address store at. each_none address store at, λ address store at. each_none address store at)

pub all_ready_so : (stores : List Store) (frames : FramesOf) (files : FilesNow) → StandForAll stores frames files → AreReady stores files
all_ready_so stores frames files stand address store at = let one = stand address store at in (one.0, frames_ready store (frames address) (states_of files address) one.1)

pub all_ready_still : (stores : List Store) (files now : FilesNow) → ((address : ℕ) → address ≤ length stores → SamePages address files now) → AreReady stores files → AreReady stores now
all_ready_still stores files now same ready address store at = let one = ready address store at in (one.0, ready_still store (states_of files address) (states_of now address) (same address (within address stores store at)) one.1)

pub all_still : (stores : List Store) (frames : FramesOf) (files now : FilesNow) → ((address : ℕ) → address ≤ length stores → SamePages address files now) → StandForAll stores frames files → StandForAll stores frames now
all_still stores frames files now same stand address store at = let one = stand address store at in (one.0, frames_still store (frames address) (states_of files address) (states_of now address) (same address (within address stores store at)) one.1)

module _ (stores next : List Store) (first : ℕ) (last : Option ℕ) (added : Appends stores next (IsStoreWith (length stores + 1) first last)) where
  pub more_ready : (files : FilesNow) → (first_of_store added.0 ≡ first → last_of_store added.0 ≡ last → IsReady added.0 (states_of files (length stores + 1))) → AreReady stores files → AreReady next files
  more_ready files new ready = each_more stores next added.0 added.1 (λ n s. (address_of_store s ≡ n) × IsReady s (states_of files n)) (added.2.0, new added.2.1 added.2.2) ready

  pub more_stand : (frames : FramesOf) (files : FilesNow) → (first_of_store added.0 ≡ first → last_of_store added.0 ≡ last → StandsForFrames added.0 (frames (length stores + 1)) (states_of files (length stores + 1))) → StandForAll stores frames files → StandForAll next frames files
  more_stand frames files new stand = each_more stores next added.0 added.1 (λ n s. (address_of_store s ≡ n) × StandsForFrames s (frames n) (states_of files n)) (added.2.0, new added.2.1 added.2.2) stand

pub added_ready : (stores next : List Store) (first : ℕ) (files : FilesNow) → Appends stores next (IsStoreWith (length stores + 1) first None) → HasNoneFrom first (states_of files (length stores + 1)) → AreReady stores files → AreReady next files
added_ready stores next first files added none =
    more_ready stores next first None added files
    (λ is normal. normal_ready added.0 (states_of files (length stores + 1)) normal (subst (λ (n : ℕ). HasNoneFrom n (states_of files (length stores + 1))) (sym is) none))

pub added_stand : (stores next : List Store) (first : ℕ) (frames : FramesOf) (files : FilesNow) → Appends stores next (IsStoreWith (length stores + 1) first None) → HasNoneFrom first (states_of files (length stores + 1)) → frames (length stores + 1) ≡ []
    → StandForAll stores frames files → StandForAll next frames files
added_stand stores next first frames files added none without =
    more_stand stores next first None added frames files
    (λ is normal. subst (λ (fs : Frames). StandsForFrames added.0 fs (states_of files (length stores + 1))) (sym without)
    (normal_stands added.0 (states_of files (length stores + 1)) normal (subst (λ (n : ℕ). HasNoneFrom n (states_of files (length stores + 1))) (sym is) none)))

-- ---- an address is opened

-- two of which it is said that they stand behind the others are one
same_last : (stores : List Store) (a b : Store) → stores ++ a ∷ [] ≡ stores ++ b ∷ [] → a ≡ b
same_last [] a b is = cc
same_last (s ∷ stores) a b is = same_last stores a b cc

module _ (stores next : List Store) (first : ℕ) (last : Option ℕ) (files now : FilesNow) (added : Appends stores next (IsStoreWith (length stores + 1) first last))
    (opened : Appends stores next (λ store. IsReady store (states_of now (length stores + 1)) × Reopens store (states_of files (length stores + 1)) (states_of now (length stores + 1)))) where
  abbrev address : ℕ
  address = length stores + 1

  one : opened.0 ≡ added.0
  one = same_last stores opened.0 added.0 (sym opened.1 ∙ added.1)

  pub opened_ready : AreReady stores now → AreReady next now
  opened_ready ready = more_ready stores next first last added now (λ f l. subst (λ (s : Store). IsReady s (states_of now address)) one opened.2.0) ready

  pub opened_stand : (frames : FramesOf) → IsLast first last (states_of files address) → QuietBefore last (states_of files address) → HasFrames first (frames address) (pages_of (as_read files) address) → StandForAll stores frames now → StandForAll next frames now
  opened_stand frames is_last quiet has stand =
      more_stand stores next first last added frames now
      (λ f l. frames_opened added.0 (frames address) (states_of files address) (states_of now address)
      (subst (λ (n : ℕ). IsLast n (last_of_store added.0) (states_of files address)) (sym f) (subst (λ (o : Option ℕ). IsLast first o (states_of files address)) (sym l) is_last))
      (subst (λ (o : Option ℕ). QuietBefore o (states_of files address)) (sym l) quiet)
      (subst (λ (n : ℕ). HasFrames n (frames address) (pages_of (as_read files) address)) (sym f) has)
      (subst (λ (s : Store). Reopens s (states_of files address) (states_of now address)) one opened.2.1)) stand

-- ---- one address takes a frame

pub all_stand_paged : (address : ℕ) (stores next : List Store) (payload : List ℕ) (frame : Frame) (place : Place) (frames : FramesOf) (old new : Account) → SpellsFrame payload frame → StayElsewhere address stores next → AreReady next new.files
    → ChangesPages address (PagedAt address stores payload next place) old new → StandForAll stores frames old.files → StandForAll next (with_frame address (place.position, frame) frames) new.files
all_stand_paged address stores next payload frame place frames old new spells stay ready changes stand =
    let more : FramesOf = with_frame address (place.position, frame) frames in
    let store : Store = changes.change.0 in
    let after : Store = changes.change.2.0 in
    let has : IsStoreOf address next after = changes.change.2.1 in
    each_with address stores next stay after has (λ n s. (address_of_store s ≡ n) × StandsForFrames s (more n) (states_of new.files n)) (
      (ready address after has).0,
      subst (λ (fs : Frames). StandsForFrames after fs (states_of new.files address)) (sym (frame_here address (place.position, frame) frames))
          (frames_into store payload after place (frames address) frame (states_of old.files address) (states_of new.files address) spells changes.change.2.2 (stand address store changes.change.1).1),
    )
    (λ other s differ at.
    let was = stand other s at in (
      was.0,
      subst (λ (fs : Frames). StandsForFrames s fs (states_of new.files other)) (sym (frame_elsewhere address other (place.position, frame) frames differ))
          (frames_still s (frames other) (states_of old.files other) (states_of new.files other) (λ page. changes.others (page_file other page) (no_page_of other address page (λ e. differ (sym e)))) was.1),
    ))

-- ---- what is left

pub all_read : (stores : List Store) (frames : FramesOf) (tells : Option Account) → IsHonest tells → StandForAll stores frames (account tells).files → HaveFrames stores frames (as_read (account tells).files)
all_read stores frames tells honest stand address store at =
    frames_known store (frames address) (states_of (account tells).files address) (pages_of (as_read (account tells).files) address) (stand address store at).1
    (λ page. read_left (get (account tells).files (page_file address page)) (λ u is. honest.sound (page_file address page) u is))

pub all_known : (stores : List Store) (frames : FramesOf) (files : FilesNow) (c : Files) → StandForAll stores frames files → ((address : ℕ) → address ≤ length stores → LeftPages address files c) → HaveFrames stores frames (as_left c)
all_known stores frames files c stand left address store at = frames_known store (frames address) (states_of files address) (pages_of (as_left c) address) (stand address store at).1 (left address (within address stores store at))

module _ (address : ℕ) (stores : List Store) (frames : FramesOf) (files : FilesNow) (c : Files) (stand : StandForAll stores frames files) (others : (other page : ℕ) → other ≢ address → IsLeftAt (get files (page_file other page)) (get c (page_file other page)))
    (store : Store) (at_it : IsStoreOf address stores store) where
  -- the address has these, and the others have theirs
  with_these : (more : FramesOf) → ((other : ℕ) → other ≢ address → more other ≡ frames other) → HasFrames (first_of_store store) (more address) (pages_of (as_left c) address) → HaveFrames stores more (as_left c)
  with_these more same has other s at = ⊎_elim
      (λ (this : other ≡ address).
      subst (λ (n : ℕ). HasFrames (first_of_store s) (more n) (pages_of (as_left c) n)) (sym this)
      (subst (λ (t : Store). HasFrames (first_of_store t) (more address) (pages_of (as_left c) address)) (store_once address stores store s at_it (subst (λ (n : ℕ). IsStoreOf n stores s) this at)) has))
      (λ (differ : other ≢ address).
      subst (λ (fs : Frames). HasFrames (first_of_store s) fs (pages_of (as_left c) other)) (sym (same other differ))
      (frames_known s (frames other) (states_of files other) (pages_of (as_left c) other) (stand other s at).1 (λ page. others other page differ))) (cases_eq other address)

  pub old_or_more : (frame : Frame) → HasOldFramesOrMore (first_of_store store) (frames address) frame (pages_of (as_left c) address) → HaveOldFramesOrMore address stores frames frame (as_left c)
  old_or_more frame (inl old) = inl (with_these frames (λ other differ. refl) old)
  old_or_more frame (inr new) =
      inr (
        new.0,
        new.1,
        with_these (with_frame address (new.0, frame) frames) (λ other differ. frame_elsewhere address other (new.0, frame) frames differ)
            (subst (λ (fs : Frames). HasFrames (first_of_store store) fs (pages_of (as_left c) address)) (sym (frame_here address (new.0, frame) frames)) new.2),
      )

pub all_paging : (address : ℕ) (stores : List Store) (payload : List ℕ) (frame : Frame) (frames : FramesOf) (tells : Option Account) (c : Files) (b : List ℕ) → SpellsFrame payload frame → StandForAll stores frames (account tells).files
    → LeavesPages address (MayPageAt address stores payload) tells c b → HaveOldFramesOrMore address stores frames frame (as_left c)
all_paging address stores payload frame frames tells c b spells stand left =
    old_or_more address stores frames (account tells).files c stand (λ other page differ. left.others (page_file other page) (no_page_of other address page (λ e. differ (sym e)))) left.left.0 left.left.1 frame
    (frames_may left.left.0 payload (frames address) frame (states_of (account tells).files address) (pages_of (as_left c) address) spells (stand address left.left.0 left.left.1).1 left.left.2)
