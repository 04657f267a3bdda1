-- The frames that stores stand for.
use Rattle.std.proofs.Common.{◌≡◌, inl, inr, ℕ, ◌<◌, ◌≤◌, List, [], ◌∷◌, ◌++◌, Some, refl, sym, ◌∙◌, ap, subst, arith}
use Rattle.std.proofs.lemmas.List.Elements.{All-append, All-cons, All-nil}
use Rattle.pg_acks.specs.declared.position.Position.{Position}
use Rattle.pg_disk.specs.Image.{IsLeftAt}
use Rattle.pg_disk.specs.Views.{bytes_of}
use Rattle.pg_gate.specs.Gated.{HasBatches}
use Rattle.pg_gate.proofs.Unique.{stands_fit}
use Rattle.pg_page.specs.declared.frame.Frame.{Frame}
use Rattle.pg_page.specs.declared.place.Place.{Place}
use Rattle.pg_page.specs.Frames.{SpellsFrame}
use Rattle.pg_page.specs.Pages.{Entry, HasFrames, HasPages, Pages, SpellFrames, positioned}
use Rattle.pg_page.specs.Rules.{ArePages, Known, MayStand}
use Rattle.pg_page.proofs.PageLaws.{frames_once, one_page}
use Rattle.pg_store.specs.declared.store.NormalStore.{NormalStore}
use Rattle.pg_store.specs.declared.store.PagingStore.{PagingStore}
use Rattle.pg_store.specs.declared.store.Store.{Store}
use Rattle.pg_store.specs.declared.store.Store.TheVariants.{Normal, Paging}
use Rattle.pg_store.specs.Framed.{Frames, HasOldFramesOrMore, MayAllStand, StandsForFrames}
use Rattle.pg_store.specs.Pages.{IsLast, QuietBefore, States}
use Rattle.pg_store.specs.Stores.{GoesTo, IsNormal, IsReady, LeavesNone, MayPage, Paged, Reopens, Stands, Starts, first_of, first_of_normal, first_of_store, last_of, last_of_store}
use Rattle.pg_store.proofs.Framing.{end_with, last_fit, last_has, no_pages, quiet_have, spell_more}
use Rattle.pg_store.proofs.Knowing.{known_left, same_states}

-- ---- the store

stands_ready : (store : Store) (entries : List Entry) (s : States) → Stands store entries s → IsReady store s
stands_ready (Normal store) entries s stands = stands.0
stands_ready (Paging store) entries s stands = stands.ready

pub frames_ready : (store : Store) (frames : Frames) (s : States) → StandsForFrames store frames s → IsReady store s
frames_ready store frames s stands = stands_ready store stands.entries s stands.stands

pub frames_still : (store : Store) (frames : Frames) (s t : States) → ((page : ℕ) → t page ≡ s page) → StandsForFrames store frames s → StandsForFrames store frames t
frames_still store frames s t same stands = subst (λ (u : States). StandsForFrames store frames u) (same_states s t same) stands

pub frames_started : (store : NormalStore) (next : PagingStore) (s t : States) → IsNormal store s → Starts store next s t → StandsForFrames (Paging next) [] t
frames_started store next s t normal starts = record { entries = []; stands = starts.stands normal; spelled = refl }

pub frames_paged : (store next : PagingStore) (place : Place) (frames : Frames) (payload : List ℕ) (frame : Frame) (s t : States) → SpellsFrame payload frame → Paged store payload next place s t
    → StandsForFrames (Paging store) frames s → StandsForFrames (Paging next) (frames ++ (place.position, frame) ∷ []) t
frames_paged store next place frames payload frame s t spells paged stands = record {
  entries = stands.entries ++ (place.position, payload) ∷ [];
  stands = paged.adds stands.entries stands.stands;
  spelled = spell_more stands.entries frames (place.position, payload) frame stands.spelled spells;
}

-- ---- what is left

-- of a store at rest
pub frames_known : (store : Store) (frames : Frames) (s : States) (left : Pages) → StandsForFrames store frames s → ((page : ℕ) → IsLeftAt (s page) (left page)) → HasFrames (first_of_store store) frames left
frames_known store frames s left stands is = record { entries = stands.entries; has = known_left store stands.entries s left stands.stands is; spelled = stands.spelled }

-- of a store that has taken a frame
pub frames_more : (store next : PagingStore) (place : Place) (frames : Frames) (payload : List ℕ) (frame : Frame) (s t : States) (left : Pages) → first_of next ≡ first_of store → SpellsFrame payload frame → Paged store payload next place s t
    → StandsForFrames (Paging store) frames s → ((page : ℕ) → IsLeftAt (t page) (left page)) → HasFrames (first_of store) (frames ++ (place.position, frame) ∷ []) left
frames_more store next place frames payload frame s t left first spells paged stands is =
    subst (λ (n : ℕ). HasFrames n (frames ++ (place.position, frame) ∷ []) left) first
    (frames_known (Paging next) (frames ++ (place.position, frame) ∷ []) t left (frames_paged store next place frames payload frame s t spells paged stands) is)

pub frames_none : (store : NormalStore) (s : States) (left : Pages) → IsNormal store s → LeavesNone store s left → HasFrames (first_of_normal store) [] left
frames_none store s left normal leaves = record { entries = []; has = leaves normal; spelled = refl }

pub frames_paging : (store : PagingStore) (frames : Frames) (payload : List ℕ) (frame : Frame) (s : States) (left : Pages) → SpellsFrame payload frame → StandsForFrames (Paging store) frames s → MayPage store payload s left
    → HasOldFramesOrMore (first_of store) frames frame left
frames_paging store frames payload frame s left spells stands may = elim (may stands.entries stands.stands) [
  | inl old ↦ inl (record { entries = stands.entries; has = old; spelled = stands.spelled })
  | inr more ↦
      inr (
        more.0,
        more.1,
        record {
          entries = stands.entries ++ (more.0, payload) ∷ [];
          has = more.2;
          spelled = spell_more stands.entries frames (more.0, payload) frame stands.spelled spells;
        },
      )
]

-- ---- the rules

pub rules_known : (known : Known) (address first : ℕ) (frames : Frames) (pages : Pages) → HasFrames first frames pages → ArePages known address first pages → MayAllStand known address frames
rules_known known address first frames pages has are =
    subst (λ (fs : Frames). MayAllStand known address fs) (frames_once first pages are.frames frames are.has has) (record { may_stand = are.may_stand; few = are.few })

pub rules_well : (known : Known) (address first : ℕ) (frames : Frames) (pages : Pages) → MayAllStand known address frames → HasFrames first frames pages → ArePages known address first pages
rules_well known address first frames pages may has = record { frames = frames; has = has; may_stand = may.may_stand; few = may.few }

pub rules_none : (known : Known) (address : ℕ) → MayAllStand known address []
rules_none known address = record { may_stand = All-nil (λ (frame : Position × Frame). MayStand known address frame.1); few = All-nil (λ (frame : Position × Frame). frame.0.index < 4294967295) }

pub rules_more : (known : Known) (address : ℕ) (frames : Frames) (position : Position) (frame : Frame) → position.index < 4294967295 → MayStand known address frame → MayAllStand known address frames → MayAllStand known address (frames ++ (position, frame) ∷ [])
rules_more known address frames position frame low may all =
    let stands = λ (frame : Position × Frame). MayStand known address frame.1 in
    let is_low = λ (frame : Position × Frame). frame.0.index < 4294967295 in
    record {
      may_stand = All-append stands frames ((position, frame) ∷ []) all.may_stand (All-cons stands (position, frame) [] may (All-nil stands));
      few = All-append is_low frames ((position, frame) ∷ []) all.few (All-cons is_low (position, frame) [] low (All-nil is_low));
    }

pub rules_paging : (known : Known) (address first : ℕ) (frames : Frames) (frame : Frame) (pages : Pages) → MayStand known address frame → MayAllStand known address frames → HasOldFramesOrMore first frames frame pages → ArePages known address first pages
rules_paging known address first frames frame pages may all (inl old) = rules_well known address first frames pages all old
rules_paging known address first frames frame pages may all (inr more) =
    rules_well known address first (frames ++ (more.0, frame) ∷ []) pages (rules_more known address frames more.0 frame more.1 may all) more.2

-- a page that has room has few frames
pub goes_low : (store : PagingStore) (size limit : ℕ) (place : Place) → limit ≤ 1000000000 → GoesTo store size limit place → place.position.index < 4294967295
goes_low store size limit place le (inl (inl none, position, offset)) = omega (arith, ap (λ (p : Position). p.index) position, none)
goes_low store size limit place le (inl (inr room, position, offset)) = omega (arith, ap (λ (p : Position). p.index) position, room, le, store.writer.short)
goes_low store size limit place le (inr other) = omega (arith, ap (λ (p : Position). p.index) other.1)

-- ---- opening

open_normal : (store : NormalStore) (frames : Frames) (s t : States) → IsNormal store s → HasFrames (first_of_normal store) frames (λ page. bytes_of (s page)) → Reopens (Normal store) s t → StandsForFrames (Normal store) frames t
open_normal store frames s t none has opened =
    let no : has.has.payloads ≡ [] = no_pages (first_of_normal store) has.has.payloads s none has.has.has in
    record { entries = has.entries; stands = (opened.0, has.has.are ∙ ap (λ (l : List (List (List ℕ))). positioned (first_of_normal store) l) no); spelled = has.spelled }

open_paging : (store : PagingStore) (frames : Frames) (s t : States) → IsLast (first_of store) (Some (last_of store)) s → QuietBefore (Some (last_of store)) s → HasFrames (first_of store) frames (λ page. bytes_of (s page)) → Reopens (Paging store) s t
    → StandsForFrames (Paging store) frames t
open_paging store frames s t last quiet has opened =
    let first : ℕ = first_of store in
    let parts = end_with first (last_of store) has.has.payloads s last has.has.has in
    let whole = subst (λ (l : List (List (List ℕ))). HasPages first l (λ page. bytes_of (s page))) parts.are has.has.has in
    let spells : SpellFrames (positioned first (parts.closed ++ parts.payloads ∷ [])) frames = subst (λ (es : List Entry). SpellFrames es frames) (has.has.are ∙ ap (λ (l : List (List (List ℕ))). positioned first l) parts.are) has.spelled in
    let read : HasBatches parts.payloads (bytes_of (s (last_of store))) = subst (λ (n : ℕ). HasBatches parts.payloads (bytes_of (s n))) (sym parts.place) (last_has first parts.closed parts.payloads (λ page. bytes_of (s page)) whole) in
    let one : parts.payloads ≡ opened.0 =
    one_page parts.payloads opened.0 (bytes_of (s (last_of store))) (last_fit first parts.closed parts.payloads frames spells) (stands_fit store.writer.rest opened.0 (t (last_of store)) opened.2.stands) read opened.1 in
    record {
      entries = positioned first (parts.closed ++ opened.0 ∷ []);
      stands = opened.3 parts.closed parts.place (quiet_have first parts.closed (parts.payloads ∷ []) s (λ page lt. quiet page (omega (arith, lt, parts.place))) whole);
      spelled = subst (λ (l : List (List ℕ)). SpellFrames (positioned first (parts.closed ++ l ∷ [])) frames) one spells;
    }

pub frames_opened : (store : Store) (frames : Frames) (s t : States) → IsLast (first_of_store store) (last_of_store store) s → QuietBefore (last_of_store store) s → HasFrames (first_of_store store) frames (λ page. bytes_of (s page)) → Reopens store s t
    → StandsForFrames store frames t
frames_opened (Normal store) frames s t last quiet has opened = open_normal store frames s t last has opened
frames_opened (Paging store) frames s t last quiet has opened = open_paging store frames s t last quiet has opened
