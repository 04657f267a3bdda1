-- What a cursor gives is the first frame that is free.
use Rattle.std.proofs.Common.{◌≡◌, ◌≤◌, ℕ, Bool, true, false, not, ◌&&◌, [], ◌∷◌, refl, sym, ap, subst, ◌∙◌, inl, inr, arith}
use Rattle.std.proofs.lemmas.List.Elements.{All-head, All-tail}
use Rattle.std.specs.Prelude.{All, find, Option, Some, None, is_none}
use Rattle.std.specs.List.{Contains}
use Rattle.pg_acks.specs.declared.position.Position.{Position}
use Rattle.pg_acks.specs.Acked.{AckSets, is_acknowledged}
use Rattle.pg_msg.specs.declared.message.MessageId.{MessageId}
use Rattle.pg_page.specs.declared.frame.Frame.{Frame}
use Rattle.pg_page.specs.declared.place.Place.{Place}
use Rattle.pg_page.specs.Pages.{HasFrames, Pages}
use Rattle.pg_pagetx.specs.Standings.{Transactions, standing_of}
use Rattle.pg_pagetx.specs.declared.standing.Standing.{Standing}
use Rattle.pg_pagetx.specs.declared.standing.Standing.TheVariants.{Counts, Pending, Void}
use Rattle.pg_cursor.specs.Entries.{FrameCounts, HasFrame, IsLive, names, pages_from}
use Rattle.pg_cursor.specs.Places.{IsBefore, offset_at}
use Rattle.pg_cursor.specs.Tracking.{Cursor, IsAvailable, IsFirstAvailable, IsGiven}
use Rattle.pg_cursor.proofs.Framed.{listed, placed}
use Rattle.pg_paged.specs.Paged.{Framed, Frames, counts, first_free, is_counting, is_free, is_left}
use Rattle.pg_paged.proofs.Lists.{in_cases, nothing_in}
use Rattle.pg_paged.proofs.Ordering.{FindsFirst, finds_first, frames_ascend, one_at}

never_both : (b : Bool) → b ≡ true → b ≡ false → ⊥
never_both b is not_ = cc

both_left : (a b : Bool) → (a && b) ≡ true → a ≡ true
both_left true b both = refl
both_left false b both = both

both_right : (a b : Bool) → (a && b) ≡ true → b ≡ true
both_right true b both = both
both_right false b both = absurd (never_both false both refl)

pub both_of : (a b : Bool) → a ≡ true → b ≡ true → (a && b) ≡ true
both_of true b one two = two
both_of false b one two = one

not_left : (a : Bool) → not a ≡ true → a ≡ false
not_left true is = sym is
not_left false is = refl

none_is : (o : Option ℕ) → is_none o ≡ true → o ≡ None
none_is None is = refl
none_is (Some n) is = absurd (never_both false is refl)

counting_is : (standing : Standing) → is_counting standing ≡ true → standing ≡ Counts
counting_is Counts is = refl
counting_is Pending is = absurd (never_both false is refl)
counting_is Void is = absurd (never_both false is refl)

counts_so : (txs : Transactions) (tx : Option MessageId) → counts txs tx ≡ true → FrameCounts txs tx
counts_so txs None is = tt
counts_so txs (Some tx) is = counting_is (standing_of txs tx) is

counts_if : (txs : Transactions) (tx : Option MessageId) → FrameCounts txs tx → counts txs tx ≡ true
counts_if txs None is = refl
counts_if txs (Some tx) is = ap is_counting is

pub in_all : (P : Framed → Type 0) (frames : Frames) (x : Framed) → All P frames → Contains frames x → P x
in_all P [] x all there = absurd (nothing_in x there)
in_all P (y ∷ ys) x all there = elim (in_cases x y ys there) [
  | inl is ↦ subst P is (All-head P y ys all)
  | inr rest ↦ in_all P ys x (All-tail P y ys all) rest
]

module _ (first : ℕ) (frames : Frames) (pages : Pages) (has : HasFrames first frames pages) (acks : AckSets) (txs : Transactions) where
  -- what is left stands at a place that is live
  pub live_at : (queue : ℕ) (framed : Framed) → Contains frames framed → is_left acks txs queue framed ≡ true → (place : Place) × (place.position ≡ framed.0) × IsLive queue acks txs (pages_from first pages) place
  live_at queue framed there left =
      let at = placed first frames pages has framed.0 framed.1 there in
      let named : Bool = names queue framed.1 in
      let rest : (counts txs framed.1.tx && not (is_acknowledged acks queue framed.0)) ≡ true = both_right (names queue framed.1) (counts txs framed.1.tx && not (is_acknowledged acks queue framed.0)) left in (
        at.0,
        at.1,
        record {
          entry = record {
            frame = framed.1;
            has = at.2;
            named = both_left (names queue framed.1) (counts txs framed.1.tx && not (is_acknowledged acks queue framed.0)) left;
            counts = counts_so txs framed.1.tx (both_left (counts txs framed.1.tx) (not (is_acknowledged acks queue framed.0)) rest);
          };
          open_ = ap (λ (p : Position). is_acknowledged acks queue p) at.1 ∙ not_left (is_acknowledged acks queue framed.0) (both_right (counts txs framed.1.tx) (not (is_acknowledged acks queue framed.0)) rest);
        },
      )

  -- and what is live is left
  pub live_left : (queue : ℕ) (place : Place) (live : IsLive queue acks txs (pages_from first pages) place) → is_left acks txs queue (place.position, live.entry.frame) ≡ true
  live_left queue place live =
      both_of (names queue live.entry.frame) (counts txs live.entry.frame.tx && not (is_acknowledged acks queue place.position)) live.entry.named
      (both_of (counts txs live.entry.frame.tx) (not (is_acknowledged acks queue place.position)) (counts_if txs live.entry.frame.tx live.entry.counts) (ap not live.open_))

  pub live_listed : (queue : ℕ) (place : Place) (live : IsLive queue acks txs (pages_from first pages) place) → Contains frames (place.position, live.entry.frame)
  live_listed queue place live = listed first frames pages has place live.entry.frame live.entry.has

  module _ (cursor : Cursor) where
    available_at : (framed : Framed) → Contains frames framed → is_free acks txs cursor.queue cursor.taken framed ≡ true → (place : Place) × (place.position ≡ framed.0) × IsAvailable cursor acks txs (pages_from first pages) place
    available_at framed there free =
        let at = live_at cursor.queue framed there (both_left (is_left acks txs cursor.queue framed) (is_none (offset_at cursor.taken framed.0)) free) in (
          at.0,
          at.1,
          record {
            live = at.2;
            free = ap (offset_at cursor.taken) at.1 ∙ none_is (offset_at cursor.taken framed.0) (both_right (is_left acks txs cursor.queue framed) (is_none (offset_at cursor.taken framed.0)) free);
          },
        )

    pub first_is : (place : Place) (frame : Frame) → HasFrame (pages_from first pages) place frame → IsFirstAvailable cursor acks txs (pages_from first pages) place → first_free acks txs cursor.queue cursor.taken frames ≡ Some (place.position, frame)
    first_is place frame stands is =
        go (find (is_free acks txs cursor.queue cursor.taken) frames) (finds_first (is_free acks txs cursor.queue cursor.taken) first 0 frames (frames_ascend first frames pages has))
      where
        own : Framed
        own = (place.position, is.available.live.entry.frame)

        there : Contains frames own
        there = live_listed cursor.queue place is.available.live

        same : own ≡ (place.position, frame)
        same = one_at first 0 frames own (place.position, frame) (frames_ascend first frames pages has) there (listed first frames pages has place frame stands) refl

        passes : is_free acks txs cursor.queue cursor.taken own ≡ true
        passes = both_of (is_left acks txs cursor.queue own) (is_none (offset_at cursor.taken place.position)) (live_left cursor.queue place is.available.live) (ap is_none is.available.free)

        sooner : (other : Framed) → Contains frames other → is_free acks txs cursor.queue cursor.taken other ≡ true → IsBefore other.0 place.position → ⊥
        sooner other within free before =
            let at = available_at other within free in
            is.first at.0 at.2 (subst (λ (p : Position). IsBefore p place.position) (sym at.1) before)

        go : (o : Option Framed) → FindsFirst (is_free acks txs cursor.queue cursor.taken) frames o → o ≡ Some (place.position, frame)
        go None none = absurd (never_both (is_free acks txs cursor.queue cursor.taken own) passes (none own there))
        go (Some found) finds = elim (finds.2 own there passes) [
          | inl equal ↦ ap (λ (f : Framed). Some f) (equal ∙ same)
          | inr before ↦ absurd (sooner found finds.0 finds.1 before)
        ]

    pub none_is_free : (last : ℕ) → IsGiven last cursor acks txs None (pages_from first pages) → All (λ framed. framed.0.page ≤ last) frames → first_free acks txs cursor.queue cursor.taken frames ≡ None
    none_is_free last given within =
        go (find (is_free acks txs cursor.queue cursor.taken) frames) (finds_first (is_free acks txs cursor.queue cursor.taken) first 0 frames (frames_ascend first frames pages has))
      where
        beyond : (found : Framed) → Contains frames found → is_free acks txs cursor.queue cursor.taken found ≡ true → ⊥
        beyond found there free =
            let at = available_at found there free in
            omega (arith, given at.0 at.2, ap (λ (p : Position). p.page) at.1, in_all (λ (f : Framed). f.0.page ≤ last) frames found within there)

        go : (o : Option Framed) → FindsFirst (is_free acks txs cursor.queue cursor.taken) frames o → o ≡ None
        go None none = refl
        go (Some found) finds = absurd (beyond found finds.0 finds.1)
