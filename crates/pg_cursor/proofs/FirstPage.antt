-- What is so of all pages of an address is so of those from a first one on.
use Rattle.std.proofs.Common.{◌≡◌, ◌⊎◌, ◌≤◌, ℕ, Bool, true, false, List, [], Option, Some, None, sym, ◌∙◌, ap, subst, inl, inr, arith}
use Rattle.std.proofs.lemmas.Grind.{common_steps}
use Rattle.std.proofs.lemmas.Bool.{cases_Bool}
use Rattle.std.specs.Prelude.{IfSome, nat_le}
use Rattle.std.specs.Prelude.{if◌then◌else◌}
use Rattle.pg_acks.specs.Acked.{AckSets}
use Rattle.pg_page.specs.declared.frame.Frame.{Frame}
use Rattle.pg_page.specs.declared.place.Place.{Place}
use Rattle.pg_page.specs.Pages.{Pages}
use Rattle.pg_pagetx.specs.Standings.{Transactions}
use Rattle.pg_cursor.specs.declared.tail.Tail.{Tail}
use Rattle.pg_cursor.specs.declared.tail.Tail.TheVariants.{Begin, Behind}
use Rattle.pg_cursor.specs.Entries.{HasFrame, IsLive, pages_from}
use Rattle.pg_cursor.specs.Places.{HasPlace, IsPassed, offset_at, page_of}
use Rattle.pg_cursor.specs.Tracking.{Tracks}
use Rattle.pg_cursor.specs.Walking.{IsAtEnd, TailStands, Walks}

module _ (first : ℕ) (pages : Pages) where
  pub there_from : (page : ℕ) → first ≤ page → pages_from first pages page ≡ pages page
  there_from page later = ap (λ (b : Bool). if b then pages page else None) yes
    where
      yes : nat_le first page ≡ true
      yes = grind (arith, common_steps, later)

  pub there_on : (page : ℕ) (bytes : List ℕ) → pages_from first pages page ≡ Some bytes → (pages page ≡ Some bytes) × (first ≤ page)
  there_on page bytes is = go (cases_Bool (nat_le first page))
    where
      never : None ≡ Some bytes → ⊥
      never e = cc

      go : (nat_le first page ≡ true) ⊎ (nat_le first page ≡ false) → (pages page ≡ Some bytes) × (first ≤ page)
      go (inl within) = (subst (λ (b : Bool). (if b then pages page else None) ≡ Some bytes) within is, grind (arith, common_steps, within))
      go (inr below) = absurd (never (subst (λ (b : Bool). (if b then pages page else None) ≡ Some bytes) below is))

  frame_on : (place : Place) (frame : Frame) → HasFrame (pages_from first pages) place frame → HasFrame pages place frame
  frame_on place frame has = record {
    bytes = has.bytes;
    there = (there_on place.position.page has.bytes has.there).0;
    before = has.before;
    payload = has.payload;
    fit = has.fit;
    at = has.at;
    spelled = has.spelled;
  }

  frame_from : (place : Place) (frame : Frame) → first ≤ place.position.page → HasFrame pages place frame → HasFrame (pages_from first pages) place frame
  frame_from place frame later has = record {
    bytes = has.bytes;
    there = there_from place.position.page later ∙ has.there;
    before = has.before;
    payload = has.payload;
    fit = has.fit;
    at = has.at;
    spelled = has.spelled;
  }

  module _ (queue : ℕ) (acks : AckSets) (txs : Transactions) where
    pub live_on : (place : Place) → IsLive queue acks txs (pages_from first pages) place → IsLive queue acks txs pages place
    live_on place live = record {
      entry = record {
        frame = live.entry.frame;
        has = frame_on place live.entry.frame live.entry.has;
        named = live.entry.named;
        counts = live.entry.counts;
      };
      open_ = live.open_;
    }

    pub live_from : (place : Place) → first ≤ place.position.page → IsLive queue acks txs pages place → IsLive queue acks txs (pages_from first pages) place
    live_from place later live = record {
      entry = record {
        frame = live.entry.frame;
        has = frame_from place live.entry.frame later live.entry.has;
        named = live.entry.named;
        counts = live.entry.counts;
      };
      open_ = live.open_;
    }

    tail_from : (tail : Tail) → first ≤ page_of tail → TailStands tail pages → TailStands tail (pages_from first pages)
    tail_from (Begin page) later stands = tt
    tail_from (Behind place) later stands = record {
      bytes = stands.bytes;
      there = there_from place.position.page later ∙ stands.there;
      is = stands.is;
      fit = stands.fit;
    }

    pub not_passed : (tail : Tail) (place : Place) → (IsPassed tail place.position → ⊥) → page_of tail ≤ place.position.page
    not_passed tail place open_ = go (cases_Bool (nat_le (page_of tail) place.position.page))
      where
        go : (nat_le (page_of tail) place.position.page ≡ true) ⊎ (nat_le (page_of tail) place.position.page ≡ false) → page_of tail ≤ place.position.page
        go (inl within) = grind (arith, common_steps, within)
        go (inr below) = absurd (open_ (inl (grind (arith, common_steps, below))))

    pub walks_from : (old new : Tail) (found : Option Place) → first ≤ page_of old → page_of old ≤ page_of new → Walks queue acks txs old new found pages → Walks queue acks txs old new found (pages_from first pages)
    walks_from old new found later onward walks = record {
      stands = tail_from new (omega (arith, later, onward)) walks.stands;
      passed = λ place live passed. walks.passed place (live_on place live) passed;
      finds = go found walks.finds;
    }
      where
        go : (o : Option Place) → IfSome o (λ place. (new ≡ Behind place) × IsLive queue acks txs pages place × (IsPassed old place.position → ⊥)) → IfSome o (λ place. (new ≡ Behind place) × IsLive queue acks txs (pages_from first pages) place × (IsPassed old place.position → ⊥))
        go None is = tt
        go (Some place) is = (is.0, live_from place (omega (arith, later, not_passed old place is.2)) is.1, is.2)

    pub end_from : (last : ℕ) (tail : Tail) → IsAtEnd queue acks txs last tail pages → IsAtEnd queue acks txs last tail (pages_from first pages)
    end_from last tail end = λ place live within. end place (live_on place live) within

  -- nothing from the first page on is passed at its beginning
  pub begins : (queue address : ℕ) (acks : AckSets) (txs : Transactions) (front taken : List Place) → front ≡ [] → taken ≡ [] → Tracks (record { queue = queue; address = address; tail = Begin first; front = front; taken = taken }) acks txs (pages_from first pages)
  begins queue address acks txs front taken no_front no_taken = record {
    passed = λ place live passed. absurd (unpassed place (there_on place.position.page live.entry.has.bytes live.entry.has.there).1 passed);
    front = λ place has. absurd (nothing front place no_front has);
    taken = λ place has. absurd (nothing taken place no_taken has);
    once = λ position some. ap (λ (l : List Place). offset_at l position) no_taken;
  }
    where
      unpassed : (place : Place) → first ≤ place.position.page → IsPassed (Begin first) place.position → ⊥
      unpassed place later (inl before) = omega (arith, later, before)
      unpassed place later (inr here) = omega (arith, here.1)

      not_some : (place : Place) → None ≡ Some place.offset → ⊥
      not_some place e = cc

      nothing : (places : List Place) (place : Place) → places ≡ [] → HasPlace places place → ⊥
      nothing places place none has = not_some place (sym (ap (λ (l : List Place). offset_at l place.position) none) ∙ has)
