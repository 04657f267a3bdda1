-- Which bytes of a file a run of calls may change.
use Rattle.std.proofs.Common.{inl, inr, ⊎_elim, ℕ, ◌+◌, ◌≤◌, List, length, Bool, Option, Some, None, refl, sym, ◌∙◌, subst, arith}
use Rattle.pg_disk.specs.declared.file_id.FileId.{FileId}
use Rattle.pg_disk.specs.Account.{FileState, Account}
use Rattle.pg_disk.specs.Calls.{Rewrites, Synced, There, Touches, Wrote}
use Rattle.pg_disk.proofs.Runs.{Since, since_first, since_then}

pub touches_none : (lo hi : ℕ) (a : List ℕ) → Touches lo hi a a
touches_none lo hi a = record { outside = λ i lt where_. refl; no_shorter = omega arith; no_longer = omega arith }

pub touches_wider : (lo hi low high : ℕ) (a b : List ℕ) → Touches lo hi a b → low ≤ lo → hi ≤ high → Touches low high a b
touches_wider lo hi low high a b t below above = record {
  outside = λ i lt where_. t.outside i lt (⊎_elim (λ x. inl (omega (arith, x, below))) (λ x. inr (omega (arith, x, above))) where_);
  no_shorter = t.no_shorter;
  no_longer = omega (arith, t.no_longer, above);
}

pub touches_then : (lo hi : ℕ) (a b c : List ℕ) → Touches lo hi a b → Touches lo hi b c → Touches lo hi a c
touches_then lo hi a b c s t = record {
  outside = λ i lt where_. t.outside i (omega (arith, lt, s.no_shorter)) where_ ∙ s.outside i lt where_;
  no_shorter = omega (arith, s.no_shorter, t.no_shorter);
  no_longer = omega (arith, s.no_longer, t.no_longer);
}

pub touches_wrote : (at : ℕ) (bytes : List ℕ) (ok : Bool) (a b : FileState) → Wrote at bytes ok a b → Touches at (at + length bytes) a.bytes b.bytes
touches_wrote at bytes ok a b wrote = record { outside = wrote.outside; no_shorter = wrote.no_shorter; no_longer = wrote.no_longer }

pub rewrites_none : (lo hi : ℕ) (s : Option FileState) → Rewrites lo hi s s
rewrites_none lo hi None = refl
rewrites_none lo hi (Some s) = touches_none lo hi s.bytes

pub rewrites_then : (lo hi : ℕ) (r s t : Option FileState) → Rewrites lo hi r s → Rewrites lo hi s t → Rewrites lo hi r t
rewrites_then lo hi None s t one two = subst (λ o. Rewrites lo hi o t) one two
rewrites_then lo hi (Some r) None t one two = absurd one
rewrites_then lo hi (Some r) (Some s) None one two = absurd two
rewrites_then lo hi (Some r) (Some s) (Some t) one two = touches_then lo hi r.bytes s.bytes t.bytes one two

pub rewrites_wider : (lo hi low high : ℕ) (s t : Option FileState) → Rewrites lo hi s t → low ≤ lo → hi ≤ high → Rewrites low high s t
rewrites_wider lo hi low high None t is below above = is
rewrites_wider lo hi low high (Some s) None is below above = absurd is
rewrites_wider lo hi low high (Some s) (Some t) is below above = touches_wider lo hi low high s.bytes t.bytes is below above

pub rewrites_wrote : (at : ℕ) (bytes : List ℕ) (ok : Bool) (lo hi : ℕ) (s t : Option FileState) → There (Wrote at bytes ok) s t → lo ≤ at → at + length bytes ≤ hi → Rewrites lo hi s t
rewrites_wrote at bytes ok lo hi None t is below above = absurd is
rewrites_wrote at bytes ok lo hi (Some s) None is below above = absurd is
rewrites_wrote at bytes ok lo hi (Some s) (Some t) is below above = touches_wider at (at + length bytes) lo hi s.bytes t.bytes (touches_wrote at bytes ok s t is) below above

pub rewrites_synced : (ok : Bool) (lo hi : ℕ) (s t : Option FileState) → There (Synced ok) s t → Rewrites lo hi s t
rewrites_synced ok lo hi None t is = absurd is
rewrites_synced ok lo hi (Some s) None is = absurd is
rewrites_synced ok lo hi (Some s) (Some t) is = subst (λ l. Touches lo hi s.bytes l) (sym is.bytes) (touches_none lo hi s.bytes)

-- the same of a disk: nothing was done, a write, a sync, and a run that rewrites
pub rewrote_none : (id : FileId) (tells : Option Account) (lo hi : ℕ) → Since id tells (Rewrites lo hi) tells
rewrote_none id tells lo hi = since_first id tells (Rewrites lo hi) (λ h. rewrites_none lo hi _)

pub then_rewrote : (id : FileId) (old mid new : Option Account) (lo hi low high : ℕ) → Since id old (Rewrites lo hi) mid → Since id mid (Rewrites low high) new → lo ≤ low → high ≤ hi → Since id old (Rewrites lo hi) new
then_rewrote id old mid new lo hi low high first second below above =
    since_then id old mid new (Rewrites lo hi) (Rewrites low high) (Rewrites lo hi) first second (λ _ r s t one two _. rewrites_then lo hi r s t one (rewrites_wider low high lo hi s t two below above))

pub then_wrote : (id : FileId) (old mid new : Option Account) (lo hi at : ℕ) (bytes : List ℕ) (ok : Bool) → Since id old (Rewrites lo hi) mid → Since id mid (There (Wrote at bytes ok)) new → lo ≤ at → at + length bytes ≤ hi → Since id old (Rewrites lo hi) new
then_wrote id old mid new lo hi at bytes ok first second below above =
    since_then id old mid new (Rewrites lo hi) (There (Wrote at bytes ok)) (Rewrites lo hi) first second (λ _ r s t one two _. rewrites_then lo hi r s t one (rewrites_wrote at bytes ok lo hi s t two below above))

pub then_synced : (id : FileId) (old mid new : Option Account) (lo hi : ℕ) (ok : Bool) → Since id old (Rewrites lo hi) mid → Since id mid (There (Synced ok)) new → Since id old (Rewrites lo hi) new
then_synced id old mid new lo hi ok first second =
    since_then id old mid new (Rewrites lo hi) (There (Synced ok)) (Rewrites lo hi) first second (λ _ r s t one two _. rewrites_then lo hi r s t one (rewrites_synced ok lo hi s t two))
