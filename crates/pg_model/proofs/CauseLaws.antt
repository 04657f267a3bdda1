-- One answer at most is that of the first cause that holds.
use Rattle.std.proofs.Common.{◌≡◌, inl, inr, List, [], ◌∷◌, Option, Some, None, refl, sym, ◌∙◌, ap}
use Rattle.pg_msg.specs.declared.reply.Refusal.{Refusal}
use Rattle.pg_msg.specs.declared.reply.Refusal.TheVariants as refusal
use Rattle.pg_parse.proofs.FilterLaws.{filter_offset}
use Rattle.pg_model.specs.Actions.{Action, MakeAddress, MakeQueue, DropQueue, Send, Open, Receive, Acknowledge, Cancel, Close, Count}
use Rattle.pg_model.specs.Broker.{Broker}
use Rattle.pg_model.specs.Causes.{Cause, IsFirst}
use Rattle.pg_model.specs.Refusals.{View, causes}

-- each cause has one answer, however it is seen to hold
abbrev pub HaveOne : {Answer : Type 0} → List (Cause Answer) → Type 0
HaveOne [] = Unit {0}
HaveOne (cause ∷ causes) = ((held other : cause.holds) → cause.tells held ≡ cause.tells other) × HaveOne causes

pub one_first : {Answer : Type 0} (causes : List (Cause Answer)) (a b : Option Answer) → HaveOne causes → IsFirst causes a → IsFirst causes b → a ≡ b
one_first [] a b one this that = this ∙ sym that
one_first (cause ∷ others) a b one (inl this) (inl that) = this.1 ∙ (ap Some (one.0 this.0 that.0) ∙ sym that.1)
one_first (cause ∷ others) a b one (inl this) (inr that) = absurd (that.0 this.0)
one_first (cause ∷ others) a b one (inr this) (inl that) = absurd (this.0 that.0)
one_first (cause ∷ others) a b one (inr this) (inr that) = one_first others a b one.1 this.1 that.1

have_one : (view : View) (s : Broker) (action : Action) → HaveOne (causes view s action)
have_one view s (MakeAddress name settings) = (λ a b. refl, (λ a b. refl, tt))
have_one view s (MakeQueue name address None) = (λ a b. refl, (λ a b. refl, (λ a b. refl, tt)))
have_one view s (MakeQueue name address (Some text)) =
    (λ a b. refl, (λ a b. refl, (λ a b. refl, (λ a b. ap refusal.Filter (filter_offset text a.0 b.0 a.1 b.1), tt))))
have_one view s (DropQueue name) = (λ a b. refl, (λ a b. refl, tt))
have_one view s (Send address properties body) = (λ a b. refl, (λ a b. refl, (λ a b. refl, (λ a b. refl, tt))))
have_one view s (Open name queue) = (λ a b. refl, (λ a b. refl, tt))
have_one view s (Receive consumer) = (λ a b. refl, tt)
have_one view s (Acknowledge consumer id) = (λ a b. refl, (λ a b. refl, tt))
have_one view s (Cancel consumer id) = (λ a b. refl, (λ a b. refl, tt))
have_one view s (Close consumer) = (λ a b. refl, tt)
have_one view s (Count queue) = (λ a b. refl, tt)

pub refused_once : (view : View) (s : Broker) (action : Action) (a b : Option Refusal) → IsFirst (causes view s action) a → IsFirst (causes view s action) b → a ≡ b
refused_once view s action a b this that = one_first (causes view s action) a b (have_one view s action) this that
