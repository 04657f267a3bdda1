-- Beside the same pages a run has one reply and one state for each line.
use Rattle.std.proofs.Common.{◌≡◌, ◌⊎◌, inl, inr, ℕ, ◌+◌, ◌-◌, ◌≤◌, true, List, [], ◌∷◌, length, Option, Some, None, refl, sym, ◌∙◌, ap, subst, arith}
use Rattle.std.specs.Prelude.{position, slice_get}
use Rattle.std.specs.Option.{option_map}
use Rattle.std.specs.Str.{bytes_eq}
use Rattle.std.proofs.lemmas.List.Quantifiers.{position-Some}
use Rattle.std.proofs.lemmas.Option.{same_Some}
use Rattle.pg_disk.specs.Views.{Contents}
use Rattle.pg_msg.specs.declared.command.Command.{Command}
use Rattle.pg_msg.specs.declared.properties.Property.{Property}
use Rattle.pg_msg.specs.declared.reply.Refusal.{Refusal}
use Rattle.pg_msg.specs.declared.reply.Refusal.TheVariants as refusal
use Rattle.pg_msg.specs.declared.reply.Reply.{Reply}
use Rattle.pg_model.specs.Actions.{Action, MakeAddress, MakeQueue, DropQueue, Send, Open, Receive, Acknowledge, Cancel, Close, Count}
use Rattle.pg_model.specs.Broker.{Address, Broker, address_named}
use Rattle.pg_model.specs.Causes.{Cause, IsFirst}
use Rattle.pg_model.specs.Refusals.{HasAddress, IsHeavy, Paging, View, WantsNumber, WantsPage, cause, causes}
use Rattle.pg_model.specs.Steps.{Run, StepSeen, Takes, asked}
use Rattle.pg_routes.proofs.Determining.{AreOne, takes_once}
use Rattle.pg_run.specs.Sights.{IsSeenBeside}
use Rattle.pg_run.proofs.SightLaws.{one_sight}

-- ---- a step under views that agree
-- the views agree at each address of the state
abbrev Agree : Broker → View → View → Type 0
Agree s view other = (id : ℕ) → 1 ≤ id → id ≤ length s.durable.addresses → view id ≡ other id

-- what is found by a name is the id of an address
record IsPlaced (addresses : List Address) (id : ℕ) : Type 0 where
  least : 1 ≤ id
  most : id ≤ length addresses

none_given : {X : Type 0} (x : X) → None ≡ Some x → ⊥
none_given x is = cc

placed_as : (addresses : List Address) (name : List ℕ) (id : ℕ) (place : Option ℕ) → position (λ a. bytes_eq name a.name) addresses ≡ place → option_map (λ (p : ℕ). p + 1) place ≡ Some id → IsPlaced addresses id
placed_as addresses name id None at is = absurd (none_given id is)
placed_as [] name id (Some place) at is = absurd (none_given place at)
placed_as (a ∷ addresses) name id (Some place) at is =
    let found = position-Some (λ b. bytes_eq name b.name) (a ∷ addresses) place a at in
    let same : place + 1 ≡ id = same_Some (place + 1) id is in
    record { least = omega (arith, same); most = omega (arith, same, found.0) }

is_placed : (addresses : List Address) (name : List ℕ) (id : ℕ) → address_named addresses name ≡ Some id → IsPlaced addresses id
is_placed addresses name id is = placed_as addresses name id (position (λ a. bytes_eq name a.name) addresses) refl is

wants_same : (s : Broker) (view other : View) → Agree s view other → (name : List ℕ) (properties : List Property) → WantsPage view s name properties → WantsPage other s name properties
wants_same s view other agree name properties wants =
    let placed = is_placed s.durable.addresses name wants.0 wants.1 in (
      wants.0,
      wants.1,
      wants.2,
      subst (λ (p : Paging). (p.is_paging ≡ true) ⊎ ((a : Address) × (slice_get s.durable.addresses (wants.0 - 1) ≡ Some a) × (a.settings.max ≤ p.resident))) (agree wants.0 placed.least placed.most) wants.3,
    )

flipped : (s : Broker) (view other : View) → Agree s view other → Agree s other view
flipped s view other agree id least most = sym (agree id least most)

-- where the causes behind a cause have the same first one, so they have with it
behind_cause : (c : Cause Refusal) (cs ds : List (Cause Refusal)) (answer : Option Refusal) → (IsFirst cs answer → IsFirst ds answer) → IsFirst (c ∷ cs) answer → IsFirst (c ∷ ds) answer
behind_cause c cs ds answer more (inl here) = inl here
behind_cause c cs ds answer more (inr rest) = inr (rest.0, more rest.1)

last_cause : (P Q : Type 0) (word : Refusal) (answer : Option Refusal) → (P → Q) → (Q → P) → (P × (answer ≡ Some word)) ⊎ ((P → ⊥) × (answer ≡ None)) → (Q × (answer ≡ Some word)) ⊎ ((Q → ⊥) × (answer ≡ None))
last_cause P Q word answer there back (inl here) = inl (there here.0, here.1)
last_cause P Q word answer there back (inr none) = inr ((λ q. none.0 (back q)), none.1)

fourth_same : (a b c : Cause Refusal) (P Q : Type 0) (word : Refusal) (answer : Option Refusal) → (P → Q) → (Q → P) → IsFirst (a ∷ b ∷ c ∷ cause P word ∷ []) answer → IsFirst (a ∷ b ∷ c ∷ cause Q word ∷ []) answer
fourth_same a b c P Q word answer there back =
    behind_cause a (b ∷ c ∷ cause P word ∷ []) (b ∷ c ∷ cause Q word ∷ []) answer
    (behind_cause b (c ∷ cause P word ∷ []) (c ∷ cause Q word ∷ []) answer (behind_cause c (cause P word ∷ []) (cause Q word ∷ []) answer (last_cause P Q word answer there back)))

first_same : (s : Broker) (view other : View) → Agree s view other → (action : Action) (answer : Option Refusal) → IsFirst (causes view s action) answer → IsFirst (causes other s action) answer
first_same s view other agree (MakeAddress name settings) answer is = is
first_same s view other agree (MakeQueue name address filter) answer is = is
first_same s view other agree (DropQueue name) answer is = is
first_same s view other agree (Send address properties body) answer is =
    fourth_same (cause (HasAddress s address → ⊥) refusal.Address) (cause (IsHeavy s properties body) refusal.Size) (cause (WantsNumber s address properties) refusal.Ids) (WantsPage view s address properties)
    (WantsPage other s address properties) refusal.Line answer (wants_same s view other agree address properties) (wants_same s other view (flipped s view other agree) address properties) is
first_same s view other agree (Open name on) answer is = is
first_same s view other agree (Receive consumer) answer is = is
first_same s view other agree (Acknowledge consumer id) answer is = is
first_same s view other agree (Cancel consumer id) answer is = is
first_same s view other agree (Close consumer) answer is = is
first_same s view other agree (Count on) answer is = is

takes_same : (s t : Broker) (view other : View) → Agree s view other → (asks : Option Action) (reply : Reply) → Takes view s asks reply t → Takes other s asks reply t
takes_same s t view other agree None reply takes = takes
takes_same s t view other agree (Some action) reply takes = record { refusal = takes.refusal; first = first_same s view other agree action takes.refusal takes.first; answers = takes.answers }

-- ---- run by run
-- a run over a line and others
record Begins (Sees : Broker → View → Type 0) (s : Broker) (item : Option Command) (items : List (Option Command)) (replies : List Reply) (states : List Broker) : Type 0 where
  reply : Reply
  next : Broker
  more_replies : List Reply
  more_states : List Broker
  replies_are : replies ≡ reply ∷ more_replies
  states_are : states ≡ next ∷ more_states
  step : StepSeen Sees s item reply next
  run : Run Sees next items more_replies more_states

begins : (Sees : Broker → View → Type 0) (s : Broker) (item : Option Command) (items : List (Option Command)) (replies : List Reply) (states : List Broker) → Run Sees s (item ∷ items) replies states → Begins Sees s item items replies states
begins Sees s item items [] states run = absurd run
begins Sees s item items (reply ∷ replies) [] run = absurd run
begins Sees s item items (reply ∷ replies) (t ∷ states) run = record { reply = reply; next = t; more_replies = replies; more_states = states; replies_are = refl; states_are = refl; step = run.0; run = run.1 }

nothing_run : (Sees : Broker → View → Type 0) (s : Broker) (replies : List Reply) (states : List Broker) → Run Sees s [] replies states → (replies ≡ []) × (states ≡ [])
nothing_run Sees s [] [] run = (refl, refl)
nothing_run Sees s [] (t ∷ states) run = absurd run
nothing_run Sees s (reply ∷ replies) states run = absurd run

-- one reply and one state a line
pub one_run : (pages : Contents) (s : Broker) (items : List (Option Command)) (replies others : List Reply) (states ends : List Broker) → Run (IsSeenBeside pages) s items replies states → Run (IsSeenBeside pages) s items others ends → (replies ≡ others) × (states ≡ ends)
one_run pages s [] replies others states ends this that =
    let one = nothing_run (IsSeenBeside pages) s replies states this in
    let two = nothing_run (IsSeenBeside pages) s others ends that in
    (one.0 ∙ sym two.0, one.1 ∙ sym two.1)
one_run pages s (item ∷ items) replies others states ends this that =
    let one = begins (IsSeenBeside pages) s item items replies states this in
    let two = begins (IsSeenBeside pages) s item items others ends that in
    let agree = one_sight pages s two.step.0 one.step.0 two.step.1 one.step.1 in
    let are : AreOne one.reply two.reply one.next two.next = takes_once one.step.0 s one.next two.next (asked item) one.reply two.reply one.step.2 (takes_same s two.next two.step.0 one.step.0 agree (asked item) two.reply two.step.2) in
    let rest = one_run pages one.next items one.more_replies two.more_replies one.more_states two.more_states one.run (subst (λ (t : Broker). Run (IsSeenBeside pages) t items two.more_replies two.more_states) (sym are.states) two.run) in (
      one.replies_are ∙ (ap (λ (r : Reply). r ∷ one.more_replies) are.replies ∙ (ap (λ (rs : List Reply). two.reply ∷ rs) rest.0 ∙ sym two.replies_are)),
      one.states_are ∙ (ap (λ (t : Broker). t ∷ one.more_states) are.states ∙ (ap (λ (ts : List Broker). two.next ∷ ts) rest.1 ∙ sym two.states_are)),
    )
