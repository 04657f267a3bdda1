-- What is seen beside pages is one view of each address.
use Rattle.std.proofs.Common.{◌≡◌, ◌≢◌, inl, inr, ℕ, suc, ◌-◌, ◌≤◌, ◌<◌, ◌==◌, ◌↔◌, Bool, true, false, not, List, [], ◌∷◌, ◌++◌, length, map, get_or, Some, refl, sym, ◌∙◌, ap, subst, arith, eqb-true}
use Rattle.std.specs.Prelude.{◌&&◌, ◌||◌, All, filter, sum_by}
use Rattle.std.specs.List.{AllPairs, Contains, list_all, list_any}
use Rattle.std.proofs.lemmas.Bool.{and_from, and_parts, both_ways, cases_Bool, cases_order, eq-eqb}
use Rattle.std.proofs.lemmas.Bool.Decides.{nat_tests}
use Rattle.std.proofs.lemmas.List.{get_or-map, length-map}
use Rattle.std.proofs.lemmas.List.Elements.{All-contains, All-nil, All-push, at_from_Contains, Contains-append_cases, Contains-append_left, Contains-append_right}
use Rattle.std.proofs.lemmas.List.Kept.{AllPairs-filter}
use Rattle.std.proofs.lemmas.List.Sums.{sum_by-append, sum_by-cons}
use Rattle.pg_disk.specs.Views.{Contents}
use Rattle.pg_msg.specs.declared.message.Message.{Message}
use Rattle.pg_msg.specs.declared.message.MessageId.{MessageId}
use Rattle.pg_msg.specs.Messages.{weight_of}
use Rattle.pg_model.specs.Broker.{Broker, Durable, Queue}
use Rattle.pg_model.specs.Refusals.{Paging, View}
use Rattle.pg_records.specs.declared.entry.Entry.{Entry}
use Rattle.pg_records.specs.declared.entry.Entry.TheVariants as entry
use Rattle.pg_fold.specs.declared.durable.Durable.{Durable as Folded}
use Rattle.pg_fold.specs.declared.rows.AddressRow.{AddressRow}
use Rattle.pg_fold.specs.declared.rows.JournaledRow.{JournaledRow}
use Rattle.pg_fold.specs.declared.rows.QueueRow.{QueueRow}
use Rattle.pg_fold.specs.Fold.{Folds, changed, fresh}
use Rattle.pg_fold.specs.Rows.{AreAscending, has_number, has_queue_at, same_id}
use Rattle.pg_fold.specs.Sound.{IsHeldRow, IsSound}
use Rattle.pg_fold.proofs.SoundLaws.{sound_folded}
use Rattle.pg_recover.specs.Denotation.{address_of, durable_part, held_at, held_by, queue_of, weight_at}
use Rattle.pg_recover.specs.Viewing.{HasPage, IsShown}
use Rattle.pg_recover.specs.WellFormed.{page_file}
use Rattle.pg_routes.proofs.Members.{from_filtered, from_mapped, in_cases, in_filtered, in_first, in_mapped, in_rest, nothing_in}
use Rattle.pg_engine.proofs.WellEngine.{have_fields}
use Rattle.pg_run.specs.Sights.{HasSomePage, IsSeenBeside}

-- ---- two lists with the same elements
-- what stands before an element and behind it
split_at : {X : Type 0} (x : X) (ys : List X) → Contains ys x → (front : List X) × (behind : List X) × (ys ≡ front ++ x ∷ behind)
split_at x [] there = absurd (nothing_in x there)
split_at {X} x (y ∷ ys) there = elim (in_cases x y ys there) [
  | inl is ↦ ([], ys, ap (λ (z : X). z ∷ ys) is)
  | inr rest ↦ let s = split_at x ys rest in (y ∷ s.0, s.1, ap (λ (zs : List X). y ∷ zs) s.2)
]

-- the first differs from each of the others
first_apart : {X : Type 0} (x z : X) (xs : List X) → AllPairs (λ a b. a ≢ b) (x ∷ xs) → Contains xs z → x ≢ z
first_apart x z xs apart there is = apart 0 (suc there.0) z (omega arith) (omega (arith, there.1)) (is ∙ sym there.2)

rest_apart : {X : Type 0} (x : X) (xs : List X) → AllPairs (λ a b. a ≢ b) (x ∷ xs) → AllPairs (λ a b. a ≢ b) xs
rest_apart x xs apart i j d less within = apart (suc i) (suc j) d (omega (arith, less)) (omega (arith, within))

-- where each element of a list without repetition is one of another, it comes to no more
sum_within : {X : Type 0} (f : X → ℕ) (xs ys : List X) → AllPairs (λ a b. a ≢ b) xs → ((x : X) → Contains xs x → Contains ys x) → sum_by f xs ≤ sum_by f ys
sum_within f [] ys apart all = omega arith
sum_within {X} f (x ∷ xs) ys apart all =
    let s = split_at x ys (all x (in_first x xs)) in
    let rest = sum_within f xs (s.0 ++ s.1) (rest_apart x xs apart) (λ z there. other z there s.0 s.1 (subst (λ (l : List X). Contains l z) s.2 (all z (in_rest z x xs there)))) in
    omega (arith, rest, sum_by-append f s.0 s.1, sum_by-append f s.0 (x ∷ s.1), sum_by-cons f x s.1, sum_by-cons f x xs, ap (λ (l : List X). sum_by f l) s.2)
  where
    other : (z : X) → Contains xs z → (front behind : List X) → Contains (front ++ x ∷ behind) z → Contains (front ++ behind) z
    other z there front behind among = elim (Contains-append_cases front (x ∷ behind) z among) [
      | inl before ↦ Contains-append_left front behind z before
      | inr after ↦ elim (in_cases z x behind after) [
        | inl is ↦ absurd (first_apart x z xs apart there is)
        | inr later ↦ Contains-append_right front behind z later
      ]
    ]

-- so lists with the same elements, each once, come to the same
same_sum : {X : Type 0} (f : X → ℕ) (xs ys : List X) → AllPairs (λ a b. a ≢ b) xs → AllPairs (λ a b. a ≢ b) ys → ((x : X) → Contains xs x → Contains ys x) → ((x : X) → Contains ys x → Contains xs x) → sum_by f xs ≡ sum_by f ys
same_sum f xs ys apart others within back = omega (arith, sum_within f xs ys apart within, sum_within f ys xs others back)

-- ---- the messages of an address
-- an element that passes
one_passes : {X : Type 0} (p : X → Bool) (xs : List X) → list_any p xs ≡ true → (x : X) × Contains xs x × (p x ≡ true)
one_passes p [] is = absurd (both_ways false refl is)
one_passes p (x ∷ xs) is = elim (cases_Bool (p x)) [
  | inl here ↦ (x, in_first x xs, here)
  | inr other ↦ let rest = one_passes p xs (subst (λ (b : Bool). (b || list_any p xs) ≡ true) other is) in (rest.0, in_rest rest.0 x xs rest.1, rest.2)
]

-- some holder is a live queue of the address
record Holder (queues : List QueueRow) (row : JournaledRow) : Type 0 where
  queue : QueueRow
  live : Contains queues queue
  at : queue.address ≡ row.address
  holds : has_number row.holders queue.id ≡ true

-- a live queue of that id has the address
queue_at : (queues : List QueueRow) (address id : ℕ) → has_queue_at queues address id ≡ true → (queue : QueueRow) × Contains queues queue × (queue.id ≡ id) × (queue.address ≡ address)
queue_at queues address id is =
    let one = one_passes (λ row. (row.id == id) && (row.address == address)) queues is in
    let both = and_parts (one.0.id == id) (one.0.address == address) one.2 in
    (one.0, one.1, eqb-true one.0.id id both.0, eqb-true one.0.address address both.1)

-- each number among the holders
holder_passes : (p : ℕ → Bool) (holders : List ℕ) (id : ℕ) → list_all p holders ≡ true → has_number holders id ≡ true → p id ≡ true
holder_passes p [] id all is = absurd (both_ways false refl is)
holder_passes p (n ∷ holders) id all is =
    let both = and_parts (p n) (list_all p holders) all in
    elim (cases_Bool (n == id)) [
      | inl here ↦ subst (λ (k : ℕ). p k ≡ true) (eqb-true n id here) both.0
      | inr other ↦ holder_passes p holders id both.1 (subst (λ (b : Bool). (b || has_number holders id) ≡ true) other is)
    ]

some_holder : (queues : List QueueRow) (address : ℕ) (holders : List ℕ) → not (length holders == 0) ≡ true → list_all (has_queue_at queues address) holders ≡ true → (id : ℕ) × (has_number holders id ≡ true) × (has_queue_at queues address id ≡ true)
some_holder queues address [] some all = absurd (both_ways false refl some)
some_holder queues address (id ∷ holders) some all = (id, has_first id holders, (and_parts (has_queue_at queues address id) (list_all (has_queue_at queues address) holders) all).0)
  where
    has_first : (id : ℕ) (holders : List ℕ) → has_number (id ∷ holders) id ≡ true
    has_first id holders = grind (arith, nat_tests)

held_somewhere : (d : Folded) (row : JournaledRow) → IsHeldRow d.addresses d.queues row → Holder d.queues row
held_somewhere d row held =
    let one = some_holder d.queues row.address row.holders held.held held.holders in
    let queue = queue_at d.queues row.address one.0 one.2 in
    record { queue = queue.0; live = queue.1; at = queue.3; holds = subst (λ (id : ℕ). has_number row.holders id ≡ true) (sym queue.2) one.1 }

-- two live queues with one id are one
one_queue : (queues : List QueueRow) → AreAscending queues → (a b : QueueRow) → Contains queues a → Contains queues b → a.id ≡ b.id → a.address ≡ b.address
one_queue queues ascending a b in_a in_b same =
    let p = at_from_Contains queues a in_a in
    let q = at_from_Contains queues b in_b in
    let a_id = ap (λ (r : QueueRow). r.id) (p.2 a) in
    let b_id = ap (λ (r : QueueRow). r.id) (q.2 a) in
    elim (cases_order p.0 q.0) [
      | inl here ↦ ap (λ (r : QueueRow). r.address) (sym (p.2 a) ∙ (ap (λ (n : ℕ). get_or queues n a) here ∙ q.2 a))
      | inr apart ↦ elim apart [
        | inl less ↦ absurd (omega (arith, ascending p.0 q.0 a less q.1, a_id, b_id, same))
        | inr more ↦ absurd (omega (arith, ascending q.0 p.0 a more p.1, a_id, b_id, same))
      ]
    ]

-- a message of the address is one of it in each other state that stands for the same
module _ (d e : Folded) (sound : IsSound d) (other : IsSound e) (same : durable_part d ≡ durable_part e) (id : ℕ) where
  -- the message of a row of the address, in the queue of its holder
  in_queue : (row : JournaledRow) → Contains d.journaled row → row.address ≡ id → (queue : QueueRow) × Contains e.queues queue × (queue.address ≡ id) × Contains (held_by queue.id e.journaled) row.message
  in_queue row there at =
      let holder = held_somewhere d row (All-contains (IsHeldRow d.addresses d.queues) d.journaled row sound.held there) in
      let held : Contains (held_by holder.queue.id d.journaled) row.message
      = in_mapped (λ (r : JournaledRow). r.message) (filter (λ (r : JournaledRow). has_number r.holders holder.queue.id) d.journaled) row
      (in_filtered (λ (r : JournaledRow). has_number r.holders holder.queue.id) d.journaled row holder.holds there) in
      let queue = from_mapped (queue_of e.journaled) e.queues (queue_of d.journaled holder.queue)
      (subst (λ (qs : List Queue). Contains qs (queue_of d.journaled holder.queue)) (ap (λ (p : Durable). p.queues) same) (in_mapped (queue_of d.journaled) d.queues holder.queue holder.live)) in (
        queue.0,
        queue.1,
        ap (λ (q : Queue). q.address) queue.2 ∙ (holder.at ∙ at),
        subst (λ (ms : List Message). Contains ms row.message) (sym (ap (λ (q : Queue). q.messages) queue.2)) held,
      )

  -- and so among those of the address
  from_queue : (m : Message) (queue : QueueRow) → Contains e.queues queue → queue.address ≡ id → Contains (held_by queue.id e.journaled) m → Contains (held_at id e.journaled) m
  from_queue m queue live at held =
      let holds = λ (r : JournaledRow). has_number r.holders queue.id in
      let one = from_mapped (λ (r : JournaledRow). r.message) (filter (λ (r : JournaledRow). has_number r.holders queue.id) e.journaled) m held in
      let row = from_filtered (λ (r : JournaledRow). has_number r.holders queue.id) e.journaled one.0 one.1 in
      let is = All-contains (IsHeldRow e.addresses e.queues) e.journaled one.0 other.held row.0 in
      let live_at = queue_at e.queues one.0.address queue.id (holder_passes (has_queue_at e.queues one.0.address) one.0.holders queue.id is.holders row.1) in
      let of : one.0.address ≡ id = sym live_at.3 ∙ (one_queue e.queues other.queues.ascending live_at.0 queue live_at.1 live live_at.2 ∙ at) in
      subst (λ (x : Message). Contains (held_at id e.journaled) x) one.2
      (in_mapped (λ (r : JournaledRow). r.message) (filter (λ (r : JournaledRow). r.address == id) e.journaled) one.0
      (in_filtered (λ (r : JournaledRow). r.address == id) e.journaled one.0 (eq-eqb one.0.address id of) row.0))

  still_held : (m : Message) → Contains (held_at id d.journaled) m → Contains (held_at id e.journaled) m
  still_held m there =
      let one = from_mapped (λ (r : JournaledRow). r.message) (filter (λ (r : JournaledRow). r.address == id) d.journaled) m there in
      let row = from_filtered (λ (r : JournaledRow). r.address == id) d.journaled one.0 one.1 in
      let at = in_queue one.0 row.0 (eqb-true one.0.address id row.1) in
      subst (λ (x : Message). Contains (held_at id e.journaled) x) one.2 (from_queue one.0.message at.0 at.1 at.2 at.3)

-- no message is held twice
held_once : (d : Folded) → IsSound d → (id : ℕ) → AllPairs (λ a b. a ≢ b) (held_at id d.journaled)
held_once d sound id = apart (filter (λ (r : JournaledRow). r.address == id) d.journaled)
    (AllPairs-filter (λ (a b : JournaledRow). same_id a.message.id b.message.id ≡ false) (λ (r : JournaledRow). r.address == id) d.journaled sound.messages.ids)
  where
    itself : (id : MessageId) → same_id id id ≡ true
    itself id = and_from (id.epoch == id.epoch) (id.number == id.number) (eq-eqb id.epoch id.epoch refl) (eq-eqb id.number id.number refl)

    differ : (m n : Message) → same_id m.id n.id ≡ false → m ≢ n
    differ m n unlike is = both_ways (same_id m.id n.id) unlike (subst (λ (o : Message). same_id m.id o.id ≡ true) is (itself m.id))

    apart : (rows : List JournaledRow) → AllPairs (λ a b. same_id a.message.id b.message.id ≡ false) rows → AllPairs (λ a b. a ≢ b) (map (λ (r : JournaledRow). r.message) rows)
    apart [] pairs i j m less within = absurd (omega (arith, within))
    apart (r ∷ rows) pairs i j m less within =
        let count = length-map (r ∷ rows) (λ (r : JournaledRow). r.message) in
        let first = get_or-map (λ (r : JournaledRow). r.message) (r ∷ rows) i r m (omega (arith, less, within, count)) in
        let second = get_or-map (λ (r : JournaledRow). r.message) (r ∷ rows) j r m (omega (arith, within, count)) in
        λ is. differ (get_or (r ∷ rows) i r).message (get_or (r ∷ rows) j r).message (pairs i j r less (omega (arith, within, count))) (sym first ∙ (is ∙ second))

one_weight : (d e : Folded) → IsSound d → IsSound e → durable_part d ≡ durable_part e → (id : ℕ) → weight_at id d.journaled ≡ weight_at id e.journaled
one_weight d e sound other same id =
    same_sum weight_of (held_at id d.journaled) (held_at id e.journaled) (held_once d sound id) (held_once e other id) (still_held d e sound other same id) (still_held e d other sound (sym same) id)

-- ---- the first pages
-- every address begins with page 1
firsts_changed : (d : Folded) (e : Entry) → All (λ row. row.first ≡ 1) d.addresses → All (λ row. row.first ≡ 1) (changed d e).addresses
firsts_changed d (entry.Epoch epoch) are = are
firsts_changed d (entry.Address address name max page ahead dup) are = All-push (λ (row : AddressRow). row.first ≡ 1) d.addresses _ are refl
firsts_changed d (entry.Queue queue address name filter) are = are
firsts_changed d (entry.DropQueue queue) are = are
firsts_changed d (entry.Add address queues message) are = are
firsts_changed d (entry.Ack queue message) are = are
firsts_changed d (entry.NextQueue queue) are = are
firsts_changed d (entry.AckAt queue page index) are = are
firsts_changed d (entry.PageDone queue page) are = are
firsts_changed d (entry.PageTx tx last) are = are
firsts_changed d (entry.Dup address id) are = are
firsts_changed d (entry.LargeAdd message size queues) are = are
firsts_changed d (entry.LargeAck queue message) are = are
firsts_changed d (entry.FirstPage address page) are = are
firsts_changed d (entry.AckRun queue page start end) are = are

firsts_are : (d e : Folded) (entries : List Entry) → All (λ row. row.first ≡ 1) d.addresses → Folds d entries e → All (λ row. row.first ≡ 1) e.addresses
firsts_are d e [] are is = subst (λ (s : Folded). All (λ row. row.first ≡ 1) s.addresses) (sym is) are
firsts_are d e (x ∷ entries) are folds =
    firsts_are folds.0 e entries (subst (λ (s : Folded). All (λ row. row.first ≡ 1) s.addresses) (sym folds.1.effect) (firsts_changed d x are)) folds.2

-- ---- the view of an address
-- what is seen of an address, in words of the pages
record Sight (pages : Contents) (state : Folded) (id : ℕ) (paging : Paging) : Type 0 where
  resident : paging.resident ≡ weight_at id state.journaled
  paged : (paging.is_paging ≡ true) ↔ HasSomePage pages id

module _ (pages : Contents) (s : Broker) (view : View) (seen : IsSeenBeside pages s view) where
  abbrev state_seen : Folded
  state_seen = seen.shown.state

  sound_seen : IsSound state_seen
  sound_seen = let folds = seen.shown.folds in sound_folded state_seen folds.entries (have_fields folds.batches folds.entries folds.spelled) folds.folded

  some_page : (row : AddressRow) (id : ℕ) → row.id ≡ id → row.first ≡ 1 → HasPage seen.contents row → HasSomePage pages id
  some_page row id is first page = (
    page.0,
    omega (arith, page.1, first),
    (page.2.0, sym (seen.beside id page.0) ∙ subst (λ (n : ℕ). seen.contents (page_file n page.0) ≡ Some page.2.0) is page.2.1),
  )

  has_page : (row : AddressRow) (id : ℕ) → row.id ≡ id → row.first ≡ 1 → HasSomePage pages id → HasPage seen.contents row
  has_page row id is first page = (
    page.0,
    omega (arith, page.1, first),
    (page.2.0, subst (λ (n : ℕ). seen.contents (page_file n page.0) ≡ Some page.2.0) (sym is) (seen.beside id page.0 ∙ page.2.1)),
  )

  by_row : (row : AddressRow) (id : ℕ) → row.id ≡ id → row.first ≡ 1 → IsShown seen.contents state_seen row (view row.id) → Sight pages state_seen id (view id)
  by_row row id is first shown =
      let here : IsShown seen.contents state_seen row (view id) = subst (λ (n : ℕ). IsShown seen.contents state_seen row (view n)) is shown in
      record {
        resident = here.resident ∙ ap (λ (n : ℕ). weight_at n state_seen.journaled) is;
        paged = ((λ paged. some_page row id is first (here.paged.0 paged)), (λ page. here.paged.1 (has_page row id is first page)));
      }

  sight : (id : ℕ) → 1 ≤ id → id ≤ length s.durable.addresses → Sight pages state_seen id (view id)
  sight id least most =
      let blank : AddressRow = record { id = 0; name = []; max = 0; page = 0; ahead = 0; dup = 0; first = 0 } in
      let count : length s.durable.addresses ≡ length state_seen.addresses = ap (λ (d : Durable). length d.addresses) seen.shown.is ∙ length-map state_seen.addresses address_of in
      let within : id - 1 < length state_seen.addresses = omega (arith, least, most, count) in
      let numbered = sound_seen.addresses.numbered (id - 1) blank within in
      by_row (get_or state_seen.addresses (id - 1) blank) id (omega (arith, numbered, least))
      (firsts_are fresh state_seen seen.shown.folds.entries (All-nil (λ (row : AddressRow). row.first ≡ 1)) seen.shown.folds.folded (id - 1) blank within) (seen.shown.each (id - 1) blank within)

same_truth : (a b : Bool) → (a ≡ true → b ≡ true) → (b ≡ true → a ≡ true) → a ≡ b
same_truth true b there back = sym (there refl)
same_truth false true there back = back refl
same_truth false false there back = refl

same_paging : (p q : Paging) → p.resident ≡ q.resident → p.is_paging ≡ q.is_paging → p ≡ q
same_paging p q resident paging =
    let with_resident : Paging = record { resident = q.resident; is_paging = p.is_paging } in
    let one : p ≡ with_resident = ap (λ (n : ℕ). record { resident = n; is_paging = p.is_paging }) resident in
    let two : with_resident ≡ q = ap (λ (b : Bool). record { resident = q.resident; is_paging = b }) paging in
    one ∙ two

-- two views that are seen beside the same pages of one state are one at each of its addresses
pub one_sight : (pages : Contents) (s : Broker) (view other : View) → IsSeenBeside pages s view → IsSeenBeside pages s other → (id : ℕ) → 1 ≤ id → id ≤ length s.durable.addresses → view id ≡ other id
one_sight pages s view other seen beside id least most =
    let one = sight pages s view seen id least most in
    let two = sight pages s other beside id least most in
    same_paging (view id) (other id)
    (one.resident
    ∙ (one_weight seen.shown.state beside.shown.state (sound_seen pages s view seen) (sound_seen pages s other beside) (sym seen.shown.is ∙ beside.shown.is) id ∙ sym two.resident))
    (same_truth (view id).is_paging (other id).is_paging (λ paged. two.paged.1 (one.paged.0 paged)) (λ paged. one.paged.1 (two.paged.0 paged)))

-- an address pages exactly where one of its pages is there
pub pages_seen : (pages : Contents) (s : Broker) (view : View) → IsSeenBeside pages s view → (id : ℕ) → 1 ≤ id → id ≤ length s.durable.addresses → ((view id).is_paging ≡ true) ↔ HasSomePage pages id
pages_seen pages s view seen id least most = (sight pages s view seen id least most).paged
