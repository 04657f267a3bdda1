-- Steps one after the other.
use Rattle.std.proofs.Common.{◌≡◌, ◌⊎◌, ◌<◌, ◌≤◌, ◌+◌, ◌-◌, ◌*◌, ℕ, Option, Some, None, IfSome, refl, ◌∙◌, inl, inr, arith}
use Rattle.pg_acks.specs.Acked.{AckSets}
use Rattle.pg_acks.specs.declared.position.Position.{Position}
use Rattle.pg_disk.specs.declared.disk.Disk.{Ghosts}
use Rattle.pg_disk.specs.declared.fault.Fault.{Fault}
use Rattle.pg_disk.specs.declared.fault.Fault.TheVariants.{Failed, Damaged, Spent, Memory}
use Rattle.pg_disk.specs.Calls.{Changes, Reads}
use Rattle.pg_page.specs.declared.place.Place.{Place}
use Rattle.pg_page.specs.Pages.{Pages, page_file}
use Rattle.pg_page.proofs.FaultLaws.{fault_before}
use Rattle.pg_pagetx.specs.Standings.{Transactions}
use Rattle.pg_cursor.specs.declared.tail.Tail.{Tail}
use Rattle.pg_cursor.specs.declared.tail.Tail.TheVariants.{Behind}
use Rattle.pg_cursor.specs.Entries.{IsLive}
use Rattle.pg_cursor.specs.Places.{IsNoEarlier, IsPassed, page_of, passed_of}
use Rattle.pg_cursor.specs.Walking.{IsDamageIn, IsFarther, TailStands, Walks}

-- what an earlier tail has passed
pub passed_later : (old new : Tail) (position : Position) → IsNoEarlier old new → IsPassed old position → IsPassed new position
passed_later old new position (inl page) (inl before) = inl (omega (arith, page, before))
passed_later old new position (inl page) (inr here) = inl (omega (arith, page, here.0))
passed_later old new position (inr same) (inl before) = inl (omega (arith, same.0, before))
passed_later old new position (inr same) (inr here) = inr (here.0 ∙ same.0, omega (arith, same.1, here.1))

pub still : (tail : Tail) → IsNoEarlier tail tail
still tail = inr (refl, omega arith)

pub later_then : (old mid new : Tail) → IsNoEarlier old mid → (page_of mid < page_of new) ⊎ ((page_of mid ≡ page_of new) × (passed_of mid < passed_of new)) → IsNoEarlier old new
later_then old mid new (inl page) (inl more) = inl (omega (arith, page, more))
later_then old mid new (inl page) (inr more) = inl (omega (arith, page, more.0))
later_then old mid new (inr same) (inl more) = inl (omega (arith, same.0, more))
later_then old mid new (inr same) (inr more) = inr (same.0 ∙ more.0, omega (arith, same.1, more.1))

pub page_later : (old new : Tail) → IsNoEarlier old new → page_of old ≤ page_of new
page_later old new (inl page) = omega (arith, page)
page_later old new (inr same) = omega (arith, same.0)

-- how far a tail is from the end
abbrev pub far : ℕ → Tail → ℕ
far last tail = (last - page_of tail) * 4294967300 + (4294967297 - passed_of tail)

pub nearer : (last : ℕ) (old new : Tail) → IsFarther last old new → far last new < far last old
nearer last old new farther = go farther.farther
  where
    go : (page_of old < page_of new) ⊎ ((page_of old ≡ page_of new) × (passed_of old < passed_of new)) → far last new < far last old
    go (inl page) = omega (arith, page, farther.within)
    go (inr same) = omega (arith, same.0, same.1, farther.few)

none_is : (place : Place) → None ≡ Some place → ⊥
none_is place e = cc

module _ (queue : ℕ) (acks : AckSets) (txs : Transactions) (pages : Pages) where
  pub begins : (tail : Tail) → TailStands tail pages → Walks queue acks txs tail tail None pages
  begins tail stands = record { stands = stands; passed = λ place live passed. inl passed; finds = tt }

  pub walks_then : (old mid new : Tail) (found : Option Place) → IsNoEarlier old mid → Walks queue acks txs old mid None pages → Walks queue acks txs mid new found pages → Walks queue acks txs old new found pages
  walks_then old mid new found later first second = record {
    stands = second.stands;
    passed = λ place live passed. elim (second.passed place live passed) [
      | inl before ↦ elim (first.passed place live before) [
        | inl earlier ↦ inl earlier
        | inr none ↦ absurd (none_is place none)
      ]
      | inr is ↦ inr is
    ];
    finds = go found second.finds;
  }
    where
      go : (found : Option Place) → IfSome found (λ place. (new ≡ Behind place) × IsLive queue acks txs pages place × (IsPassed mid place.position → ⊥)) → IfSome found (λ place. (new ≡ Behind place) × IsLive queue acks txs pages place × (IsPassed old place.position → ⊥))
      go None finds = tt
      go (Some place) finds = (finds.0, finds.1, λ passed. finds.2 (passed_later old mid place.position later passed))

-- damage that a later call found was there before
pub damage_before : {D : Type 0} (m : Ghosts D) (old mid : D) (n address from to last : ℕ) (e : Fault) → Changes (m.tells old) (m.tells mid) (Reads n) → from ≤ to → IsDamageIn m mid address to last e → IsDamageIn m old address from last e
damage_before m old mid n address from to last Failed change le is = tt
damage_before m old mid n address from to last (Damaged damage) change le is =
    (is.0, omega (arith, is.1, le), is.2, fault_before (page_file address is.0) (m.tells old) (m.tells mid) n (Damaged damage) change is.3)
damage_before m old mid n address from to last Spent change le is = is
damage_before m old mid n address from to last Memory change le is = tt
