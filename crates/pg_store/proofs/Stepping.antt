-- For those that call a store again and again: a store that was answered is ready for the next call.
use Rattle.std.proofs.Common.{◌≡◌, ℕ, List, Option, sym, subst}
use Rattle.pg_disk.specs.Account.{Account, account, IsHonest}
use Rattle.pg_disk.specs.Calls.{Changes}
use Rattle.pg_page.specs.declared.place.Place.{Place}
use Rattle.pg_store.specs.declared.store.NormalStore.{NormalStore}
use Rattle.pg_store.specs.declared.store.PagingStore.{PagingStore}
use Rattle.pg_store.specs.Pages.{ChangesPages, states_of}
use Rattle.pg_store.specs.Stores.{IsNormal, IsPaging, Paged, Starts, address_of_normal, address_of_paging}

-- pages by another spelling of the address
at_address : (next : PagingStore) (address : ℕ) (tells : Option Account) → address_of_paging next ≡ address → IsPaging next (states_of (account tells).files address) → IsPaging next (states_of (account tells).files (address_of_paging next))
at_address next address tells same ready = subst (λ (a : ℕ). IsPaging next (states_of (account tells).files a)) (sym same) ready

pub just_started : (store : NormalStore) (next : PagingStore) (old new : Option Account) → address_of_paging next ≡ address_of_normal store → Changes old new (ChangesPages (address_of_normal store) (Starts store next))
    → (IsHonest old → IsNormal store (states_of (account old).files (address_of_normal store))) → IsHonest new → IsPaging next (states_of (account new).files (address_of_paging next))
just_started store next old new same changes was h =
    at_address next (address_of_normal store) new same ((changes.step (changes.back h)).change.ready (was (changes.back h)))

pub still_paging : (store : PagingStore) (payload : List ℕ) (next : PagingStore) (place : Place) (old new : Option Account) → address_of_paging next ≡ address_of_paging store → Changes old new (ChangesPages (address_of_paging store) (Paged store payload next place))
    → (IsHonest old → IsPaging store (states_of (account old).files (address_of_paging store))) → IsHonest new → IsPaging next (states_of (account new).files (address_of_paging next))
still_paging store payload next place old new same changes was h =
    at_address next (address_of_paging store) new same ((changes.step (changes.back h)).change.ready (was (changes.back h)))
