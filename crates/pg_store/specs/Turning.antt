-- A page behind the last one is made.
use Rattle.std.specs.Prelude.{List}
use Rattle.pg_page.specs.Pages.{Entry, HasEntries, Pages}
use Rattle.pg_store.specs.declared.store.PagingStore.{PagingStore}
use Rattle.pg_store.specs.Pages.{States}
use Rattle.pg_store.specs.Stores.{IsPaging, StandsPaging, first_of}

-- the payloads stay, and another page is written
pub record Turns (store next : PagingStore) (s t : States) : Type 0 where
  pub ready : IsPaging store s → IsPaging next t
  pub stands : (entries : List Entry) → StandsPaging store entries s → StandsPaging next entries t

-- what a crash leaves has the payloads that the store stands for
abbrev pub Keeps : PagingStore → States → Pages → Type 0
Keeps store s left =
    (entries : List Entry) → StandsPaging store entries s → HasEntries (first_of store) entries left
