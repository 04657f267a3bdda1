-- Under which views a run takes its lines: those beside the pages that were there when it began.
use Rattle.std.specs.Prelude.{◌≡◌, ◌≤◌, ℕ}
use Rattle.pg_disk.specs.Views.{Contents}
use Rattle.pg_model.specs.Broker.{Broker}
use Rattle.pg_model.specs.Refusals.{View}
use Rattle.pg_engine.specs.Executed.{IsBounded}
use Rattle.pg_recover.specs.Viewing.{Shows}
use Rattle.pg_recover.specs.WellFormed.{IsThere, page_file}

-- each page has the same bytes among these files as among those, or is among neither
abbrev pub HasSamePages : Contents → Contents → Type 0
HasSamePages pages contents =
    (address number : ℕ) → contents (page_file address number) ≡ pages (page_file address number)

-- a page of the address is among these files
abbrev pub HasSomePage : Contents → ℕ → Type 0
HasSomePage pages address = (number : ℕ) × (1 ≤ number) × IsThere pages (page_file address number)

-- Files that have these pages, and denote what outlives the run of this state, show the view. In it the bytes that each
-- address holds in memory keep their bound.
pub record IsSeenBeside (pages : Contents) (s : Broker) (view : View) : Type 0 where
  pub contents : Contents
  pub beside : HasSamePages pages contents
  pub shown : Shows contents s.durable view
  pub bounded : IsBounded s view
