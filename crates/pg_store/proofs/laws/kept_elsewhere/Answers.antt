use Rattle.pg_page.specs.Pages.{page_file}
use Rattle.pg_store.specs.Pages.{states_of}
use Rattle.pg_store.specs.Stores.{address_of_store}
use Rattle.pg_store.proofs.Knowing.{no_page, no_page_of, ready_still, stands_still}
use Rattle.pg_store.proofs.laws.kept_elsewhere.Goals as goal

pub returns-clause-ready : goal.returns-clause-ready
returns-clause-ready c = λ store files now same. ready_still store (states_of files (address_of_store store)) (states_of now (address_of_store store)) same

pub returns-clause-stands : goal.returns-clause-stands
returns-clause-stands c = λ store entries files now same. stands_still store entries (states_of files (address_of_store store)) (states_of now (address_of_store store)) same

pub returns-clause-other_file : goal.returns-clause-other_file
returns-clause-other_file c = λ address file files now kind stays page. stays (page_file address page) (no_page address page file kind)

pub returns-clause-other_pages : goal.returns-clause-other_pages
returns-clause-other_pages c = λ address other files now differ stays page. stays (page_file address page) (no_page_of address other page differ)
