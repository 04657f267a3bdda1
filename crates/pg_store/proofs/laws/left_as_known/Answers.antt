use Rattle.std.specs.FinMap.{get}
use Rattle.pg_page.specs.Pages.{page_file}
use Rattle.pg_store.specs.Pages.{states_of}
use Rattle.pg_store.specs.Stores.{address_of_store}
use Rattle.pg_store.proofs.Knowing.{known_left, no_page, no_page_of}
use Rattle.pg_store.proofs.laws.left_as_known.Goals as goal

pub returns-clause-known : goal.returns-clause-known
returns-clause-known c = λ store entries files image stands left. known_left store entries (states_of files (address_of_store store)) (λ page. get image (page_file (address_of_store store) page)) stands left

pub returns-clause-other_file : goal.returns-clause-other_file
returns-clause-other_file c = λ address file files image kind left page. left (page_file address page) (no_page address page file kind)

pub returns-clause-other_pages : goal.returns-clause-other_pages
returns-clause-other_pages c = λ address other files image differ left page. left (page_file address page) (no_page_of address other page differ)
