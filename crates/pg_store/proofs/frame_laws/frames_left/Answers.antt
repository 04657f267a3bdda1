use Rattle.std.specs.FinMap.{get}
use Rattle.pg_disk.specs.Account.{account}
use Rattle.pg_disk.specs.Views.{as_left, as_read}
use Rattle.pg_page.specs.Pages.{page_file, pages_of}
use Rattle.pg_store.specs.Pages.{states_of}
use Rattle.pg_store.specs.Stores.{address_of_paging, address_of_store}
use Rattle.pg_store.proofs.Framing.{read_left}
use Rattle.pg_store.proofs.FrameKnowing.{frames_known, frames_more, frames_none, frames_paging}
use Rattle.pg_store.proofs.frame_laws.frames_left.Goals as goal

pub returns-clause-read : goal.returns-clause-read
returns-clause-read c = λ store frames tells honest stands.
    frames_known store frames (states_of (account tells).files (address_of_store store)) (pages_of (as_read (account tells).files) (address_of_store store)) stands
    (λ page. read_left (get (account tells).files (page_file (address_of_store store) page)) (λ u is. honest.sound (page_file (address_of_store store) page) u is))

pub returns-clause-known : goal.returns-clause-known
returns-clause-known c = λ store frames files image stands left. frames_known store frames (states_of files (address_of_store store)) (pages_of (as_left image) (address_of_store store)) stands left

pub returns-clause-starting : goal.returns-clause-starting
returns-clause-starting c = frames_none

pub returns-clause-paging : goal.returns-clause-paging
returns-clause-paging c = frames_paging

pub returns-clause-paged : goal.returns-clause-paged
returns-clause-paged c = λ store next place frames payload frame old new honest first spells paged stands.
    frames_more store next place frames payload frame (states_of (account old).files (address_of_paging store)) (states_of (account new).files (address_of_paging store)) (pages_of (as_read (account new).files) (address_of_paging store)) first spells paged stands
    (λ page. read_left (get (account new).files (page_file (address_of_paging store) page)) (λ u is. honest.sound (page_file (address_of_paging store) page) u is))
