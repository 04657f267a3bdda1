use Rattle.std.specs.FinMap.{get}
use Rattle.std.proofs.Common.{[]}
use Rattle.pg_disk.specs.Account.{account}
use Rattle.pg_disk.specs.Views.{as_read}
use Rattle.pg_page.specs.Pages.{page_file, pages_of}
use Rattle.pg_store.specs.Pages.{states_of}
use Rattle.pg_store.specs.Stores.{address_of_store, first_of, first_of_normal, first_of_store}
use Rattle.pg_store.proofs.Framing.{read_left}
use Rattle.pg_store.proofs.FrameKnowing.{frames_known, frames_none, frames_paging, goes_low, rules_known, rules_more, rules_none, rules_paging, rules_well}
use Rattle.pg_store.proofs.frame_laws.rules_stay.Goals as goal

pub returns-clause-known : goal.returns-clause-known
returns-clause-known c = λ known store frames tells honest stands are.
    rules_known known (address_of_store store) (first_of_store store) frames (pages_of (as_read (account tells).files) (address_of_store store))
    (frames_known store frames (states_of (account tells).files (address_of_store store)) (pages_of (as_read (account tells).files) (address_of_store store)) stands
    (λ page. read_left (get (account tells).files (page_file (address_of_store store) page)) (λ u is. honest.sound (page_file (address_of_store store) page) u is))) are

pub returns-clause-well : goal.returns-clause-well
returns-clause-well c = rules_well

pub returns-clause-starting : goal.returns-clause-starting
returns-clause-starting c = λ known address store s left normal leaves. rules_well known address (first_of_normal store) [] left (rules_none known address) (frames_none store s left normal leaves)

pub returns-clause-paging : goal.returns-clause-paging
returns-clause-paging c = λ known address store frames payload frame s left spells may all stands leaves.
    rules_paging known address (first_of store) frames frame left may all (frames_paging store frames payload frame s left spells stands leaves)

pub returns-clause-started : goal.returns-clause-started
returns-clause-started c = rules_none

pub returns-clause-paged : goal.returns-clause-paged
returns-clause-paged c = λ known address store frames frame size limit place le goes may all. rules_more known address frames place.position frame (goes_low store size limit place le goes) may all
