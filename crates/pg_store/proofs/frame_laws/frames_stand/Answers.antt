use Rattle.pg_store.specs.Pages.{states_of}
use Rattle.pg_store.specs.Stores.{address_of_store}
use Rattle.pg_store.proofs.FrameKnowing.{frames_paged, frames_ready, frames_started, frames_still}
use Rattle.pg_store.proofs.frame_laws.frames_stand.Goals as goal

pub returns-clause-ready : goal.returns-clause-ready
returns-clause-ready c = frames_ready

pub returns-clause-elsewhere : goal.returns-clause-elsewhere
returns-clause-elsewhere c = λ store frames files now same. frames_still store frames (states_of files (address_of_store store)) (states_of now (address_of_store store)) same

pub returns-clause-started : goal.returns-clause-started
returns-clause-started c = frames_started

pub returns-clause-paged : goal.returns-clause-paged
returns-clause-paged c = frames_paged
