use Rattle.pg_store.specs.Pages.{states_of}
use Rattle.pg_store.specs.Stores.{address_of_store}
use Rattle.pg_store.proofs.Framing.{all_quiet_have, before_last}
use Rattle.pg_store.proofs.FrameKnowing.{frames_opened}
use Rattle.pg_store.proofs.frame_laws.quiet_pages_surely_have.Goals as goal

pub returns-clause-all : goal.returns-clause-all
returns-clause-all c = λ first address pages files. all_quiet_have first pages (states_of files address)

pub returns-clause-before_last : goal.returns-clause-before_last
returns-clause-before_last c = λ first last address pages files. before_last first last pages (states_of files address)

pub returns-clause-opened : goal.returns-clause-opened
returns-clause-opened c = λ store frames files now. frames_opened store frames (states_of files (address_of_store store)) (states_of now (address_of_store store))
