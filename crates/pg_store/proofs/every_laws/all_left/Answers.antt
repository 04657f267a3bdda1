use Rattle.pg_store.proofs.AllFrames.{all_known, all_paging, all_read}
use Rattle.pg_store.proofs.every_laws.all_left.Goals as goal

pub returns-clause-read : goal.returns-clause-read
returns-clause-read c = all_read

pub returns-clause-known : goal.returns-clause-known
returns-clause-known c = all_known

pub returns-clause-paging : goal.returns-clause-paging
returns-clause-paging c = all_paging
