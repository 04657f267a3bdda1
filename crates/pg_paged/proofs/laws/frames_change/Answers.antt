use Rattle.pg_paged.specs.Paged.{is_left, message_in}
use Rattle.pg_paged.proofs.Acknowledging.{acknowledged, dropped, elsewhere, unnamed}
use Rattle.pg_paged.proofs.Filters.{kept_more}
use Rattle.pg_paged.proofs.laws.frames_change.Goals as goal

pub returns-clause-more : goal.returns-clause-more
returns-clause-more c = λ acks txs queue frames position frame. kept_more message_in (is_left acks txs queue) frames (position, frame)

pub returns-clause-unnamed : goal.returns-clause-unnamed
returns-clause-unnamed c = λ acks txs queue frames none. unnamed acks txs queue frames none

pub returns-clause-acknowledged : goal.returns-clause-acknowledged
returns-clause-acknowledged c = λ acks txs queue frames position id told. acknowledged acks txs queue frames position id told

pub returns-clause-elsewhere : goal.returns-clause-elsewhere
returns-clause-elsewhere c = λ acks txs queue other frames position apart. elsewhere acks txs queue other frames position apart

pub returns-clause-dropped : goal.returns-clause-dropped
returns-clause-dropped c = λ acks txs queue gone frames apart. dropped acks txs queue gone frames apart
