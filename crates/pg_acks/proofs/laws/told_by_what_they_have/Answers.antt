use Rattle.std.proofs.Common.{◌∙◌, ap₂, sym}
use Rattle.std.specs.FinSet as set
use Rattle.pg_acks.specs.Acked.{position_at}
use Rattle.pg_acks.proofs.Keys.{at_total, key_total}
use Rattle.pg_acks.proofs.SameSets.{same_pages, same_rows}
use Rattle.pg_acks.proofs.Sets.{at_same, key_same, sets_of}
use Rattle.pg_acks.proofs.laws.told_by_what_they_have.Goals as goal

pub returns-clause-sets : goal.returns-clause-sets
returns-clause-sets c = λ acks other single whole.
    ap₂ sets_of
    (set.same_set key_total key_same acks.singles other.singles (λ key. single key.0.0 (position_at key.0.1 key.1)))
    (set.same_set at_total at_same acks.wholes other.wholes (λ at. whole at.0 at.1))

pub returns-clause-rows : goal.returns-clause-rows
returns-clause-rows c = λ acks rows others these those.
    same_rows rows others these.longest those.longest (λ queue position. these.told queue position ∙ sym (those.told queue position))

pub returns-clause-pages : goal.returns-clause-pages
returns-clause-pages c = λ acks pages others these those.
    same_pages pages others these.ascending those.ascending (λ queue page. these.told queue page ∙ sym (those.told queue page))
