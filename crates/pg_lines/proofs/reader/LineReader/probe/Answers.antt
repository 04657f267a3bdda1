use Rattle.std.proofs.Common.{get_or, refl, subst, arith}
use Rattle.pg_disk.specs.Reads.{TakesFrom}
use Rattle.pg_lines.proofs.LineLemmas.{take-one}
use Rattle.pg_lines.proofs.reader.LineReader.probe.Goals as goal

pub returns-in_default-clause-err : goal.returns-in_default-clause-err
returns-in_default-clause-err g c =
    let one = take-one c.in_ok-read.field-0 c.read.new.buf c.read.auto.buf c.in_ok-read.ensures.count (omega arith) in
    (refl, (get_or c.read.new.buf 0 0, subst (TakesFrom (g.R.Source.rest c.args.source.now) (g.R.Source.rest c.read.new.self)) one c.in_ok-read.ensures.bytes))
