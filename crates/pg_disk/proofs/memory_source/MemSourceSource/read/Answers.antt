use Rattle.std.proofs.Common.{ℕ, ◌+◌, ◌-◌, List, drop, take, ap, ◌∙◌, arith}
use Rattle.pg_disk.proofs.SourceLemmas.{takes_front}
use Rattle.pg_disk.proofs.memory_source.MemSourceSource.read.Goals as goal

pub returns-clause-bytes : goal.returns-clause-bytes
returns-clause-bytes c =
    let s = c.args.self.now in
    let n = c.min-count.result in
    takes_front s.bytes.items c.copy_from_slice.new.self _ s.at n
    (omega (arith, s.bytes.ok.0, s.within, c.min-count.ensures, c.len.ensures))
    (c.copy_from_slice.ensures.after ∙ ap (λ (l : List ℕ). take ((s.at + n) - s.at) (drop s.at l)) c.deref-2.ensures.value)
