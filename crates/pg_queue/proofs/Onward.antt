-- From the entries to the queue that has them.
use Rattle.std.proofs.Common.{◌≡◌, ℕ, List, ap, ◌∙◌}
use Rattle.pg_queue.specs.Entries.{Contents, Entry, with_entries}

abbrev pub contents_of : ℕ → List Entry → Contents
contents_of id entries = record { id = id; entries = entries }

-- where the entries are changed so, the queue is the one with the entries changed so
pub onward : (number : ℕ) (before after : List Entry) (queue : Contents) (change : List Entry → List Entry) → after ≡ change before → contents_of number before ≡ queue
    → contents_of number after ≡ with_entries (change queue.entries) queue
onward number before after queue change changed is = ap (contents_of number) changed ∙ ap (λ (q : Contents). with_entries (change q.entries) q) is
