-- What was appended in several calls stands at the end in one piece.
use Rattle.std.proofs.Common.{◌≡◌, ℕ, List, ◌++◌, Result, OnOk, refl, ap, subst, ◌∙◌, append_assoc}
use Rattle.std.proofs.lemmas.Result.{on_ok_weaker}
use Rattle.pg_records.specs.declared.entry.Entry.{Entry}
use Rattle.pg_records.specs.declared.entry.Entry.TheVariants.{Epoch, Address, Queue, DropQueue, Add, Ack, AckAt, PageDone, PageTx, Dup, LargeAdd, LargeAck, FirstPage, NextQueue, AckRun}
use Rattle.pg_records.specs.Entries.{entry_bytes}
use Rattle.pg_records.specs.Heads.{head_bytes, behind_head}

-- two pieces
joined : (start first all a b : List ℕ) → first ≡ start ++ a → all ≡ first ++ b → all ≡ start ++ (a ++ b)
joined start first all a b one two = two ∙ ap (λ (bytes : List ℕ). bytes ++ b) one ∙ append_assoc start a b

-- two pieces, of which the last call may have failed
pub put_two : {T E : Type 0} (r : Result T E) (start first all a b : List ℕ) → first ≡ start ++ a → OnOk r (all ≡ first ++ b) → OnOk r (all ≡ start ++ (a ++ b))
put_two r start first all a b one last = on_ok_weaker r (λ two. joined start first all a b one two) last

-- three pieces
pub put_three : {T E : Type 0} (r : Result T E) (start first second all a b c : List ℕ) → first ≡ start ++ a → second ≡ first ++ b → OnOk r (all ≡ second ++ c) → OnOk r (all ≡ start ++ (a ++ (b ++ c)))
put_three r start first second all a b c one two last = put_two r start first all a (b ++ c) one (put_two r first second all b c two last)

-- four pieces
pub put_four : {T E : Type 0} (r : Result T E) (start first second third all a b c d : List ℕ) → first ≡ start ++ a → second ≡ first ++ b → third ≡ second ++ c → OnOk r (all ≡ third ++ d) → OnOk r (all ≡ start ++ (a ++ (b ++ (c ++ d))))
put_four r start first second third all a b c d one two three last = put_two r start first all a (b ++ (c ++ d)) one (put_three r first second third all b c d two three last)

in_parts : (entry : Entry) → head_bytes entry ++ behind_head entry ≡ entry_bytes entry
in_parts (Epoch epoch) = refl
in_parts (Address address name max page ahead dup) = refl
in_parts (Queue queue address name filter) = refl
in_parts (DropQueue queue) = refl
in_parts (Add address queues message) = refl
in_parts (Ack queue message) = refl
in_parts (AckAt queue page index) = refl
in_parts (PageDone queue page) = refl
in_parts (PageTx tx last) = refl
in_parts (Dup address id) = refl
in_parts (LargeAdd message length queues) = refl
in_parts (LargeAck queue message) = refl
in_parts (FirstPage address page) = refl
in_parts (NextQueue queue) = refl
in_parts (AckRun queue page from to) = refl

-- an entry, of which the head was put, and then the other fields
pub put_parts : {T E : Type 0} (r : Result T E) (entry : Entry) (start first all : List ℕ) → first ≡ start ++ head_bytes entry → OnOk r (all ≡ first ++ behind_head entry) → OnOk r (all ≡ start ++ entry_bytes entry)
put_parts r entry start first all head rest =
    subst (λ bytes. OnOk r (all ≡ start ++ bytes)) (in_parts entry) (put_two r start first all (head_bytes entry) (behind_head entry) head rest)
