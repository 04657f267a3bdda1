-- The state that a list of journal entries gives.
use Rattle.std.specs.Prelude.{◌≡◌, ◌⊎◌, ◌+◌, ℕ, Bool, not, ◌&&◌, List, [], ◌∷◌, ◌++◌, length, Option, Some, None, nat_lt, nat_le, ◌==◌, if◌then◌else◌}
use Rattle.std.specs.List.{list_all}
use Rattle.pg_disk.specs.declared.fault.Rule.{Rule}
use Rattle.pg_disk.specs.declared.fault.Rule.TheVariants as rule
use Rattle.pg_msg.specs.declared.limits.TheConstants.{GREATEST_AHEAD, GREATEST_DUP, GREATEST_MAX, GREATEST_PAGE, LONGEST_FILTER, MOST_ADDRESSES, MOST_QUEUES, QUEUE_ID_LIMIT}
use Rattle.pg_parse.specs.FilterTexts.{IsReadable}
use Rattle.pg_records.specs.declared.entry.Entry.{Entry}
use Rattle.pg_records.specs.declared.entry.Entry.TheVariants as entry
use Rattle.pg_fold.specs.declared.durable.Durable.{Durable}
use Rattle.pg_fold.specs.declared.fold_error.FoldError.{FoldError}
use Rattle.pg_fold.specs.declared.fold_error.FoldError.TheVariants.{Broken, Memory}
use Rattle.pg_fold.specs.Rows.{has_address, has_address_named, has_queue, has_queue_named, has_queue_at, queues_at, has_message, has_holder, without_queue, dropped, acknowledged}

-- nothing was made yet
abbrev pub fresh : Durable
fresh = record { epoch = 0; addresses = []; queues = []; next = 1; journaled = [] }

-- the settings of an address are in their ranges
abbrev pub are_settings : ℕ → ℕ → ℕ → ℕ → Bool
are_settings max page ahead dup =
    nat_le max GREATEST_MAX && (nat_le 1 page &&
    (nat_le page GREATEST_PAGE && (nat_le ahead GREATEST_AHEAD && nat_le dup GREATEST_DUP)))

-- the rule, where the condition fails
abbrev pub unless : Bool → Rule → Option Rule → Option Rule
unless condition broken others = if condition then others else Some broken

-- ---- the condition of an entry
-- Which rule an entry breaks by its fields and the state, its filter's text aside. The entries on pages, transactions,
-- duplicate ids and large messages aren't built.
abbrev pub rule_of : Durable → Entry → Option Rule
rule_of d (entry.Epoch epoch) = unless (nat_lt d.epoch epoch) rule.Repeat None
rule_of d (entry.Address address name max page ahead dup) =
    unless ((address == length d.addresses + 1) &&
    (not (has_address_named d.addresses name) && nat_lt (length d.addresses) MOST_ADDRESSES)) rule.Repeat
    (unless (are_settings max page ahead dup) rule.Name None)
rule_of d (entry.Queue queue address name filter) =
    unless ((queue == d.next) && (nat_lt queue QUEUE_ID_LIMIT && not (has_queue_named d.queues name))) rule.Repeat
    (unless (has_address d.addresses address &&
    (nat_lt (queues_at d.queues address) MOST_QUEUES && nat_le (length filter) LONGEST_FILTER)) rule.Name None)
rule_of d (entry.DropQueue queue) = unless (has_queue d.queues queue) rule.Name None
rule_of d (entry.Add address queues message) =
    unless (has_address d.addresses address &&
    (list_all (has_queue_at d.queues address) queues && nat_le message.id.epoch d.epoch)) rule.Name
    (unless (not (has_message d.journaled message.id)) rule.Repeat None)
rule_of d (entry.Ack queue message) = unless (has_holder d.journaled message queue) rule.Name None
rule_of d (entry.NextQueue queue) = unless (nat_le d.next queue) rule.Repeat None
rule_of d (entry.AckAt queue page index) = Some rule.Name
rule_of d (entry.PageDone queue page) = Some rule.Name
rule_of d (entry.PageTx tx last) = Some rule.Name
rule_of d (entry.Dup address id) = Some rule.Name
rule_of d (entry.LargeAdd message size queues) = Some rule.Name
rule_of d (entry.LargeAck queue message) = Some rule.Name
rule_of d (entry.FirstPage address page) = Some rule.Name
rule_of d (entry.AckRun queue page start end) = Some rule.Name

-- the text of a new queue's filter is readable
abbrev pub IsReadableEntry : Entry → Type 0
IsReadableEntry (entry.Queue queue address name filter) = IsReadable filter
IsReadableEntry other = Unit {0}

-- The first part of the condition that fails breaks this rule. The filter is read last.
abbrev pub Breaks : Durable → Entry → Rule → Type 0
Breaks d e broken =
    (rule_of d e ≡ Some broken) ⊎ ((rule_of d e ≡ None) × (IsReadableEntry e → ⊥) × (broken ≡ rule.Name))

-- what isn't readable breaks Name, or there was no memory to read it
abbrev pub IsUnreadable : Type 0 → FoldError → Type 0
IsUnreadable Readable (Broken broken) = (Readable → ⊥) × (broken ≡ rule.Name)
IsUnreadable Readable Memory = Unit {0}

-- this is the rule that is broken, if one is
abbrev pub IsBrokenBy : Durable → Entry → FoldError → Type 0
IsBrokenBy d e (Broken broken) = Breaks d e broken
IsBrokenBy d e Memory = Unit {0}

-- ---- the effect of an entry
-- what an entry does, where its condition holds
abbrev pub changed : Durable → Entry → Durable
changed d (entry.Epoch epoch) = record d { epoch = epoch }
changed d (entry.Address address name max page ahead dup) =
    record d {
      addresses =
          d.addresses ++ (record
          { id = address; name = name; max = max; page = page; ahead = ahead; dup = dup; first = 1 } ∷ []);
    }
changed d (entry.Queue queue address name filter) =
    record d {
      queues =
          d.queues ++ (record { id = queue; address = address; name = name; filter = filter } ∷ []);
      next = d.next + 1;
    }
changed d (entry.DropQueue queue) =
    record d { queues = without_queue queue d.queues; journaled = dropped queue d.journaled }
changed d (entry.Add address queues message) =
    record d { journaled = d.journaled ++ (record { address = address; message = message; holders = queues } ∷ []) }
changed d (entry.Ack queue message) = record d { journaled = acknowledged queue message d.journaled }
changed d (entry.NextQueue queue) = record d { next = queue }
changed d (entry.AckAt queue page index) = d
changed d (entry.PageDone queue page) = d
changed d (entry.PageTx tx last) = d
changed d (entry.Dup address id) = d
changed d (entry.LargeAdd message size queues) = d
changed d (entry.LargeAck queue message) = d
changed d (entry.FirstPage address page) = d
changed d (entry.AckRun queue page start end) = d

-- the entry's condition holds, and this is the state behind it
pub record IsApplied (d : Durable) (e : Entry) (after : Durable) : Type 0 where
  pub condition : rule_of d e ≡ None
  pub readable : IsReadableEntry e
  pub effect : after ≡ changed d e

-- the entries lead, one behind the other, from the one state to the other
abbrev pub Folds : Durable → List Entry → Durable → Type 0
Folds d [] after = after ≡ d
Folds d (e ∷ entries) after = (next : Durable) × IsApplied d e next × Folds next entries after
