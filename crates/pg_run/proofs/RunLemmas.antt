-- A run that goes on: its lines, replies and states, and what is told of it.
use Rattle.std.proofs.Common.{◌≡◌, ◌≢◌, inl, inr, ⊎_elim, ℕ, suc, ◌+◌, List, [], ◌∷◌, ◌++◌, length, take, drop, Option, refl, sym, ◌∙◌, ap, subst, arith, append_assoc, length-append}
use Rattle.std.proofs.lemmas.List.{append-nil, take-append-le, drop-append-le}
use Rattle.std.proofs.Math.Seq.{take-append-add, drop-append-add, drop-length, take-length}
use Rattle.pg_disk.specs.Account.{Account, account, IsHonest}
use Rattle.pg_disk.specs.Files.{Files}
use Rattle.pg_msg.specs.declared.command.Command.{Command}
use Rattle.pg_msg.specs.declared.reply.Reply.{Reply}
use Rattle.pg_text.specs.Spelling.{ReadAs}
use Rattle.pg_text.specs.Replies.{reply_text, reply_line, reply_bytes, BeginsNext}
use Rattle.pg_disk.specs.Views.{as_left}
use Rattle.pg_model.specs.Broker.{Broker}
use Rattle.pg_model.specs.Refusals.{View}
use Rattle.pg_model.specs.Steps.{Run, last_state}
use Rattle.pg_recover.specs.Denotation.{Denotes}
use Rattle.pg_recover.specs.Staying.{StaysWell}
use Rattle.pg_run.specs.Served.{Tells, LeavesBetween}

pub pushed_some : (xs : List ℕ) (x : ℕ) → xs ++ (x ∷ []) ≢ []
pushed_some [] x = λ e. cc
pushed_some (y ∷ xs) x = λ e. cc

pub line_some : (reply : Reply) → reply_line reply ≢ []
line_some reply = pushed_some (reply_text reply) 10

pub reply_bytes-append : (xs ys : List Reply) → reply_bytes (xs ++ ys) ≡ reply_bytes xs ++ reply_bytes ys
reply_bytes-append [] ys = refl
reply_bytes-append (x ∷ xs) ys = ap (λ (bytes : List ℕ). reply_line x ++ bytes) (reply_bytes-append xs ys) ∙ sym (append_assoc (reply_line x) (reply_bytes xs) (reply_bytes ys))

-- a part of the next reply is one where more replies follow
pub begins_more : (part : List ℕ) (replies more : List Reply) → BeginsNext part replies → BeginsNext part (replies ++ more)
begins_more part [] [] b = b
begins_more part [] (r ∷ more) b = (reply_line r, line_some r, ap (λ (p : List ℕ). p ++ reply_line r) (sym b))
begins_more part (r ∷ replies) more b = b

pub tells_more : (replies more : List Reply) (n : ℕ) (told : List ℕ) → Tells replies n told → Tells (replies ++ more) n told
tells_more replies more n told t = record {
  part = t.part;
  within = omega (arith, t.within, length-append replies more);
  bytes = t.bytes ∙ ap (λ (rs : List Reply). reply_bytes rs ++ t.part) (sym (take-append-le n replies more t.within));
  begun = subst (λ (rs : List Reply). BeginsNext t.part rs) (sym (drop-append-le n replies more t.within)) (begins_more t.part (drop n replies) more t.begun);
}

-- what is told of a later run, behind the replies of an earlier one
abbrev pub tells_then : (replies more : List Reply) (n : ℕ) (told : List ℕ) → Tells more n told → Tells (replies ++ more) (length replies + n) (reply_bytes replies ++ told)
tells_then replies more n told t = record {
  part = t.part;
  within = omega (arith, t.within, length-append replies more);
  bytes = ap (λ (bytes : List ℕ). reply_bytes replies ++ bytes) t.bytes ∙ sym (append_assoc (reply_bytes replies) (reply_bytes (take n more)) t.part)
      ∙ ap (λ (bytes : List ℕ). bytes ++ t.part) (sym (reply_bytes-append replies (take n more)) ∙ ap reply_bytes (sym (take-append-add replies more n)));
  begun = subst (λ (rs : List Reply). BeginsNext t.part rs) (sym (drop-append-add replies more n)) t.begun;
}

-- all replies are told whole
pub tells_all : (replies : List Reply) → Tells replies (length replies) (reply_bytes replies)
tells_all replies = record {
  part = [];
  within = omega arith;
  bytes = ap reply_bytes (sym (take-length replies)) ∙ sym (append-nil (reply_bytes (take (length replies) replies)));
  begun = subst (λ (rs : List Reply). BeginsNext [] rs) (sym (drop-length replies)) refl;
}

pub last_state-append : (s : Broker) (xs ys : List Broker) → last_state s (xs ++ ys) ≡ last_state (last_state s xs) ys
last_state-append s [] ys = refl
last_state-append s (x ∷ xs) ys = last_state-append x xs ys

pub run_then : (Sees : Broker → View → Type 0) (s : Broker) (items more_items : List (Option Command)) (replies more_replies : List Reply) (states more_states : List Broker) → Run Sees s items replies states → Run Sees (last_state s states) more_items more_replies more_states
    → Run Sees s (items ++ more_items) (replies ++ more_replies) (states ++ more_states)
run_then Sees s [] more_items [] more_replies [] more_states run more = more
run_then Sees s [] more_items [] more_replies (t ∷ states) more_states run more = absurd run
run_then Sees s [] more_items (r ∷ replies) more_replies states more_states run more = absurd run
run_then Sees s (i ∷ items) more_items [] more_replies states more_states run more = absurd run
run_then Sees s (i ∷ items) more_items (r ∷ replies) more_replies [] more_states run more = absurd run
run_then Sees s (i ∷ items) more_items (r ∷ replies) more_replies (t ∷ states) more_states run more = (run.0, run_then Sees t items more_items replies more_replies states more_states run.1 more)

-- one reply and one state a line
pub run_lengths : (Sees : Broker → View → Type 0) (s : Broker) (items : List (Option Command)) (replies : List Reply) (states : List Broker) → Run Sees s items replies states → (length states ≡ length replies) × (length items ≡ length replies)
run_lengths Sees s [] [] [] run = (refl, refl)
run_lengths Sees s [] [] (t ∷ states) run = absurd run
run_lengths Sees s [] (r ∷ replies) states run = absurd run
run_lengths Sees s (i ∷ items) [] states run = absurd run
run_lengths Sees s (i ∷ items) (r ∷ replies) [] run = absurd run
run_lengths Sees s (i ∷ items) (r ∷ replies) (t ∷ states) run = let l = run_lengths Sees t items replies states run.1 in (ap suc l.0, ap suc l.1)

-- where all lines are read, the items of further ones stand behind
pub read_then : (lines more_lines : List (List ℕ)) (items more_items : List (Option Command)) → ReadAs lines items → length items ≡ length lines → ReadAs more_lines more_items → ReadAs (lines ++ more_lines) (items ++ more_items)
read_then [] more_lines [] more_items read all more = more
read_then [] more_lines (i ∷ items) more_items read all more = absurd read
read_then (l ∷ lines) more_lines [] more_items read all more = absurd (omega (arith, all))
read_then (l ∷ lines) more_lines (i ∷ items) more_items read all more = (read.0, read_then lines more_lines items more_items read.1 (omega (arith, all)) more)

-- the moments of a run, where it goes on
pub between_more : (first : Broker) (replies more : List Reply) (states more_states : List Broker) (entry : Option Account) (image : Files) (told : List ℕ)
    → LeavesBetween first replies states entry image told → LeavesBetween first (replies ++ more) (states ++ more_states) entry image told
between_more first replies more states more_states entry image told left = let b = left.between in record {
  honest = left.honest;
  between = record {
    n = b.n;
    k = b.k;
    close = b.close;
    within = omega (arith, b.within, length-append states more_states);
    more = b.more;
    bytes = b.bytes;
    tells = tells_more replies more b.n b.more b.tells;
    denoted = subst (λ (ss : List Broker). Denotes (as_left image) (last_state first ss).durable) (sym (take-append-le b.k states more_states b.within)) b.denoted;
  };
  well = left.well;
}

-- the moments of a later run, seen from the beginning of the earlier one
pub between_then : (first : Broker) (replies more : List Reply) (states more_states : List Broker) (entry mid : Option Account) (image : Files) (told : List ℕ) → IsHonest entry → length states ≡ length replies
    → (account mid).told ≡ (account entry).told ++ reply_bytes replies → StaysWell entry mid → LeavesBetween (last_state first states) more more_states mid image told → LeavesBetween first (replies ++ more) (states ++ more_states) entry image told
between_then first replies more states more_states entry mid image told honest same so_far stays left = let b = left.between in record {
  honest = honest;
  between = record {
    n = length replies + b.n;
    k = length states + b.k;
    close = ⊎_elim (λ is. inl (omega (arith, is, same))) (λ is. inr (omega (arith, is, same))) b.close;
    within = omega (arith, b.within, length-append states more_states);
    more = reply_bytes replies ++ b.more;
    bytes = b.bytes ∙ (ap (λ (bytes : List ℕ). bytes ++ b.more) so_far ∙ append_assoc (account entry).told (reply_bytes replies) b.more);
    tells = tells_then replies more b.n b.more b.tells;
    denoted = subst (λ (ss : List Broker). Denotes (as_left image) (last_state first ss).durable) (sym (take-append-add states more_states b.k))
        (subst (λ (s : Broker). Denotes (as_left image) s.durable) (sym (last_state-append first states (take b.k more_states))) b.denoted);
  };
  well = λ quiet was. left.well (stays.quiet quiet) (stays.well quiet was);
}
