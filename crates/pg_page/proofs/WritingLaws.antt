-- A page is made and written.
use Rattle.std.proofs.Common.{◌≡◌, ℕ, ◌+◌, List, [], ◌∷◌, ◌++◌, length, Option, sym, ◌∙◌, ap, subst, arith, length-append}
use Rattle.std.specs.FinMap.{get}
use Rattle.pg_disk.specs.declared.disk.Disk.{Ghosts}
use Rattle.pg_disk.specs.declared.file_id.FileId.{FileId}
use Rattle.pg_disk.specs.Account.{FileState, Account, account, IsHonest}
use Rattle.pg_disk.specs.Calls.{Changes, ChangesFile}
use Rattle.pg_disk.specs.Image.{LeavesAt}
use Rattle.pg_disk.specs.Moments.{Within}
use Rattle.pg_disk.proofs.Composing.{changes_weaker, weaker}
use Rattle.pg_disk.proofs.Runs.{left_weaker}
use Rattle.pg_gate.specs.Gated.{MayGrow, StandsClosed, StandsFor, file_of}
use Rattle.pg_gate.specs.declared.at_rest.Rest.{Rest}
use Rattle.pg_gate.proofs.Unique.{closed_stands}
use Rattle.pg_page.specs.declared.writer.PageWriter.{PageWriter}
use Rattle.pg_page.specs.Pages.{page_file}
use Rattle.pg_page.specs.Writing.{Adds, IsWritten, MayAdd, Writes, address_of, name_of, page_of}

-- the file that is written is a page
pub file_is : (writer : PageWriter) → file_of writer.rest ≡ name_of writer
file_is writer = λ i. record { kind = writer.of_page i; owner = address_of writer; number = page_of writer }

-- of one file, what changed so changed also in another way that asks for less
pub file_weaker : (id : FileId) (old new : Option Account) (R S : Option FileState → Option FileState → Type 0) → Changes old new (ChangesFile id R) → ((s t : Option FileState) → R s t → S s t) → Changes old new (ChangesFile id S)
file_weaker id old new R S changes then =
    changes_weaker old new (ChangesFile id R) (ChangesFile id S) changes (λ h a. record { told = a.told; taken = a.taken; others = a.others; change = then _ _ a.change })

module _ (writer : PageWriter) (payload : List ℕ) where
  -- what is known of the file at rest while the batch is added
  abbrev pub Appends : List ℕ → Rest → Option FileState → Option FileState → Type 0
  Appends bytes rest s t = (batches : List (List ℕ)) → StandsFor writer.rest batches s → StandsClosed rest (batches ++ bytes ∷ []) t

  one_more : (payloads : List (List ℕ)) → length (payloads ++ payload ∷ []) ≡ length payloads + 1
  one_more payloads = omega (arith, length-append payloads (payload ∷ []))

  -- once it is added
  pub written : (bytes : List ℕ) → bytes ≡ payload → (old new : Option Account) (next : PageWriter) (rest : Rest) → next.rest ≡ rest → next.frames ≡ writer.frames + 1
      → Changes old new (ChangesFile (file_of writer.rest) (Appends bytes rest)) → Changes old new (ChangesFile (name_of writer) (Adds writer payload next))
  written bytes same old new next rest is more appended =
      file_weaker (name_of writer) old new (Appends payload next.rest) (Adds writer payload next)
      (subst (λ f. Changes old new (ChangesFile f (Appends payload next.rest))) (file_is writer)
      (subst (λ (r : Rest). Changes old new (ChangesFile (file_of writer.rest) (Appends payload r))) (sym is)
      (subst (λ (l : List ℕ). Changes old new (ChangesFile (file_of writer.rest) (Appends l rest))) same appended)))
      (λ s t appends payloads writes. record {
        stands = closed_stands next.rest (payloads ++ payload ∷ []) t (appends payloads writes.stands);
        count = more ∙ ap (λ (n : ℕ). n + 1) writes.count ∙ sym (one_more payloads);
      })

  -- at each moment the frames are these, or the new one is behind them
  pub adding : {D : Type 0} (m : Ghosts D) (old new : D) (bytes : List ℕ) → bytes ≡ payload → Within m old new (LeavesAt (file_of writer.rest) (MayGrow writer.rest bytes)) → Within m old new (LeavesAt (name_of writer) (MayAdd writer payload))
  adding m old new bytes same run =
      weaker m old new (LeavesAt (name_of writer) (MayGrow writer.rest payload)) (LeavesAt (name_of writer) (MayAdd writer payload))
      (subst (λ f. Within m old new (LeavesAt f (MayGrow writer.rest payload))) (file_is writer)
      (subst (λ (l : List ℕ). Within m old new (LeavesAt (file_of writer.rest) (MayGrow writer.rest l))) same run))
      (left_weaker (name_of writer) (m.tells old) (MayGrow writer.rest payload) (MayAdd writer payload) (λ left grows payloads writes. grows payloads writes.stands))

-- once a frame is added the next one may be
pub still_written : (writer next : PageWriter) (payload : List ℕ) (old new : Option Account) → (address_of next ≡ address_of writer) × (page_of next ≡ page_of writer) → Changes old new (ChangesFile (name_of writer) (Adds writer payload next))
    → (IsHonest old → IsWritten writer (get (account old).files (name_of writer))) → IsHonest new → IsWritten next (get (account new).files (name_of next))
still_written writer next payload old new same changes was h =
    let before = was (changes.back h) in
    let now : Writes next (before.0 ++ payload ∷ []) (get (account new).files (name_of writer)) = (changes.step (changes.back h)).change before.0 before.1 in
    (before.0 ++ payload ∷ [], subst (λ (f : FileId). Writes next (before.0 ++ payload ∷ []) (get (account new).files f)) (ap (λ (a : ℕ). page_file a (page_of writer)) (sym same.0) ∙ ap (page_file (address_of next)) (sym same.1)) now)

-- a page that was just made is written
pub just_made : (writer : PageWriter) (address page : ℕ) (old new : Option Account) → (address_of writer ≡ address) × (page_of writer ≡ page) → Changes old new (ChangesFile (page_file address page) (λ _ s. Writes writer [] s))
    → IsHonest new → IsWritten writer (get (account new).files (name_of writer))
just_made writer address page old new same changes h =
    let now : Writes writer [] (get (account new).files (page_file address page)) = (changes.step (changes.back h)).change in
    ([], subst (λ (f : FileId). Writes writer [] (get (account new).files f)) (ap (λ (a : ℕ). page_file a page) (sym same.0) ∙ ap (page_file (address_of writer)) (sym same.1)) now)
