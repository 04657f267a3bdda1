-- The broker that an opening gives, and what a crash within it leaves.
use Rattle.std.proofs.Common.{[], ◌≡◌, inl, inr, ⊎_elim, ℕ, ◌-◌, ◌≢◌, get_or, Bool, false, List, Option, refl, sym, ◌∙◌, ap, subst}
use Rattle.std.proofs.lemmas.List.Elements.{All-weaker}
use Rattle.pg_disk.specs.declared.disk.Disk.{Ghosts}
use Rattle.pg_disk.specs.declared.file_id.FileId.{FileId}
use Rattle.pg_disk.specs.declared.file_id.Kind.TheVariants.{Journal as OfJournal}
use Rattle.pg_disk.specs.Account.{Account, account, IsHonest, AllQuiet}
use Rattle.pg_disk.specs.Calls.{Changes}
use Rattle.pg_disk.specs.Files.{Files}
use Rattle.pg_disk.specs.Image.{AnyFile, OnceQuiet}
use Rattle.pg_disk.specs.Moments.{Within, WithinFrom}
use Rattle.pg_disk.proofs.Composing.{from_weaker, once_weaker, weaker}
use Rattle.pg_fold.specs.declared.durable.Durable.{Durable as Folded}
use Rattle.pg_disk.specs.Views.{Contents, as_read}
use Rattle.pg_recover.specs.declared.recovering.Parts.{Parts}
use Rattle.pg_model.specs.Broker.{Durable, next_epoch, opened_from}
use Rattle.pg_recover.specs.Denotation.{Denotes, FoldsTo, durable_part, raised}
use Rattle.pg_recover.specs.Recovered.{LeavesOpened, OpensFiles}
use Rattle.pg_recover.specs.Recovered.{Owns as OwnsJournal}
use Rattle.pg_fold.specs.declared.rows.AddressRow.{AddressRow}
use Rattle.pg_recover.specs.Viewing.{ArePaged, IsMarked}
use Rattle.pg_recover.specs.WellFormed.{AreRoomy, IsNamed, IsThere, WellFormed, page_file}
use Rattle.pg_recover.proofs.OneState.{state_is}
use Rattle.pg_engine.specs.declared.engine.Engine.{Engine}
use Rattle.pg_engine.specs.Kept.{broker_of}
use Rattle.pg_engine.specs.Opened.{LeavesEpoch, OpensAt, engine_of}

-- a directory denotes one durable part
pub one_denoted : (contents : Contents) (a b : Durable) → Denotes contents a → Denotes contents b → a ≡ b
one_denoted contents a b this that =
    let same = state_is contents that.folds.batches that.state this.state that.folds.says (record { entries = that.folds.entries; spelled = that.folds.spelled; folded = that.folds.folded }) this.folds in
    this.is ∙ ap durable_part same ∙ sym that.is

-- What gives the state from before, or that in the next epoch, denotes what was denoted, or that in the next epoch.
pub epoch_left : (old : Option Account) (c : Files) (b : List ℕ) → LeavesOpened old c b → LeavesEpoch old c b
epoch_left old c b left = record {
  honest = left.honest;
  nothing = left.nothing;
  means = ⊎_elim
      (λ one. inl (record { denoted = λ d denoted. record { state = denoted.state; folds = one.folds denoted.state denoted.folds; is = denoted.is }; well = one.well }))
      (λ other. inr (record {
        denoted = λ d denoted. record { state = raised denoted.state; folds = other.folds denoted.state denoted.folds; is = ap next_epoch denoted.is };
        well = other.well;
      }))
      left.means;
}

-- at each moment of an opening
pub epoch_moments : {D : Type 0} (m : Ghosts D) (old new : D) → Within m old new (OnceQuiet LeavesOpened) → Within m old new (OnceQuiet LeavesEpoch)
epoch_moments m old new run = weaker m old new (OnceQuiet LeavesOpened) (OnceQuiet LeavesEpoch) run (λ c b. once_weaker LeavesOpened LeavesEpoch (m.tells old) c b (epoch_left (m.tells old) c b))

-- and from the moment on at which nothing is pending
pub epoch_from : {D : Type 0} (m : Ghosts D) (old new : D) → WithinFrom m AnyFile old new LeavesOpened → WithinFrom m AnyFile old new LeavesEpoch
epoch_from m old new from = from_weaker m AnyFile old new LeavesOpened LeavesEpoch from (epoch_left (m.tells from.at))

-- a file that isn't the journal's has the bytes that it had, so what is known of pages is known of those there now
pages_kept : (old new : Contents) → ((file : FileId) → file.kind ≢ OfJournal → new file ≡ old file) → (rows : List AddressRow) (paged : List Bool) → ArePaged old rows paged → ArePaged new rows paged
pages_kept old new same rows paged are = record {
  count = are.count;
  each = All-weaker (λ row. IsMarked old row (get_or paged (row.id - 1) false)) (λ row. IsMarked new row (get_or paged (row.id - 1) false))
      (λ row is. (
        λ marked. let has = is.0 marked in (has.0, has.1, (has.2.0, page_same row.id has.0 ∙ has.2.1)),
        λ has. is.1 (has.0, has.1, (has.2.0, sym (page_same row.id has.0) ∙ has.2.1)),
      )) rows are.each;
}
  where
    page_same : (owner number : ℕ) → new (page_file owner number) ≡ old (page_file owner number)
    page_same owner number = same (page_file owner number) (λ is. cc)

-- the engine of the parts that were recovered
pub opened_at : (ids : ℕ) (old new : Option Account) (parts : Parts) (engine : Engine) → engine ≡ engine_of ids parts → Changes old new OpensFiles
    → (IsHonest old → (d : Folded) × FoldsTo (as_read (account old).files) d × (parts.durable ≡ raised d) × OwnsJournal parts.journal parts.durable (account new).files × AllQuiet (account new).files)
    → (IsHonest old → ArePaged (as_read (account old).files) parts.durable.addresses parts.paged.items)
    → (IsHonest old → (file : FileId) → IsThere (as_read (account old).files) file → IsNamed parts.durable.addresses file)
    → (IsHonest old → WellFormed (as_read (account old).files) → WellFormed (as_read (account new).files)) → AreRoomy parts.durable → IsHonest old → OpensAt ids old new engine
opened_at ids old new parts engine is stays recovered paged named well roomy honest =
    let found = recovered honest in
    let same = (stays.step honest).change in
    let own = found.3 in
    subst (OpensAt ids old new) (sym is) (record {
      first = opened_from ids (durable_part found.0);
      opened = record { durable = durable_part found.0; denoted = record { state = found.0; folds = found.1; is = refl }; opened = refl };
      stands = record {
        kept = stays.kept honest;
        stands = ap (λ d. broker_of (record { durable = d; drawn = 0; ids = ids; paged = parts.paged.items; consumers = [] })) found.2;
        owns = record {
          journal = own;
          pages = record {
            paged = pages_kept (as_read (account old).files) (as_read (account new).files) same parts.durable.addresses parts.paged.items (paged honest);
            known = λ address number there. (named honest (page_file address number) (there.0, sym (same (page_file address number) (λ is. cc)) ∙ there.1)).0;
          };
          roomy = roomy;
        };
      };
      quiet = found.4;
      well = well honest;
    })
