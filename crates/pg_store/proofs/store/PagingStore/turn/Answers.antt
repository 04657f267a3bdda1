use Rattle.std.proofs.Common.{◌≡◌, ◌+◌, ℕ, [], refl, ◌∙◌, ap, arith}
use Rattle.pg_gate.specs.Gated.{Anyhow}
use Rattle.pg_page.specs.Pages.{page_file}
use Rattle.pg_page.specs.Writing.{Writes}
use Rattle.pg_store.specs.Stores.{address_of_paging, last_of}
use Rattle.pg_store.proofs.Runs.{isnt_there, made_so, made_somehow, making, turning, was_turned}
use Rattle.pg_store.proofs.store.PagingStore.turn.Goals as goal

named : (a address p page : ℕ) → a ≡ address → p ≡ page → page_file a (p + 1) ≡ page_file address (page + 1)
named a address p page one two = λ i. page_file (one i) (two i + 1)

pub create-requires : goal.create-requires
create-requires g c =
    isnt_there (page_file c.address.result (c.page.result + 1)) (address_of_paging c.args.self) (last_of c.args.self + 1) (named c.address.result (address_of_paging c.args.self) c.page.result (last_of c.args.self) c.address.ensures c.page.ensures) (g.D.Disk.tells c.args.disk.now)
    (λ h. (c.requires.ready h).none (last_of c.args.self + 1) (omega arith))

pub returns-in_err-writer-clause-other_files : goal.returns-in_err-writer-clause-other_files
returns-in_err-writer-clause-other_files g c =
    made_somehow (page_file c.address.result (c.page.result + 1)) (address_of_paging c.args.self) (last_of c.args.self + 1) (named c.address.result (address_of_paging c.args.self) c.page.result (last_of c.args.self) c.address.ensures c.page.ensures) (g.D.Disk.tells c.args.disk.now) (g.D.Disk.tells c.create.new.disk)
    Anyhow c.in_err-writer.ensures.other_files

pub returns-in_err-writer-clause-any_moment : goal.returns-in_err-writer-clause-any_moment
returns-in_err-writer-clause-any_moment g c =
    turning g.D.Disk c.args.self c.args.disk.now c.create.new.disk
    (making (page_file c.address.result (c.page.result + 1)) (address_of_paging c.args.self) (last_of c.args.self + 1) (named c.address.result (address_of_paging c.args.self) c.page.result (last_of c.args.self) c.address.ensures c.page.ensures) g.D.Disk c.args.disk.now c.create.new.disk c.create.ensures.any_moment)

pub returns-clause-turned : goal.returns-clause-turned
returns-clause-turned g c =
    was_turned c.args.self _ (g.D.Disk.tells c.args.disk.now) (g.D.Disk.tells c.create.new.disk) refl (c.in_ok-writer.ensures.page.1 ∙ ap (λ (n : ℕ). n + 1) c.page.ensures)
    (made_so (page_file c.address.result (c.page.result + 1)) (address_of_paging c.args.self) (last_of c.args.self + 1) (named c.address.result (address_of_paging c.args.self) c.page.result (last_of c.args.self) c.address.ensures c.page.ensures) (g.D.Disk.tells c.args.disk.now) (g.D.Disk.tells c.create.new.disk)
    (λ _ s. Writes c.in_ok-writer.writer [] s) c.in_ok-writer.ensures.created)

pub returns-clause-other_files : goal.returns-clause-other_files
returns-clause-other_files g c =
    made_somehow (page_file c.address.result (c.page.result + 1)) (address_of_paging c.args.self) (last_of c.args.self + 1) (named c.address.result (address_of_paging c.args.self) c.page.result (last_of c.args.self) c.address.ensures c.page.ensures) (g.D.Disk.tells c.args.disk.now) (g.D.Disk.tells c.create.new.disk)
    (λ _ s. Writes c.in_ok-writer.writer [] s) c.in_ok-writer.ensures.created

pub returns-clause-any_moment : goal.returns-clause-any_moment
returns-clause-any_moment g c =
    turning g.D.Disk c.args.self c.args.disk.now c.create.new.disk
    (making (page_file c.address.result (c.page.result + 1)) (address_of_paging c.args.self) (last_of c.args.self + 1) (named c.address.result (address_of_paging c.args.self) c.page.result (last_of c.args.self) c.address.ensures c.page.ensures) g.D.Disk c.args.disk.now c.create.new.disk c.create.ensures.any_moment)
