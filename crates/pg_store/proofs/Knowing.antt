-- What a store knows, where others change files.
use Rattle.std.proofs.Common.{◌≡◌, ◌≢◌, ℕ, List, sym, ap, subst}
use Rattle.pg_disk.specs.declared.file_id.FileId.{FileId}
use Rattle.pg_disk.specs.declared.file_id.Kind.TheVariants.{Page}
use Rattle.pg_disk.specs.Image.{IsLeftAt}
use Rattle.pg_page.specs.Pages.{Entry, HasEntries, IsPageOf, Pages, page_file}
use Rattle.pg_store.specs.declared.store.Store.{Store}
use Rattle.pg_store.specs.declared.store.Store.TheVariants.{Normal, Paging}
use Rattle.pg_store.specs.Pages.{States}
use Rattle.pg_store.specs.Stores.{IsReady, Stands, first_of_store}
use Rattle.pg_store.proofs.Standing.{rest_leaves, unstarted_leaves}

-- pages that are as they were, one by one, are the same pages
pub same_states : (s t : States) → ((page : ℕ) → t page ≡ s page) → s ≡ t
same_states s t same = λ i page. sym (same page) i

pub ready_still : (store : Store) (s t : States) → ((page : ℕ) → t page ≡ s page) → IsReady store s → IsReady store t
ready_still store s t same ready = subst (λ (u : States). IsReady store u) (same_states s t same) ready

pub stands_still : (store : Store) (entries : List Entry) (s t : States) → ((page : ℕ) → t page ≡ s page) → Stands store entries s → Stands store entries t
stands_still store entries s t same stands = subst (λ (u : States). Stands store entries u) (same_states s t same) stands

pub known_left : (store : Store) (entries : List Entry) (s : States) (left : Pages) → Stands store entries s → ((page : ℕ) → IsLeftAt (s page) (left page)) → HasEntries (first_of_store store) entries left
known_left (Normal store) entries s left stands is = subst (λ (l : List Entry). HasEntries store.first l left) (sym stands.1) (unstarted_leaves store s left is stands.0)
known_left (Paging store) entries s left stands is = rest_leaves store s left is entries stands

-- a file of another kind is no page
pub no_page : (address page : ℕ) (file : FileId) → file.kind ≢ Page → page_file address page ≢ file
no_page address page file other is = other (sym (ap (λ (f : FileId). f.kind) is))

-- a page of one address is none of another
pub no_page_of : (address other page : ℕ) → other ≢ address → IsPageOf other (page_file address page) → ⊥
no_page_of address other page differ is = differ (sym (ap (λ (f : FileId). f.owner) is.1))
