use Rattle.std.proofs.Common.{sym, subst, ◌<◌}
use Rattle.pg_disk.specs.Account.{Account}
use Rattle.pg_disk.specs.MemSite.{account_of}
use Rattle.pg_disk.specs.Views.{as_read}
use Rattle.pg_page.specs.Pages.{pages_of}
use Rattle.pg_page.specs.declared.place.Place.{Place}
use Rattle.pg_cursor.specs.Places.{page_of}
use Rattle.pg_cursor.specs.Tracking.{Cursor}
use Rattle.pg_cursor.specs.Walking.{AreThere, TailStands}
use Rattle.pg_cursor_tests.proofs.Standing.{of_some, put_first_stands, put_first_there}
use Rattle.pg_cursor_tests.proofs.passed.given_over.Goals as goal

pub take_all-requires-clause-there : goal.take_all-requires-clause-there
take_all-requires-clause-there c = λ honest.
    let files = (account_of c.begin_behind.new.site).files in
    let behind = of_some (λ (b : Cursor × Place). 1 < page_of b.0.tail) _ _ c.in-Some.is c.in_ok-cursor.ensures.behind in
    let there = of_some (λ (b : Cursor × Place). AreThere b.0.address (page_of b.0.tail) c.in_ok-last.last files) _ _ c.in-Some.is c.in_ok-cursor.ensures.there in
    subst (λ (a : Account). AreThere c.in-Some.cursor.address (page_of c.in-Some.cursor.tail) c.in_ok-last.last a.files) (sym c.in_ok-put.ensures.ok)
    (put_first_there files _ c.in-Some.cursor.tail c.in-Some.cursor.address behind c.in_ok-last.last there)

pub take_all-requires-clause-stands : goal.take_all-requires-clause-stands
take_all-requires-clause-stands c = λ honest.
    let files = (account_of c.begin_behind.new.site).files in
    let behind = of_some (λ (b : Cursor × Place). 1 < page_of b.0.tail) _ _ c.in-Some.is c.in_ok-cursor.ensures.behind in
    let stands = of_some (λ (b : Cursor × Place). TailStands b.0.tail (pages_of (as_read files) b.0.address)) _ _ c.in-Some.is c.in_ok-cursor.ensures.stands in
    subst (λ (a : Account). TailStands c.in-Some.cursor.tail (pages_of (as_read a.files) c.in-Some.cursor.address)) (sym c.in_ok-put.ensures.ok)
    (put_first_stands files _ c.in-Some.cursor.tail c.in-Some.cursor.address behind stands)
