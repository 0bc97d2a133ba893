use Rattle.std.proofs.Common.{arith}
use Rattle.sqlite_database.proofs.Pages.{whole_page}
use Rattle.sqlite_database.proofs.new_files.new_page.Goals as goal

pub returns : goal.returns
returns c = whole_page c.loop-place.page.items c.loop-place.place (omega (arith, c.loop-place-test.false, c.loop-place.auto.place-end)) c.loop-place.invariant
