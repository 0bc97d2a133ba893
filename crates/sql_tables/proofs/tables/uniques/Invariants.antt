use Rattle.std.proofs.Common.{◌≡◌, true, drop}
use Rattle.sql_tables.specs.Ddl.{uniques_pieces}
use Rattle.sql_text.specs.Pages.{put_on}
use Rattle.sql_tables.proofs.tables.uniques.Given as goal

abbrev pub invariant-loop-columns : goal.invariant-loop-columns
invariant-loop-columns l =
    l.page.is_whole ≡ true → put_on l.page (uniques_pieces (drop l.columns-index l.uniques)) ≡ put_on l.initial.page (uniques_pieces l.uniques)
