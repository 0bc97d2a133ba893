use Rattle.std.proofs.Common.{◌≡◌, true, drop, codes}
use Rattle.sql_rows.specs.Rows.{cell_pieces}
use Rattle.sql_text.specs.Pages.{put_on}
use Rattle.sql_text.specs.Written.{with_leading_separators}
use Rattle.sql_rows.proofs.rows.more_cells.Given as goal

abbrev pub invariant-loop-next : goal.invariant-loop-next
invariant-loop-next l =
    l.page.is_whole ≡ true → (put_on l.page (with_leading_separators (codes ", ") (cell_pieces l.schema l.table) (drop l.next-index l.cells))
    ≡ put_on l.initial.page (with_leading_separators (codes ", ") (cell_pieces l.schema l.table) l.cells))
