use Rattle.std.proofs.Common.{◌≡◌, true, drop, codes}
use Rattle.sql_rows.specs.Rows.{row_list}
use Rattle.sql_text.specs.Pages.{put_on}
use Rattle.sql_text.specs.Written.{with_leading_separators}
use Rattle.sql_rows.proofs.rows.more_rows.Given as goal

abbrev pub invariant-loop-row : goal.invariant-loop-row
invariant-loop-row l =
    l.page.is_whole ≡ true → (put_on l.page (with_leading_separators (codes ", ") (row_list l.drawn l.columns) (drop l.row-index l.rows))
    ≡ put_on l.initial.page (with_leading_separators (codes ", ") (row_list l.drawn l.columns) l.rows))
