use Rattle.std.proofs.Common.{◌≡◌, true, ◌∷◌, [], drop, codes}
use Rattle.sql_rows.specs.Rows.{column_piece}
use Rattle.sql_text.specs.Pages.{put_on}
use Rattle.sql_text.specs.Written.{with_leading_separators}
use Rattle.sql_statements.proofs.bulks.more_columns.Given as goal

abbrev pub invariant-loop-column : goal.invariant-loop-column
invariant-loop-column l =
    l.page.is_whole ≡ true → (put_on l.page (with_leading_separators (codes ", ") (λ column. column_piece l.schema l.table column ∷ []) (drop l.column-index l.columns))
    ≡ put_on l.initial.page (with_leading_separators (codes ", ") (λ column. column_piece l.schema l.table column ∷ []) l.columns))
