use Rattle.std.proofs.Common.{◌≡◌, true, drop}
use Rattle.sql_rows.specs.Rows.{key_names}
use Rattle.sql_text.specs.Pages.{put_on}
use Rattle.sql_rows.proofs.rows.key_names.Given as goal

abbrev pub invariant-loop-column : goal.invariant-loop-column
invariant-loop-column l = l.page.is_whole ≡ true → put_on l.page (key_names l.name (drop l.column-index l.columns)) ≡ put_on l.initial.page (key_names l.name l.columns)
