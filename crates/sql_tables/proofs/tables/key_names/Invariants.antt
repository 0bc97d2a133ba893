use Rattle.std.proofs.Common.{◌≡◌, true, drop}
use denote.Text.{Utf8}
use denote.Shadow.{shadow}
use Rattle.sql_tables.specs.Ddl.{key_names}
use Rattle.sql_text.specs.Pages.{put_on}
use Rattle.sql_tables.proofs.tables.key_names.Given as goal

abbrev pub invariant-loop-column : goal.invariant-loop-column
invariant-loop-column l =
    shadow (Utf8 l.word) × (l.page.is_whole ≡ true → put_on l.page (key_names l.word (drop l.column-index l.columns)) ≡ put_on l.initial.page (key_names l.opening l.columns))
