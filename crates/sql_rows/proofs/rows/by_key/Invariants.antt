use Rattle.std.proofs.Common.{◌≡◌, true, drop, codes}
use denote.Text.{Utf8}
use denote.Shadow.{shadow}
use Rattle.sql_text.specs.Pages.{put_on}
use Rattle.sql_rows.specs.Rows.{key_pieces}
use Rattle.sql_rows.proofs.rows.by_key.Given as goal

abbrev pub invariant-loop-column : goal.invariant-loop-column
invariant-loop-column l =
    shadow (Utf8 l.word)
    × (l.page.is_whole ≡ true → put_on l.page (key_pieces l.name l.word (drop l.column-index l.columns) l.rest) ≡ put_on l.initial.page (key_pieces l.name (codes " WHERE ") l.columns l.key))
