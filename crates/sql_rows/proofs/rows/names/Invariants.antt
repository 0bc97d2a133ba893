use Rattle.std.proofs.Common.{◌≡◌, true, drop, codes}
use denote.Text.{Utf8}
use denote.Shadow.{shadow}
use Rattle.sql_text.specs.Pages.{put_on}
use Rattle.sql_rows.specs.Rows.{names_pieces}
use Rattle.sql_rows.proofs.rows.names.Given as goal

abbrev pub invariant-loop-column : goal.invariant-loop-column
invariant-loop-column l =
    shadow (Utf8 l.word)
    × (l.page.is_whole ≡ true → put_on l.page (names_pieces l.drawn l.word (drop l.column-index l.columns)) ≡ put_on l.initial.page (names_pieces l.drawn (codes " (") l.columns))
