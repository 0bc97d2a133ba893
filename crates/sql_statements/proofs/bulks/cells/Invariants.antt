use Rattle.std.proofs.Common.{◌≡◌, true, drop, codes}
use denote.Text.{Utf8}
use denote.Shadow.{shadow}
use Rattle.sql_text.specs.Pages.{put_on}
use Rattle.sql_statements.specs.Bulks.{cells_pieces}
use Rattle.sql_statements.proofs.bulks.cells.Given as goal

abbrev pub invariant-loop-value : goal.invariant-loop-value
invariant-loop-value l =
    shadow (Utf8 l.word)
    × (l.page.is_whole ≡ true → put_on l.page (cells_pieces l.schema l.table l.word l.rest (drop l.value-index l.values))
    ≡ put_on l.initial.page (cells_pieces l.schema l.table (codes "(") l.columns l.values))
