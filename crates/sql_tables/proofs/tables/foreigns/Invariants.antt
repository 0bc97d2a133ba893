use Rattle.std.proofs.Common.{◌≡◌, true, drop}
use Rattle.sql_tables.specs.Ddl.{foreigns_pieces}
use Rattle.sql_text.specs.Pages.{put_on}
use Rattle.sql_tables.proofs.tables.foreigns.Given as goal

abbrev pub invariant-loop-number : goal.invariant-loop-number
invariant-loop-number l =
    l.page.is_whole ≡ true → put_on l.page (foreigns_pieces l.schema l.later l.number (drop l.number l.foreigns)) ≡ put_on l.initial.page (foreigns_pieces l.schema l.later 0 l.foreigns)
