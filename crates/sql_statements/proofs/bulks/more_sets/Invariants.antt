use Rattle.std.proofs.Common.{◌≡◌, true, drop, codes}
use Rattle.sql_statements.specs.Bulks.{set_pieces}
use Rattle.sql_text.specs.Pages.{put_on}
use Rattle.sql_text.specs.Written.{with_leading_separators}
use Rattle.sql_statements.proofs.bulks.more_sets.Given as goal

abbrev pub invariant-loop-next : goal.invariant-loop-next
invariant-loop-next l =
    l.page.is_whole ≡ true → (l.page.written.dialect ≡ l.initial.page.written.dialect)
    × (put_on l.page (with_leading_separators (codes ", ") (set_pieces l.initial.page.written.dialect l.schema l.table) (drop l.next-index l.sets))
    ≡ put_on l.initial.page (with_leading_separators (codes ", ") (set_pieces l.initial.page.written.dialect l.schema l.table) l.sets))
