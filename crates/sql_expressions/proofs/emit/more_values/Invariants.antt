use Rattle.std.proofs.Common.{◌≡◌, true, drop, codes}
use Rattle.sql_text.specs.Pages.{put_on}
use Rattle.sql_text.specs.Written.{with_leading_separators}
use Rattle.sql_expressions.specs.Laid.{value_pieces}
use Rattle.sql_expressions.proofs.emit.more_values.Given as goal

abbrev pub invariant-loop-value : goal.invariant-loop-value
invariant-loop-value l =
    l.page.is_whole ≡ true → put_on l.page (with_leading_separators (codes ", ") (value_pieces l.base) (drop l.value-index l.values)) ≡ put_on l.initial.page (with_leading_separators (codes ", ") (value_pieces l.base) l.values)
