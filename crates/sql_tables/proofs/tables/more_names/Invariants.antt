use Rattle.std.proofs.Common.{◌≡◌, true, ◌∷◌, [], drop, codes}
use Rattle.sql_text.specs.Pages.{put_on}
use Rattle.sql_text.specs.Written.{with_leading_separators, name}
use Rattle.sql_tables.proofs.tables.more_names.Given as goal

abbrev pub invariant-loop-name : goal.invariant-loop-name
invariant-loop-name l =
    l.page.is_whole ≡ true → put_on l.page (with_leading_separators (codes ", ") (λ shown. name shown ∷ []) (drop l.name-index l.names)) ≡ put_on l.initial.page (with_leading_separators (codes ", ") (λ shown. name shown ∷ []) l.names)
