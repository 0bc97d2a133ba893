use Rattle.std.proofs.Common.{◌≡◌, true, ◌∷◌, [], drop}
use Rattle.sql_statements.specs.Selects.{joins_pieces}
use Rattle.sql_text.specs.Pages.{put_on}
use Rattle.sql_statements.proofs.selects.joins.Given as goal

abbrev pub invariant-loop-next : goal.invariant-loop-next
invariant-loop-next l =
    l.page.is_whole ≡ true → (l.page.written.dialect ≡ l.initial.page.written.dialect)
    × (put_on l.page (joins_pieces l.initial.page.written.dialect l.schema l.scope.items (drop l.next-index l.joins))
    ≡ put_on l.initial.page (joins_pieces l.initial.page.written.dialect l.schema (l.first ∷ []) l.joins))
