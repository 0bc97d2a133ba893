use Rattle.std.proofs.Common.{◌≡◌, ◌&&◌, not, drop}
use Rattle.schema_core.specs.Judged.{lacks_value}
use Rattle.schema_core.specs.Catalog.{is_required}
use Rattle.row_judging.proofs.cells.lacks_given.Given as goal

abbrev pub invariant-loop-place : goal.invariant-loop-place
invariant-loop-place l =
    lacks_value (λ column. is_required column && not (column.key && l.generated)) (drop l.place l.columns) (drop l.place l.row)
    ≡ lacks_value (λ column. is_required column && not (column.key && l.generated)) l.columns l.row
