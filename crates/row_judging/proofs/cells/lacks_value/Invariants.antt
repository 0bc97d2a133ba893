use Rattle.std.proofs.Common.{◌≡◌, drop}
use Rattle.schema_core.specs.Judged.{lacks_value}
use Rattle.schema_core.specs.Catalog.{is_required}
use Rattle.row_judging.proofs.cells.lacks_value.Given as goal

abbrev pub invariant-loop-place : goal.invariant-loop-place
invariant-loop-place l = lacks_value is_required (drop l.place l.columns) (drop l.place l.row) ≡ lacks_value is_required l.columns l.row
