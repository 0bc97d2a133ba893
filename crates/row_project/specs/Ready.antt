-- When a plan can be made of changes.
use Rattle.std.specs.Prelude.{◌≤◌, ◌+◌, length}
use Rattle.std.specs.List.{AllByRecursion}
use Rattle.schema_core.specs.declared.changes.GoneRow.{GoneRow}
use Rattle.schema_core.specs.declared.changes.NewRow.{NewRow}
use Rattle.schema_core.specs.declared.changes.RowChanges.{RowChanges}
use Rattle.schema_core.specs.Catalog.{Catalog, IsTable}
use Rattle.flush_order.specs.Ready.{IsInTable}

-- the tables of all rows are declared, and so are the columns of changed cells
pub record AreDeclared (schema : Catalog) (changes : RowChanges) : Type 0 where
  pub new : AllByRecursion (λ (row : NewRow). IsTable schema row.name.table) changes.fresh
  pub changed : AllByRecursion (IsInTable schema) changes.changed
  pub gone : AllByRecursion (λ (row : GoneRow). IsTable schema row.name.table) changes.gone

-- there are no more rows than have numbers
pub record AreFew (changes : RowChanges) : Type 0 where
  pub new : length changes.fresh ≤ 4294967295
  pub old : length changes.changed + length changes.gone ≤ 4294967295
