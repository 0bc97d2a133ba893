-- Cells with their columns, and tables that are not too wide.
use Rattle.std.proofs.Common.{◌≡◌, ◌≤◌, length, Some}
use Rattle.std.proofs.lemmas.List.Elements.{All-get_or}
use Rattle.std.proofs.lemmas.Option.{get_or_from_slice_get}
use Rattle.std.specs.List.{slice_get}
use Rattle.schema_core.specs.declared.changes.RowChanges.{RowChanges}
use Rattle.schema_core.specs.declared.table.ColumnSpec.{ColumnSpec}
use Rattle.schema_core.specs.declared.table.TableSpec.{TableSpec}
use Rattle.schema_core.specs.Catalog.{Catalog, IsTable, no_table, spec_of}
use Rattle.base_core.specs.declared.ids.ColumnNo.{ColumnNo}
use Rattle.base_core.specs.declared.ids.TableId.{TableId}
use Rattle.flush_writes.specs.Writes.{column_of, no_column}
use Rattle.flush_order.specs.Ready.{AreInRange}

pub narrow_at : (schema : Catalog) (changes : RowChanges) (table : TableId) → AreInRange schema changes → IsTable schema table → length (spec_of schema table).columns ≤ 4294967295
narrow_at schema changes table range declared = All-get_or (λ (spec : TableSpec). length spec.columns ≤ 4294967295) schema.tables table.0 no_table declared range.narrow

pub column_is : (schema : Catalog) (table : TableId) (column : ColumnNo) (found : ColumnSpec) → slice_get (spec_of schema table).columns column.0 ≡ Some found → column_of schema table column ≡ found
column_is schema table column found e = get_or_from_slice_get (spec_of schema table).columns column.0 found no_column e
