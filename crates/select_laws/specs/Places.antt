-- Rows of values that are NULL or of their columns' kinds.
use Rattle.std.specs.Prelude.{◌≡◌, ℕ, ◌+◌, ◌<◌, IsTrue, List, [], length, slice_get, Option, Some, None}
use Rattle.std.specs.List.{AllByRecursion}
use Rattle.base_core.specs.declared.ids.TableId.{TableId}
use Rattle.base_core.specs.declared.value.Kind.{Kind}
use Rattle.schema_core.specs.declared.table.ColumnSpec.{ColumnSpec}
use Rattle.schema_core.specs.Catalog.{Catalog, kind_of, spec_of}
use Rattle.sql_semantics.specs.Kinds.{Scope, column_in}
use Rattle.sql_semantics.specs.Plain.{is_of_kind}
use Rattle.sql_semantics.specs.Eval.{Row, Place, item_or_null, rows_in, without_group}

-- a value stands at this place of the row, NULL or of the kind
abbrev pub StandsAt : Row → ℕ → Kind → Type 0
StandsAt row place kind = (place < length row) × IsTrue (is_of_kind kind (item_or_null (slice_get row place)))

-- the row has a fitting value for each column of the table
abbrev pub FitsTable : Catalog → TableId → Row → Type 0
FitsTable schema table row = (c : ℕ) (column : ColumnSpec) → slice_get (spec_of schema table).columns c ≡ Some column → StandsAt row c (kind_of column.kind)

abbrev pub BeginsAt : Row → Option ℕ → ℕ → Kind → Type 0
BeginsAt row (Some start) c kind = StandsAt row (start + c) kind
BeginsAt row None c kind = ⊥

-- a place with a fitting value for each column of each source in scope, with fitting rows in its tables, and outside a group
pub record FitsPlace (schema : Catalog) (scope : Scope) (p : Place) : Type 0 where
  pub begins : length p.starts ≡ length scope
  pub columns : (s c : ℕ) (column : ColumnSpec) → column_in schema scope s (record { 0 = c }) ≡ Some column → BeginsAt p.row (slice_get p.starts s) c (kind_of column.kind)
  pub rows : (table : TableId) → AllByRecursion (FitsTable schema table) (rows_in p.tables table.0)
  pub no_group : p.group ≡ None

-- a place at which a row stands for the rows of a group: the same place without the group fits, with that row and with each row of the group
pub record FitsGroup (schema : Catalog) (scope : Scope) (p : Place) (members : List Row) : Type 0 where
  pub group : p.group ≡ Some members
  pub one : FitsPlace schema scope (without_group p)
  pub each : AllByRecursion (λ row. FitsPlace schema scope (record (without_group p) { row = row })) members

-- a place of a group without rows, for which no row stands
pub record FitsNoRows (schema : Catalog) (scope : Scope) (p : Place) : Type 0 where
  pub group : p.group ≡ Some []
  pub no_row : p.row ≡ []
  pub begins : length p.starts ≡ length scope
  pub rows : (table : TableId) → AllByRecursion (FitsTable schema table) (rows_in p.tables table.0)
