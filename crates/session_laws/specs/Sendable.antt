-- Plans that can be sent: each statement fits the schema when it is sent.
use Rattle.std.specs.Prelude.{◌≡◌, ℕ, suc, Bool, true, false, not, ◌&&◌, ◌||◌, List, [], ◌∷◌, length, slice_get, nat_lt, nat_eq, Option, None, Some, Ok}
use Rattle.std.specs.List.{AllByRecursion}
use Rattle.std.specs.Cmp.Lexicographic.{pointwise}
use Rattle.base_core.specs.declared.ids.ColumnNo.{ColumnNo}
use Rattle.base_core.specs.declared.ids.TableId.{TableId}
use Rattle.schema_core.specs.declared.changes.ChangedRow.{ChangedRow}
use Rattle.schema_core.specs.declared.changes.GoneRow.{GoneRow}
use Rattle.schema_core.specs.declared.changes.NewRow.{NewRow}
use Rattle.schema_core.specs.declared.changes.Planned.{Planned}
use Rattle.schema_core.specs.declared.changes.RowCell.{RowCell}
use Rattle.schema_core.specs.declared.changes.RowCell.TheVariants.{Given, KeyOf}
use Rattle.schema_core.specs.declared.changes.RowChanges.{RowChanges}
use Rattle.schema_core.specs.declared.table.ColumnSpec.{ColumnSpec}
use Rattle.schema_core.specs.Catalog.{Catalog, IsTable, key_columns, kind_of, same_kind, spec_of}
use Rattle.schema_core.specs.WellFormed.{is_key, may_hold}
use Rattle.flush_order.specs.Refers.{gone_key}
use Rattle.flush_order.specs.Cells.{late_name, table_at}
use Rattle.flush_plan.specs.Flushing.{Sofar, send}
use Rattle.flush_plan.specs.Planning.{plan}
use Rattle.session_laws.specs.Plans.Laws.{before}
use Rattle.plan_statements.specs.Known.{is_sendable}
use Rattle.schema_core.specs.Tables.{Tables}
use Rattle.class_mapping.specs.Mapped.{Mapped}
use Rattle.mapping_laws.specs.Hierarchies.{HasHierarchies}
use Rattle.object_arena.specs.Fit.{IsFit}
use Rattle.object_arena.specs.Graph.{Graph}
use Rattle.object_arena.specs.Identity.{IsGraph}
use Rattle.object_rows.specs.declared.prepared.Prepared.{Prepared}
use Rattle.session_laws.specs.Graphs.{AreKeyed, IsWellMapped}
use Rattle.row_project.specs.Changes.{project}

-- the column takes what a key column holds, if there is one
abbrev pub takes_part : ColumnSpec → Option ColumnSpec → Bool
takes_part column None = false
takes_part column (Some part) = same_kind (kind_of column.kind) (kind_of part.kind)

-- given as a value that the column may hold, or a part of the key of a new row, of the column's kind
abbrev pub cell_fits : Catalog → RowChanges → ColumnSpec → RowCell → Bool
cell_fits schema changes column (Given value) = may_hold column value
cell_fits schema changes column (KeyOf place part) = nat_lt place (length changes.fresh) && takes_part column (slice_get (key_columns (spec_of schema (table_at changes place))) part)

-- cells of columns from this place on, in order, each once, none of the key, and each fits
abbrev pub are_fit : Catalog → RowChanges → ℕ → List ColumnSpec → List (ColumnNo × RowCell) → Bool
are_fit schema changes place columns [] = true
are_fit schema changes place [] (cell ∷ cells) = false
are_fit schema changes place (column ∷ columns) (cell ∷ cells) =
    (nat_lt place cell.0.0 && are_fit schema changes (suc place) columns (cell ∷ cells))
    || (nat_eq place cell.0.0 && not column.key && cell_fits schema changes column cell.1 && are_fit schema changes (suc place) columns cells)

abbrev pub IsFitNew : Catalog → RowChanges → NewRow → Type 0
IsFitNew schema changes row = IsTable schema row.name.table × (pointwise (cell_fits schema changes) (spec_of schema row.name.table).columns row.cells ≡ true)

abbrev pub IsFitChanged : Catalog → RowChanges → ChangedRow → Type 0
IsFitChanged schema changes row =
    IsTable schema row.name.table × (is_key (spec_of schema row.name.table) row.key ≡ true) × (are_fit schema changes 0 (spec_of schema row.name.table).columns row.cells ≡ true)

abbrev pub IsFitGone : Catalog → GoneRow → Type 0
IsFitGone schema row = IsTable schema row.name.table × (is_key (spec_of schema row.name.table) (gone_key schema row) ≡ true)

-- rows of declared tables, with cells that fit, and under keys that fit; no column of a key is written late
pub record HasFitRows (schema : Catalog) (changes : RowChanges) : Type 0 where
  pub fresh : AllByRecursion (IsFitNew schema changes) changes.fresh
  pub changed : AllByRecursion (IsFitChanged schema changes) changes.changed
  pub gone : AllByRecursion (IsFitGone schema) changes.gone
  pub late : (table : TableId) → AllByRecursion (λ column. late_name schema changes table column.name ≡ true → column.key ≡ false) (spec_of schema table).columns

-- what holds of each statement when it is sent, where those before it were accepted
abbrev pub HoldWhenSent : (Sofar → Planned → Type 0) → Catalog → RowChanges → Sofar → List Planned → Type 0
HoldWhenSent P schema changes sofar [] = Unit {0}
HoldWhenSent P schema changes sofar (planned ∷ statements) = P sofar planned × ((next : Sofar) → send schema changes sofar planned ≡ Ok next → HoldWhenSent P schema changes next statements)

-- the plan of rows that fit can be sent: each statement fits the schema when it is sent, with the keys that are known then
abbrev pub FitPlansAreSendable : Type 0
FitPlansAreSendable =
    (schema : Catalog) (changes : RowChanges) (statements : List Planned) (tables : Tables) → HasFitRows schema changes → plan schema changes ≡ Ok statements
    → HoldWhenSent (λ sofar planned. is_sendable schema changes sofar.keys planned ≡ true) schema changes (before tables) statements

-- what objects of a configured mapping change is of rows that fit, where they have their own rows
abbrev pub ChangesFit : Type 0
ChangesFit =
    (mapped : Mapped) (graph : Graph) (prepared : Prepared) → IsWellMapped mapped → HasHierarchies mapped → IsFit mapped graph → IsGraph graph.objects graph.roots → AreKeyed mapped graph prepared
    → HasFitRows mapped.schema (project mapped graph prepared)
