-- The laws of a plan.
use Rattle.std.specs.Prelude.{◌≡◌, ◌⊎◌, ◌<◌, ℕ, suc, Bool, true, false, cond, not, ◌&&◌, ◌||◌, List, [], ◌∷◌, length, map, nat_eq, nat_lt, take, Some, Ok}
use Rattle.std.specs.List.{AllByRecursion, list_all, list_any}
use Rattle.base_core.specs.declared.ids.ColumnNo.{ColumnNo}
use Rattle.base_core.specs.declared.ids.TableId.{TableId}
use Rattle.base_core.specs.declared.value.Value.{Value}
use Rattle.base_core.specs.declared.value.Value.TheVariants.{Null}
use Rattle.schema_core.specs.declared.changes.ChangedRow.{ChangedRow}
use Rattle.schema_core.specs.declared.changes.GoneRow.{GoneRow}
use Rattle.schema_core.specs.declared.changes.NewRow.{NewRow}
use Rattle.schema_core.specs.declared.changes.Planned.{Planned}
use Rattle.schema_core.specs.declared.changes.RowCell.{RowCell}
use Rattle.schema_core.specs.declared.changes.RowCell.TheVariants.{Given, KeyOf}
use Rattle.schema_core.specs.declared.changes.RowChanges.{RowChanges}
use Rattle.schema_core.specs.declared.table.ColumnSpec.{ColumnSpec}
use Rattle.schema_core.specs.declared.table.ForeignSpec.{ForeignSpec}
use Rattle.schema_core.specs.Catalog.{Catalog, IsTable, has_name, same_name, spec_of, target_of}
use Rattle.schema_core.specs.Declaration.{some_two}
use Rattle.schema_core.specs.Tables.{Legal, Tables, cells_of}
use Rattle.schema_core.specs.WellFormed.{IsWellFormed}
use Rattle.flush_order.specs.Cells.{is_late, table_at}
use Rattle.flush_order.specs.Orders.{insert_order, place_of_gone}
use Rattle.flush_order.specs.Sorted.{same_place}
use Rattle.flush_plan.specs.Flushing.{Sofar, send_all, send, statement_sent}
use Rattle.schema_core.specs.declared.changes.Planned.TheVariants.{Insert}
use Rattle.flush_plan.specs.Planning.{key_at, plan}
use Rattle.flush_writes.specs.Writes.{place_of_changed}
use Rattle.flush_plan.specs.Stating.{all_placed, blend, guess, row_at, stated_tables, written_rows}
use Rattle.session_laws.specs.Plans.Premises.{IsClear, IsFit, IsSorted}

-- the INSERT of one row
abbrev pub insert_of : RowChanges → ℕ → Planned
insert_of changes place = Insert (table_at changes place) (place ∷ [])

abbrev pub before : Tables → Sofar
before tables = record { tables = tables; keys = [] }

-- the cell in the column of a name
abbrev pub cell_named : List ColumnSpec → List RowCell → List ℕ → RowCell
cell_named [] cells name = Given Null
cell_named (column ∷ columns) [] name = Given Null
cell_named (column ∷ columns) (cell ∷ cells) name = cond (same_name column.name name) cell (cell_named columns cells name)

abbrev pub cells_named : Catalog → TableId → List RowCell → List (List ℕ) → List RowCell
cells_named schema table cells names = map (cell_named (spec_of schema table).columns cells) names

abbrev pub is_given : RowCell → Bool
is_given (Given value) = true
is_given (KeyOf place part) = false

-- the cells are the parts of the key of one new row of the foreign key's target
abbrev pub ComesFrom : Catalog → RowChanges → ForeignSpec → List RowCell → Type 0
ComesFrom schema changes foreign cells = (place : ℕ) × (place < length changes.fresh) × (target_of schema foreign ≡ Some (table_at changes place)) × (cells ≡ key_at schema changes place)

-- a foreign key is given as values, or comes from one new row of its target
abbrev pub IsOneKind : Catalog → RowChanges → ForeignSpec → List RowCell → Type 0
IsOneKind schema changes foreign cells = (list_all is_given cells ≡ true) ⊎ ComesFrom schema changes foreign cells

-- a part of a key stands only in a column of a foreign key
abbrev pub AreLoose : List ForeignSpec → List ColumnSpec → List RowCell → Type 0
AreLoose foreigns [] cells = Unit {0}
AreLoose foreigns (column ∷ columns) [] = Unit {0}
AreLoose foreigns (column ∷ columns) (cell ∷ cells) = (list_any (λ foreign. has_name foreign.columns column.name) foreigns ≡ false → is_given cell ≡ true) × AreLoose foreigns columns cells

-- cells are of columns from this place on, in order, each once, none of the key
abbrev pub are_at : ℕ → List ColumnSpec → List (ColumnNo × RowCell) → Bool
are_at place columns [] = true
are_at place [] (cell ∷ cells) = false
are_at place (column ∷ columns) (cell ∷ cells) = (nat_lt place cell.0.0 && are_at (suc place) columns (cell ∷ cells)) || (nat_eq place cell.0.0 && not column.key && are_at (suc place) columns cells)

-- what the projection of a graph gives
pub record IsProjected (schema : Catalog) (changes : RowChanges) : Type 0 where
  pub fit : IsFit schema changes
  -- a new row has a cell for each column, and each foreign key is of one kind
  pub new_cells : AllByRecursion (λ (row : NewRow). length row.cells ≡ length (spec_of schema row.name.table).columns) changes.fresh
  pub new_loose : AllByRecursion (λ (row : NewRow). AreLoose (spec_of schema row.name.table).foreigns (spec_of schema row.name.table).columns row.cells) changes.fresh
  pub new_keyed : AllByRecursion (λ (row : NewRow). list_any (λ column. column.key) (spec_of schema row.name.table).columns ≡ true) changes.fresh
  pub new_foreigns : AllByRecursion (λ (row : NewRow). AllByRecursion (λ foreign. IsOneKind schema changes foreign (cells_named schema row.name.table row.cells foreign.columns)) (spec_of schema row.name.table).foreigns) changes.fresh
  -- a changed row names columns in order, none of the key; no two have one table and key
  pub changed_cells : AllByRecursion (λ (row : ChangedRow). are_at 0 (spec_of schema row.name.table).columns row.cells ≡ true) changes.changed
  pub changed_once : some_two (λ one other. same_place (place_of_changed one) (place_of_changed other)) changes.changed ≡ false
  -- a deleted row has a cell for each column, no two have one table and key, none is a changed one
  pub gone_cells : AllByRecursion (λ (row : GoneRow). length row.base ≡ length (spec_of schema row.name.table).columns) changes.gone
  pub gone_once : some_two (λ one other. same_place (place_of_gone schema one) (place_of_gone schema other)) changes.gone ≡ false
  pub gone_apart : list_any (λ row. list_any (λ other. same_place (place_of_gone schema row) (place_of_changed other)) changes.changed) changes.gone ≡ false

-- the deleted rows that stand are as they were read: in their foreign keys, and in what is written late
pub record AreAsRead (schema : Catalog) (old : Tables) (changes : RowChanges) : Type 0 where
  pub base : AllByRecursion (λ (row : GoneRow). (stands : List Value) → row_at old (place_of_gone schema row) ≡ Some stands → AllByRecursion (λ foreign. cells_of (spec_of schema row.name.table) stands foreign.columns ≡ cells_of (spec_of schema row.name.table) row.base foreign.columns) (spec_of schema row.name.table).foreigns) changes.gone
  pub late : AllByRecursion (λ (row : GoneRow). (stands : List Value) → row_at old (place_of_gone schema row) ≡ Some stands → blend (is_late schema changes row.name.table) (spec_of schema row.name.table).columns stands row.base ≡ stands) changes.gone

-- The changes without the changed rows of which no cell is written. Nothing is sent of such a row, which stays as it is, so it names no
-- table.
abbrev pub changes_to_write : RowChanges → RowChanges
changes_to_write changes = record changes { changed = written_rows changes }

-- what completeness asks
pub record IsComplete (schema : Catalog) (old : Tables) (changes : RowChanges) (order : List ℕ) (placed : Sofar) (after : Tables) : Type 0 where
  pub projected : IsProjected schema changes
  pub read : AreAsRead schema old changes
  pub sorted : IsSorted old
  pub legal : Legal schema old
  pub ordered : insert_order schema changes ≡ Ok order
  pub keys : all_placed schema changes old order ≡ Some placed
  pub states : stated_tables schema old (changes_to_write changes) order ≡ Some after
  pub legal_after : Legal schema after
  pub clear : IsClear schema old after
  pub no_guess : guess schema old changes order placed.keys ≡ false

-- every prefix of the INSERTs, one row each, is accepted and leaves legal tables
abbrev pub InsertPrefixesAreLegal : Type 0
InsertPrefixesAreLegal =
    (schema : Catalog) (old : Tables) (changes : RowChanges) (order : List ℕ) (placed : Sofar) (after : Tables)
    → IsComplete schema old changes order placed after
    → (n : ℕ) → (sofar : Sofar) × (send_all schema changes (Ok (before old)) (take n (map (insert_of changes) order)) ≡ Ok sofar) × Legal schema sofar.tables

-- all INSERTs leave the tables and keys that `Keys` tells
abbrev pub InsertsLeaveKeys : Type 0
InsertsLeaveKeys =
    (schema : Catalog) (old : Tables) (changes : RowChanges) (order : List ℕ) (placed : Sofar) (after : Tables)
    → IsComplete schema old changes order placed after
    → send_all schema changes (Ok (before old)) (map (insert_of changes) order) ≡ Ok placed

-- every prefix of the plan is accepted and leaves legal tables
abbrev pub PrefixesAreLegal : Type 0
PrefixesAreLegal =
    (schema : Catalog) (old : Tables) (changes : RowChanges) (order : List ℕ) (placed : Sofar) (after : Tables) (statements : List Planned)
    → IsComplete schema old changes order placed after → plan schema changes ≡ Ok statements
    → (n : ℕ) → (sofar : Sofar) × (send_all schema changes (Ok (before old)) (take n statements) ≡ Ok sofar) × Legal schema sofar.tables

-- the whole leaves the stated tables
abbrev pub WholeIsStated : Type 0
WholeIsStated =
    (schema : Catalog) (old : Tables) (changes : RowChanges) (order : List ℕ) (placed : Sofar) (after : Tables) (statements : List Planned)
    → IsComplete schema old changes order placed after → plan schema changes ≡ Ok statements
    → (sofar : Sofar) × (send_all schema changes (Ok (before old)) statements ≡ Ok sofar) × (sofar.tables ≡ after)

-- each statement fits the schema when it is sent
abbrev pub AreWellFormed : Catalog → RowChanges → Sofar → List Planned → Type 0
AreWellFormed schema changes sofar [] = Unit {0}
AreWellFormed schema changes sofar (planned ∷ plan) =
    IsWellFormed schema (statement_sent schema changes sofar.keys planned) × ((next : Sofar) → send schema changes sofar planned ≡ Ok next → AreWellFormed schema changes next plan)

-- a changed row is of a declared table
abbrev pub AreDeclared : Catalog → RowChanges → Type 0
AreDeclared schema changes = AllByRecursion (λ (row : ChangedRow). IsTable schema row.name.table) changes.changed

-- where a plan is accepted, it leaves the stated tables: a changed row of which no cell is written stays as it was
abbrev pub AcceptedIsStated : Type 0
AcceptedIsStated =
    (schema : Catalog) (old : Tables) (changes : RowChanges) (order : List ℕ) (statements : List Planned) (sofar : Sofar)
    → IsProjected schema changes → IsSorted old → Legal schema old → AreDeclared schema changes
    → insert_order schema changes ≡ Ok order → plan schema changes ≡ Ok statements
    → send_all schema changes (Ok (before old)) statements ≡ Ok sofar
    → stated_tables schema old (changes_to_write changes) order ≡ Some sofar.tables

-- where changes state tables, they state the same without the changed rows of which no cell is written
abbrev pub RowsWithoutCellsStateNothing : Type 0
RowsWithoutCellsStateNothing =
    (schema : Catalog) (old : Tables) (changes : RowChanges) (order : List ℕ) (after : Tables)
    → stated_tables schema old changes order ≡ Some after → stated_tables schema old (changes_to_write changes) order ≡ Some after

-- and legal ones, where its statements fit the schema
abbrev pub AcceptedIsLegal : Type 0
AcceptedIsLegal =
    (schema : Catalog) (old : Tables) (changes : RowChanges) (statements : List Planned) (sofar : Sofar)
    → Legal schema old → AreWellFormed schema changes (before old) statements
    → send_all schema changes (Ok (before old)) statements ≡ Ok sofar
    → Legal schema sofar.tables
