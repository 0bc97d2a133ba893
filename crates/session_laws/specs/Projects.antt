-- Laws of what a flush changes.
use Rattle.std.specs.Prelude.{◌≡◌, ◌<◌, ℕ, true, false, length, slice_index_or, None}
use Rattle.std.specs.List.{AllByRecursion, list_any}
use Rattle.schema_core.specs.declared.changes.ChangedRow.{ChangedRow}
use Rattle.schema_core.specs.declared.changes.GoneRow.{GoneRow}
use Rattle.schema_core.specs.declared.changes.NewRow.{NewRow}
use Rattle.schema_core.specs.declared.changes.RowChanges.{RowChanges}
use Rattle.schema_core.specs.Catalog.{Catalog, spec_of}
use Rattle.schema_core.specs.Declaration.{IsDeclared, has_key, some_two}
use Rattle.schema_core.specs.Tables.{has_null}
use Rattle.base_core.specs.declared.ids.ClassId.{ClassId}
use Rattle.class_types.specs.declared.mapped.Relation.{Relation}
use Rattle.class_mapping.specs.Lines.{AreLines}
use Rattle.class_mapping.specs.Mapped.{IsClass, IsValidMapping, Mapped, relations_of}
use Rattle.class_mapping.specs.Related.{AreRelated}
use Rattle.object_arena.specs.Fit as object_fit
use Rattle.object_arena.specs.Graph.{Graph}
use Rattle.flush_order.specs.Orders.{gone_at, place_of_gone}
use Rattle.flush_order.specs.Sorted.{same_place}
use Rattle.flush_writes.specs.Writes.{place_of_changed}
use Rattle.object_rows.specs.declared.prepared.Prepared.{Prepared}
use Rattle.session_laws.specs.Plans.Laws.{AreLoose, are_at}
use Rattle.session_laws.specs.Plans.Premises.{IsFit}
use Rattle.row_project.specs.Changes.{project}
use Rattle.row_partners.specs.Partners.{known_key, partners, place_of_new}
use Rattle.row_switches.specs.Switch.{is_number, with_switches}

-- a changed row names columns of its table in order, each once, and none of the key
abbrev pub HasOrder : Catalog → ChangedRow → Type 0
HasOrder schema row = are_at 0 (spec_of schema row.name.table).columns row.cells ≡ true

-- a new row has a cell for each column of its table
abbrev pub IsWhole : Catalog → NewRow → Type 0
IsWhole schema row = length row.cells ≡ length (spec_of schema row.name.table).columns

-- a deleted row has a value for each column of its table
abbrev pub IsWholeBase : Catalog → GoneRow → Type 0
IsWholeBase schema row = length row.base ≡ length (spec_of schema row.name.table).columns

abbrev pub ChangedCellsAreInOrder : Type 0
ChangedCellsAreInOrder = (mapped : Mapped) (graph : Graph) (prepared : Prepared) → AllByRecursion (HasOrder mapped.schema) (project mapped graph prepared).changed

abbrev pub NewRowsAreWhole : Type 0
NewRowsAreWhole = (mapped : Mapped) (graph : Graph) (prepared : Prepared) → AllByRecursion (IsWhole mapped.schema) (project mapped graph prepared).fresh

-- a new row is of a declared table, which has a key
abbrev pub NewRowsHaveKeys : Type 0
NewRowsHaveKeys =
    (mapped : Mapped) (graph : Graph) (prepared : Prepared) → AreRelated mapped → object_fit.IsFit mapped graph → IsDeclared mapped.schema.tables mapped.schema.resolved
    → AllByRecursion (λ (row : NewRow). has_key (spec_of mapped.schema row.name.table) ≡ true) (project mapped graph prepared).fresh

abbrev pub GoneRowsAreWhole : Type 0
GoneRowsAreWhole = (mapped : Mapped) (graph : Graph) (prepared : Prepared) → AllByRecursion (IsWholeBase mapped.schema) (project mapped graph prepared).gone

-- Where no two deleted rows have one table and key, a new row that is not switched has, as far as it is known before any key
-- is drawn, the key of no deleted row that is not switched.
abbrev pub PassedKeysAreSwitched : Type 0
PassedKeysAreSwitched =
    (schema : Catalog) (changes : RowChanges) → some_two (λ one other. same_place (place_of_gone schema one) (place_of_gone schema other)) changes.gone ≡ false
    → (place number : ℕ) → place < length changes.fresh → number < length changes.gone → has_null (known_key schema changes place) ≡ false
    → slice_index_or (partners schema changes) place None ≡ None → list_any (is_number number) (partners schema changes) ≡ false
    → same_place (place_of_gone schema (gone_at changes.gone number)) (place_of_new schema changes place) ≡ false

-- only links of many-to-one say that their foreign key is written after all rows
abbrev pub PostsAreLinks : Mapped → Type 0
PostsAreLinks mapped = (class : ClassId) → IsClass mapped class → AllByRecursion (λ (relation : Relation). relation.post_update ≡ true → relation.many ≡ false) (relations_of mapped class)

-- The foreign keys that are written after all rows are nullable, and have no column in common with a key, a unique constraint
-- or another foreign key.
abbrev pub LateKeysAreFit : Type 0
LateKeysAreFit =
    (mapped : Mapped) (graph : Graph) (prepared : Prepared)
    → length mapped.classes.lines ≡ length mapped.classes.specs → AreLines mapped.schema.tables mapped.classes → IsValidMapping mapped
    → IsDeclared mapped.schema.tables mapped.schema.resolved → PostsAreLinks mapped
    → IsFit mapped.schema (project mapped graph prepared)

-- a part of a key stands only in a column of a foreign key
abbrev pub KeyPartsAreForeign : Type 0
KeyPartsAreForeign =
    (mapped : Mapped) (graph : Graph) (prepared : Prepared)
    → length mapped.classes.lines ≡ length mapped.classes.specs → AreLines mapped.schema.tables mapped.classes → IsValidMapping mapped → object_fit.IsFit mapped graph
    → AllByRecursion (λ (row : NewRow). AreLoose (spec_of mapped.schema row.name.table).foreigns (spec_of mapped.schema row.name.table).columns row.cells) (project mapped graph prepared).fresh

-- no two changed rows have one table and key, no two deleted ones, and no changed and deleted one
pub record AreRowsApart (schema : Catalog) (changes : RowChanges) : Type 0 where
  pub changed : some_two (λ one other. same_place (place_of_changed one) (place_of_changed other)) changes.changed ≡ false
  pub gone : some_two (λ one other. same_place (place_of_gone schema one) (place_of_gone schema other)) changes.gone ≡ false
  pub both : list_any (λ row. list_any (λ other. same_place (place_of_gone schema row) (place_of_changed other)) changes.changed) changes.gone ≡ false

-- where it is so before the switches, it is so behind them
abbrev pub SwitchesKeepRowsApart : Type 0
SwitchesKeepRowsApart = (mapped : Mapped) (graph : Graph) (changes : RowChanges) → AreRowsApart mapped.schema changes → AreRowsApart mapped.schema (with_switches mapped graph changes)
