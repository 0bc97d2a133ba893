-- What a flush of a prepared graph sends goes through, statement by statement.
use Rattle.std.specs.Prelude.{◌≡◌, ◌==◌, ℕ, true, false, List, length, take, Some, Ok}
use Rattle.std.specs.List.{AllByRecursion, list_any}
use Rattle.base_core.specs.declared.ids.ClassId.{ClassId}
use Rattle.base_core.specs.declared.ids.ObjId.{ObjId}
use Rattle.base_core.specs.declared.ids.TableId.{TableId}
use Rattle.base_core.specs.declared.value.Value.{Value}
use Rattle.schema_core.specs.declared.changes.GoneRow.{GoneRow}
use Rattle.schema_core.specs.declared.changes.NewRow.{NewRow}
use Rattle.schema_core.specs.declared.changes.Planned.{Planned}
use Rattle.schema_core.specs.declared.changes.RowChanges.{RowChanges}
use Rattle.schema_core.specs.declared.table.ForeignSpec.{ForeignSpec}
use Rattle.schema_core.specs.Catalog.{Catalog, has_name, spec_of}
use Rattle.schema_core.specs.Declaration.{IsDeclared, some_two}
use Rattle.schema_core.specs.DependencyOrder.{is_among}
use Rattle.schema_core.specs.Tables.{Legal, Tables, cells_of}
use Rattle.class_layouts.specs.Faults.{foreigns_in}
use Rattle.class_mapping.specs.Lines.{AreLines}
use Rattle.class_mapping.specs.Mapped.{IsValidMapping, Mapped, tables_of}
use Rattle.class_mapping.specs.Related.{AreRelated}
use Rattle.object_arena.specs.Fit as object_fit
use Rattle.object_arena.specs.Graph as graphs
use Rattle.object_arena.specs.Graph.{Graph, IsObject, is_persistent, object_at}
use Rattle.flush_order.specs.Orders.{insert_order, place_of_gone}
use Rattle.flush_order.specs.Refers.{gone_key}
use Rattle.flush_order.specs.Sorted.{same_place}
use Rattle.flush_plan.specs.Flushing.{Sofar, send_all}
use Rattle.flush_plan.specs.Planning.{plan}
use Rattle.flush_plan.specs.Stating.{all_placed, guess, row_at, stated_tables}
use Rattle.object_rows.specs.declared.prepared.Prepared.{Prepared}
use Rattle.object_rows.specs.Rows.{gone_row, is_discriminator, key_or_none}
use Rattle.pair_rows.specs.Pairs.{lost_rows}
use Rattle.session_laws.specs.Plans.Laws.{AreAsRead, IsOneKind, IsProjected, before, cells_named, changes_to_write}
use Rattle.session_laws.specs.Plans.Premises.{IsClear, IsSorted}
use Rattle.row_project.specs.Changes.{project}
use Rattle.session_laws.specs.Projects.{PostsAreLinks}

-- ---- what is asked

-- the discriminator of a hierarchy is a column of no foreign key
abbrev pub DiscriminatorsAreFree : Mapped → Type 0
DiscriminatorsAreFree mapped =
    (class : ClassId) (table : TableId) (name : List ℕ) → is_discriminator mapped class table name ≡ true
    → list_any (λ (foreign : ForeignSpec). has_name foreign.columns name) (foreigns_in mapped.schema.tables table) ≡ false

-- a class has no table twice
abbrev pub HasTablesOnce : Mapped → Type 0
HasTablesOnce mapped = (class : ClassId) → some_two (λ (one other : TableId). one.0 == other.0) (tables_of mapped class) ≡ false

-- the mapping is as every configured one is, and links alone say that their foreign key is written late
pub record IsWellMapped (mapped : Mapped) : Type 0 where
  pub lined : length mapped.classes.lines ≡ length mapped.classes.specs
  pub lines : AreLines mapped.schema.tables mapped.classes
  pub valid : IsValidMapping mapped
  pub related : AreRelated mapped
  pub declared : IsDeclared mapped.schema.tables mapped.schema.resolved
  pub posts : PostsAreLinks mapped

-- so it is where the lines of classes are as every mapping keeps them
abbrev pub TablesStandOnce : Type 0
TablesStandOnce = (mapped : Mapped) → length mapped.classes.lines ≡ length mapped.classes.specs → AreLines mapped.schema.tables mapped.classes → HasTablesOnce mapped

abbrev pub DiscriminatorsStandFree : Type 0
DiscriminatorsStandFree = (mapped : Mapped) → length mapped.classes.lines ≡ length mapped.classes.specs → AreLines mapped.schema.tables mapped.classes → DiscriminatorsAreFree mapped

-- where the row of a deleted one stands, its foreign keys are those that it was last read or written with
abbrev pub IsAsRead : Catalog → Tables → GoneRow → Type 0
IsAsRead schema old row =
    (stands : List Value) → row_at old (place_of_gone schema row) ≡ Some stands
    → AllByRecursion (λ foreign. cells_of (spec_of schema row.name.table) stands foreign.columns ≡ cells_of (spec_of schema row.name.table) row.base foreign.columns) (spec_of schema row.name.table).foreigns

-- ---- objects and their rows

-- the key of an object's identity
abbrev pub key_held : Graph → ObjId → List Value
key_held graph object = key_or_none (object_at graph object).identity

-- the object is persistent, and its class has the table
abbrev pub HasRow : Mapped → Graph → TableId → ObjId → Type 0
HasRow mapped graph table object =
    IsObject graph object × (is_persistent (object_at graph object).state ≡ true) × (is_among (tables_of mapped (object_at graph object).class) table ≡ true)

pub record AreKeyed (mapped : Mapped) (graph : Graph) (prepared : Prepared) : Type 0 where
  -- the objects that are to be deleted have been made, are persistent, and stand there once
  pub made : AllByRecursion (IsObject graph) prepared.deleted
  pub standing : AllByRecursion (λ object. is_persistent (object_at graph object).state ≡ true) prepared.deleted
  pub once : some_two (λ (one other : ObjId). one.0 == other.0) prepared.deleted ≡ false
  -- two persistent objects have no row in common
  pub alone : (table : TableId) (one other : ObjId) → HasRow mapped graph table one → HasRow mapped graph table other → key_held graph one ≡ key_held graph other → one.0 ≡ other.0
  -- the rows of an object that is to be deleted were last read under its key
  pub read : (object : ObjId) (table : TableId) → graphs.is_among prepared.deleted object ≡ true → is_among (tables_of mapped (object_at graph object).class) table ≡ true
      → gone_key mapped.schema (gone_row mapped graph object table) ≡ key_held graph object
  -- no two pairs that are taken away have one key, and no class has the table of one
  pub pairs : some_two (λ one other. same_place (place_of_gone mapped.schema one) (place_of_gone mapped.schema other)) (lost_rows mapped graph prepared) ≡ false
  pub secondary : (class : ClassId) → AllByRecursion (λ (row : GoneRow). is_among (tables_of mapped class) row.name.table ≡ false) (lost_rows mapped graph prepared)

-- the objects fit the mapping and have their own rows
pub record HaveOwnRows (mapped : Mapped) (graph : Graph) (prepared : Prepared) : Type 0 where
  pub fit : object_fit.IsFit mapped graph
  pub keyed : AreKeyed mapped graph prepared

-- the objects fit the mapping and have their own rows, and the tables hold the rows that are deleted as they were read
pub record IsTold (mapped : Mapped) (graph : Graph) (prepared : Prepared) (old : Tables) : Type 0 where
  pub fit : object_fit.IsFit mapped graph
  pub keyed : AreKeyed mapped graph prepared
  pub read : AllByRecursion (IsAsRead mapped.schema old) (project mapped graph prepared).gone

-- The tables are legal, and so are those that the changes state, for which the new rows have an order and their keys can be
-- generated. No unique value of an old row is held by another row then, and no foreign key that is given as a value equals
-- the key of a new row that is not known before it is drawn.
pub record AreStated (schema : Catalog) (old : Tables) (changes : RowChanges) (order : List ℕ) (placed : Sofar) (after : Tables) : Type 0 where
  pub sorted : IsSorted old
  pub legal : Legal schema old
  pub legal_after : Legal schema after
  pub clear : IsClear schema old after
  pub ordered : insert_order schema changes ≡ Ok order
  pub keys : all_placed schema changes old order ≡ Some placed
  pub states : stated_tables schema old (changes_to_write changes) order ≡ Some after
  pub no_guess : guess schema old changes order placed.keys ≡ false

-- ---- the laws

-- each foreign key of a new row is given as values, or is the key of one new row of its target
abbrev pub HasOneKind : Catalog → RowChanges → NewRow → Type 0
HasOneKind schema changes row =
    AllByRecursion (λ foreign. IsOneKind schema changes foreign (cells_named schema row.name.table row.cells foreign.columns)) (spec_of schema row.name.table).foreigns

abbrev pub ForeignKeysAreOfOneKind : Type 0
ForeignKeysAreOfOneKind =
    (mapped : Mapped) (graph : Graph) (prepared : Prepared) → IsWellMapped mapped → object_fit.IsFit mapped graph
    → AllByRecursion (HasOneKind mapped.schema (project mapped graph prepared)) (project mapped graph prepared).fresh

-- what a plan needs of changes holds of what a flush changes
abbrev pub ChangesAreProjected : Type 0
ChangesAreProjected =
    (mapped : Mapped) (graph : Graph) (prepared : Prepared) → IsWellMapped mapped → HaveOwnRows mapped graph prepared → IsProjected mapped.schema (project mapped graph prepared)

-- and the deleted rows that stand are as they were read
abbrev pub DeletedAreAsRead : Type 0
DeletedAreAsRead =
    (mapped : Mapped) (graph : Graph) (prepared : Prepared) (old : Tables) → IsWellMapped mapped → IsTold mapped graph prepared old → Legal mapped.schema old
    → AreAsRead mapped.schema old (project mapped graph prepared)

-- every prefix of the plan of what a flush changes is accepted and leaves legal tables
abbrev pub FlushPrefixesAreLegal : Type 0
FlushPrefixesAreLegal =
    (mapped : Mapped) (graph : Graph) (prepared : Prepared) (old : Tables) (order : List ℕ) (placed : Sofar) (after : Tables) (statements : List Planned)
    → IsWellMapped mapped → IsTold mapped graph prepared old → AreStated mapped.schema old (project mapped graph prepared) order placed after
    → plan mapped.schema (project mapped graph prepared) ≡ Ok statements
    → (n : ℕ) → (sofar : Sofar) × (send_all mapped.schema (project mapped graph prepared) (Ok (before old)) (take n statements) ≡ Ok sofar) × Legal mapped.schema sofar.tables

-- and the whole leaves the stated tables
abbrev pub WholeFlushIsStated : Type 0
WholeFlushIsStated =
    (mapped : Mapped) (graph : Graph) (prepared : Prepared) (old : Tables) (order : List ℕ) (placed : Sofar) (after : Tables) (statements : List Planned)
    → IsWellMapped mapped → IsTold mapped graph prepared old → AreStated mapped.schema old (project mapped graph prepared) order placed after
    → plan mapped.schema (project mapped graph prepared) ≡ Ok statements
    → (sofar : Sofar) × (send_all mapped.schema (project mapped graph prepared) (Ok (before old)) statements ≡ Ok sofar) × (sofar.tables ≡ after)

-- Where a plan of what a flush changes is accepted, it leaves the stated tables, whatever the rows that are deleted held. A changed
-- row of which no cell is written stays as it was.
abbrev pub AcceptedFlushIsStated : Type 0
AcceptedFlushIsStated =
    (mapped : Mapped) (graph : Graph) (prepared : Prepared) (old : Tables) (order : List ℕ) (statements : List Planned) (sofar : Sofar)
    → IsWellMapped mapped → HaveOwnRows mapped graph prepared → IsSorted old → Legal mapped.schema old
    → insert_order mapped.schema (project mapped graph prepared) ≡ Ok order → plan mapped.schema (project mapped graph prepared) ≡ Ok statements
    → send_all mapped.schema (project mapped graph prepared) (Ok (before old)) statements ≡ Ok sofar
    → stated_tables mapped.schema old (changes_to_write (project mapped graph prepared)) order ≡ Some sofar.tables
