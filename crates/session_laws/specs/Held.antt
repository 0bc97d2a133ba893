-- What is known of the objects of every mapping once a flush has answered: their cells hold what their rows hold.
use Rattle.std.specs.Prelude.{◌≡◌, ◌<◌, ℕ, true, List, length, map, slice_get, slice_index_or, Option, Some, Ok}
use Rattle.std.specs.List.{range_with_len}
use Rattle.std.specs.Option.{is_some, option_and_then}
use Rattle.base_core.specs.declared.ids.AttrNo.{AttrNo}
use Rattle.base_core.specs.declared.value.Value.{Value}
use Rattle.schema_core.specs.declared.changes.Planned.{Planned}
use Rattle.schema_core.specs.Tables.{Legal, Tables}
use Rattle.class_types.specs.declared.mapped.Attribute.{Attribute}
use Rattle.class_mapping.specs.Mapped.{Mapped, attribute_of, is_key_attribute}
use Rattle.mapping_laws.specs.Hierarchies.{HasHierarchies}
use Rattle.object_arena.specs.declared.object.Object.{Object}
use Rattle.object_arena.specs.Graph.{Graph, cell_in, is_among, is_persistent, no_object}
use Rattle.object_arena.specs.Identity.{id_of_place}
use Rattle.flush_plan.specs.Flushing.{Sofar, key_of_new, send_all}
use Rattle.flush_plan.specs.Planning.{plan}
use Rattle.flush_plan.specs.Stating.{row_at}
use Rattle.object_rows.specs.declared.prepared.Prepared.{Prepared}
use Rattle.object_rows.specs.Rows.{key_or_none}
use Rattle.object_rows.specs.Seen.{is_new}
use Rattle.session_laws.specs.Plans.Laws.{before}
use Rattle.session_laws.specs.Plans.Premises.{IsSorted}
use Rattle.session_laws.specs.Graphs.{HaveOwnRows, IsWellMapped}
use Rattle.row_project.specs.Changes.{project}
use Rattle.graph_flushed.specs.Flushed.{graph_flushed}

-- what a row has in a column, if it is there
abbrev pub column_in : Option (List Value) → ℕ → Option Value
column_in row column = option_and_then (λ values. slice_get values column) row

-- what the row of an object in the table of an attribute has in the attribute's column
abbrev pub held_in : Tables → Attribute → Option (List Value) → Option Value
held_in tables attribute identity = column_in (row_at tables (attribute.table, key_or_none identity)) attribute.column.0

-- each base that is known of an object is what its row has in the column of the attribute
abbrev pub HoldsItsRows : Mapped → Tables → Object → Type 0
HoldsItsRows mapped tables object =
    (attr : AttrNo) (base : Value) → attr.0 < length object.cells → (cell_in object attr).base ≡ Some base → held_in tables (attribute_of mapped object.class attr) object.identity ≡ Some base

-- the cells of the key of an object have not been changed
abbrev pub KeepsItsKey : Mapped → Object → Type 0
KeepsItsKey mapped object = (attr : AttrNo) → is_key_attribute mapped object.class attr ≡ true → (cell_in object attr).value ≡ (cell_in object attr).base

-- all that the rows of an object hold is known
abbrev pub IsWhollyKnown : Object → Type 0
IsWhollyKnown object = (attr : AttrNo) → attr.0 < length object.cells → is_some (cell_in object attr).base ≡ true

-- the object at a place
abbrev pub placed_object : Graph → ℕ → Object
placed_object graph place = slice_index_or graph.objects place no_object

-- What is asked before the flush: the mapping is as every configured one is; tables are legal and ascend; the objects fit their
-- classes and have rows of their own, and those that are to be deleted are wholly known; and what is known of persistent objects is
-- what their rows hold, under keys that have not been changed.
pub record AreHeld (mapped : Mapped) (graph : Graph) (prepared : Prepared) (old : Tables) : Type 0 where
  pub well : IsWellMapped mapped
  pub classes : HasHierarchies mapped
  pub legal : Legal mapped.schema old
  pub sorted : IsSorted old
  pub own : HaveOwnRows mapped graph prepared
  pub holds : (place : ℕ) → place < length graph.objects → is_persistent (placed_object graph place).state ≡ true → HoldsItsRows mapped old (placed_object graph place)
  pub keyed : (place : ℕ) → place < length graph.objects → is_persistent (placed_object graph place).state ≡ true → KeepsItsKey mapped (placed_object graph place)
  pub known : (place : ℕ) → place < length graph.objects → is_among prepared.deleted (id_of_place place) ≡ true → IsWhollyKnown (placed_object graph place)

-- where a plan is accepted that leaves legal tables, each persistent object holds then what its rows hold
abbrev pub FlushedObjectsHold : Type 0
FlushedObjectsHold =
    (mapped : Mapped) (graph : Graph) (prepared : Prepared) (old : Tables) (statements : List Planned) (sofar : Sofar) (given : List (List Value)) → AreHeld mapped graph prepared old
    → plan mapped.schema (project mapped graph prepared) ≡ Ok statements → send_all mapped.schema (project mapped graph prepared) (Ok (before old)) statements ≡ Ok sofar → Legal mapped.schema sofar.tables
    → given ≡ map (key_of_new sofar.keys) (range_with_len 0 (length (project mapped graph prepared).fresh)) → (place : ℕ) → place < length graph.objects
    → is_persistent (placed_object (graph_flushed mapped prepared (project mapped graph prepared) given graph) place).state ≡ true
    → HoldsItsRows mapped sofar.tables (placed_object (graph_flushed mapped prepared (project mapped graph prepared) given graph) place)

-- and each new object has a key, that of its row: none is transient for want of one
abbrev pub NewObjectsHaveKeys : Type 0
NewObjectsHaveKeys =
    (mapped : Mapped) (graph : Graph) (prepared : Prepared) (old : Tables) (statements : List Planned) (sofar : Sofar) (given : List (List Value)) → AreHeld mapped graph prepared old
    → plan mapped.schema (project mapped graph prepared) ≡ Ok statements → send_all mapped.schema (project mapped graph prepared) (Ok (before old)) statements ≡ Ok sofar → Legal mapped.schema sofar.tables
    → given ≡ map (key_of_new sofar.keys) (range_with_len 0 (length (project mapped graph prepared).fresh)) → (place : ℕ) → place < length graph.objects
    → is_new graph prepared (id_of_place place) ≡ true → is_some (placed_object (graph_flushed mapped prepared (project mapped graph prepared) given graph) place).identity ≡ true
