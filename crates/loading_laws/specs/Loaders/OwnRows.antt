-- Objects that are of the classes which their rows name, and the law that the identity map tells then which rows of a class there are.
use Rattle.std.specs.Prelude.{◌≡◌, ℕ, Bool, true, ◌&&◌, ◌==◌, List, map, slice_get, Option, None, Some}
use Rattle.std.specs.List.{list_all, list_any}
use Rattle.base_core.specs.declared.ids.ClassId.{ClassId}
use Rattle.base_core.specs.declared.ids.ObjId.{ObjId}
use Rattle.base_core.specs.declared.ids.TableId.{TableId}
use Rattle.base_core.specs.declared.value.Value.{Value}
use Rattle.schema_core.specs.Tables.{same_values}
use Rattle.sql_semantics.specs.Created.{bare}
use Rattle.sql_semantics.specs.Eval.{Row, Tables, item_or_null, rows_in}
use Rattle.class_layouts.specs.Columns.{own_table}
use Rattle.class_layouts.specs.Faults.{is_identity}
use Rattle.class_mapping.specs.Mapped.{IsClass, Mapped, class_spec, root_of, root_table}
use Rattle.class_mapping.specs.Paired.{is_at_or_under}
use Rattle.class_mapping.specs.Plain.{is_over_table}
use Rattle.object_arena.specs.declared.object.State.TheVariants.{Persistent}
use Rattle.object_arena.specs.Graph.{Graph, IsObject, object_at}
use Rattle.object_arena.specs.Identity.{find_identity}
use Rattle.relations.specs.Mirror.{is_of}
use Rattle.load_columns.specs.Placing.{column_named, key_numbers}
use Rattle.load_selects.specs.Branches.{discriminator_of}
use Rattle.load_rows.specs.Reading.{identity_key}
use Rattle.load_calls.specs.Reading.{World}
use Rattle.loading_laws.specs.Answers.Answers.{AreRowsOf}
use Rattle.loading_laws.specs.Strategies.Ends.{has_row}
use Rattle.loading_laws.specs.Loaders.Linked.{IsStage}

-- ---- the rows under a key

-- what a row of a table has in the table's key
abbrev pub key_in_table : Mapped → TableId → Row → List Value
key_in_table mapped table row = map (λ number. item_or_null (slice_get row number.0)) (key_numbers mapped table)

-- the table has a row under the key
abbrev pub has_row_under : Mapped → Tables → List Value → TableId → Bool
has_row_under mapped tables key table = list_any (λ row. same_values (key_in_table mapped table row) key) (rows_in tables table.0)

abbrev pub names_by : Mapped → ClassId → TableId → Row → Option (List ℕ) → Bool
names_by mapped class root row None = true
names_by mapped class root row (Some name) = is_identity (class_spec mapped class).identity (Some (item_or_null (slice_get row (column_named mapped root name).0)))

-- a row of the root's table names a class: its discriminator holds the identity of the class; a hierarchy without one has one class
abbrev pub names_class : Mapped → ClassId → Row → Bool
names_class mapped class row = names_by mapped class (root_table mapped class) row (discriminator_of mapped class)

-- so does the row of the root's table under a key
abbrev pub is_named_under : Mapped → Tables → List Value → ClassId → Bool
is_named_under mapped tables key class =
    list_any (λ row. same_values (key_in_table mapped (root_table mapped class) row) key && names_class mapped class row) (rows_in tables (root_table mapped class).0)

-- ---- objects of their rows

-- Of the classes of its hierarchy the row under a key names this one alone; and of the tables that these classes name, those of this class
-- and of the ones above it have a row under the key, and no others.
pub record AreRowsOfOne (mapped : Mapped) (tables : Tables) (class : ClassId) (key : List Value) : Type 0 where
  pub named : (other : ClassId) → IsClass mapped other → root_of mapped other ≡ root_of mapped class → is_named_under mapped tables key other ≡ (other.0 == class.0)
  pub tables_of : (other : ClassId) (table : TableId) → IsClass mapped other → root_of mapped other ≡ root_of mapped class → own_table mapped.schema.tables mapped.classes other.0 ≡ Some table
      → has_row_under mapped tables key table ≡ is_at_or_under mapped class other

-- Each persistent object whose row is there is of the class that the row names, and has of its hierarchy's tables a row in just those of
-- its class.
pub record AreOfTheirRows (mapped : Mapped) (tables : Tables) (graph : Graph) : Type 0 where
  pub each : (object : ObjId) → IsObject graph object → (object_at graph object).state ≡ Persistent → has_row_under mapped tables (identity_key graph object) (root_table mapped (object_at graph object).class) ≡ true
      → AreRowsOfOne mapped tables (object_at graph object).class (identity_key graph object)

-- An object that the identity map has under a key, and whose row is there, is of a class just where one of the class's rows has the key.
-- (A class that names a table names a declared one.)
abbrev pub MapAgreesWithRows : Type 0
MapAgreesWithRows =
    (mapped : Mapped) (class : ClassId) (key : List Value) (object : ObjId) (all : List Row) (w : World) → IsStage mapped w → list_all (is_over_table mapped.schema.tables) mapped.classes.specs ≡ true → IsClass mapped class
    → AreRowsOf mapped class (bare w.store.tables) all → AreOfTheirRows mapped (bare w.store.tables) w.own.graph → find_identity w.own.graph (root_of mapped class) key ≡ Some object
    → has_row_under mapped (bare w.store.tables) key (root_table mapped class) ≡ true → is_of w.own.graph mapped class object ≡ has_row mapped class all key
