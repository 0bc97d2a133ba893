-- Queries whose objects can be loaded by any strategy.
use Rattle.std.specs.Prelude.{◌≡◌, ◌⊎◌, ◌<◌, ◌^◌, true, false, List, [], length, map, slice_get, Option, Some, None, Ok, Err}
use Rattle.std.specs.List.{All, list_all}
use Rattle.std.specs.Option.{option_and_then, option_map}
use Rattle.base_core.specs.declared.ids.AttrNo.{AttrNo}
use Rattle.base_core.specs.declared.ids.ClassId.{ClassId}
use Rattle.base_core.specs.declared.ids.ObjId.{ObjId}
use Rattle.base_core.specs.declared.ids.RelNo.{RelNo}
use Rattle.base_core.specs.declared.ids.TableId.{TableId}
use Rattle.base_core.specs.declared.value.Value.{Value}
use Rattle.schema_core.specs.Catalog.{Catalog, IsTable}
use Rattle.schema_core.specs.Tables as held
use Rattle.expr_types.specs.declared.select.ObjectQuery.{ObjectQuery}
use Rattle.sql_semantics.specs.Checked.{Checked}
use Rattle.sql_semantics.specs.Created.{bare}
use Rattle.sql_semantics.specs.Eval.{Row, Tables, item_or_null}
use Rattle.sql_semantics.specs.Plain.{IsPlainSelect, is_grouped}
use Rattle.sql_semantics.specs.Rows.{answer, is_created}
use Rattle.class_types.specs.declared.mapped.Attribute.{Attribute}
use Rattle.class_mapping.specs.Mapped.{IsClass, Mapped, attribute_of, relations_of}
use Rattle.class_mapping.specs.Plain.{is_over_table}
use Rattle.class_mapping.specs.Related.{AreRelated}
use Rattle.mapping_laws.specs.Hierarchies.{HasHierarchies}
use Rattle.object_arena.specs.declared.object.State.TheVariants.{Persistent}
use Rattle.object_arena.specs.Fit.{IsFit, relation_of}
use Rattle.object_arena.specs.Graph.{Graph, object_at}
use Rattle.object_arena.specs.Identity.{IsGraph}
use Rattle.load_selects.specs.Selects.{class_rows, item_of}
use Rattle.alias_names.specs.Names.{taken_names}
use Rattle.main_selects.specs.MainSelect.{main_select}
use Rattle.load_rows.specs.Reading.{identity_key}
use Rattle.load_calls.specs.Reading.{World}
use Rattle.load_targets.specs.ForeignKeys.{value_of}
use Rattle.table_laws.specs.Legality.{AreSound}
use Rattle.loading_laws.specs.Wide.Answers.{own_columns}
use Rattle.known_queries.specs.Known.{BeginsWith}

-- ---- the tables

-- every table of the schema is created
abbrev pub AreCreated : Catalog → Tables → Type 0
AreCreated schema tables = (table : TableId) → IsTable schema table → is_created tables table.0 ≡ true

abbrev pub rows_or_none : Checked (List Row) → List Row
rows_or_none (Ok rows) = rows
rows_or_none (Err refusal) = []

-- all rows of a class: what the select of them answers
abbrev pub rows_of : Mapped → Tables → ClassId → List Row
rows_of mapped tables class = rows_or_none (answer mapped.schema tables (class_rows mapped class []))

-- ---- what objects hold

-- the row of a table under a key
abbrev pub row_of_key : held.Tables → TableId → List Value → Option Row
row_of_key tables table key = option_and_then (λ rows. held.row_under rows key) (held.rows_in tables table)

-- what that row has in an attribute's column
abbrev pub value_under : held.Tables → Attribute → List Value → Option Value
value_under tables attribute key = option_map (λ row. item_or_null (slice_get row attribute.column.0)) (row_of_key tables attribute.table key)

-- Each persistent object has rows under its key where it holds cells that are not expired, and these hold what the rows have: nothing of
-- them is to be written.
abbrev pub AreFresh : Mapped → held.Tables → Graph → Type 0
AreFresh mapped tables graph =
    (object : ObjId) (attr : AttrNo) (value : Value) → (object_at graph object).state ≡ Persistent → value_of (object_at graph object) attr ≡ Some value
    → value_under tables (attribute_of mapped (object_at graph object).class attr) (identity_key graph object) ≡ Some value

-- ---- the query

-- It leaves out no rows but those of its own sources: it is not distinct, and has a limit or an offset only where its joined options lead
-- to one object at most.
pub record CutsObjects (mapped : Mapped) (query : ObjectQuery) : Type 0 where
  pub not_distinct : query.select.distinct ≡ false
  pub cut : ((query.select.limit ≡ None) × (query.select.offset ≡ None)) ⊎ All (λ (place : RelNo). (relation_of mapped query.class place).many ≡ false) query.joined

-- A query for the objects of a class of a configured mapping, with joined options of its relationships, over an arena's objects that fit
-- the mapping and legal tables, all of which are created: its first sources are the class's tables and its items the class's attributes;
-- it may be sent, it has no groups, the names that aliases are kept apart from are fewer than 2 ^ 64, and it leaves out no rows but those
-- of its own sources. (A class that names a table names a declared one.)
pub record IsLoadable (mapped : Mapped) (query : ObjectQuery) (w : World) : Type 0 where
  pub has : HasHierarchies mapped
  pub over : list_all (is_over_table mapped.schema.tables) mapped.classes.specs ≡ true
  pub related : AreRelated mapped
  pub class : IsClass mapped query.class
  pub places : All (λ (place : RelNo). place.0 < length (relations_of mapped query.class)) query.joined
  pub begins : BeginsWith mapped query.class query.select
  pub reads : query.select.items ≡ map item_of (own_columns mapped query)
  pub plain : IsPlainSelect mapped.schema query.select
  pub few : length (taken_names mapped.schema (main_select mapped query)) < 2 ^ 64
  pub single : is_grouped query.select ≡ false
  pub cuts : CutsObjects mapped query
  pub sound : AreSound mapped.schema w.store.tables
  pub created : AreCreated mapped.schema (bare w.store.tables)
  pub graph : IsGraph w.own.graph.objects w.own.graph.roots
  pub fit : IsFit mapped w.own.graph
