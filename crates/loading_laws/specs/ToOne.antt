-- Joined many-to-one options multiply no row: each leads to one row of its target at most.
use Rattle.std.specs.Prelude.{◌≡◌, ◌<◌, false, length, map}
use Rattle.std.specs.List.{All}
use Rattle.std.specs.List.Sorted.{IsStrictlySortedBy}
use Rattle.base_core.specs.declared.ids.TableId.{TableId}
use Rattle.base_core.specs.Order.{values_cmp}
use Rattle.schema_core.specs.Catalog.{Catalog, spec_of}
use Rattle.schema_core.specs.Tables as held
use Rattle.schema_core.specs.Tables.{AreAscending, Legal, key_of}
use Rattle.expr_types.specs.declared.select.ObjectQuery.{ObjectQuery}
use Rattle.sql_semantics.specs.Created.{bare}
use Rattle.sql_semantics.specs.Eval.{Tables, rows_in}
use Rattle.sql_semantics.specs.Shapes.{AreLegalRows, AreRows}
use Rattle.class_mapping.specs.Mapped.{IsClass, Mapped, relations_of}
use Rattle.class_mapping.specs.Related.{AreRelated}
use Rattle.mapping_laws.specs.Hierarchies.{HasHierarchies}
use Rattle.object_arena.specs.Fit.{relation_of}
use Rattle.loading_laws.specs.Wide.Answers.{HasOnePartner}
use Rattle.known_queries.specs.Known.{BeginsWith}

-- each table has its rows in the order of their keys, each key once
abbrev pub AreInKeyOrder : Catalog → Tables → Type 0
AreInKeyOrder schema tables = (table : TableId) → IsStrictlySortedBy values_cmp (map (key_of (spec_of schema table)) (rows_in tables table.0))

-- Legal tables have them so.
abbrev pub LegalTablesAreInKeyOrder : Type 0
LegalTablesAreInKeyOrder = (schema : Catalog) (tables : held.Tables) → Legal schema tables → AreAscending tables → AreInKeyOrder schema (bare tables)

-- a query for the objects of a class of a configured mapping whose joined options are many-to-one, over tables with legal rows in
-- key order
pub record HasToOneOptions (mapped : Mapped) (tables : Tables) (query : ObjectQuery) : Type 0 where
  pub has : HasHierarchies mapped
  pub related : AreRelated mapped
  pub class : IsClass mapped query.class
  pub places : All (λ place. place.0 < length (relations_of mapped query.class)) query.joined
  pub ends : All (λ place. (relation_of mapped query.class place).many ≡ false) query.joined
  pub begins : BeginsWith mapped query.class query.select
  pub held : AreRows mapped.schema tables
  pub legal : AreLegalRows mapped.schema tables
  pub ordered : AreInKeyOrder mapped.schema tables

-- Its options put one row behind rows of its own sources.
abbrev pub ToOneOptionsPutOne : Type 0
ToOneOptionsPutOne = (mapped : Mapped) (tables : Tables) (query : ObjectQuery) → HasToOneOptions mapped tables query → HasOnePartner mapped tables query
