-- The reading of the objects of a query, as a program.
use Rattle.std.specs.Prelude.{◌≡◌, List, ◌++◌, map}
use Rattle.base_core.specs.declared.ids.ClassId.{ClassId}
use Rattle.base_core.specs.declared.ids.ObjId.{ObjId}
use Rattle.base_core.specs.declared.value.Value.{Value}
use Rattle.expr_types.specs.declared.expr.Origin.{Origin}
use Rattle.expr_types.specs.declared.select.ObjectQuery.{ObjectQuery}
use Rattle.expr_types.specs.declared.select.Select.{Select}
use Rattle.sql_semantics.specs.Plain.{sources_of}
use Rattle.class_mapping.specs.Mapped.{Mapped, tables_of}
use Rattle.keeper_core.specs.Programs.{Run, ◌>>=◌, give}
use Rattle.keeper_core.specs.Beside.{on_own}
pub use Rattle.object_parts.specs.Lists.{firsts, with_first}
use Rattle.load_columns.specs.Placing.{attribute_columns, from_root}
use Rattle.load_selects.specs.Selects.{item_of, origin_of}
use Rattle.load_rows.specs.Loading.{Loading}
use Rattle.load_calls.specs.Reading.{World, read}
use Rattle.load_calls.specs.Collections.{take_rows}

-- ---- the query

-- the select of a query for objects has the attributes of the class as items; its first sources are the tables of the class, from the
-- root's on
pub record ReadsObjects (mapped : Mapped) (class : ClassId) (s : Select) : Type 0 where
  pub more : List Origin
  pub items : s.items ≡ map item_of (attribute_columns mapped class (from_root 0))
  pub sources : sources_of s ≡ map origin_of (tables_of mapped class) ++ more

-- the objects of rows where each comes first
abbrev pub take_objects : Mapped → ClassId → List (List Value) → Loading → Run Loading (List ObjId)
take_objects mapped class rows = take_rows mapped class rows >>= λ objects. give (firsts objects)

-- the objects of a query: its select is sent, and each row gives its object
unfoldable pub load_select : Mapped → ObjectQuery → World → Run World (List ObjId)
load_select mapped query = read mapped.schema query.select >>= λ rows. on_own (take_objects mapped query.class rows)
