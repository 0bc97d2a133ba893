-- The selects of a class's rows: by their keys, and of an object's cells.
use Rattle.std.specs.Prelude.{ℕ, false, List, [], ◌++◌, map, Option, None}
use Rattle.base_core.specs.declared.ids.AttrNo.{AttrNo}
use Rattle.base_core.specs.declared.ids.ClassId.{ClassId}
use Rattle.base_core.specs.declared.ids.TableId.{TableId}
use Rattle.base_core.specs.declared.value.Value.{Value}
use Rattle.expr_types.specs.declared.expr.Expr.{Expr}
use Rattle.expr_types.specs.declared.expr.Origin.{Origin}
use Rattle.expr_types.specs.declared.select.Joined.{Joined}
use Rattle.expr_types.specs.declared.select.Select.{Select}
use Rattle.class_mapping.specs.Mapped.{Mapped, attribute_of, root_table}
use Rattle.load_columns.specs.declared.placing.SourceColumn.{SourceColumn}
use Rattle.load_selects.specs.declared.sources.Further.{Further}
use Rattle.load_columns.specs.Placing.{attribute_column, attribute_columns, from_root, root_key}
use Rattle.load_columns.specs.Conditions.{all_of, column_of, conjoined, has_one_of, has_values}
use Rattle.load_selects.specs.Branches.{is_of_branch}
use Rattle.load_selects.specs.Sources.{other_tables}

abbrev pub origin_of : TableId → Origin
origin_of table = record { table = table; alias = None }

abbrev pub inner_joined : Further → Joined
inner_joined further = record { left = false; origin = origin_of further.table; on = conjoined further.on }

-- an item without a name of its own
abbrev pub item_of : SourceColumn → Expr × Option (List ℕ)
item_of column = (column_of column, None)

-- columns of joined tables, where all conditions hold
abbrev pub select_of : TableId → List Further → List SourceColumn → List Expr → Select
select_of first further columns conditions = record {
  distinct = false;
  items = map item_of columns;
  first = origin_of first;
  joins = map inner_joined further;
  filter = all_of conditions;
  groups = [];
  having = None;
  order = [];
  limit = None;
  offset = None;
}

-- columns of the tables of a class
abbrev pub class_select : Mapped → ClassId → List SourceColumn → List Expr → Select
class_select mapped class columns conditions = select_of (root_table mapped class) (other_tables mapped class (from_root 0)) columns conditions

-- the rows of a class for which the conditions hold
abbrev pub class_rows : Mapped → ClassId → List Expr → Select
class_rows mapped class conditions =
    class_select mapped class (attribute_columns mapped class (from_root 0)) (conditions ++ is_of_branch mapped class (from_root 0))

-- the row of a class under a key
unfoldable pub key_select : Mapped → ClassId → List Value → Select
key_select mapped class key = class_rows mapped class (has_values (root_key mapped class (from_root 0)) key)

-- the rows of a class under these keys
unfoldable pub targets_select : Mapped → ClassId → List (List Value) → Select
targets_select mapped class keys = class_rows mapped class (has_one_of (root_key mapped class (from_root 0)) keys)

unfoldable pub cell_column : Mapped → ClassId → AttrNo → SourceColumn
cell_column mapped class attr = attribute_column mapped class (from_root 0) (attribute_of mapped class attr)

-- these attributes of an object of the class, of whatever class its row is
unfoldable pub cells_select : Mapped → ClassId → List AttrNo → List Value → Select
cells_select mapped class attrs key = class_select mapped class (map (cell_column mapped class) attrs) (has_values (root_key mapped class (from_root 0)) key)
