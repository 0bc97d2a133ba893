-- Rows found by table and object.
use Rattle.std.specs.Prelude.{◌≡◌, ℕ, Bool, ◌&&◌, ◌==◌, List}
use Rattle.std.specs.List.{position}
use Rattle.std.specs.BTreeMap.{BTreeMap, get}
use Rattle.std.specs.declared.cmp.Ordering.{Ordering}
use Rattle.std.specs.Ordering.{nat_cmp, ordering_then}
use Rattle.base_core.specs.declared.ids.ObjId.{ObjId}
use Rattle.base_core.specs.declared.ids.TableId.{TableId}
use Rattle.base_core.specs.declared.refusal.RowName.{RowName}

-- the row is that of an object in a table
abbrev pub is_row_of : TableId → ObjId → RowName → Bool
is_row_of table object row = row.table.0 == table.0 && row.object.0 == object.0

abbrev pub name_cmp : TableId × ObjId → TableId × ObjId → Ordering
name_cmp one other = ordering_then (nat_cmp one.0.0 other.0.0) (nat_cmp one.1.0 other.1.0)

-- under each table and object is the place of its first row
abbrev pub ArePlaces : List RowName → BTreeMap (TableId × ObjId) ℕ → Type 0
ArePlaces rows places = (table : TableId) (object : ObjId) → get name_cmp places (table, object) ≡ position (is_row_of table object) rows
