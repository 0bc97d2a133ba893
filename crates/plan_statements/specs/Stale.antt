-- The rows that are changed or deleted, by table and key.
use Rattle.std.specs.Prelude.{◌≡◌, Bool, ◌&&◌, List}
use Rattle.std.specs.BTreeSet.{BTreeSet, contains}
use Rattle.base_core.specs.declared.ids.TableId.{TableId}
use Rattle.base_core.specs.declared.value.Value.{Value}
use Rattle.schema_core.specs.declared.changes.ChangedRow.{ChangedRow}
use Rattle.schema_core.specs.declared.changes.GoneRow.{GoneRow}
use Rattle.schema_core.specs.declared.changes.RowChanges.{RowChanges}
use Rattle.schema_core.specs.Catalog.{Catalog}
use Rattle.flush_order.specs.Orders.{place_of_gone}
use Rattle.flush_order.specs.Sorted.{Place, place_cmp, same_place}
use Rattle.flush_plan.specs.Flushing.{is_stale}
use Rattle.flush_writes.specs.Writes.{place_of_changed, writes_some}

-- a row of this table and key is written
abbrev pub is_written_at : TableId → List Value → ChangedRow → Bool
is_written_at table key row = same_place (place_of_changed row) (table, key) && writes_some row.cells

-- the row of this table and key is deleted
abbrev pub is_deleted_at : Catalog → TableId → List Value → GoneRow → Bool
is_deleted_at schema table key row = same_place (place_of_gone schema row) (table, key)

-- the set has this table and key
abbrev pub has_place : BTreeSet Place → TableId → List Value → Bool
has_place places table key = contains place_cmp places (table, key)

-- the set has the tables and keys of the rows that are changed or deleted, and no others
abbrev pub AreStalePlaces : Catalog → RowChanges → BTreeSet Place → Type 0
AreStalePlaces schema changes places = (table : TableId) (key : List Value) → has_place places table key ≡ is_stale schema changes table key
