-- The order of new rows, and that of deleted ones.
use Rattle.std.specs.Prelude.{ℕ, List, [], map, length, slice_index_or, Result}
use Rattle.schema_core.specs.declared.changes.GoneRow.{GoneRow}
use Rattle.schema_core.specs.declared.changes.RowChanges.{RowChanges}
use Rattle.schema_core.specs.Catalog.{Catalog}
use Rattle.row_order.specs.Places.{order_or_cycle}
use Rattle.flush_order.specs.Refers.{gone_key, gone_refers, new_refers}
use Rattle.flush_order.specs.Sorted.{Place, sorted_numbers}

abbrev pub no_gone : GoneRow
no_gone = record { name = record { table = record { 0 = 0 }; object = record { 0 = 0 } }; base = [] }

abbrev pub gone_at : List GoneRow → ℕ → GoneRow
gone_at rows place = slice_index_or rows place no_gone

abbrev pub place_of_gone : Catalog → GoneRow → Place
place_of_gone schema row = (row.name.table, gone_key schema row)

-- the deleted rows by table and key
abbrev pub gone_rows : Catalog → RowChanges → List GoneRow
gone_rows schema changes = map (gone_at changes.gone) (sorted_numbers (map (place_of_gone schema) changes.gone))

-- the new rows by place, each after those to which it refers, or a cycle
abbrev pub insert_order : Catalog → RowChanges → Result (List ℕ) (List ℕ)
insert_order schema changes = order_or_cycle (new_refers schema changes) (length changes.fresh)

-- the deleted rows by place in their sorted list, each after those that refer to it, or a cycle
abbrev pub delete_order : Catalog → RowChanges → List GoneRow → Result (List ℕ) (List ℕ)
delete_order schema changes rows = order_or_cycle (λ place other. gone_refers schema changes (gone_at rows place) (gone_at rows other)) (length rows)
