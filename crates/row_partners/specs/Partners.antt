-- Which new rows are switched with which deleted ones: those whose keys pass from one to the other.
use Rattle.std.specs.Prelude.{ℕ, Bool, not, ◌&&◌, List, length, map, Option, None, if◌then◌else◌}
use Rattle.std.specs.List.{list_any, position, range_with_len}
use Rattle.base_core.specs.declared.value.Value.{Value}
use Rattle.schema_core.specs.declared.changes.RowChanges.{RowChanges}
use Rattle.schema_core.specs.Catalog.{Catalog, spec_of}
use Rattle.schema_core.specs.Tables.{has_null, key_of}
use Rattle.flush_order.specs.Cells.{known_row, table_at}
use Rattle.flush_order.specs.Orders.{place_of_gone}
use Rattle.flush_order.specs.Sorted.{Place, same_place}

-- a new row's key as far as it is known before any key is drawn; NULL stands for what is not
abbrev pub known_key : Catalog → RowChanges → ℕ → List Value
known_key schema changes place = key_of (spec_of schema (table_at changes place)) (known_row schema changes place)

abbrev pub place_of_new : Catalog → RowChanges → ℕ → Place
place_of_new schema changes place = (table_at changes place, known_key schema changes place)

-- all of a new row's key is known, and it is this one of this table
abbrev pub is_known_as : Catalog → RowChanges → Place → ℕ → Bool
is_known_as schema changes wanted place = not (has_null (known_key schema changes place)) && same_place (place_of_new schema changes place) wanted

-- one of the first so many new rows has the key
abbrev pub is_taken : Catalog → RowChanges → Place → ℕ → Bool
is_taken schema changes wanted count = list_any (is_known_as schema changes wanted) (range_with_len 0 count)

-- the number of the first deleted row of a table and key
abbrev pub gone_under : Catalog → RowChanges → Place → Option ℕ
gone_under schema changes wanted = position (λ row. same_place (place_of_gone schema row) wanted) changes.gone

abbrev pub gone_unless_taken : Catalog → RowChanges → Place → ℕ → Option ℕ
gone_unless_taken schema changes wanted count = if is_taken schema changes wanted count then None else gone_under schema changes wanted

-- The number of the deleted row with which a new one is switched, if it is: they have one table and key, all of the key is
-- known, and no new row before has it.
abbrev pub partner_of : Catalog → RowChanges → ℕ → Option ℕ
partner_of schema changes place =
    if has_null (known_key schema changes place) then None else gone_unless_taken schema changes (place_of_new schema changes place) place

-- for each new row the number of the deleted one with which it is switched
unfoldable pub partners : Catalog → RowChanges → List (Option ℕ)
partners schema changes = map (partner_of schema changes) (range_with_len 0 (length changes.fresh))
