-- New rows in their order, cut into those that one INSERT carries.
use Rattle.std.specs.Prelude.{ℕ, suc, Bool, false, not, cond, ◌&&◌, ◌-◌, ◌*◌, List, [], ◌∷◌, ◌++◌, length, nat_eq, nat_lt, if◌then◌else◌}
use Rattle.std.specs.List.{list_all, list_any}
use Rattle.schema_core.specs.declared.changes.RowCell.{RowCell}
use Rattle.schema_core.specs.declared.changes.RowCell.TheVariants.{Given, KeyOf}
use Rattle.schema_core.specs.declared.changes.RowChanges.{RowChanges}
use Rattle.schema_core.specs.Catalog.{Catalog, has_generated_key, spec_of}
use Rattle.schema_core.specs.Tables.{is_null}
use Rattle.flush_order.specs.Cells.{first_cells, key_parts, table_at}
use Rattle.flush_order.specs.Refers.{new_refers}

abbrev pub is_nothing : RowCell → Bool
is_nothing (Given value) = is_null value
is_nothing (KeyOf place part) = false

-- the key of the new row is generated
abbrev pub leaves_key : Catalog → RowChanges → ℕ → Bool
leaves_key schema changes place =
    has_generated_key (spec_of schema (table_at changes place))
    && list_any is_nothing (key_parts (spec_of schema (table_at changes place)).columns (first_cells schema changes place))

-- how many columns the INSERT of a row writes
abbrev pub width : Catalog → RowChanges → ℕ → ℕ
width schema changes place = length (spec_of schema (table_at changes place)).columns - cond (leaves_key schema changes place) 1 0

-- one INSERT can carry both rows: they are of one table, both leave the key open or neither does, and the row does not wait for the other
abbrev pub goes_with : Catalog → RowChanges → ℕ → ℕ → Bool
goes_with schema changes place other =
    nat_eq (table_at changes other).0 (table_at changes place).0
    && cond (leaves_key schema changes other) (leaves_key schema changes place) (not (leaves_key schema changes place))
    && not (new_refers schema changes place other)

-- the row can stand behind these in one INSERT, of which there are at most 1000 with 32700 values, and which write some column
abbrev pub joins : Catalog → RowChanges → List ℕ → ℕ → Bool
joins schema changes run place =
    nat_lt (length run) 1000
    && nat_lt 0 (width schema changes place)
    && not (nat_lt 32700 (suc (length run) * width schema changes place))
    && list_all (goes_with schema changes place) run

-- the run that ends here, where it has begun
abbrev pub nonempty_run : List ℕ → List (List ℕ)
nonempty_run [] = []
nonempty_run (place ∷ places) = (place ∷ places) ∷ []

-- the run takes rows as long as they can stand in it; the next row begins another
abbrev pub runs_from : Catalog → RowChanges → List ℕ → List ℕ → List (List ℕ)
runs_from schema changes run [] = nonempty_run run
runs_from schema changes run (place ∷ places) =
    if joins schema changes run place then runs_from schema changes (run ++ place ∷ []) places else nonempty_run run ++ runs_from schema changes (place ∷ []) places

-- the new rows of this order as runs, each as long as it can be
abbrev pub runs : Catalog → RowChanges → List ℕ → List (List ℕ)
runs schema changes order = runs_from schema changes [] order
