use Rattle.std.proofs.Common.{◌≡◌, List, map, take}
use Rattle.base_core.specs.declared.value.Value.{Value}
use Rattle.schema_core.specs.Tables.{cell_of}
use Rattle.table_index.specs.Indexed.{cells_at}
use Rattle.table_index.proofs.columns.column_places.Given as goal

abbrev pub invariant-loop-name : goal.invariant-loop-name
invariant-loop-name l = (row : List Value) → cells_at l.places.items row ≡ map (cell_of l.columns row) (take l.name-index l.names)
