use Rattle.std.proofs.Common.{◌≡◌, drop}
use Rattle.std.specs.List.{filter_map, list_all}
use Rattle.sql_semantics.specs.Plain.{names_apart}
use Rattle.script_resolve.proofs.apart.cells_apart.Given as goal

abbrev pub invariant-loop-cell : goal.invariant-loop-cell
invariant-loop-cell l = list_all (λ e. names_apart l.schema e l.names) (filter_map (λ cell. cell.1) (drop l.cell-index l.cells)) ≡ list_all (λ e. names_apart l.schema e l.names) (filter_map (λ cell. cell.1) l.cells)
