use Rattle.std.proofs.Common.{◌≡◌, drop}
use Rattle.std.specs.List.{filter_map, list_all}
use Rattle.sql_semantics.specs.Plain.{lacks_aggregate}
use Rattle.script_resolve.proofs.grouping.cells_lack.Given as goal

abbrev pub invariant-loop-cell : goal.invariant-loop-cell
invariant-loop-cell l = list_all lacks_aggregate (filter_map (λ cell. cell.1) (drop l.cell-index l.cells)) ≡ list_all lacks_aggregate (filter_map (λ cell. cell.1) l.cells)
