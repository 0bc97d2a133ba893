use Rattle.std.proofs.Common.{◌≡◌, ◌∷◌, [], is_some, drop}
use Rattle.std.specs.List.{list_all}
use Rattle.sql_semantics.specs.Kinds.{column_in}
use Rattle.plain_statements.proofs.bulk.all_there.Given as goal

abbrev pub invariant-loop-cell : goal.invariant-loop-cell
invariant-loop-cell l = list_all (λ cell. is_some (column_in l.schema (l.table ∷ []) 0 cell.0)) (drop l.cell-index l.cells) ≡ list_all (λ cell. is_some (column_in l.schema (l.table ∷ []) 0 cell.0)) l.cells
