use Rattle.std.proofs.Common.{◌≡◌, drop}
use Rattle.std.specs.List.{list_all}
use Rattle.sql_semantics.specs.Plain.{is_free_column}
use Rattle.plain_statements.proofs.bulk.all_free.Given as goal

abbrev pub invariant-loop-cell : goal.invariant-loop-cell
invariant-loop-cell l = list_all (λ cell. is_free_column l.schema l.table cell.0) (drop l.cell-index l.cells) ≡ list_all (λ cell. is_free_column l.schema l.table cell.0) l.cells
