use Rattle.std.proofs.Common.{◌≡◌, drop}
use Rattle.std.specs.List.{list_all}
use Rattle.expr_scopes.specs.Scopes.{is_known}
use Rattle.plain_statements.proofs.select.all_known.Given as goal

abbrev pub invariant-loop-table : goal.invariant-loop-table
invariant-loop-table l = list_all (is_known l.schema) (drop l.table-index l.tables) ≡ list_all (is_known l.schema) l.tables
