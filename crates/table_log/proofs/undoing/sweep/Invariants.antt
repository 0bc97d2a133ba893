use Rattle.std.proofs.Common.{◌≡◌}
use Rattle.table_rows.specs.Rows.{tables_present}
use Rattle.table_log.proofs.undoing.sweep.Given as goal

abbrev pub invariant-loop-entry : goal.invariant-loop-entry
invariant-loop-entry l = tables_present l.tables ≡ tables_present l.fn.tables
