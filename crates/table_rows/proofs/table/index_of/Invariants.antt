-- Each row that was come to is entered.
use Rattle.table_rows.specs.Rows.{rows_present}
use Rattle.table_rows.proofs.IndexSteps.{AreEntered}
use Rattle.table_rows.proofs.table.index_of.Given as goal

abbrev pub invariant-loop-key : goal.invariant-loop-key
invariant-loop-key l = AreEntered l.index (rows_present l.rows) (rows_present l.key-iterator)
