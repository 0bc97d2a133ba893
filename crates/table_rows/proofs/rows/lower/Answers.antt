-- The last row's key is a bound.
use Rattle.table_rows.proofs.Bounds.{lowered}
use Rattle.table_rows.proofs.rows.lower.Goals as goal

pub returns : goal.returns
returns c = lowered c.args.rows.now.entries c.copy_of.result c.in-Some.last.now c.requires.sorted c.in-Some.ensures c.copy_of.ensures
