use Rattle.std.proofs.Common.{sym}
use Rattle.class_blocks.proofs.Steps.{none_there}
use Rattle.class_blocks.proofs.tables.columns_of.Goals as goal

pub returns-in-None : goal.returns-in-None
returns-in-None c = none_there c.args.schema.now.tables c.args.table (sym c.in-None.ensures)
