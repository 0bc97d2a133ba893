-- There are none under a value above all others.
use Rattle.std.proofs.Common.{sym, ◌∙◌}
use Rattle.table_index.proofs.index.keys_under.Goals as goal

pub returns-then-is_above_all : goal.returns-then-is_above_all
returns-then-is_above_all c = sym (c.is_above_all.ensures c.if-is_above_all.true)
