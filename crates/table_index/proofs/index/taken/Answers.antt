-- Nothing is under a value above all others.
use Rattle.std.proofs.Common.{sym, ◌∙◌}
use Rattle.table_index.proofs.Greatest.{none_there}
use Rattle.table_index.proofs.index.taken.Goals as goal

pub returns-then-is_above_all-clause-value : goal.returns-then-is_above_all-clause-value
returns-then-is_above_all-clause-value c = sym (c.is_above_all.ensures c.if-is_above_all.true)

pub returns-then-is_above_all-clause-others : goal.returns-then-is_above_all-clause-others
returns-then-is_above_all-clause-others c = none_there c.args.holders.now c.args.value.now (c.is_above_all.ensures c.if-is_above_all.true)
