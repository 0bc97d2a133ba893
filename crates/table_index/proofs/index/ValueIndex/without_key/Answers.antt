-- The other keys are left at a value.
use Rattle.std.proofs.Common.{ap, ◌∙◌, arith}
use Rattle.table_index.specs.Indexed.{keys_in}
use Rattle.table_index.proofs.Entered.{keys_gone, keys_left}
use Rattle.table_index.proofs.index.ValueIndex.without_key.Goals as goal

pub returns-then-len-eq0-clause-others : goal.returns-then-len-eq0-clause-others
returns-then-len-eq0-clause-others c =
    keys_gone c.args.self.holders c.remove.new.self c.args.value c.args.key.now c.keys_of-keys.result c.remove-2.new.self c.remove.ensures.updates.0
    (c.keys_of-keys.ensures ∙ ap keys_in c.remove.ensures.value) c.remove-2.ensures.updates.0 (omega (arith, c.if-len-eq0.true, c.len.ensures.len))

pub returns-clause-others : goal.returns-clause-others
returns-clause-others c =
    keys_left c.args.self.holders c.remove.new.self c.insert.new.self c.args.value c.args.key.now c.keys_of-keys.result c.remove-2.new.self c.remove.ensures.updates.0 c.in_ok-insert.ensures.updates.0
    (c.keys_of-keys.ensures ∙ ap keys_in c.remove.ensures.value) c.remove-2.ensures.updates.0
