-- The key is in the set at its value, and the others are there still.
use Rattle.std.proofs.Common.{◌≡◌, true, List, ap, subst, ◌∙◌}
use Rattle.std.specs.List.{list_any}
use Rattle.base_core.specs.declared.value.Value.{Value}
use Rattle.schema_core.specs.Tables.{same_values}
use Rattle.table_index.specs.Indexed.{keys_in}
use Rattle.table_index.proofs.Entered.{key_there, keys_kept}
use Rattle.table_index.proofs.index.ValueIndex.with_key.Goals as goal

pub returns-clause-entered : goal.returns-clause-entered
returns-clause-entered c =
    key_there c.insert-2.new.self c.args.value c.args.key.now c.insert.new.self c.in_ok-insert-2.ensures.updates.1
    (subst (λ (key : List Value). list_any (same_values key) c.insert.new.self.keys ≡ true) c.in_ok-copied.ensures c.in_ok-insert.ensures.updates.1)

pub returns-clause-others : goal.returns-clause-others
returns-clause-others c =
    keys_kept c.args.self.holders c.taken.new.holders c.insert-2.new.self c.args.value c.in_ok-copied.field-0 c.keys_of-keys.result c.insert.new.self c.taken.ensures.others c.in_ok-insert-2.ensures.updates.0
    (c.keys_of-keys.ensures ∙ ap keys_in c.taken.ensures.value) c.in_ok-insert.ensures.updates.0
