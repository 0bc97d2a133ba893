use Rattle.script_select.specs.Select.{join_if_any}
use Rattle.script_select.proofs.select.joins.Given as goal

abbrev pub ghost-many : goal.ghost-many
ghost-many a = join_if_any
