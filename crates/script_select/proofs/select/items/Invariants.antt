use Rattle.script_select.specs.Select.{item}
use Rattle.script_select.proofs.select.items.Given as goal

abbrev pub ghost-separated : goal.ghost-separated
ghost-separated a = item
