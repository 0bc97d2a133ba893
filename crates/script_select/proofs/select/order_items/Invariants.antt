use Rattle.script_select.specs.Select.{order_item}
use Rattle.script_select.proofs.select.order_items.Given as goal

abbrev pub ghost-separated : goal.ghost-separated
ghost-separated a = order_item
