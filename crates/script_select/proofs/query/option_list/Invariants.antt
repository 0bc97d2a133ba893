use Rattle.script_select.specs.Query.{option}
use Rattle.script_select.proofs.query.option_list.Given as goal

abbrev pub ghost-separated : goal.ghost-separated
ghost-separated a = option
