use Rattle.script_tokens.specs.Names.{name}
use Rattle.script_tokens.proofs.names.name_list.Given as goal

abbrev pub ghost-separated : goal.ghost-separated
ghost-separated a = name
