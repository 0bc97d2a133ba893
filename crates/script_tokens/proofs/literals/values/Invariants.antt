use Rattle.script_tokens.specs.Literals.{value}
use Rattle.script_tokens.proofs.literals.values.Given as goal

abbrev pub ghost-separated : goal.ghost-separated
ghost-separated a = value
