use Rattle.script_tokens.specs.Literals.{literal}
use Rattle.script_tokens.proofs.literals.literals.Given as goal

abbrev pub ghost-separated : goal.ghost-separated
ghost-separated a = literal
