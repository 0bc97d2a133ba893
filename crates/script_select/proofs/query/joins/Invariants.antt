use Rattle.script_lex.specs.declared.kind.Kind.TheVariants as k
use Rattle.script_tokens.specs.Input.{clause}
use Rattle.script_select.specs.Query.{pair}
use Rattle.script_select.proofs.query.joins.Given as goal

abbrev pub ghost-many : goal.ghost-many
ghost-many a = clause k.Join pair
