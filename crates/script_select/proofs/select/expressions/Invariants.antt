use Rattle.script_expr.specs.Expr.{whole}
use Rattle.script_select.proofs.select.expressions.Given as goal

abbrev pub ghost-separated : goal.ghost-separated
ghost-separated a = whole
