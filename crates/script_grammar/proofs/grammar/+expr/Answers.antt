use Rattle.std.proofs.Common.{◌≡◌, ◌∙◌, Err, ap, sym, arith}
use Rattle.script_expr.specs.Expr.{expr}
use Rattle.script_tokens.proofs.Turns.{deeper}
use Rattle.script_grammar.proofs.grammar.+expr.Goals as goal

pub returns-then-depth-eq0 : goal.returns-then-depth-eq0
unfolding expr
returns-then-depth-eq0 t c _ = let none : c.args.depth ≡ 0 = omega arith in ap (λ n. expr n c.args.level c.args.tokens.now) none ∙ ap Err (sym c.refuse.ensures)

pub returns : goal.returns
unfolding expr
returns t c = rw (deeper (λ n. expr n c.args.level c.args.tokens.now) c.args.depth (omega arith)) c.at_level.ensures
