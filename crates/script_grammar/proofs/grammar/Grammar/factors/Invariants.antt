use Rattle.std.proofs.Common.{◌≡◌, ◌-◌}
use Rattle.script_expr.specs.Expr.{expr, factors, unary, product_joint, chained_from}
use Rattle.script_grammar.proofs.grammar.Grammar.factors.Given as goal

abbrev pub invariant-loop-turn : goal.invariant-loop-turn
invariant-loop-turn g l =
    factors l.self.depth (expr l.self.depth) l.initial.left l.initial.tokens ≡ chained_from product_joint (unary l.self.depth (expr l.self.depth)) (l._turn-end - l._turn) l.left l.tokens
