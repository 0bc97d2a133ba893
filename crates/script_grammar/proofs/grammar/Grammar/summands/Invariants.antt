use Rattle.std.proofs.Common.{◌≡◌, ◌-◌}
use Rattle.script_expr.specs.Expr.{expr, summands, product, sum_joint, chained_from}
use Rattle.script_grammar.proofs.grammar.Grammar.summands.Given as goal

abbrev pub invariant-loop-turn : goal.invariant-loop-turn
invariant-loop-turn g l =
    summands l.self.depth (expr l.self.depth) l.initial.left l.initial.tokens ≡ chained_from sum_joint (product l.self.depth (expr l.self.depth)) (l._turn-end - l._turn) l.left l.tokens
