use Rattle.std.proofs.Common.{◌≡◌, ◌-◌}
use Rattle.script_lex.specs.declared.kind.Kind.TheVariants as k
use Rattle.script_tokens.specs.Input.{separated_from}
use Rattle.script_expr.specs.Expr.{expr, negation, conjuncts}
use Rattle.script_grammar.proofs.grammar.Grammar.conjuncts.Given as goal

abbrev pub invariant-loop-turn : goal.invariant-loop-turn
invariant-loop-turn g l = conjuncts l.self.depth (expr l.self.depth) l.fn.first l.initial.tokens ≡ separated_from k.And (negation l.self.depth (expr l.self.depth)) (l._turn-end - l._turn) l.found l.tokens
