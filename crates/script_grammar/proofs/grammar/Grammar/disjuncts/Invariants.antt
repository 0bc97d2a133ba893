use Rattle.std.proofs.Common.{◌≡◌, ◌-◌}
use Rattle.script_lex.specs.declared.kind.Kind.TheVariants as k
use Rattle.script_tokens.specs.Input.{separated_from}
use Rattle.script_expr.specs.Expr.{expr, conjunction, disjuncts}
use Rattle.script_grammar.proofs.grammar.Grammar.disjuncts.Given as goal

abbrev pub invariant-loop-turn : goal.invariant-loop-turn
invariant-loop-turn g l = disjuncts l.self.depth (expr l.self.depth) l.fn.first l.initial.tokens ≡ separated_from k.Or (conjunction l.self.depth (expr l.self.depth)) (l._turn-end - l._turn) l.found l.tokens
