use Rattle.std.proofs.Common.{◌≡◌, ◌-◌}
use Rattle.script_lex.specs.declared.kind.Kind.TheVariants as k
use Rattle.script_tokens.specs.Input.{separated_from}
use Rattle.script_expr.specs.declared.grammar.Level.TheVariants as level
use Rattle.script_expr.specs.Expr.{expr, arguments}
use Rattle.script_grammar.proofs.grammar.Grammar.arguments.Given as goal

abbrev pub invariant-loop-turn : goal.invariant-loop-turn
invariant-loop-turn g l = arguments l.self.depth (expr l.self.depth) l.initial.tokens ≡ separated_from k.Comma (expr l.self.depth level.Whole) (l._turn-end - l._turn) l.found l.tokens
