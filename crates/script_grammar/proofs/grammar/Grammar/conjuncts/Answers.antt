use Rattle.std.proofs.Common.{rules, arith}
use Rattle.std.proofs.lemmas.Grind.{common_steps}
use Rattle.script_lex.specs.declared.kind.Kind.TheVariants as k
use Rattle.script_tokens.specs.Input.{separated_from}
use Rattle.script_expr.specs.Expr.{expr, negation, conjuncts}
use Rattle.script_tokens.proofs.Turns.{one_more, no_more}
use Rattle.script_grammar.proofs.grammar.Grammar.conjuncts.Goals as goal

pub loop-turn-init : goal.loop-turn-init
unfolding conjuncts
loop-turn-init g c = first_of (search rules, grind (arith, common_steps))

pub returns-in_err-item : goal.returns-in_err-item
unfolding separated_from
returns-in_err-item g c =
    let e = one_more (λ n. separated_from k.And (negation c.args.self.now.depth (expr c.args.self.now.depth)) n c.loop-turn.found c.loop-turn.tokens) _ c.loop-turn._turn c.loop-turn-test.true c.loop-turn.invariant in
    first_of (search rules, grind (arith, common_steps))

pub returns-then-not-eat : goal.returns-then-not-eat
unfolding separated_from
returns-then-not-eat g c =
    let e = one_more (λ n. separated_from k.And (negation c.args.self.now.depth (expr c.args.self.now.depth)) n c.loop-turn.found c.loop-turn.tokens) _ c.loop-turn._turn c.loop-turn-test.true c.loop-turn.invariant in
    first_of (search rules, grind (arith, common_steps))

pub loop-turn-preserved : goal.loop-turn-preserved
unfolding separated_from
loop-turn-preserved g c =
    let e = one_more (λ n. separated_from k.And (negation c.args.self.now.depth (expr c.args.self.now.depth)) n c.loop-turn.found c.loop-turn.tokens) _ c.loop-turn._turn c.loop-turn-test.true c.loop-turn.invariant in
    first_of (search rules, grind (arith, common_steps))

pub returns : goal.returns
unfolding separated_from
returns g c =
    let e = no_more (λ n. separated_from k.And (negation c.args.self.now.depth (expr c.args.self.now.depth)) n c.loop-turn.found c.loop-turn.tokens) _ c.loop-turn._turn c.loop-turn-test.false c.loop-turn.invariant in
    first_of (search rules, grind (arith, common_steps))
