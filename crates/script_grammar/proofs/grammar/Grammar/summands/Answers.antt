use Rattle.std.proofs.Common.{rules, arith}
use Rattle.std.proofs.lemmas.Grind.{common_steps}
use Rattle.script_expr.specs.Expr.{expr, summands, product, sum_joint, chained_from}
use Rattle.script_tokens.proofs.Turns.{one_more, no_more}
use Rattle.script_grammar.proofs.grammar.Grammar.summands.Goals as goal

pub loop-turn-init : goal.loop-turn-init
unfolding summands
loop-turn-init g c = first_of (search rules, grind (arith, common_steps))

pub returns-in_default : goal.returns-in_default
unfolding chained_from
returns-in_default g c =
    let e = one_more (λ n. chained_from sum_joint (product c.args.self.now.depth (expr c.args.self.now.depth)) n c.loop-turn.left c.loop-turn.tokens) _ c.loop-turn._turn c.loop-turn-test.true c.loop-turn.invariant in
    first_of (search rules, grind (arith, common_steps))

pub returns-in_err-operator : goal.returns-in_err-operator
unfolding chained_from
returns-in_err-operator g c =
    let e = one_more (λ n. chained_from sum_joint (product c.args.self.now.depth (expr c.args.self.now.depth)) n c.loop-turn.left c.loop-turn.tokens) _ c.loop-turn._turn c.loop-turn-test.true c.loop-turn.invariant in
    first_of (search rules, grind (arith, common_steps))

pub returns-in_err-right : goal.returns-in_err-right
unfolding chained_from
returns-in_err-right g c =
    let e = one_more (λ n. chained_from sum_joint (product c.args.self.now.depth (expr c.args.self.now.depth)) n c.loop-turn.left c.loop-turn.tokens) _ c.loop-turn._turn c.loop-turn-test.true c.loop-turn.invariant in
    first_of (search rules, grind (arith, common_steps))

pub loop-turn-preserved : goal.loop-turn-preserved
unfolding chained_from
loop-turn-preserved g c =
    let e = one_more (λ n. chained_from sum_joint (product c.args.self.now.depth (expr c.args.self.now.depth)) n c.loop-turn.left c.loop-turn.tokens) _ c.loop-turn._turn c.loop-turn-test.true c.loop-turn.invariant in
    first_of (search rules, grind (arith, common_steps))

pub returns : goal.returns
unfolding chained_from
returns g c =
    let e = no_more (λ n. chained_from sum_joint (product c.args.self.now.depth (expr c.args.self.now.depth)) n c.loop-turn.left c.loop-turn.tokens) _ c.loop-turn._turn c.loop-turn-test.false c.loop-turn.invariant in
    first_of (search rules, grind (arith, common_steps))
