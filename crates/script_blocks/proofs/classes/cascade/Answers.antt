use Rattle.std.proofs.Common.{rules, arith}
use Rattle.std.proofs.lemmas.Grind.{common_steps}
use Rattle.script_blocks.specs.Classes.{cascade, cascade_from}
use Rattle.script_tokens.proofs.Turns.{one_more, no_more}
use Rattle.script_blocks.proofs.classes.cascade.Goals as goal

pub loop-turn-init : goal.loop-turn-init
unfolding cascade
loop-turn-init c = first_of (search rules, grind (arith, common_steps))

pub returns-in_err-so_far : goal.returns-in_err-so_far
unfolding cascade_from
returns-in_err-so_far c =
    let e = one_more (λ n. cascade_from n c.loop-turn.so_far c.loop-turn.tokens) _ c.loop-turn._turn c.loop-turn-test.true c.loop-turn.invariant in
    first_of (search rules, grind (arith, common_steps))

pub returns-then-not-eat : goal.returns-then-not-eat
unfolding cascade_from
returns-then-not-eat c =
    let e = one_more (λ n. cascade_from n c.loop-turn.so_far c.loop-turn.tokens) _ c.loop-turn._turn c.loop-turn-test.true c.loop-turn.invariant in
    first_of (search rules, grind (arith, common_steps))

pub loop-turn-preserved : goal.loop-turn-preserved
unfolding cascade_from
loop-turn-preserved c =
    let e = one_more (λ n. cascade_from n c.loop-turn.so_far c.loop-turn.tokens) _ c.loop-turn._turn c.loop-turn-test.true c.loop-turn.invariant in
    first_of (search rules, grind (arith, common_steps))

pub returns : goal.returns
unfolding cascade_from
returns c =
    let e = no_more (λ n. cascade_from n c.loop-turn.so_far c.loop-turn.tokens) _ c.loop-turn._turn c.loop-turn-test.false c.loop-turn.invariant in
    first_of (search rules, grind (arith, common_steps))
