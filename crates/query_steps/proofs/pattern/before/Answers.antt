use Rattle.std.proofs.Common.{◌≡◌, length, arith, subst, ◌∷◌}
use Rattle.std.proofs.lemmas.Grind.{common_steps}
use Rattle.query_steps.specs.Ends.{AreEndsTo}
use Rattle.query_steps.proofs.Ends.{ends_more}
use Rattle.query_steps.proofs.pattern.before.Goals as goal

pub loop-i-preserved : goal.loop-i-preserved
loop-i-preserved c = (
  λ later h. rw (c.in_ok-push-2.ensures.items, c.next_end.ensures, c.deref.ensures.value) (ends_more _ _ _ _ _ _ h (c.loop-i.invariant.0 later h) c.loop-i-test.true),
  grind (arith, common_steps),
)

pub returns : goal.returns
returns c = λ later h.
    let e : c.loop-i.i ≡ length c.args.text.now = omega arith in
    subst (λ n. AreEndsTo n (c.args.wanted ∷ later) c.args.text.now c.loop-i.more.items) e (c.loop-i.invariant.0 later h)
