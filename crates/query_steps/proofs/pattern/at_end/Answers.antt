use Rattle.query_steps.proofs.Ends.{ends_none_more}
use Rattle.query_steps.proofs.pattern.at_end.Goals as goal

pub loop-preserved : goal.loop-preserved
loop-preserved c = rw c.in_ok-push-2.ensures.items (ends_none_more _ _ _ c.loop.invariant c.loop-test.true)
