use Rattle.std.proofs.Common.{◌∙◌}
use Rattle.select_rows.proofs.Surveys.{keys_more}
use Rattle.select_rows.proofs.group.keys.Goals as goal

pub loop-keyed-preserved : goal.loop-keyed-preserved
loop-keyed-preserved c = record {
  left = rw (c.in_ok-keep_first.ensures.kept, c.in_ok-copied.ensures) (keys_more _ _ _ c.keyed-item.result c.loop-keyed-test.true c.keyed-item.is ∙ c.loop-keyed.invariant.left);
  seen = c.in_ok-keep_first.ensures.seen;
}
