use Rattle.std.proofs.Common.{◌-◌, length}
use Rattle.std.specs.BTreeMap.{get}
use Rattle.flush_order.specs.Sorted.{place_cmp}
use Rattle.row_partners.proofs.PartnerSteps.{gone_entered}
use Rattle.row_partners.proofs.pairing.numbers_of.Goals as goal

pub loop-behind-preserved : goal.loop-behind-preserved
loop-behind-preserved c = λ wanted.
    gone_entered c.args.schema.now c.args.rows.now c.loop-behind.behind (length c.args.rows.now - 1 - c.loop-behind.behind) c.index-rows-number.result c.in_ok-place.place
    (get place_cmp c.loop-behind.numbers wanted) (get place_cmp c.enter.new.numbers wanted) wanted
    c.loop-behind-test.true c.index-rows-number.is c.in_ok-place.ensures (c.in_ok-enter.ensures wanted) (c.loop-behind.invariant wanted)
