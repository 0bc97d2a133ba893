use Rattle.std.proofs.Common.{◌<◌, length, arith}
use Rattle.std.specs.BTreeMap.{get}
use Rattle.flush_order.specs.Sorted.{place_cmp}
use Rattle.row_partners.proofs.PartnerSteps.{left_behind, partner_pushed, partner_taken}
use Rattle.row_partners.proofs.pairing.partners.Goals as goal

pub loop-place-preserved : goal.loop-place-preserved
loop-place-preserved c =
    let schema = c.args.new.now.schema.now in
    let changes = c.args.new.now.changes.now in
    let place = c.loop-place.place in
    let less : place < length changes.fresh = omega (arith, c.loop-place-test.true, c.requires.ready.size) in
    record {
      found = partner_pushed schema changes place c.loop-place.partners.items c.push.new.self.items c.in_ok-take.field-0 less c.loop-place.invariant.found
          (partner_taken schema changes place c.at.result.now c.at.ensures (get place_cmp c.loop-place.numbers) c.in_ok-take.field-0 c.loop-place.invariant.left c.in_ok-take.ensures.partner)
          c.in_ok-push.ensures.items;
      left = λ wanted. left_behind schema changes place c.at.result.now c.at.ensures (get place_cmp c.loop-place.numbers) (get place_cmp c.take.new.numbers wanted) wanted c.loop-place.invariant.left (c.in_ok-take.ensures.others wanted);
    }
