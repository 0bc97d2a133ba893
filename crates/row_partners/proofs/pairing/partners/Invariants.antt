use Rattle.std.proofs.Common.{◌≡◌, take}
use Rattle.std.specs.BTreeMap.{get}
use Rattle.flush_order.specs.Sorted.{Place, place_cmp}
use Rattle.row_partners.specs.Partners.{gone_unless_taken, partners}
use Rattle.row_partners.proofs.pairing.partners.Given as goal

abbrev pub invariant-loop-place : goal.invariant-loop-place
invariant-loop-place l = record {
  found : l.partners.items ≡ take l.place (partners l.new.schema.now l.new.changes.now);
  left : (wanted : Place) → get place_cmp l.numbers wanted ≡ gone_unless_taken l.new.schema.now l.new.changes.now wanted l.place;
}
