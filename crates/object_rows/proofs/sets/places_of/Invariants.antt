use Rattle.std.proofs.Common.{◌≡◌, take}
use Rattle.std.specs.BTreeSet.{contains}
use Rattle.base_core.specs.declared.ids.ObjId.{ObjId}
use Rattle.base_core.specs.declared.ids.RelNo.{RelNo}
use Rattle.object_rows.specs.Numbers.{has_link, link_cmp}
use Rattle.object_rows.proofs.sets.places_of.Given as goal

abbrev pub invariant-loop-link : goal.invariant-loop-link
invariant-loop-link l = (object : ObjId) (relation : RelNo) → contains link_cmp l.places (object.0, relation.0) ≡ has_link (take l.link-index l.links) object relation
