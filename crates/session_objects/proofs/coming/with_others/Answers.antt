use Rattle.std.proofs.Common.{◌∷◌, arith}
use Rattle.base_core.specs.declared.ids.ObjId.{ObjId}
use Rattle.object_parts.specs.Sides.{without}
use Rattle.session_objects.specs.Taking.{outsiders}
use Rattle.session_objects.proofs.ListLemmas.{other_all, other_more, others_begin}
use Rattle.session_objects.proofs.coming.with_others.Goals as goal

abbrev none : ObjId
none = record { 0 = 0 }

pub loop-other-init : goal.loop-other-init
loop-other-init c = others_begin c.args.arena.now c.args.objects.now c.args.object c.new-list.result c.push_outsider.new.list c.new-list.ensures c.in_ok-push_outsider.ensures

pub loop-other-preserved : goal.loop-other-preserved
loop-other-preserved c =
    other_more c.args.arena.now c.args.objects.now c.args.object c.loop-other.other-index none c.loop-other.list c.push_other.new.list (outsiders c.args.arena.now (c.args.object ∷ without c.args.objects.now c.args.object)) c.loop-other-test.true
    c.in_ok-push_other.ensures c.loop-other.invariant

pub returns : goal.returns
returns c =
    other_all c.args.arena.now c.args.objects.now c.args.object c.loop-other.other-index c.loop-other.list (outsiders c.args.arena.now (c.args.object ∷ without c.args.objects.now c.args.object)) (omega (arith, c.loop-other-test.false)) c.loop-other.invariant
