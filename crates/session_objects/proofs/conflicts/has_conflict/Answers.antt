use Rattle.std.proofs.Common.{Bool, List, sym, arith, ◌∙◌}
use Rattle.base_core.specs.declared.ids.ObjId.{ObjId}
use Rattle.object_arena.specs.Graph.{Graph, object_at}
use Rattle.session_objects.specs.Conflicts.{conflicts_in, has_conflict}
use Rattle.session_objects.proofs.ListLemmas.{any_found, any_none, any_passed, made_at}
use Rattle.session_objects.proofs.conflicts.has_conflict.Goals as goal

abbrev none : ObjId
none = record { 0 = 0 }

abbrev test : Graph → List ObjId → ObjId → Bool
test graph objects object = conflicts_in (object_at graph object).state graph objects object

pub conflicts-requires-clause-object : goal.conflicts-requires-clause-object
conflicts-requires-clause-object c = made_at c.args.arena.now c.args.objects.now c.loop-object.object-index none c.requires c.loop-object-test.true

pub returns-then-conflicts : goal.returns-then-conflicts
returns-then-conflicts c =
    any_found (test c.args.arena.now c.args.objects.now) c.args.objects.now c.loop-object.object-index none (has_conflict c.args.arena.now c.args.objects.now) c.loop-object-test.true (sym c.conflicts.ensures ∙ c.if-conflicts.true) c.loop-object.invariant

pub loop-object-preserved : goal.loop-object-preserved
loop-object-preserved c =
    any_passed (test c.args.arena.now c.args.objects.now) c.args.objects.now c.loop-object.object-index none (has_conflict c.args.arena.now c.args.objects.now) c.loop-object-test.true (sym c.conflicts.ensures ∙ c.if-conflicts.false) c.loop-object.invariant

pub returns : goal.returns
returns c =
    any_none (test c.args.arena.now c.args.objects.now) c.args.objects.now c.loop-object.object-index (has_conflict c.args.arena.now c.args.objects.now) (omega (arith, c.loop-object-test.false)) c.loop-object.invariant
