use Rattle.std.proofs.Common.{sym, arith, ◌∙◌}
use Rattle.std.specs.List.{list_any}
use Rattle.base_core.specs.declared.ids.ObjId.{ObjId}
use Rattle.session_objects.specs.Conflicts.{has_same_identity}
use Rattle.session_objects.proofs.ListLemmas.{any_found, any_none, any_passed, made_at}
use Rattle.session_objects.proofs.conflicts.is_shared.Goals as goal

abbrev none : ObjId
none = record { 0 = 0 }

pub has_same_identity-requires-clause-other : goal.has_same_identity-requires-clause-other
has_same_identity-requires-clause-other c = made_at c.args.arena.now c.args.objects.now c.loop-other.other-index none c.requires.made c.loop-other-test.true

pub returns-then-has_same_identity : goal.returns-then-has_same_identity
returns-then-has_same_identity c =
    any_found (has_same_identity c.args.arena.now c.args.object c.args.key.now) c.args.objects.now c.loop-other.other-index none (list_any (has_same_identity c.args.arena.now c.args.object c.args.key.now) c.args.objects.now) c.loop-other-test.true
    (sym c.has_same_identity.ensures ∙ c.if-has_same_identity.true) c.loop-other.invariant

pub loop-other-preserved : goal.loop-other-preserved
loop-other-preserved c =
    any_passed (has_same_identity c.args.arena.now c.args.object c.args.key.now) c.args.objects.now c.loop-other.other-index none (list_any (has_same_identity c.args.arena.now c.args.object c.args.key.now) c.args.objects.now) c.loop-other-test.true
    (sym c.has_same_identity.ensures ∙ c.if-has_same_identity.false) c.loop-other.invariant

pub returns : goal.returns
returns c =
    any_none (has_same_identity c.args.arena.now c.args.object c.args.key.now) c.args.objects.now c.loop-other.other-index (list_any (has_same_identity c.args.arena.now c.args.object c.args.key.now) c.args.objects.now)
    (omega (arith, c.loop-other-test.false)) c.loop-other.invariant
