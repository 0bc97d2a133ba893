use Rattle.std.proofs.Common.{refl, ◌∙◌, arith}
use Rattle.std.proofs.lemmas.List.Elements.{All-get_or}
use Rattle.base_core.specs.declared.ids.ObjId.{ObjId}
use Rattle.object_arena.specs.Graph.{IsObject}
use Rattle.session_calls.proofs.Joining.{same_itself, same_more}
use Rattle.session_objects.proofs.LeavingLemmas.{objects_still}
use Rattle.session_loads.specs.Expiring.{all_expired}
use Rattle.session_loads.proofs.ExpireLemmas.{expired_last, expired_more}
use Rattle.session_loads.proofs.expiring.expire_all.Goals as goal

abbrev none : ObjId
none = record { 0 = 0 }

pub loop-object-init : goal.loop-object-init
loop-object-init c = (c.requires, refl, same_itself c.args.session.now, refl)

pub step-requires : goal.step-requires
step-requires c = All-get_or (IsObject c.loop-object.session.graph) c.args.objects.now c.loop-object.object-index none c.loop-object-test.true c.loop-object.invariant.0

pub loop-object-preserved : goal.loop-object-preserved
loop-object-preserved c = (
  objects_still c.loop-object.session.graph c.step.new.self.graph c.args.objects.now c.step.ensures.same.classes c.loop-object.invariant.0,
  expired_more c.args.objects.now c.loop-object.object-index none c.loop-object.session c.step.new.self (all_expired c.args.objects.now c.args.session.now) c.loop-object-test.true c.in_ok-step.ensures.ok c.loop-object.invariant.1,
  same_more c.loop-object.invariant.2 c.step.ensures.same,
  c.step.ensures.scopes ∙ c.loop-object.invariant.3,
)

pub returns-in_err-step-clause-same : goal.returns-in_err-step-clause-same
returns-in_err-step-clause-same c = same_more c.loop-object.invariant.2 c.step.ensures.same

pub returns-in_err-step-clause-scopes : goal.returns-in_err-step-clause-scopes
returns-in_err-step-clause-scopes c = c.step.ensures.scopes ∙ c.loop-object.invariant.3

pub returns-clause-ok : goal.returns-clause-ok
returns-clause-ok c = expired_last c.args.objects.now c.loop-object.object-index c.loop-object.session (all_expired c.args.objects.now c.args.session.now) (omega (arith, c.loop-object-test.false)) c.loop-object.invariant.1

pub returns-clause-same : goal.returns-clause-same
returns-clause-same c = c.loop-object.invariant.2

pub returns-clause-scopes : goal.returns-clause-scopes
returns-clause-scopes c = c.loop-object.invariant.3
