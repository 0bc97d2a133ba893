use Rattle.std.proofs.Common.{refl, subst, sym, ◌∙◌, arith}
use Rattle.session_calls.proofs.Joining.{same_itself, same_more}
use Rattle.session_scopes.specs.SessionState.{SessionState}
use Rattle.session_objects.specs.Taking.{MayJoin, session_joined}
use Rattle.session_objects.proofs.JoiningLemmas.{join_all, join_more, join_turn}
use Rattle.std.proofs.Common.{◌+◌, drop}
use Rattle.base_core.specs.declared.ids.ObjId.{ObjId}
use Rattle.session_objects.proofs.joining.take_all.Goals as goal

abbrev none : ObjId
none = record { 0 = 0 }

pub loop-object-init : goal.loop-object-init
loop-object-init c = (c.requires, refl, same_itself c.args.session.now, refl)

pub take_one-requires : goal.take_one-requires
take_one-requires c =
    let turn = join_turn c.args.objects.now c.loop-object.object-index none c.loop-object.session c.loop-object-test.true c.loop-object.invariant.0 in
    record { object = turn.0; free = turn.1 }

pub loop-object-preserved : goal.loop-object-preserved
loop-object-preserved c =
    let turn = join_turn c.args.objects.now c.loop-object.object-index none c.loop-object.session c.loop-object-test.true c.loop-object.invariant.0 in (
      subst (λ (s : SessionState). MayJoin s (drop (c.loop-object.object-index + 1) c.args.objects.now)) (sym c.in_ok-take_one.ensures.ok) turn.2,
      join_more c.args.objects.now c.loop-object.object-index none c.loop-object.session c.take_one.new.session (session_joined c.args.objects.now c.args.session.now) c.loop-object-test.true c.in_ok-take_one.ensures.ok
          c.loop-object.invariant.1,
      same_more c.loop-object.invariant.2 c.take_one.ensures.same,
      c.take_one.ensures.scopes ∙ c.loop-object.invariant.3,
    )

pub returns-in_err-take_one-clause-same : goal.returns-in_err-take_one-clause-same
returns-in_err-take_one-clause-same c = same_more c.loop-object.invariant.2 c.take_one.ensures.same

pub returns-in_err-take_one-clause-scopes : goal.returns-in_err-take_one-clause-scopes
returns-in_err-take_one-clause-scopes c = c.take_one.ensures.scopes ∙ c.loop-object.invariant.3

pub returns-clause-ok : goal.returns-clause-ok
returns-clause-ok c =
    join_all c.args.objects.now c.loop-object.object-index c.loop-object.session (session_joined c.args.objects.now c.args.session.now) (omega (arith, c.loop-object-test.false)) c.loop-object.invariant.1

pub returns-clause-same : goal.returns-clause-same
returns-clause-same c = c.loop-object.invariant.2

pub returns-clause-scopes : goal.returns-clause-scopes
returns-clause-scopes c = c.loop-object.invariant.3
