use Rattle.std.proofs.Common.{◌≡◌, ◌<◌, ◌≤◌, List, [], ◌∷◌, length, get_or, refl, ap, ◌∙◌, subst}
use Rattle.schema_core.specs.declared.changes.Planned.{Planned}
use Rattle.schema_core.specs.Catalog.{Catalog}
use Rattle.session_scopes.specs.SessionState.{SessionState}
use Rattle.session_calls.proofs.Joining.{passed_call}
use Rattle.session_statements.specs.Run.{IsCause}
use Rattle.session_statements.proofs.Along.{along_calm, along_end, along_more, along_ran_out, along_refused, along_start, at_schema}
use Rattle.session_statements.proofs.Causes.{later_cause, pass_cause}
use Rattle.session_statements.proofs.Noted.{no_room_call}
use Rattle.session_statements.proofs.run.send_plan.Goals as goal

pub returns-in_err-places-clause-call : goal.returns-in_err-places-clause-call
returns-in_err-places-clause-call g c = passed_call c.from_residual.ensures.1 (no_room_call g.K.Keeper.moment refl refl)

pub returns-in_err-known-clause-call : goal.returns-in_err-known-clause-call
returns-in_err-known-clause-call g c = passed_call c.from_residual-in_err-known.ensures.1 (no_room_call g.K.Keeper.moment refl refl)

pub loop-planned-init : goal.loop-planned-init
loop-planned-init g c =
    along_start g.K.Keeper.moment c.args.session.now.mapping.schema c.args.changes.now c.args.plan.now c.in_ok-known.known c.in_ok-known.ensures.keys (c.in_ok-known.ensures.long ∙ c.len.ensures) c.requires.in_step

pub returns-in_err-answered-clause-call : goal.returns-in_err-answered-clause-call
returns-in_err-answered-clause-call g c =
    let within : c.loop-planned.planned-index < length c.args.plan.now = subst (λ (xs : List Planned). c.loop-planned.planned-index < length xs) c.as_slice-planned-items.ensures c.loop-planned-test.true in
    let is : c.planned-item.result ≡ get_or c.args.plan.now c.loop-planned.planned-index c.planned-item.result = c.planned-item.is ∙ ap (λ (xs : List Planned). get_or xs c.loop-planned.planned-index c.planned-item.result) c.as_slice-planned-items.ensures in
    passed_call c.from_residual-in_err-answered.ensures.1
    (along_refused g.K.Keeper.moment c.args.session.now.mapping.schema c.args.changes.now c.args.plan.now c.loop-planned.planned-index c.loop-planned.known c.planned-item.result c.loop-planned.invariant within is
    (at_schema g.K.Keeper.moment c.args.changes.now c.planned-item.result c.loop-planned.known c.loop-planned.session.mapping.schema c.args.session.now.mapping.schema (ap (λ (s : SessionState). s.mapping.schema) c.loop-planned.invariant.alike) c.in_err-answered.ensures.call))

pub returns-in_err-answered-clause-cause : goal.returns-in_err-answered-clause-cause
returns-in_err-answered-clause-cause g c =
    let within : c.loop-planned.planned-index < length c.args.plan.now = subst (λ (xs : List Planned). c.loop-planned.planned-index < length xs) c.as_slice-planned-items.ensures c.loop-planned-test.true in
    let is : c.planned-item.result ≡ get_or c.args.plan.now c.loop-planned.planned-index c.planned-item.result = c.planned-item.is ∙ ap (λ (xs : List Planned). get_or xs c.loop-planned.planned-index c.planned-item.result) c.as_slice-planned-items.ensures in
    pass_cause c.args.session.now.mapping.schema c.args.changes.now c.args.plan.now (g.K.Keeper.moment c.args.keeper.now) (g.K.Keeper.moment c.send_one.new.keeper) c.in_err-answered.field-0.0 c.from_residual-in_err-answered.result c.from_residual-in_err-answered.ensures.1
    (later_cause c.args.session.now.mapping.schema c.args.changes.now c.args.plan.now c.loop-planned.planned-index c.planned-item.result (g.K.Keeper.moment c.args.keeper.now) (g.K.Keeper.moment c.loop-planned.keeper) (g.K.Keeper.moment c.send_one.new.keeper) c.in_err-answered.field-0.0 within is
    (along_calm g.K.Keeper.moment c.args.session.now.mapping.schema c.args.changes.now c.args.plan.now c.loop-planned.planned-index c.loop-planned.known c.loop-planned.invariant)
    (subst (λ (s : Catalog). IsCause s c.args.changes.now (c.planned-item.result ∷ []) (g.K.Keeper.moment c.loop-planned.keeper) c.in_err-answered.field-0.0 (g.K.Keeper.moment c.send_one.new.keeper)) (ap (λ (s : SessionState). s.mapping.schema) c.loop-planned.invariant.alike) c.in_err-answered.ensures.cause))

pub returns-in_err-keep_keys-clause-call : goal.returns-in_err-keep_keys-clause-call
returns-in_err-keep_keys-clause-call g c =
    let within : c.loop-planned.planned-index < length c.args.plan.now = subst (λ (xs : List Planned). c.loop-planned.planned-index < length xs) c.as_slice-planned-items.ensures c.loop-planned-test.true in
    let is : c.planned-item.result ≡ get_or c.args.plan.now c.loop-planned.planned-index c.planned-item.result = c.planned-item.is ∙ ap (λ (xs : List Planned). get_or xs c.loop-planned.planned-index c.planned-item.result) c.as_slice-planned-items.ensures in
    passed_call c.from_residual-in_err-keep_keys.ensures.1
    (along_ran_out g.K.Keeper.moment c.args.session.now.mapping.schema c.args.changes.now c.args.plan.now c.loop-planned.planned-index c.loop-planned.known c.planned-item.result c.in_ok-answered.answered refl c.loop-planned.invariant within is
    (at_schema g.K.Keeper.moment c.args.changes.now c.planned-item.result c.loop-planned.known c.loop-planned.session.mapping.schema c.args.session.now.mapping.schema (ap (λ (s : SessionState). s.mapping.schema) c.loop-planned.invariant.alike) c.in_ok-answered.ensures.call))

pub loop-planned-preserved : goal.loop-planned-preserved
loop-planned-preserved g c =
    let within : c.loop-planned.planned-index < length c.args.plan.now = subst (λ (xs : List Planned). c.loop-planned.planned-index < length xs) c.as_slice-planned-items.ensures c.loop-planned-test.true in
    let is : c.planned-item.result ≡ get_or c.args.plan.now c.loop-planned.planned-index c.planned-item.result = c.planned-item.is ∙ ap (λ (xs : List Planned). get_or xs c.loop-planned.planned-index c.planned-item.result) c.as_slice-planned-items.ensures in
    along_more g.K.Keeper.moment c.args.session.now.mapping.schema c.args.changes.now c.args.plan.now c.loop-planned.planned-index c.loop-planned.known c.keep_keys.new.known c.planned-item.result c.in_ok-answered.answered c.loop-planned.invariant within is
    (at_schema g.K.Keeper.moment c.args.changes.now c.planned-item.result c.loop-planned.known c.loop-planned.session.mapping.schema c.args.session.now.mapping.schema (ap (λ (s : SessionState). s.mapping.schema) c.loop-planned.invariant.alike) c.in_ok-answered.ensures.call)
    c.in_ok-answered.ensures.alike c.in_ok-keep_keys.ensures.keys c.in_ok-keep_keys.ensures.long

pub returns-clause-call : goal.returns-clause-call
returns-clause-call g c =
    along_end g.K.Keeper.moment c.args.session.now.mapping.schema c.args.changes.now c.args.plan.now c.loop-planned.planned-index c.loop-planned.known c.loop-planned.invariant
    (subst (λ (xs : List Planned). length xs ≤ c.loop-planned.planned-index) c.as_slice-planned-items.ensures c.loop-planned-test.false)
