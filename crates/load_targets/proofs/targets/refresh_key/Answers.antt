use Rattle.std.proofs.Common.{◌∙◌}
use Rattle.keeper_core.proofs.Sequence.{no_memory, passed_on}
use Rattle.load_rows.specs.Loading.{loading}
use Rattle.load_calls.specs.Refreshing.{CanRefuse, IsShownDeleted}
use Rattle.load_calls.proofs.ReadLemmas.{passed_memory}
use Rattle.load_targets.proofs.TargetLemmas.{asked_by, expired_is, key_held, key_refreshed}
use Rattle.load_targets.proofs.targets.refresh_key.Goals as goal

pub returns-in_err-attrs-clause-step : goal.returns-in_err-attrs-clause-step
returns-in_err-attrs-clause-step g c = passed_on c.from_residual.ensures.1 no_memory

pub returns-then-not-is_expired_among-clause-step : goal.returns-then-not-is_expired_among-clause-step
returns-then-not-is_expired_among-clause-step g c =
    key_held g.K.Keeper.moment c.args.mapping.now c.args.relation.now c.args.child c.args.arena.now
    (expired_is c.args.mapping.now c.args.relation.now c.args.arena.now c.args.child c.object-record.result.now c.in_ok-attrs.attrs c.is_expired_among.result c.object-record.ensures.is c.in_ok-attrs.ensures.attrs
    (asked_by c.as_slice.result.now c.in_ok-attrs.attrs c.object-record.result.now c.is_expired_among.result c.as_slice.ensures c.is_expired_among.ensures)
    ∙ c.if-not-is_expired_among.true)

pub returns-clause-step : goal.returns-clause-step
returns-clause-step g c =
    key_refreshed g.K.Keeper.moment c.args.mapping.now c.args.relation.now c.args.child c.args.arena.now
    (expired_is c.args.mapping.now c.args.relation.now c.args.arena.now c.args.child c.object-record.result.now c.in_ok-attrs.attrs c.is_expired_among.result c.object-record.ensures.is c.in_ok-attrs.ensures.attrs
    (asked_by c.as_slice.result.now c.in_ok-attrs.attrs c.object-record.result.now c.is_expired_among.result c.as_slice.ensures c.is_expired_among.ensures)
    ∙ c.if-not-is_expired_among.false)
    c.refresh.ensures.step

pub returns-in_err-attrs-clause-refuses : goal.returns-in_err-attrs-clause-refuses
returns-in_err-attrs-clause-refuses g c = passed_memory (CanRefuse c.args.mapping.now c.args.child) c.from_residual.result c.from_residual.ensures.1 tt

pub returns-in_err-attrs-clause-shown : goal.returns-in_err-attrs-clause-shown
returns-in_err-attrs-clause-shown g c =
    passed_memory (IsShownDeleted c.args.mapping.now c.args.child (loading c.args.arena.now c.args.notes.now, g.K.Keeper.moment c.args.keeper.now) (loading c.args.arena.now c.args.notes.now, g.K.Keeper.moment c.args.keeper.now))
    c.from_residual.result c.from_residual.ensures.1 tt

pub returns-clause-shown : goal.returns-clause-shown
returns-clause-shown g c = c.refresh.ensures.shown
