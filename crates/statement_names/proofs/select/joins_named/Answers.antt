use Rattle.std.proofs.Common.{◌≡◌, ◌∷◌, [], ◌++◌, length, ap, subst, ◌∙◌}
use Rattle.script_names.specs.Faults.{IsFirst}
use Rattle.statement_names.specs.SelectNames.{join_faults, joins_faults, named_join}
use Rattle.script_names.proofs.Firsts.{passed_on}
use Rattle.statement_names.proofs.Joins.{goes_on, starts, stopped}
use Rattle.statement_names.proofs.select.joins_named.Goals as goal

pub loop-join-init : goal.loop-join-init
loop-join-init c =
    starts c.args.schema.now c.args.first.now c.args.joins.now c.enter.new.scope.items c.new-named.result
    (c.in_ok-enter.ensures ∙ ap (λ s. s ++ (length s, c.args.first.now) ∷ []) c.new-scope.ensures.items) c.new-named.ensures

pub returns-in_err-join_named-clause-told : goal.returns-in_err-join_named-clause-told
returns-in_err-join_named-clause-told c =
    passed_on c.from_residual-in_err-join_named.result c.in_err-join_named.field-0.0 (joins_faults c.args.schema.now (c.args.first.now ∷ []) c.args.joins.now) c.from_residual-in_err-join_named.ensures.1
    (stopped c.args.schema.now c.args.first.now c.args.joins.now c.loop-join.scope.items c.enter-in-loop-join.new.scope.items c.loop-join.named c.loop-join.join-index c.join-item.result c.in_err-join_named.field-0.0
    c.loop-join-test.true c.join-item.is c.loop-join.invariant c.in_ok-enter-2.ensures
    (subst (λ s. IsFirst c.in_err-join_named.field-0.0 (join_faults c.args.schema.now s c.join-item.result)) c.as_slice.ensures.value c.in_err-join_named.ensures.told))

pub loop-join-preserved : goal.loop-join-preserved
loop-join-preserved c =
    goes_on c.args.schema.now c.args.first.now c.args.joins.now c.loop-join.scope.items c.enter-in-loop-join.new.scope.items c.loop-join.named c.push.new.self c.loop-join.join-index c.join-item.result c.in_ok-join_named.field-0
    c.loop-join-test.true c.join-item.is c.loop-join.invariant c.in_ok-enter-2.ensures
    (subst (λ s. c.in_ok-join_named.field-0 ≡ named_join c.args.schema.now s c.join-item.result) c.as_slice.ensures.value c.in_ok-join_named.ensures.value)
    (subst (λ s. join_faults c.args.schema.now s c.join-item.result ≡ []) c.as_slice.ensures.value c.in_ok-join_named.ensures.told)
    c.in_ok-push.ensures.ok
