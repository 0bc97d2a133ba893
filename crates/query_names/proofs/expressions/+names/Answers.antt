use Rattle.std.proofs.Common.{◌≡◌, map, Ok, sym, ap, subst, ◌∙◌}
use Rattle.base_core.specs.Answers.{Gives, Refuses}
use Rattle.query_names.specs.Expressions.{all_of, expression_said}
use Rattle.query_names.proofs.Equations.{said_and, said_arith, said_between, said_call, said_compare, said_concat, said_distinct, said_exists, said_ilike, said_in_list, said_is_null, said_like, said_neg, said_not, said_or}
use Rattle.query_names.proofs.Firsts.{given, paired, paired_cause, refused}
use Rattle.query_names.proofs.expressions.+names.Goals as goal

pub expression_named-returns-in_err-a-in-Compare-clause-said : goal.expression_named-returns-in_err-a-in-Compare-clause-said
expression_named-returns-in_err-a-in-Compare-clause-said t c =
    refused c.from_residual-in_err-a-in-Compare.result c.in_err-a-in-Compare.field-0.0 _ _ _
    (ap (λ e. expression_said c.args.mapping.now e c.args.scope.now) c.in-Compare.is ∙ said_compare c.args.mapping.now c.in-Compare.op c.in-Compare.a c.in-Compare.b c.args.scope.now)
    c.from_residual-in_err-a-in-Compare.ensures.1 c.in_err-a-in-Compare.ensures.said

pub expression_named-returns-in_ok-a-in-Compare-clause-said : goal.expression_named-returns-in_ok-a-in-Compare-clause-said
expression_named-returns-in_ok-a-in-Compare-clause-said t c =
    given _ _ _ _
    (ap (λ e. expression_said c.args.mapping.now e c.args.scope.now) c.in-Compare.is ∙ said_compare c.args.mapping.now c.in-Compare.op c.in-Compare.a c.in-Compare.b c.args.scope.now)
    c.in_ok-a-in-Compare.ensures.said

pub expression_named-returns-in_err-a-in-Like-clause-said : goal.expression_named-returns-in_err-a-in-Like-clause-said
expression_named-returns-in_err-a-in-Like-clause-said t c =
    refused c.from_residual-in_err-a-in-Like.result c.in_err-a-in-Like.field-0.0 _ _ _
    (ap (λ e. expression_said c.args.mapping.now e c.args.scope.now) c.in-Like.is ∙ said_like c.args.mapping.now c.in-Like.negated c.in-Like.a c.in-Like.b c.args.scope.now)
    c.from_residual-in_err-a-in-Like.ensures.1 c.in_err-a-in-Like.ensures.said

pub expression_named-returns-in_ok-a-in-Like-clause-said : goal.expression_named-returns-in_ok-a-in-Like-clause-said
expression_named-returns-in_ok-a-in-Like-clause-said t c =
    given _ _ _ _
    (ap (λ e. expression_said c.args.mapping.now e c.args.scope.now) c.in-Like.is ∙ said_like c.args.mapping.now c.in-Like.negated c.in-Like.a c.in-Like.b c.args.scope.now)
    c.in_ok-a-in-Like.ensures.said

pub expression_named-returns-in_err-a-in-Ilike-clause-said : goal.expression_named-returns-in_err-a-in-Ilike-clause-said
expression_named-returns-in_err-a-in-Ilike-clause-said t c =
    refused c.from_residual-in_err-a-in-Ilike.result c.in_err-a-in-Ilike.field-0.0 _ _ _
    (ap (λ e. expression_said c.args.mapping.now e c.args.scope.now) c.in-Ilike.is ∙ said_ilike c.args.mapping.now c.in-Ilike.negated c.in-Ilike.a c.in-Ilike.b c.args.scope.now)
    c.from_residual-in_err-a-in-Ilike.ensures.1 c.in_err-a-in-Ilike.ensures.said

pub expression_named-returns-in_ok-a-in-Ilike-clause-said : goal.expression_named-returns-in_ok-a-in-Ilike-clause-said
expression_named-returns-in_ok-a-in-Ilike-clause-said t c =
    given _ _ _ _
    (ap (λ e. expression_said c.args.mapping.now e c.args.scope.now) c.in-Ilike.is ∙ said_ilike c.args.mapping.now c.in-Ilike.negated c.in-Ilike.a c.in-Ilike.b c.args.scope.now)
    c.in_ok-a-in-Ilike.ensures.said

pub expression_named-returns-in_err-a-in-Distinct-clause-said : goal.expression_named-returns-in_err-a-in-Distinct-clause-said
expression_named-returns-in_err-a-in-Distinct-clause-said t c =
    refused c.from_residual-in_err-a-in-Distinct.result c.in_err-a-in-Distinct.field-0.0 _ _ _
    (ap (λ e. expression_said c.args.mapping.now e c.args.scope.now) c.in-Distinct.is ∙ said_distinct c.args.mapping.now c.in-Distinct.negated c.in-Distinct.a c.in-Distinct.b c.args.scope.now)
    c.from_residual-in_err-a-in-Distinct.ensures.1 c.in_err-a-in-Distinct.ensures.said

pub expression_named-returns-in_ok-a-in-Distinct-clause-said : goal.expression_named-returns-in_ok-a-in-Distinct-clause-said
expression_named-returns-in_ok-a-in-Distinct-clause-said t c =
    given _ _ _ _
    (ap (λ e. expression_said c.args.mapping.now e c.args.scope.now) c.in-Distinct.is ∙ said_distinct c.args.mapping.now c.in-Distinct.negated c.in-Distinct.a c.in-Distinct.b c.args.scope.now)
    c.in_ok-a-in-Distinct.ensures.said

pub expression_named-returns-in_err-a-in-Arith-clause-said : goal.expression_named-returns-in_err-a-in-Arith-clause-said
expression_named-returns-in_err-a-in-Arith-clause-said t c =
    refused c.from_residual-in_err-a-in-Arith.result c.in_err-a-in-Arith.field-0.0 _ _ _
    (ap (λ e. expression_said c.args.mapping.now e c.args.scope.now) c.in-Arith.is ∙ said_arith c.args.mapping.now c.in-Arith.op c.in-Arith.a c.in-Arith.b c.args.scope.now)
    c.from_residual-in_err-a-in-Arith.ensures.1 c.in_err-a-in-Arith.ensures.said

pub expression_named-returns-in_ok-a-in-Arith-clause-said : goal.expression_named-returns-in_ok-a-in-Arith-clause-said
expression_named-returns-in_ok-a-in-Arith-clause-said t c =
    given _ _ _ _
    (ap (λ e. expression_said c.args.mapping.now e c.args.scope.now) c.in-Arith.is ∙ said_arith c.args.mapping.now c.in-Arith.op c.in-Arith.a c.in-Arith.b c.args.scope.now)
    c.in_ok-a-in-Arith.ensures.said

pub expression_named-returns-in_err-a-in-Concat-clause-said : goal.expression_named-returns-in_err-a-in-Concat-clause-said
expression_named-returns-in_err-a-in-Concat-clause-said t c =
    refused c.from_residual-in_err-a-in-Concat.result c.in_err-a-in-Concat.field-0.0 _ _ _
    (ap (λ e. expression_said c.args.mapping.now e c.args.scope.now) c.in-Concat.is ∙ said_concat c.args.mapping.now c.in-Concat.a c.in-Concat.b c.args.scope.now)
    c.from_residual-in_err-a-in-Concat.ensures.1 c.in_err-a-in-Concat.ensures.said

pub expression_named-returns-in_ok-a-in-Concat-clause-said : goal.expression_named-returns-in_ok-a-in-Concat-clause-said
expression_named-returns-in_ok-a-in-Concat-clause-said t c =
    given _ _ _ _
    (ap (λ e. expression_said c.args.mapping.now e c.args.scope.now) c.in-Concat.is ∙ said_concat c.args.mapping.now c.in-Concat.a c.in-Concat.b c.args.scope.now)
    c.in_ok-a-in-Concat.ensures.said

pub expression_named-returns-in_err-a-in-Between-clause-said : goal.expression_named-returns-in_err-a-in-Between-clause-said
expression_named-returns-in_err-a-in-Between-clause-said t c =
    refused c.from_residual-in_err-a-in-Between.result c.in_err-a-in-Between.field-0.0 _ _ _
    (ap (λ e. expression_said c.args.mapping.now e c.args.scope.now) c.in-Between.is ∙ said_between c.args.mapping.now c.in-Between.negated c.in-Between.a c.in-Between.low c.in-Between.high c.args.scope.now)
    c.from_residual-in_err-a-in-Between.ensures.1 c.in_err-a-in-Between.ensures.said

pub expression_named-returns-in_ok-a-in-Between-clause-said : goal.expression_named-returns-in_ok-a-in-Between-clause-said
expression_named-returns-in_ok-a-in-Between-clause-said t c =
    given _ _ _ _
    (ap (λ e. expression_said c.args.mapping.now e c.args.scope.now) c.in-Between.is ∙ said_between c.args.mapping.now c.in-Between.negated c.in-Between.a c.in-Between.low c.in-Between.high c.args.scope.now)
    c.in_ok-a-in-Between.ensures.said

pub expression_named-returns-in_err-one-in-IsNull-clause-said : goal.expression_named-returns-in_err-one-in-IsNull-clause-said
expression_named-returns-in_err-one-in-IsNull-clause-said t c =
    refused c.from_residual-in_err-one-in-IsNull.result c.in_err-one-in-IsNull.field-0.0 _ _ _
    (ap (λ e. expression_said c.args.mapping.now e c.args.scope.now) c.in-IsNull.is ∙ said_is_null c.args.mapping.now c.in-IsNull.negated c.in-IsNull.a c.args.scope.now)
    c.from_residual-in_err-one-in-IsNull.ensures.1 c.in_err-one-in-IsNull.ensures.said

pub expression_named-returns-in_ok-one-in-IsNull-clause-said : goal.expression_named-returns-in_ok-one-in-IsNull-clause-said
expression_named-returns-in_ok-one-in-IsNull-clause-said t c =
    given _ _ _ _
    (ap (λ e. expression_said c.args.mapping.now e c.args.scope.now) c.in-IsNull.is ∙ said_is_null c.args.mapping.now c.in-IsNull.negated c.in-IsNull.a c.args.scope.now)
    c.in_ok-one-in-IsNull.ensures.said

pub expression_named-returns-in_err-one-in-InList-clause-said : goal.expression_named-returns-in_err-one-in-InList-clause-said
expression_named-returns-in_err-one-in-InList-clause-said t c =
    refused c.from_residual-in_err-one-in-InList.result c.in_err-one-in-InList.field-0.0 _ _ _
    (ap (λ e. expression_said c.args.mapping.now e c.args.scope.now) c.in-InList.is ∙ said_in_list c.args.mapping.now c.in-InList.negated c.in-InList.a c.in-InList.values c.args.scope.now)
    c.from_residual-in_err-one-in-InList.ensures.1 c.in_err-one-in-InList.ensures.said

pub expression_named-returns-in_err-one-in-Not-clause-said : goal.expression_named-returns-in_err-one-in-Not-clause-said
expression_named-returns-in_err-one-in-Not-clause-said t c =
    refused c.from_residual-in_err-one-in-Not.result c.in_err-one-in-Not.field-0.0 _ _ _
    (ap (λ e. expression_said c.args.mapping.now e c.args.scope.now) c.in-Not.is ∙ said_not c.args.mapping.now c.in-Not.a c.args.scope.now)
    c.from_residual-in_err-one-in-Not.ensures.1 c.in_err-one-in-Not.ensures.said

pub expression_named-returns-in_ok-one-in-Not-clause-said : goal.expression_named-returns-in_ok-one-in-Not-clause-said
expression_named-returns-in_ok-one-in-Not-clause-said t c =
    given _ _ _ _
    (ap (λ e. expression_said c.args.mapping.now e c.args.scope.now) c.in-Not.is ∙ said_not c.args.mapping.now c.in-Not.a c.args.scope.now)
    c.in_ok-one-in-Not.ensures.said

pub expression_named-returns-in_err-one-in-Neg-clause-said : goal.expression_named-returns-in_err-one-in-Neg-clause-said
expression_named-returns-in_err-one-in-Neg-clause-said t c =
    refused c.from_residual-in_err-one-in-Neg.result c.in_err-one-in-Neg.field-0.0 _ _ _
    (ap (λ e. expression_said c.args.mapping.now e c.args.scope.now) c.in-Neg.is ∙ said_neg c.args.mapping.now c.in-Neg.a c.args.scope.now)
    c.from_residual-in_err-one-in-Neg.ensures.1 c.in_err-one-in-Neg.ensures.said

pub expression_named-returns-in_ok-one-in-Neg-clause-said : goal.expression_named-returns-in_ok-one-in-Neg-clause-said
expression_named-returns-in_ok-one-in-Neg-clause-said t c =
    given _ _ _ _
    (ap (λ e. expression_said c.args.mapping.now e c.args.scope.now) c.in-Neg.is ∙ said_neg c.args.mapping.now c.in-Neg.a c.args.scope.now)
    c.in_ok-one-in-Neg.ensures.said

pub expression_named-returns-in_err-operands-in-Call-clause-said : goal.expression_named-returns-in_err-operands-in-Call-clause-said
expression_named-returns-in_err-operands-in-Call-clause-said t c =
    refused c.from_residual-in_err-operands-in-Call.result c.in_err-operands-in-Call.field-0.0 _ _ _
    (ap (λ e. expression_said c.args.mapping.now e c.args.scope.now) c.in-Call.is ∙ said_call c.args.mapping.now c.in-Call.function c.in-Call.operands c.args.scope.now)
    c.from_residual-in_err-operands-in-Call.ensures.1
    (subst (λ es. Refuses c.in_err-operands-in-Call.field-0.0 (all_of (map (expression_said c.args.mapping.now) es) c.args.scope.now)) c.as_slice.ensures c.in_err-operands-in-Call.ensures.said)

pub expression_named-returns-in_err-all-in-And-clause-said : goal.expression_named-returns-in_err-all-in-And-clause-said
expression_named-returns-in_err-all-in-And-clause-said t c =
    refused c.from_residual-in_err-all-in-And.result c.in_err-all-in-And.field-0.0 _ _ _
    (ap (λ e. expression_said c.args.mapping.now e c.args.scope.now) c.in-And.is ∙ said_and c.args.mapping.now c.in-And.parts c.args.scope.now)
    c.from_residual-in_err-all-in-And.ensures.1
    (subst (λ es. Refuses c.in_err-all-in-And.field-0.0 (all_of (map (expression_said c.args.mapping.now) es) c.args.scope.now)) c.as_slice-in-And.ensures c.in_err-all-in-And.ensures.said)

pub expression_named-returns-in_ok-all-in-And-clause-said : goal.expression_named-returns-in_ok-all-in-And-clause-said
expression_named-returns-in_ok-all-in-And-clause-said t c =
    given _ _ _ _
    (ap (λ e. expression_said c.args.mapping.now e c.args.scope.now) c.in-And.is ∙ said_and c.args.mapping.now c.in-And.parts c.args.scope.now)
    (subst (λ es. all_of (map (expression_said c.args.mapping.now) es) c.args.scope.now ≡ Ok c.in_ok-all-in-And.field-0) c.as_slice-in-And.ensures c.in_ok-all-in-And.ensures.said)

pub expression_named-returns-in_err-all-in-Or-clause-said : goal.expression_named-returns-in_err-all-in-Or-clause-said
expression_named-returns-in_err-all-in-Or-clause-said t c =
    refused c.from_residual-in_err-all-in-Or.result c.in_err-all-in-Or.field-0.0 _ _ _
    (ap (λ e. expression_said c.args.mapping.now e c.args.scope.now) c.in-Or.is ∙ said_or c.args.mapping.now c.in-Or.parts c.args.scope.now)
    c.from_residual-in_err-all-in-Or.ensures.1
    (subst (λ es. Refuses c.in_err-all-in-Or.field-0.0 (all_of (map (expression_said c.args.mapping.now) es) c.args.scope.now)) c.as_slice-in-Or.ensures c.in_err-all-in-Or.ensures.said)

pub expression_named-returns-in_ok-all-in-Or-clause-said : goal.expression_named-returns-in_ok-all-in-Or-clause-said
expression_named-returns-in_ok-all-in-Or-clause-said t c =
    given _ _ _ _
    (ap (λ e. expression_said c.args.mapping.now e c.args.scope.now) c.in-Or.is ∙ said_or c.args.mapping.now c.in-Or.parts c.args.scope.now)
    (subst (λ es. all_of (map (expression_said c.args.mapping.now) es) c.args.scope.now ≡ Ok c.in_ok-all-in-Or.field-0) c.as_slice-in-Or.ensures c.in_ok-all-in-Or.ensures.said)

pub two-returns-clause-said : goal.two-returns-clause-said
two-returns-clause-said t c =
    paired c.one.result c.one-2.result c.pair.result _ _ c.pair.ensures.told c.one.ensures.said c.one-2.ensures.said

pub two-returns-clause-cause : goal.two-returns-clause-cause
two-returns-clause-cause t c =
    paired_cause c.one.result c.one-2.result c.pair.result c.pair.ensures.told c.one.ensures.cause c.one-2.ensures.cause

pub three-returns-clause-said : goal.three-returns-clause-said
three-returns-clause-said t c =
    paired c.one.result c.two.result c.pair.result _ _ c.pair.ensures.told c.one.ensures.said c.two.ensures.said

pub three-returns-clause-cause : goal.three-returns-clause-cause
three-returns-clause-cause t c =
    paired_cause c.one.result c.two.result c.pair.result c.pair.ensures.told c.one.ensures.cause c.two.ensures.cause

pub expression_named-returns-in-Exists-clause-said : goal.expression_named-returns-in-Exists-clause-said
expression_named-returns-in-Exists-clause-said t c =
    subst (λ said. Gives (λ e. e) c.exists.result said)
    (sym (ap (λ e. expression_said c.args.mapping.now e c.args.scope.now) c.in-Exists.is ∙ said_exists c.args.mapping.now c.in-Exists.source c.in-Exists.condition c.args.scope.now))
    c.exists.ensures.said
