use Rattle.std.proofs.Common.{◌≡◌, List, [], ◌++◌, map, length, not, Result, sym, ap, subst, ◌∙◌}
use Rattle.std.specs.Result.{IsErrAnd}
use Rattle.base_core.specs.declared.refusal.Refusal.{Refusal}
use Rattle.base_core.specs.declared.refusal.RequestKind.TheVariants.{WrongKind}
use Rattle.sql_semantics.specs.Plain.{takes}
use Rattle.script_names.specs.Faults.{IsFirst, TellsFirst, fault_if}
use Rattle.script_names.specs.Scopes.{inner_scope}
use Rattle.script_names.specs.Naming.{faults_in, name_faults, named_expression, said_in, source_faults}
use Rattle.script_names.proofs.Equations.{faults_and, faults_call, faults_or}
use Rattle.script_names.proofs.Firsts.{first_left, paired, passed_on, told_end, told_right}
use Rattle.script_names.proofs.naming.+names.Goals as goal

-- a refusal among the operands is that of the whole
refused : {A : Type 0} (r : Result A Refusal) (e : Refusal) (whole front behind : List Refusal) → whole ≡ front ++ behind → IsErrAnd r (λ d. d ≡ e) → IsFirst e front → TellsFirst whole r
refused r e whole front behind is passed told = passed_on r e whole passed (subst (IsFirst e) (sym is) (first_left e front behind told))

pub exists-returns-in_err-origin-clause-told : goal.exists-returns-in_err-origin-clause-told
exists-returns-in_err-origin-clause-told t c =
    let sources = source_faults c.args.schema.now c.args.source.now in
    let inner = inner_scope c.args.scope.now c.args.source.now in
    let faults = name_faults c.args.schema.now c.args.condition.now inner in
    let scope_is : c.as_slice.result.now ≡ inner = c.as_slice.ensures.value ∙ c.in_ok-inner.ensures in
    let one = told_end faults c.one.result (subst (λ s. TellsFirst (name_faults c.args.schema.now c.args.condition.now s) c.one.result) scope_is c.one.ensures.told) in
    passed_on c.from_residual-in_err-origin.result c.in_err-origin.field-0.0 (sources ++ (faults ++ [])) c.from_residual-in_err-origin.ensures.1
    (paired c.origin_named.result c.one.result _ sources (faults ++ []) c.in_err-origin.ensures.told c.origin_named.ensures.told one)

pub expression_named-returns-in_err-operands-in-Call-clause-told : goal.expression_named-returns-in_err-operands-in-Call-clause-told
expression_named-returns-in_err-operands-in-Call-clause-told t c =
    refused c.from_residual-in_err-operands-in-Call.result c.in_err-operands-in-Call.field-0.0 _ _ _
    (ap (λ e. name_faults c.args.schema.now e c.args.scope.now) c.in-Call.is ∙ faults_call c.args.schema.now c.in-Call.function c.in-Call.operands c.args.scope.now)
    c.from_residual-in_err-operands-in-Call.ensures.1
    (subst (λ es. IsFirst c.in_err-operands-in-Call.field-0.0 (faults_in c.args.scope.now (map (name_faults c.args.schema.now) es))) c.as_slice.ensures c.in_err-operands-in-Call.ensures.told)

pub expression_named-returns-in_err-all-in-And-clause-told : goal.expression_named-returns-in_err-all-in-And-clause-told
expression_named-returns-in_err-all-in-And-clause-told t c =
    refused c.from_residual-in_err-all-in-And.result c.in_err-all-in-And.field-0.0 _ _ _
    (ap (λ e. name_faults c.args.schema.now e c.args.scope.now) c.in-And.is ∙ faults_and c.args.schema.now c.in-And.parts c.args.scope.now)
    c.from_residual-in_err-all-in-And.ensures.1
    (subst (λ es. IsFirst c.in_err-all-in-And.field-0.0 (faults_in c.args.scope.now (map (name_faults c.args.schema.now) es))) c.as_slice-in-And.ensures c.in_err-all-in-And.ensures.told)

pub expression_named-returns-in_err-all-in-Or-clause-told : goal.expression_named-returns-in_err-all-in-Or-clause-told
expression_named-returns-in_err-all-in-Or-clause-told t c =
    refused c.from_residual-in_err-all-in-Or.result c.in_err-all-in-Or.field-0.0 _ _ _
    (ap (λ e. name_faults c.args.schema.now e c.args.scope.now) c.in-Or.is ∙ faults_or c.args.schema.now c.in-Or.parts c.args.scope.now)
    c.from_residual-in_err-all-in-Or.ensures.1
    (subst (λ es. IsFirst c.in_err-all-in-Or.field-0.0 (faults_in c.args.scope.now (map (name_faults c.args.schema.now) es))) c.as_slice-in-Or.ensures c.in_err-all-in-Or.ensures.told)

pub expression_named-returns-in_ok-operands-in-Call-clause-told : goal.expression_named-returns-in_ok-operands-in-Call-clause-told
expression_named-returns-in_ok-operands-in-Call-clause-told t c =
    let none = subst (λ es. faults_in c.args.scope.now (map (name_faults c.args.schema.now) es) ≡ []) c.as_slice.ensures c.in_ok-operands-in-Call.ensures.told in
    let said = c.in_ok-operands-in-Call.ensures.value ∙ ap (λ es. said_in c.args.scope.now (map (named_expression c.args.schema.now) es)) c.as_slice.ensures in
    let behind = subst (λ es. TellsFirst (fault_if (not (takes c.in-Call.function (length es))) WrongKind) c.call.result) said c.call.ensures.told in
    subst (λ faults. TellsFirst faults c.call.result)
    (sym (ap (λ e. name_faults c.args.schema.now e c.args.scope.now) c.in-Call.is ∙ faults_call c.args.schema.now c.in-Call.function c.in-Call.operands c.args.scope.now))
    (told_right _ _ c.call.result none behind)

pub expression_named-returns-in_ok-all-in-And-clause-told : goal.expression_named-returns-in_ok-all-in-And-clause-told
expression_named-returns-in_ok-all-in-And-clause-told t c =
    ap (λ e. name_faults c.args.schema.now e c.args.scope.now) c.in-And.is ∙ faults_and c.args.schema.now c.in-And.parts c.args.scope.now
    ∙ ap (λ faults. faults ++ []) (subst (λ es. faults_in c.args.scope.now (map (name_faults c.args.schema.now) es) ≡ []) c.as_slice-in-And.ensures c.in_ok-all-in-And.ensures.told)

pub expression_named-returns-in_ok-all-in-Or-clause-told : goal.expression_named-returns-in_ok-all-in-Or-clause-told
expression_named-returns-in_ok-all-in-Or-clause-told t c =
    ap (λ e. name_faults c.args.schema.now e c.args.scope.now) c.in-Or.is ∙ faults_or c.args.schema.now c.in-Or.parts c.args.scope.now
    ∙ ap (λ faults. faults ++ []) (subst (λ es. faults_in c.args.scope.now (map (name_faults c.args.schema.now) es) ≡ []) c.as_slice-in-Or.ensures c.in_ok-all-in-Or.ensures.told)

pub three-returns-clause-told : goal.three-returns-clause-told
three-returns-clause-told t c = paired c.one.result c.two.result _ _ _ c.pair.ensures.told c.one.ensures.told c.two.ensures.told

pub two-returns-clause-told : goal.two-returns-clause-told
two-returns-clause-told t c = paired c.one.result c.one-2.result _ _ _ c.pair.ensures.told c.one.ensures.told (told_end _ c.one-2.result c.one-2.ensures.told)
