-- What the levels that have lists of operands say, and their faults.
use Rattle.std.proofs.Common.{◌≡◌, List, [], ◌++◌, length, map, not, sym, ap, ◌∙◌}
use Rattle.std.proofs.lemmas.List.{length-map}
use Rattle.base_core.specs.declared.refusal.Refusal.{Refusal}
use Rattle.base_core.specs.declared.refusal.RequestKind.TheVariants.{WrongKind}
use Rattle.schema_core.specs.Catalog.{Catalog}
use Rattle.expr_types.specs.declared.expr.Expr.{Expr}
use Rattle.expr_types.specs.declared.expr.Expr.TheVariants as expr
use Rattle.expr_types.specs.declared.expr.Func.{Func}
use Rattle.sql_semantics.specs.Plain.{takes}
use Rattle.script_types.specs.declared.expression.Syn.{Syn}
use Rattle.script_types.specs.declared.expression.Syn.TheVariants as syn
use Rattle.script_names.specs.Faults.{fault_if}
use Rattle.script_names.specs.Scopes.{Scope}
use Rattle.script_names.specs.Naming.{faults_in, name_faults, name_faults_level, named_expression, named_level, said_in}
use Rattle.script_names.proofs.Folds.{fold-And, fold-Call, fold-Or}

pub faults_and : (schema : Catalog) (es : List Syn) (scope : Scope) → name_faults schema (syn.And es) scope ≡ faults_in scope (map (name_faults schema) es) ++ []
unfolding name_faults
faults_and schema es scope = ap (λ (f : Scope → List Refusal). f scope) (fold-And (Scope → List Refusal) (name_faults_level schema) es)

pub faults_or : (schema : Catalog) (es : List Syn) (scope : Scope) → name_faults schema (syn.Or es) scope ≡ faults_in scope (map (name_faults schema) es) ++ []
unfolding name_faults
faults_or schema es scope = ap (λ (f : Scope → List Refusal). f scope) (fold-Or (Scope → List Refusal) (name_faults_level schema) es)

pub faults_call : (schema : Catalog) (f : Func) (es : List Syn) (scope : Scope) → name_faults schema (syn.Call f es) scope ≡ faults_in scope (map (name_faults schema) es) ++ fault_if (not (takes f (length (said_in scope (map (named_expression schema) es))))) WrongKind
unfolding name_faults
faults_call schema f es scope =
    ap (λ (g : Scope → List Refusal). g scope) (fold-Call (Scope → List Refusal) (name_faults_level schema) f es)
    ∙ ap (λ n. faults_in scope (map (name_faults schema) es) ++ fault_if (not (takes f n)) WrongKind)
    (length-map es (name_faults schema) ∙ sym (length-map (map (named_expression schema) es) (λ (a : Scope → Expr). a scope) ∙ length-map es (named_expression schema)))

pub said_and : (schema : Catalog) (es : List Syn) (scope : Scope) → named_expression schema (syn.And es) scope ≡ expr.And (said_in scope (map (named_expression schema) es))
unfolding named_expression
said_and schema es scope = ap (λ (f : Scope → Expr). f scope) (fold-And (Scope → Expr) (named_level schema) es)

pub said_or : (schema : Catalog) (es : List Syn) (scope : Scope) → named_expression schema (syn.Or es) scope ≡ expr.Or (said_in scope (map (named_expression schema) es))
unfolding named_expression
said_or schema es scope = ap (λ (f : Scope → Expr). f scope) (fold-Or (Scope → Expr) (named_level schema) es)

pub said_call : (schema : Catalog) (f : Func) (es : List Syn) (scope : Scope) → named_expression schema (syn.Call f es) scope ≡ expr.Call f (said_in scope (map (named_expression schema) es))
unfolding named_expression
said_call schema f es scope = ap (λ (g : Scope → Expr). g scope) (fold-Call (Scope → Expr) (named_level schema) f es)

pub ruleset of_lists = (faults_and, faults_or, faults_call, said_and, said_or, said_call)
