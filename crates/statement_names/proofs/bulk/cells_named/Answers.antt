use Rattle.std.proofs.Common.{◌≡◌, ℕ, ◌+◌, ◌<◌, List, [], ◌∷◌, ◌++◌, length, get_or, drop, Option, sym, ap, subst, ◌∙◌}
use Rattle.std.proofs.lemmas.List.{drop_more}
use Rattle.base_core.specs.declared.refusal.Refusal.{Refusal}
use Rattle.schema_core.specs.Catalog.{Catalog}
use Rattle.schema_core.specs.declared.table.TableSpec.{TableSpec}
use Rattle.script_types.specs.declared.expression.Syn.{Syn}
use Rattle.statement_names.specs.BulkNames.{cell_faults, cells_faults}
use Rattle.script_names.specs.Faults.{IsFirst}
use Rattle.script_names.specs.Scopes.{Scope}
use Rattle.script_names.proofs.Firsts.{first_left, passed_on}
use Rattle.statement_names.proofs.bulk.cells_named.Goals as goal

stopped : (schema : Catalog) (spec : TableSpec) (scope : Scope) (before given : List (List ℕ)) (cells : List (List ℕ × Option Syn)) (i : ℕ) (cell : List ℕ × Option Syn) (e : Refusal)
    → i < length cells → cell ≡ get_or cells i cell → cells_faults schema spec scope before (drop i cells) ≡ cells_faults schema spec scope [] cells → given ≡ before
    → IsFirst e (cell_faults schema spec scope given cell) → IsFirst e (cells_faults schema spec scope [] cells)
stopped schema spec scope before given cells i cell e inside is rest same told =
    let here : drop i cells ≡ cell ∷ drop (i + 1) cells = drop_more cells i cell inside ∙ ap (λ c. c ∷ drop (i + 1) cells) (sym is) in
    let one = first_left e (cell_faults schema spec scope before cell) (cells_faults schema spec scope (before ++ cell.0 ∷ []) (drop (i + 1) cells)) (subst (λ b. IsFirst e (cell_faults schema spec scope b cell)) same told) in
    subst (IsFirst e) (ap (cells_faults schema spec scope before) (sym here) ∙ rest) one

pub returns-in_err-cell_named-clause-told : goal.returns-in_err-cell_named-clause-told
returns-in_err-cell_named-clause-told c =
    passed_on c.from_residual.result c.in_err-cell_named.field-0.0 (cells_faults c.args.schema.now c.args.table.now c.args.scope.now [] c.args.cells.now) c.from_residual.ensures.1
    (stopped c.args.schema.now c.args.table.now c.args.scope.now c.loop-cell.before.items c.as_slice.result.now c.args.cells.now c.loop-cell.cell-index c.cell-item.result c.in_err-cell_named.field-0.0
    c.loop-cell-test.true c.cell-item.is c.loop-cell.invariant.rest c.as_slice.ensures.value c.in_err-cell_named.ensures.told)
