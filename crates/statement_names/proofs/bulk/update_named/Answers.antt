use Rattle.std.proofs.Common.{◌≡◌, List, [], ◌++◌, Result, Err, sym, ap, subst, ◌∙◌}
use Rattle.base_core.specs.declared.refusal.Refusal.{Refusal}
use Rattle.schema_core.specs.Catalog.{spec_of}
use Rattle.statement_names.specs.BulkNames.{cells_faults, scope_alone, spec_named, update_faults}
use Rattle.script_names.specs.Faults.{IsFirst, TellsFirst, faults_if_given, pair_or_refusal}
use Rattle.script_names.specs.Naming.{name_faults, table_faults}
use Rattle.script_names.proofs.Firsts.{passed_on, told_pair}
use Rattle.statement_names.proofs.bulk.update_named.Goals as goal

stopped : {A B : Type 0} (r : Result A Refusal) (s : Result B Refusal) (e : Refusal) (first xs ys : List Refusal) → first ≡ [] → TellsFirst xs r → TellsFirst ys s → Err e ≡ pair_or_refusal r s → IsFirst e (first ++ xs ++ ys)
stopped r s e first xs ys none h g told = subst (IsFirst e) (ap (λ zs. zs ++ xs ++ ys) (sym none)) (subst (TellsFirst (xs ++ ys)) (sym told) (told_pair r s xs ys h g))

pub returns-in_err-cells-clause-told : goal.returns-in_err-cells-clause-told
returns-in_err-cells-clause-told c =
    let spec_is : c.spec.result.now ≡ spec_named c.args.schema.now c.args.table.now = c.spec.ensures ∙ ap (spec_of c.args.schema.now) c.in_ok-number.ensures.value in
    let scope_is : c.as_slice-scope.result.now ≡ scope_alone c.args.table.now = c.as_slice-scope.ensures.value ∙ c.in_ok-scope.ensures in
    let cells = subst (λ s. TellsFirst (cells_faults c.args.schema.now s (scope_alone c.args.table.now) [] c.args.cells.now) c.cells_named.result) spec_is
    (subst (λ s. TellsFirst (cells_faults c.args.schema.now c.spec.result.now s [] c.args.cells.now) c.cells_named.result) scope_is c.cells_named.ensures.told) in
    let filter = subst (λ s. TellsFirst (faults_if_given (λ e. name_faults c.args.schema.now e s) c.args.filter.now) c.named_if_given.result) scope_is c.named_if_given.ensures.told in
    passed_on c.from_residual-in_err-cells.result c.in_err-cells.field-0.0 (update_faults c.args.schema.now c.args.table.now c.args.cells.now c.args.filter.now) c.from_residual-in_err-cells.ensures.1
    (stopped c.cells_named.result c.named_if_given.result c.in_err-cells.field-0.0 (table_faults c.args.schema.now c.args.table.now) _ _ c.in_ok-number.ensures.told cells filter c.in_err-cells.ensures.told)
