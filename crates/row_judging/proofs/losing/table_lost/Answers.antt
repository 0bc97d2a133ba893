-- Foreign key by foreign key is row by row; a table that is not declared has no foreign keys.
use Rattle.std.proofs.Common.{◌≡◌, Bool, IfOk, List, ap, subst, sym, ◌∙◌, arith}
use Rattle.std.specs.List.{list_any}
use Rattle.base_core.specs.declared.value.Value.{Value}
use Rattle.schema_core.proofs.AnySteps.{undeclared}
use Rattle.schema_core.specs.declared.table.TableSpec.{TableSpec}
use Rattle.table_rows.specs.Rows.{rows_present, tables_present}
use Rattle.row_judging.specs.Lost.{is_lost}
use Rattle.row_judging.proofs.HolderSteps.{turned}
use Rattle.row_judging.proofs.losing.table_lost.Goals as goal

pub returns-then-count-table : goal.returns-then-count-table
returns-then-count-table c = sym (undeclared (is_lost c.args.schema.now c.args.before.now (tables_present c.args.left.now)) c.args.schema.now c.args.table (rows_present c.args.rows.now) (omega arith))

pub returns : goal.returns
returns c =
    subst (λ (b : Bool). IfOk c.some_foreign_lost.result (λ yes. yes ≡ b))
    (turned (λ foreign (row : List Value × List Value). is_lost c.args.schema.now c.args.before.now (tables_present c.args.left.now) c.spec.result.now row.1 foreign) c.spec.result.now.foreigns (rows_present c.args.rows.now)
    ∙ ap (λ (spec : TableSpec). list_any (λ row. list_any (is_lost c.args.schema.now c.args.before.now (tables_present c.args.left.now) spec row.1) spec.foreigns) (rows_present c.args.rows.now)) c.spec.ensures)
    c.some_foreign_lost.ensures
