use Rattle.std.proofs.Common.{List, sym, ap, ◌∙◌, subst}
use Rattle.base_core.specs.declared.value.Value.{Value}
use Rattle.schema_core.specs.declared.table.ColumnSpec.{ColumnSpec}
use Rattle.schema_core.specs.declared.table.TableSpec.{TableSpec}
use Rattle.schema_core.specs.Catalog.{spec_of}
use Rattle.schema_core.specs.Tables.{key_cells}
use Rattle.schema_core.specs.WellFormed.{IsDrawnFor}
use Rattle.sqlite_statements.proofs.Keys.{key_is_for}
use Rattle.sqlite_statements.proofs.rows.new_row.Goals as goal

pub returns : goal.returns
returns c =
    let spec = spec_of c.args.schema.now c.args.table in
    let filled = c.in_ok-filled.filled in
    let columns = c.as_slice-columns.ensures ∙ ap (λ (s : TableSpec). s.columns) c.spec.ensures in
    key_is_for spec c.args.row.now filled c.in_ok-key.key
    (subst (λ (cs : List ColumnSpec). IsDrawnFor (key_cells cs c.args.row.now) (key_cells cs filled)) columns c.in_ok-filled.ensures)
    (sym c.if-not-legal_row.ensures)
    (c.in_ok-key.ensures ∙ ap (λ (row : List Value). key_cells c.as_slice-columns.result.now row) c.as_slice.ensures ∙ ap (λ (cs : List ColumnSpec). key_cells cs filled) columns)
