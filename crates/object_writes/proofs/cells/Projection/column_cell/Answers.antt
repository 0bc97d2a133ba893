use Rattle.std.proofs.Common.{◌≡◌, IfOk, ap, subst, ◌∙◌}
use Rattle.base_core.specs.declared.ids.TableId.{TableId}
use Rattle.std.specs.Prelude.{Option}
use Rattle.schema_core.specs.Catalog.{Catalog, find_table, target_of}
use Rattle.schema_core.specs.declared.changes.RowCell.{RowCell}
use Rattle.object_rows.specs.Cells.{end_cell}
use Rattle.object_writes.proofs.cells.Projection.column_cell.Goals as goal

pub returns : goal.returns
returns c =
    let target : c.find-target.result ≡ target_of c.args.self.now.mapping.now.schema c.args.foreign.now =
    c.find-target.ensures ∙ ap (λ (schema : Catalog). find_table schema.tables c.args.foreign.now.target) c.schema.ensures.schema in
    subst (λ (given : RowCell). IfOk c.end_cell.result (λ cell. cell ≡ given))
    (ap (λ (table : Option TableId). end_cell c.args.self.now.arena.now c.args.self.now.names.now table c.in_ok-number_of.field-0 c.args.end) target
    ∙ ap (λ part. end_cell c.args.self.now.arena.now c.args.self.now.names.now (target_of c.args.self.now.mapping.now.schema c.args.foreign.now) part c.args.end) c.in_ok-number_of.ensures)
    c.end_cell.ensures
