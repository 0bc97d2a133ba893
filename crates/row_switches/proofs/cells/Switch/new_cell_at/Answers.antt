use Rattle.std.proofs.Common.{ap, ◌∙◌}
use Rattle.std.specs.Prelude.{unwrap_or}
use Rattle.std.proofs.lemmas.Option.{unwrap_or-slice_get}
use Rattle.base_core.specs.declared.value.Value.TheVariants.{Null}
use Rattle.schema_core.specs.declared.changes.RowCell.TheVariants.{Given}
use Rattle.row_switches.specs.Switch.{cell_after_switch}
use Rattle.row_switches.proofs.cells.Switch.new_cell_at.Goals as goal

pub returns-in-None : goal.returns-in-None
returns-in-None c =
    ap (λ found. cell_after_switch c.args.self.now.new.now.schema.now c.args.self.now.new.now.changes.now c.args.self.now.partners.now (unwrap_or found (Given Null))) c.in-None.ensures
    ∙ ap (cell_after_switch c.args.self.now.new.now.schema.now c.args.self.now.new.now.changes.now c.args.self.now.partners.now) (unwrap_or-slice_get c.args.row.now.cells c.args.column (Given Null))
