use Rattle.row_switches.specs.Switch.{cell_kept}
use Rattle.row_switches.proofs.SwitchSteps.{kept_more}
use Rattle.row_switches.proofs.cells.Switch.row_kept.Goals as goal

pub loop-cell-preserved : goal.loop-cell-preserved
loop-cell-preserved c =
    kept_more (cell_kept c.args.self.now.mapping.now c.args.self.now.arena.now c.args.self.now.new.now.changes.now c.args.self.now.partners.now c.args.row.now)
    c.as_slice-cell-items.result.now c.loop-cell.cell-index c.cell-item.result c.loop-cell.cells c.push_kept.new.out
    c.loop-cell-test.true c.cell-item.is c.loop-cell.invariant c.in_ok-push_kept.ensures
