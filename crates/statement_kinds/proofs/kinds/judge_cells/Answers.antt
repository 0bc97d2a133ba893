use Rattle.std.specs.List.{flat_map}
use Rattle.script_names.proofs.Firsts.{passed_on}
use Rattle.statement_kinds.specs.Mismatches.{cell_mismatch}
use Rattle.statement_kinds.proofs.Loops.{each_first}
use Rattle.statement_kinds.proofs.kinds.judge_cells.Goals as goal

pub returns-in_err-judge_cell : goal.returns-in_err-judge_cell
returns-in_err-judge_cell c =
    passed_on c.from_residual.result c.in_err-judge_cell.field-0.0 (flat_map (cell_mismatch c.args.schema.now c.args.table) c.args.cells.now) c.from_residual.ensures.1
    (each_first (cell_mismatch c.args.schema.now c.args.table) c.in_err-judge_cell.field-0.0 c.args.cells.now c.loop-cell.cell-index c.cell-item.result
    c.loop-cell-test.true c.cell-item.is c.loop-cell.invariant c.in_err-judge_cell.ensures)
