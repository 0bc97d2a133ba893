use Rattle.std.proofs.Common.{◌≡◌, drop}
use Rattle.command_names.specs.Attributes.{cells_fault}
use Rattle.command_names.proofs.cells.cells_fault.Given as goal

abbrev pub invariant-loop-cell : goal.invariant-loop-cell
invariant-loop-cell l = cells_fault l.mapping l.class (drop l.cell-index l.cells) ≡ cells_fault l.mapping l.class l.cells
