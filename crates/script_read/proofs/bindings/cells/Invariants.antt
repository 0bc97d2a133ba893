use Rattle.script_read.specs.Bindings as bindings
use Rattle.script_read.proofs.bindings.cells.Given as goal

abbrev pub ghost-separated : goal.ghost-separated
ghost-separated a = bindings.cell
