use Rattle.script_select.specs.Bulk.{cell}
use Rattle.script_select.proofs.bulk.cells.Given as goal

abbrev pub ghost-separated : goal.ghost-separated
ghost-separated a = cell
