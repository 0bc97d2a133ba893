use Rattle.std.proofs.Common.{◌≡◌, ◌++◌, drop}
use Rattle.session_objects.specs.Taking.{changed_values}
use Rattle.session_objects.proofs.taking.changed_values.Given as goal

abbrev pub invariant-loop-place : goal.invariant-loop-place
invariant-loop-place l = l.values.items ++ changed_values l.place (drop l.place l.cells) ≡ changed_values 0 l.cells
