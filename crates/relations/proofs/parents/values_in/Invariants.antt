use Rattle.std.proofs.Common.{◌≡◌, take}
use Rattle.relations.specs.Parents.{values_in}
use Rattle.relations.proofs.parents.values_in.Given as goal

abbrev pub invariant-loop-name : goal.invariant-loop-name
invariant-loop-name l = l.values ≡ values_in l.attributes l.cells l.table (take l.name-index l.names)
