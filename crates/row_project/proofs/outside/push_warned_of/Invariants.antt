use Rattle.std.proofs.Common.{◌≡◌, ◌++◌, drop}
use Rattle.std.specs.List.{enumerate_from, flat_map}
use Rattle.row_project.specs.Warnings.{warned_by}
use Rattle.row_project.proofs.outside.push_warned_of.Given as goal

abbrev pub invariant-loop-number : goal.invariant-loop-number
invariant-loop-number l =
    l.out ++ flat_map (warned_by l.arena l.prepared l.object) (enumerate_from l.number (drop l.number l.relations))
    ≡ l.fn.out ++ flat_map (warned_by l.arena l.prepared l.object) (enumerate_from 0 l.relations)
