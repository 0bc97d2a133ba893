use Rattle.std.proofs.Common.{◌≡◌, ◌++◌, drop}
use Rattle.std.specs.List.{enumerate_from, flat_map}
use Rattle.prepared_objects.specs.Leaving.{cleared_by}
use Rattle.prepared_objects.proofs.clearing.push_cleared_of.Given as goal

abbrev pub invariant-loop-number : goal.invariant-loop-number
invariant-loop-number l =
    l.out ++ flat_map (cleared_by l.mapping l.arena l.gone l.owner) (enumerate_from l.number (drop l.number l.relations))
    ≡ l.fn.out ++ flat_map (cleared_by l.mapping l.arena l.gone l.owner) (enumerate_from 0 l.relations)
