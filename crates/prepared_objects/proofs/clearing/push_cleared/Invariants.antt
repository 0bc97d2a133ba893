use Rattle.std.proofs.Common.{◌≡◌, ◌++◌, take}
use Rattle.prepared_objects.specs.Leaving.{cleared_from}
use Rattle.prepared_objects.proofs.clearing.push_cleared.Given as goal

abbrev pub invariant-loop-member : goal.invariant-loop-member
invariant-loop-member l = l.out ≡ l.fn.out ++ cleared_from l.mapping l.arena l.gone l.owner l.relation (take l.member-index l.members)
