use Rattle.std.proofs.Common.{◌≡◌, drop}
use Rattle.std.specs.List.{enumerate_from}
use Rattle.prepared_objects.specs.Known.{has_links}
use Rattle.prepared_objects.proofs.known.has_links.Given as goal

abbrev pub invariant-loop-number : goal.invariant-loop-number
invariant-loop-number l = has_links l.object (enumerate_from l.number (drop l.number l.relations)) ≡ has_links l.object (enumerate_from 0 l.relations)
