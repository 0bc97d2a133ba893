use Rattle.std.proofs.Common.{◌≡◌, ◌++◌, drop}
use Rattle.cascades.specs.Closures.{ends_along}
use Rattle.cascades.proofs.closures.add_along.Given as goal

abbrev pub invariant-loop-place : goal.invariant-loop-place
invariant-loop-place l = l.ends ++ ends_along l.flag (drop l.place l.relations) (drop l.place l.links) ≡ l.fn.ends ++ ends_along l.flag l.relations l.links
