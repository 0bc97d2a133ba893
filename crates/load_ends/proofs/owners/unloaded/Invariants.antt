use Rattle.std.proofs.Common.{◌≡◌, ◌++◌, drop}
use Rattle.std.specs.List.{flat_map}
use Rattle.load_ends.specs.Ends.{if_unloaded}
use Rattle.load_ends.proofs.owners.unloaded.Given as goal

abbrev pub invariant-loop-owner : goal.invariant-loop-owner
invariant-loop-owner l = l.found ++ flat_map (if_unloaded l.arena l.place) (drop l.owner-index l.owners) ≡ flat_map (if_unloaded l.arena l.place) l.owners
