use Rattle.std.proofs.Common.{◌≡◌, ◌++◌, drop}
use Rattle.std.specs.List.{flat_map}
use Rattle.prepared_objects.specs.Leaving.{cleared_of}
use Rattle.prepared_objects.proofs.clearing.cleared.Given as goal

abbrev pub invariant-loop-owner : goal.invariant-loop-owner
invariant-loop-owner l =
    l.cleared ++ flat_map (cleared_of l.mapping l.arena l.gone) (drop l.owner-index l.owner-items) ≡ flat_map (cleared_of l.mapping l.arena l.gone) l.owner-items
