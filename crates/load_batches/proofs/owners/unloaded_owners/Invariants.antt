use Rattle.std.proofs.Common.{◌≡◌, ◌++◌, drop}
use Rattle.std.specs.List.{All, flat_map}
use Rattle.class_types.specs.declared.mapped.Relation.{Relation}
use Rattle.class_mapping.specs.Mapped.{Mapped}
use Rattle.object_arena.specs.Fit.{IsFit}
use Rattle.load_batches.specs.Batches.{IsOwned, IsOwner, unloaded_owner}
use Rattle.load_batches.proofs.owners.unloaded_owners.Given as goal

abbrev pub invariant-loop-owner : goal.invariant-loop-owner
invariant-loop-owner l = record {
  found : l.found ++ flat_map (unloaded_owner l.arena l.place) (drop l.owner-index l.owners) ≡ flat_map (unloaded_owner l.arena l.place) l.owners;
  owned : (mapped : Mapped) (relation : Relation) → IsFit mapped l.arena → All (IsOwner mapped l.arena relation l.place) l.owners → All (IsOwned mapped l.arena relation l.place) l.found;
}
