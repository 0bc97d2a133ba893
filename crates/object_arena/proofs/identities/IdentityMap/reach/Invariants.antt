use Rattle.std.proofs.Common.{◌≡◌, ◌+◌, length}
use Rattle.object_arena.specs.Entries.{IsSame}
use Rattle.object_arena.proofs.identities.IdentityMap.reach.Given as goal

abbrev pub invariant-loop-added : goal.invariant-loop-added
invariant-loop-added l = IsSame l.fn.self.maps.items l.self.maps.items × (length l.self.maps.items ≡ length l.fn.self.maps.items + l._added)
