use Rattle.std.proofs.Common.{◌≡◌, map, take}
use Rattle.savepoints.specs.Scopes.{standing_of}
use Rattle.savepoints.proofs.scope.begun_at.Given as goal

abbrev pub invariant-loop-number : goal.invariant-loop-number
invariant-loop-number l = l.standings ≡ map (λ object. standing_of object) (take l.number l.arena.objects)
