use Rattle.std.proofs.Common.{◌≡◌, ℕ, ◌≤◌, length}
use Rattle.std.specs.List.{All}
use Rattle.object_arena.specs.Fit.{KeepsWith}
use Rattle.object_arena.proofs.TurnLemmas.{graph_before}
use Rattle.savepoints.specs.Scopes.{HasKeys, IsStanding, standing_at, stood_again}
use Rattle.savepoints.proofs.restoring.put_each_back.Given as goal

abbrev pub invariant-loop-number : goal.invariant-loop-number
invariant-loop-number l =
    (l.arena ≡ graph_before (stood_again l.fn.scope l.traces l.fn.arena) l.fn.arena l.number) × (length l.arena.objects ≡ length l.fn.arena.objects)
    × ((place : ℕ) → l.number ≤ place → standing_at l.scope place ≡ standing_at l.fn.scope place) × (length l.scope.standings ≡ length l.fn.scope.standings)
    × All IsStanding l.scope.standings × KeepsWith (λ mapped. HasKeys mapped l.fn.arena l.fn.scope) l.fn.arena l.arena
