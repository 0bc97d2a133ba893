use Rattle.std.proofs.Common.{◌≡◌, map, take}
use Rattle.std.specs.List.{All}
use Rattle.object_records.specs.Kept.{IsNarrow, held_by}
use Rattle.object_records.proofs.kept.kept_objects.Given as goal

abbrev pub invariant-loop-number : goal.invariant-loop-number
invariant-loop-number l = (l.kept ≡ map (λ object. held_by object) (take l.number l.arena.objects)) × All IsNarrow l.kept
