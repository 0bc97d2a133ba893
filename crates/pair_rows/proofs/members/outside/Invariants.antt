use Rattle.std.proofs.Common.{◌≡◌, not, take}
use Rattle.std.specs.List.{filter}
use Rattle.object_arena.specs.Graph.{is_among}
use Rattle.pair_rows.proofs.members.outside.Given as goal

abbrev pub invariant-loop-object : goal.invariant-loop-object
invariant-loop-object l = l.rest ≡ filter (λ object. not (is_among l.others object)) (take l.object-index l.objects)
