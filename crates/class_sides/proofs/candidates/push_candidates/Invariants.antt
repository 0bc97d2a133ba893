use Rattle.std.proofs.Common.{◌≡◌, ◌++◌, map, filter, drop}
use Rattle.std.specs.List.{enumerate_from}
use Rattle.class_sides.specs.Sides.{key_at, serves}
use Rattle.class_sides.proofs.candidates.push_candidates.Given as goal

abbrev pub invariant-loop-place : goal.invariant-loop-place
invariant-loop-place l =
    l.all ++ map (key_at l.table) (filter (λ placed. serves l.schema.tables l.child l.owners l.named l.rank l.table placed.1) (enumerate_from l.place (drop l.place l.foreigns)))
    ≡ l.initial.all ++ map (key_at l.table) (filter (λ placed. serves l.schema.tables l.child l.owners l.named l.rank l.table placed.1) (enumerate_from 0 l.foreigns))
