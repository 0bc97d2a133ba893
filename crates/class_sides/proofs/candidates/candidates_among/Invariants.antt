use Rattle.std.proofs.Common.{◌≡◌, ◌++◌, drop}
use Rattle.std.specs.List.{enumerate_from, flat_map}
use Rattle.class_sides.specs.Sides.{table_candidates}
use Rattle.class_sides.proofs.candidates.candidates_among.Given as goal

abbrev pub invariant-loop-rank : goal.invariant-loop-rank
invariant-loop-rank l =
    l.all ++ flat_map (table_candidates l.schema.tables l.child l.owners l.named) (enumerate_from l.rank (drop l.rank l.tables))
    ≡ flat_map (table_candidates l.schema.tables l.child l.owners l.named) (enumerate_from 0 l.tables)
