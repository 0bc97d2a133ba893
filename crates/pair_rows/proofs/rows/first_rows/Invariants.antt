use Rattle.std.proofs.Common.{◌≡◌, [], map, fold, drop}
use Rattle.pair_rows.specs.Pairs.{HasPlaces, lost_row, with_first}
use Rattle.pair_rows.proofs.rows.first_rows.Given as goal

abbrev pub invariant-loop-pair : goal.invariant-loop-pair
invariant-loop-pair l = record {
  left :
      fold (with_first l.projection.mapping.now.schema) l.rows (map (lost_row l.projection.mapping.now l.projection.arena.now) (drop l.pair-index l.pairs))
      ≡ fold (with_first l.projection.mapping.now.schema) [] (map (lost_row l.projection.mapping.now l.projection.arena.now) l.pairs);
  seen : HasPlaces l.projection.mapping.now.schema l.places l.rows;
}
