use Rattle.std.proofs.Common.{◌≡◌}
use Rattle.table_rows.specs.Rows.{rows_present}
use Rattle.row_judging.specs.Holders.{some_key_collides}
use Rattle.row_judging.proofs.uniques.some_key_collides.Given as goal

abbrev pub invariant-loop-other : goal.invariant-loop-other
invariant-loop-other l =
    some_key_collides l.spec l.unique (rows_present l.rows) l.other-iterator l.key l.row ≡ some_key_collides l.spec l.unique (rows_present l.rows) l.keys.keys l.key l.row
