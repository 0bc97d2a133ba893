use Rattle.std.proofs.Common.{◌≡◌, ◌&&◌, not}
use Rattle.std.specs.List.{list_any}
use Rattle.schema_core.specs.Tables.{collide, same_values}
use Rattle.table_rows.specs.Rows.{rows_present}
use Rattle.row_judging.proofs.judging.some_collides.Given as goal

abbrev pub invariant-loop-other_key : goal.invariant-loop-other_key
invariant-loop-other_key l =
    list_any (λ other. not (same_values l.key other.0) && collide l.spec l.unique l.row other.1) (rows_present l.other_key-iterator)
    ≡ list_any (λ other. not (same_values l.key other.0) && collide l.spec l.unique l.row other.1) (rows_present l.rows)
