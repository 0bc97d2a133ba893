use Rattle.std.proofs.Common.{◌≡◌, drop}
use Rattle.std.specs.List.{list_any}
use Rattle.schema_core.specs.Tables.{dangles}
use Rattle.table_rows.specs.Rows.{tables_present}
use Rattle.row_judging.proofs.judging.some_dangles.Given as goal

abbrev pub invariant-loop-foreign : goal.invariant-loop-foreign
invariant-loop-foreign l =
    list_any (dangles l.schema (tables_present l.tables) l.spec l.row) (drop l.foreign-index l.spec.foreigns) ≡ list_any (dangles l.schema (tables_present l.tables) l.spec l.row) l.spec.foreigns
