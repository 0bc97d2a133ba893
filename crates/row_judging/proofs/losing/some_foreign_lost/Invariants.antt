use Rattle.std.proofs.Common.{◌≡◌, drop}
use Rattle.std.specs.List.{list_any}
use Rattle.row_judging.specs.Lost.{is_lost}
use Rattle.table_rows.specs.Rows.{rows_present, tables_present}
use Rattle.row_judging.proofs.losing.some_foreign_lost.Given as goal

abbrev pub invariant-loop-foreign : goal.invariant-loop-foreign
invariant-loop-foreign l =
    list_any (λ foreign. list_any (λ row. is_lost l.schema l.before (tables_present l.left) l.spec row.1 foreign) (rows_present l.rows)) (drop l.foreign-index l.spec.foreigns)
    ≡ list_any (λ foreign. list_any (λ row. is_lost l.schema l.before (tables_present l.left) l.spec row.1 foreign) (rows_present l.rows)) l.spec.foreigns
