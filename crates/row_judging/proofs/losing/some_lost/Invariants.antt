use Rattle.std.proofs.Common.{◌≡◌}
use Rattle.std.specs.List.{list_any}
use Rattle.schema_core.specs.Catalog.{spec_of}
use Rattle.row_judging.specs.Lost.{is_lost}
use Rattle.table_rows.specs.Rows.{tables_present}
use Rattle.row_judging.proofs.losing.some_lost.Given as goal

abbrev pub invariant-loop-table : goal.invariant-loop-table
invariant-loop-table l =
    list_any (λ created. list_any (λ row. list_any (is_lost l.schema l.before (tables_present l.left) (spec_of l.schema created.0) row.1) (spec_of l.schema created.0).foreigns) created.1) (tables_present l.table-iterator)
    ≡ list_any (λ created. list_any (λ row. list_any (is_lost l.schema l.before (tables_present l.left) (spec_of l.schema created.0) row.1) (spec_of l.schema created.0).foreigns) created.1) (tables_present l.left)
