use Rattle.std.proofs.Common.{◌≡◌, drop}
use Rattle.sql_tables.specs.Ddl.{first_unsized}
use Rattle.sql_tables.proofs.tables.first_unsized.Given as goal

abbrev pub invariant-loop-column : goal.invariant-loop-column
invariant-loop-column l =
    first_unsized l.place (drop l.column-index l.columns) ≡ first_unsized 0 l.columns
