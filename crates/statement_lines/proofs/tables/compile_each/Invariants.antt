use Rattle.std.proofs.Common.{◌≡◌, drop}
use Rattle.statement_lines.specs.CompiledLines.{each_compiled}
use Rattle.statement_lines.proofs.tables.compile_each.Given as goal

abbrev pub invariant-loop-table : goal.invariant-loop-table
invariant-loop-table l = each_compiled l.dialect l.schema l.tables ≡ each_compiled l.dialect l.schema (drop l.table-index l.tables)
