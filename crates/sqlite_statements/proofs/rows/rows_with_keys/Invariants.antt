use Rattle.std.proofs.Common.{List, ◌++◌, drop}
use Rattle.base_core.specs.declared.value.Value.{Value}
use Rattle.schema_core.specs.Catalog.{spec_of}
use Rattle.schema_core.specs.WellFormed.{AreKeysOf}
use Rattle.sqlite_statements.proofs.rows.rows_with_keys.Given as goal

abbrev pub invariant-loop-row : goal.invariant-loop-row
invariant-loop-row l = (more : List (List Value)) → AreKeysOf (spec_of l.schema l.table) (drop l.row-index l.rows) more → AreKeysOf (spec_of l.schema l.table) l.rows (l.keys.items ++ more)
