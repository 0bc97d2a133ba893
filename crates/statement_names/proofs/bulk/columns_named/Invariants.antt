use Rattle.std.proofs.Common.{◌≡◌, [], ◌++◌, map, drop}
use Rattle.statement_names.specs.BulkNames.{column_number, columns_faults}
use Rattle.statement_names.proofs.bulk.columns_named.Given as goal

abbrev pub invariant-loop-name : goal.invariant-loop-name
invariant-loop-name l = record {
  said : l.numbers ++ map (column_number l.table) (drop l.name-index l.names) ≡ map (column_number l.table) l.names;
  rest : columns_faults l.table l.before.items (drop l.name-index l.names) ≡ columns_faults l.table [] l.names;
}
