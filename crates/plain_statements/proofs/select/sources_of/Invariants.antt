use Rattle.std.proofs.Common.{◌≡◌, ◌++◌, map, drop}
use Rattle.sql_semantics.specs.Plain.{sources_of}
use Rattle.plain_statements.specs.Tested.{tables_of, names_of}
use Rattle.plain_statements.proofs.select.sources_of.Given as goal

abbrev pub invariant-loop-join : goal.invariant-loop-join
invariant-loop-join l = record {
  tables : l.around.tables.items ++ tables_of (map (λ j. j.origin) (drop l.join-index l.join-items)) ≡ tables_of (sources_of l.select);
  names : l.around.names.items ++ names_of l.schema (map (λ j. j.origin) (drop l.join-index l.join-items)) ≡ names_of l.schema (sources_of l.select);
}
