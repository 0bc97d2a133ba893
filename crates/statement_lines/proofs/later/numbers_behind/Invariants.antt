use Rattle.std.proofs.Common.{◌≡◌, ◌<◌, ◌++◌, drop, length}
use Rattle.std.specs.List.{All}
use Rattle.schema_core.specs.Catalog.{spec_of}
use Rattle.statement_lines.specs.Later.{numbers_behind, numbers_from}
use Rattle.statement_lines.proofs.later.numbers_behind.Given as goal

abbrev pub invariant-loop-foreign : goal.invariant-loop-foreign
invariant-loop-foreign l = record {
  so_far : l.numbers.items ++ numbers_from l.schema l.order l.table l.number (drop l.foreign-index l.foreigns) ≡ numbers_behind l.schema l.order l.table;
  counted : l.number ≡ l.foreign-index;
  numbered : All (λ number. number < length (spec_of l.schema l.table).foreigns) l.numbers.items;
}
