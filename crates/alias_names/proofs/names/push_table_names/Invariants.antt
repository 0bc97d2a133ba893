use Rattle.std.proofs.Common.{◌≡◌, ◌++◌, map, take}
use Rattle.alias_names.proofs.names.push_table_names.Given as goal

abbrev pub invariant-loop-number : goal.invariant-loop-number
invariant-loop-number l = l.out ≡ l.fn.out ++ map (λ table. table.name) (take l.number l.mapping.schema.tables)
