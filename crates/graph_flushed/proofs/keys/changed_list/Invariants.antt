use Rattle.std.proofs.Common.{◌≡◌, ◌++◌, map, drop}
use Rattle.schema_core.specs.declared.changes.ChangedRow.{ChangedRow}
use Rattle.graph_flushed.proofs.keys.changed_list.Given as goal

abbrev pub invariant-loop-row : goal.invariant-loop-row
invariant-loop-row l = l.names.items ++ map (λ (row : ChangedRow). row.name) (drop l.row-index l.rows) ≡ map (λ (row : ChangedRow). row.name) l.rows
