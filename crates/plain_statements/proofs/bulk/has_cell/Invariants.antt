use Rattle.std.proofs.Common.{◌≡◌, ◌==◌, drop}
use Rattle.std.specs.List.{list_any}
use Rattle.plain_statements.proofs.bulk.has_cell.Given as goal

abbrev pub invariant-loop-other : goal.invariant-loop-other
invariant-loop-other l = list_any (λ other. other.0.0 == l.column.0) (drop l.other-index l.cells) ≡ list_any (λ other. other.0.0 == l.column.0) l.cells
