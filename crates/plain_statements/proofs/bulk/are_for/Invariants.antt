use Rattle.std.proofs.Common.{◌≡◌, ◌≤◌, drop, length}
use Rattle.std.specs.Cmp.Lexicographic.{pointwise}
use Rattle.expr_scopes.specs.Scopes.{is_for}
use Rattle.plain_statements.proofs.bulk.are_for.Given as goal

abbrev pub invariant-loop-place : goal.invariant-loop-place
invariant-loop-place l =
    (l.place ≤ length l.values) × (pointwise (is_for l.schema l.table) (drop l.place l.columns) (drop l.place l.values) ≡ pointwise (is_for l.schema l.table) l.columns l.values)
