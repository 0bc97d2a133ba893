use Rattle.std.proofs.Common.{ℕ, ◌<◌, ◌≤◌, length}
use Rattle.schema_core.specs.Catalog.{spec_of}
use Rattle.row_project.proofs.changes.are_narrow.Given as goal

abbrev pub invariant-loop-table : goal.invariant-loop-table
invariant-loop-table l = (place : ℕ) → place < l.table → length (spec_of l.schema (record { 0 = place })).columns ≤ 4294967295
