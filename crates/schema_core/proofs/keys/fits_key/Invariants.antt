use Rattle.std.proofs.Common.{◌≡◌, ◌≤◌, drop, length}
use Rattle.std.specs.List.{filter}
use Rattle.std.specs.Cmp.Lexicographic.{pointwise}
use Rattle.schema_core.specs.Catalog.{key_columns}
use Rattle.schema_core.specs.Declaration.{has_kind, fits_key}
use Rattle.schema_core.proofs.keys.fits_key.Given as goal

abbrev pub invariant-loop-column : goal.invariant-loop-column
invariant-loop-column l = (l.place ≤ length l.names) × (pointwise (has_kind l.columns) (drop l.place l.names) (filter (λ column. column.key) (drop l.column-index l.target.columns)) ≡ fits_key l.columns l.names l.target)
