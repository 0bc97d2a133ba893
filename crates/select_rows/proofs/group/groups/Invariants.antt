use Rattle.std.proofs.Common.{◌≡◌, ◌++◌, drop, map}
use Rattle.sql_semantics.specs.declared.basis.Basis.TheVariants.{Group}
use Rattle.sql_semantics.specs.Rows as spec
use Rattle.select_rows.proofs.group.groups.Given as goal

abbrev pub invariant-loop-key : goal.invariant-loop-key
invariant-loop-key l = l.bases.items ++ map (λ key. Group (spec.rows_with l.all key)) (drop l.key-index l.key-items) ≡ map (λ key. Group (spec.rows_with l.all key)) l.key-items
