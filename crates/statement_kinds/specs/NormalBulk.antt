-- The normal form of a bulk statement: that of each of its expressions.
use Rattle.std.specs.Prelude.{map}
use Rattle.expr_types.specs.declared.select.Bulk.{Bulk}
use Rattle.expr_types.specs.declared.select.Bulk.TheVariants.{Insert, Update, Delete}
use Rattle.expr_types.specs.NormalSelect.{normal_where}

abbrev pub normal_bulk : Bulk → Bulk
normal_bulk (Insert table columns values) = Insert table columns values
normal_bulk (Update table cells filter) = Update table (map (λ cell. (cell.0, normal_where cell.1)) cells) (normal_where filter)
normal_bulk (Delete table filter) = Delete table (normal_where filter)
