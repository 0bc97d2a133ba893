-- The column that a name finds.
use Rattle.std.proofs.Common.{◌≡◌, ℕ, ◌<◌, true, false, List, [], length, get_or, Option, Some, None}
use Rattle.std.proofs.lemmas.List.Quantifiers.{position-Some}
use Rattle.std.specs.List.{position}
use Rattle.std.specs.Option.{option_map}
use Rattle.base_core.specs.declared.ids.ColumnNo.{ColumnNo}
use Rattle.schema_core.specs.declared.table.ColumnKind.TheVariants as kinds
use Rattle.schema_core.specs.declared.table.ColumnSpec.{ColumnSpec}
use Rattle.schema_core.specs.declared.table.TableSpec.{TableSpec}
use Rattle.schema_core.specs.Catalog.{same_name}
use Rattle.script_names.specs.Scopes.{find_column}

abbrev pub no_column : ColumnSpec
no_column = record { name = []; kind = kinds.Integer; not_null = false; key = false }

placed_at : (o : Option ℕ) (number : ColumnNo) → option_map (λ place. record { 0 = place }) o ≡ Some number → o ≡ Some number.0
placed_at None number h = cc
placed_at (Some n) number h = cc

-- it is there, and has the name
pub found_column : (spec : TableSpec) (name : List ℕ) (number : ColumnNo) → find_column spec name ≡ Some number
    → (number.0 < length spec.columns) × (same_name (get_or spec.columns number.0 no_column).name name ≡ true)
found_column spec name number h =
    let named = λ (column : ColumnSpec). same_name column.name name in
    let it = position-Some named spec.columns number.0 no_column (placed_at (position named spec.columns) number h) in
    (it.0, it.1)
